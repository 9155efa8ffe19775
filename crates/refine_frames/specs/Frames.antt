-- A frame is the steps that it makes: as many `step` calls leave the same round, and the answers of those that commit
-- are the commits that it writes, in order, none lost. So a list of calls (01 "Whole runs", demand 3) may hold a frame,
-- as these steps.
use Rattle.std.specs.Prelude.{ℕ, ◌+◌, ◌*◌, ◌/◌, ◌%◌, ◌≤◌, ◌<◌, ◌≡◌, ◌≢◌, List, [], ◌∷◌, ◌++◌, length, replicate}
use Rattle.lib_base.specs.Basics.{pick, All}
use Rattle.spec_language.specs.Answers as kinds
use Rattle.spec_model.specs.Model.{Call, step}
use Rattle.run_answers.specs.Answers.{put_answer}
use Rattle.run_frame.specs.Frame.{frame_on}
use Rattle.run_frame.specs.Framed.{all_made, met_idle, met_refusal, no_room, room_for, commit_unit, end_unit}
use Rattle.run_burst.specs.Commit.{is_commit}
use Rattle.refine_calls.specs.Refinement.{call_on, answers_on, round_after}

-- ---- what a frame's answer tells

abbrev pub steps_made : ℕ → ℕ
steps_made v = v % commit_unit

abbrev pub commits_written : ℕ → ℕ
commits_written v = v / commit_unit % 16777216

abbrev pub ended_by : ℕ → ℕ
ended_by v = v / end_unit

-- ---- the steps

abbrev pub step_calls : ℕ → List Call
step_calls n = replicate n step

-- those of a list of answers that are a commit's
unfoldable pub committing : List ℕ → List ℕ
committing [] = []
committing (a ∷ xs) = pick (is_commit a) (a ∷ committing xs) (committing xs)

-- answers written one after the other from place n on
unfoldable pub put_all : List ℕ → ℕ → List ℕ → List ℕ
put_all b n [] = b
put_all b n (a ∷ xs) = put_all (put_answer b n a) (n + 1) xs

-- why a frame ends that was asked for so many steps and made so many, the round then being l
pub record Ended (t : List ℕ) (asked made room written : ℕ) (l : List ℕ) (why : ℕ) : Type 0 where
  pub one_of : why ≤ no_room
  pub all : why ≡ all_made → made ≡ asked
  -- idle is told where a step was asked for and the next would be idle, and there alone
  pub idle : why ≡ met_idle → (0 < asked) × ((call_on t step l).0 ≡ kinds.idle)
  pub idle_told : 0 < asked → (call_on t step l).0 ≡ kinds.idle → why ≡ met_idle
  pub refused : why ≡ met_refusal → (made < asked) × ((call_on t step l).0 ≡ 14)
  pub full : why ≡ no_room → (made < asked) × (written ≡ room)

-- a frame with the answer v that leaves the round l' and the commits b'
pub record FrameSteps (t l : List ℕ) (asked : ℕ) (b : List ℕ) (v : ℕ) (l' b' : List ℕ) : Type 0 where
  pub round : l' ≡ round_after t (step_calls (steps_made v)) l
  pub written : b' ≡ put_all b 0 (committing (answers_on t (step_calls (steps_made v)) l))
  pub count : commits_written v ≡ length (committing (answers_on t (step_calls (steps_made v)) l))
  -- each of these steps is made
  pub made : All (λ a. (a ≢ kinds.idle) × (a ≢ 14)) (answers_on t (step_calls (steps_made v)) l)
  pub most : steps_made v ≤ asked
  pub room : commits_written v ≤ room_for (length b)
  pub ended : Ended t asked (steps_made v) (room_for (length b)) (commits_written v) l' (ended_by v)

abbrev pub EveryFrame : Type 0
EveryFrame = (t l : List ℕ) (asked : ℕ) (b : List ℕ) → asked < 4294967296
    → FrameSteps t l asked b (frame_on t l asked b).0 (frame_on t l asked b).1 (frame_on t l asked b).2

-- a frame after a list of calls leaves the round that the list with its steps leaves: a consequence, since a list's
-- calls are made one after the other
abbrev pub FrameInList : Type 0
FrameInList = (t l : List ℕ) (cs : List Call) (asked : ℕ) (b : List ℕ) → asked < 4294967296
    → (frame_on t (round_after t cs l) asked b).1 ≡ round_after t (cs ++ step_calls (steps_made (frame_on t (round_after t cs l) asked b).0)) l
