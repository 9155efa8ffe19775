-- A frame, for all bytes: the steps that it makes are those of `step_on`, one after the other, and the answers of those
-- that commit are written to the bytes lent for them, eight each.
use Rattle.std.specs.Prelude.{ℕ, zero, suc, ◌+◌, ◌*◌, List, length, leb, eqb}
use Rattle.lib_base.specs.Basics.{pick}
use Rattle.spec_language.specs.Refusals.{foreign}
use Rattle.spec_language.specs.Answers as kinds
use Rattle.run_answers.specs.Answers.{put_answer}
use Rattle.run_step.specs.Machine.{step_on}
use Rattle.run_burst.specs.Commit.{is_commit}
use Rattle.run_frame.specs.Framed.{all_made, met_idle, met_refusal, no_room, Framed, room_for, commit_unit, end_unit}

-- ---- the answer

-- bits 0 to 31: the steps made; 32 to 55: the commits written; 56 to 63: why it ended
abbrev pub frame_said : ℕ → ℕ → ℕ → ℕ
frame_said why made written = why * end_unit + written * commit_unit + made

-- ---- the commits

-- after a step that answered a: how many are written, and the bytes
unfoldable pub count_after : ℕ → ℕ → ℕ
count_after a n = pick (is_commit a) (n + 1) n

unfoldable pub commits_after : ℕ → ℕ → List ℕ → List ℕ
commits_after a n b = pick (is_commit a) (put_answer b n a) b

-- ---- the frame

-- idle where the next step would be, whatever else ends it
unfoldable pub idle_or : List ℕ → List ℕ → ℕ → ℕ
idle_or t l why = pick (eqb (step_on t l).0 kinds.idle) met_idle why

-- up to k steps more, m being made and n commits written; an idle or refused step is not made. With none asked for
-- nothing is said of the round
unfoldable pub frame_from : List ℕ → ℕ → ℕ → ℕ → ℕ → List ℕ → List ℕ → Framed
frame_from t room zero m n l b = (frame_said (pick (eqb m 0) all_made (idle_or t l all_made)) m n, l, b)
frame_from t room (suc k) m n l b =
    pick (leb room n) (frame_said (idle_or t l no_room) m n, l, b)
    (pick (eqb (step_on t l).0 kinds.idle) (frame_said met_idle m n, l, b)
    (pick (eqb (step_on t l).0 foreign) (frame_said met_refusal m n, l, b)
    (frame_from t room k (m + 1) (count_after (step_on t l).0 n) (step_on t l).1 (commits_after (step_on t l).0 n b))))

-- steps being asked for, of a foreign table or round: none is made
unfoldable pub refused_frame : ℕ → ℕ
refused_frame room = pick (eqb room 0) (frame_said no_room 0 0) (frame_said met_refusal 0 0)

unfoldable pub frame_on : List ℕ → List ℕ → ℕ → List ℕ → Framed
frame_on t l steps b = frame_from t (room_for (length b)) steps 0 0 l b
