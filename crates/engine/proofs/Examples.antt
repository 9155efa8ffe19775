-- Worked examples, by computation: bytes beyond a buffer's own; how many calls of a record `replay` makes, six bytes
-- each, with eight for each answer; and which calls they are. And in numbers: what the table has of an event that
-- pushes 7, and what a rest day's calls answer.
use Rattle.lib_base.proofs.Prelude.{ℕ, ◌<◌, ◌≡◌, refl, ap, List, [], ◌∷◌, ◌++◌, length, get_or, arith}
use Rattle.lib_word.specs.Word.{get_at, get, put}
use Rattle.spec_language.specs.Syntax.{Program}
use Rattle.spec_language.specs.Code.{push, code}
use Rattle.spec_model.specs.Model.{Call, arrive, step, board}
use Rattle.format_layout.specs.Layout.{event_word}
use Rattle.back_compile.specs.Verdict.{compile_on}
use Rattle.run_start.specs.Start.{start_on}
use Rattle.run_arrive.specs.Arrivals.{arrive_on}
use Rattle.run_board.specs.Board.{board_on}
use Rattle.run_step.specs.Machine.{step_on}
use Rattle.refine_calls.specs.Refinement.{round_after}
use Rattle.run_answers.specs.Answers.{put_answer}
use Rattle.engine.specs.Beyond.{UntouchedFrom}
use Rattle.engine.specs.Demand.{CodeIn}
use Rattle.engine.specs.RestDay.{RestDay}
use Rattle.engine.specs.Replay.{call_of, calls_from, put_answers, call_count}

-- from the third byte on
beyond : UntouchedFrom 2 (1 ∷ 2 ∷ 3 ∷ 4 ∷ []) (9 ∷ 8 ∷ 3 ∷ 4 ∷ []) × (UntouchedFrom 2 (1 ∷ 2 ∷ 3 ∷ 4 ∷ []) (1 ∷ 2 ∷ 9 ∷ 4 ∷ []) → ⊥)
beyond = ((refl, refl), λ h. let z : ◌≡◌ {A = ℕ} 9 3 = ap (λ (l : List ℕ). get_or l 0 0) h.0 in absurd (omega arith))

counts : (call_count 12 16 ≡ 2) × (call_count 17 24 ≡ 2) × (call_count 18 23 ≡ 2) × (call_count 18 24 ≡ 3)
unfolding call_count
counts = (refl, refl, refl, refl)

-- event 258 by player 3, a step, and behaviour 5 by player 7: the kind, the number in four bytes, the player
abbrev record_of_three : List ℕ
record_of_three = (0 ∷ 0 ∷ 0 ∷ 1 ∷ 2 ∷ 3 ∷ []) ++ ((1 ∷ 0 ∷ 0 ∷ 0 ∷ 0 ∷ 0 ∷ []) ++ (2 ∷ 0 ∷ 0 ∷ 0 ∷ 5 ∷ 7 ∷ []))

recorded : (calls_from record_of_three 0 3 ≡ arrive 258 3 ∷ step ∷ board 5 7 ∷ []) × (calls_from record_of_three 1 1 ≡ step ∷ [])
unfolding call_of calls_from get_at
recorded = (refl, refl)

-- two answers, the second behind the first
answered : put_answers (9 ∷ 9 ∷ 9 ∷ 9 ∷ 9 ∷ 9 ∷ 9 ∷ 9 ∷ 9 ∷ 9 ∷ 9 ∷ 9 ∷ 9 ∷ 9 ∷ 9 ∷ 9 ∷ []) 0 (14 ∷ 4294967297 ∷ [])
    ≡ 0 ∷ 0 ∷ 0 ∷ 0 ∷ 0 ∷ 0 ∷ 0 ∷ 14 ∷ 0 ∷ 0 ∷ 0 ∷ 1 ∷ 0 ∷ 0 ∷ 0 ∷ 1 ∷ []
unfolding put_answers put_answer put
answered = refl

-- an event of one instruction, the fourth of the table: words 518 and 519
pushes_7 : (p : Program) (t : List ℕ) → CodeIn p t 0 → event_word t 0 1 ≡ 3 → code p 0 ≡ push 7 ∷ [] → (get t 518 ≡ 1280) × (get t 519 ≡ 7) × (event_word t 0 2 ≡ 1)
pushes_7 p t h b c =
    let n : 0 < length (code p 0) = rw c (omega arith) in
    (rw (b, c) at (h.operations 0 n), rw (b, c) at (h.constants 0 n), rw c at h.count)

-- a table of 34,816 bytes and a round of 2,048, whatever was called: idle; player 7's arrival 15, its board reading 18
rests : RestDay → (ps t l : List ℕ) → length t ≡ 34816 → length l ≡ 2048 → (cs : List Call)
    → ((step_on (compile_on [] ps t).1 (round_after (compile_on [] ps t).1 cs (start_on (compile_on [] ps t).1 l).1)).0 ≡ 0)
    × ((arrive_on (compile_on [] ps t).1 (round_after (compile_on [] ps t).1 cs (start_on (compile_on [] ps t).1 l).1) 0 7).0 ≡ 15)
    × (board_on (compile_on [] ps t).1 (round_after (compile_on [] ps t).1 cs (start_on (compile_on [] ps t).1 l).1) 0 7 ≡ 18)
rests d ps t l h k cs =
    let r = d.at_rest ps t l (omega arith) (omega arith) cs in (r.idle, r.arrivals 0 7 (omega arith), r.readings 0 7 (omega arith))
