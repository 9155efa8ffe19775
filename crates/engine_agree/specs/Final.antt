-- The condition is needed: a final in which two phones take in the same events in the same order and end with other
-- points. A hit, of rank 2, adds 10 points unless time is up; the time-up, of rank 9, says that it is. On one phone the
-- time-up arrives while both hits wait, and goes first: no points. On the other each hit commits before the
-- next event arrives: 20 points.
use Rattle.std.specs.Prelude.{ℕ, ◌≤◌, ◌≡◌, List, [], ◌∷◌, ◌++◌, map, length, replicate}
use Rattle.std.proofs.Math.Option.{none}
use Rattle.lib_word.specs.Word.{get}
use Rattle.spec_language.specs.Syntax.{Program, immediate}
use Rattle.spec_language.specs.Sheet.{literal, variable, apply2, apply3, clause, state, Sheet}
use Rattle.spec_language.specs.Reading.{entry, signal, sheet}
use Rattle.spec_language.specs.Grammar.{encode}
use Rattle.spec_language.specs.Accepted.{SheetAccepted}
use Rattle.spec_model.specs.Model.{Call, arrive, step, call}
use Rattle.spec_model.specs.Claims.{taken_in_by, events_of}
use Rattle.back_compile.specs.Compiled.{program_of}
use Rattle.refine_calls.specs.Refinement.{calls, Bytes, bytes_after}
use Rattle.refine_lists.specs.Lists.{board_of, IdleNow, fresh_round_on}
use Rattle.ask_agree.specs.Agree.{agree_on}

-- event 0 is a hit, event 1 the time-up; b0 says that time is up, b1 has the points
abbrev pub final : Sheet
final = sheet
    (signal 2 none ∷ signal 9 none ∷ [])
    (entry (state 0 (clause 1 immediate (literal 1) ∷ [])) none
    ∷ entry (state 0 (clause 0 immediate (apply3 14 (variable 0) (variable 1) (apply2 4 (variable 1) (literal 10))) ∷ [])) none
    ∷ [])

abbrev pub final_bytes : List ℕ
final_bytes = encode final

abbrev pub final_program : Program
final_program = program_of [] final

-- hit, hit, time-up at once, and then steps; hit, steps, hit, steps, time-up, steps
abbrev pub at_once : List Call
at_once = arrive 0 0 ∷ arrive 0 0 ∷ arrive 1 0 ∷ replicate 37 step

abbrev pub one_by_one : List Call
one_by_one = arrive 0 0 ∷ (replicate 14 step ++ (arrive 0 0 ∷ (replicate 14 step ++ (arrive 1 0 ∷ replicate 9 step))))

-- the table and the round's bytes after a list of calls
abbrev pub round_of : List ℕ → List ℕ → List Call → Bytes
round_of t l cs = bytes_after (map calls cs) (fresh_round_on final_bytes [] t l)

pub record Needed : Type 0 where
  -- compile accepts the sheet, and `agree` names the hit, the time-up and b0: 29, event 1 times 65,536, all else 0
  pub taken : SheetAccepted (get []) 0 final
  pub named : agree_on final_bytes [] ≡ 65565
  -- the two lists take in the same events in the same order
  pub same : events_of (taken_in_by final_program (map call at_once)) ≡ events_of (taken_in_by final_program (map call one_by_one))
  -- both end idle, with no points and with 20
  pub idle_both : (t l : List ℕ) → 34816 ≤ length t → 2048 ≤ length l → IdleNow (round_of t l at_once) × IdleNow (round_of t l one_by_one)
  pub without : (t l : List ℕ) → 34816 ≤ length t → 2048 ≤ length l → board_of final_program (round_of t l at_once).round ≡ 1 ∷ 0 ∷ []
  pub with_points : (t l : List ℕ) → 34816 ≤ length t → 2048 ≤ length l → board_of final_program (round_of t l one_by_one).round ≡ 1 ∷ 20 ∷ []
