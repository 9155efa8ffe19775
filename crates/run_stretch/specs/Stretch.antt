-- A stretch of a table's instructions on the round's bytes, for all bytes (layout: crate format_layout). 02, M-112: "at
-- each instruction that the passives need". The answer is 0, or foreign where one of them may not run (01 "Why a call
-- was turned down"). A function that branches takes plain numbers; one that reads calls it.
use Rattle.std.specs.Prelude.{ℕ, zero, suc, ◌+◌, ◌*◌, ◌/◌, ◌%◌, List, eqb}
use Rattle.lib_base.specs.Basics.{pick}
use Rattle.lib_word.specs.Word.{get}
use Rattle.spec_language.specs.Refusals.{foreign}
use Rattle.format_layout.specs.Layout.{depth}
use Rattle.format_layout.specs.Round.{CallResult}
use Rattle.run_instruction.specs.Allowed.{may_run}
use Rattle.run_instruction.specs.Instruction.{perform}
use Rattle.run_instruction.specs.Execution.{Left, none, executed}

-- the instruction of first word a and constant w
unfoldable pub stretch_on : List ℕ → ℕ → ℕ → CallResult
stretch_on l a w = pick (may_run (a / 256) (a % 256) (depth l)) (0, perform l (a / 256) (a % 256) w (depth l)) (foreign, l)

-- instruction k of the table
unfoldable pub stretch_at : List ℕ → List ℕ → ℕ → CallResult
stretch_at t l k = stretch_on l (get t (512 + k * 2)) (get t (513 + k * 2))

-- n instructions from k on, up to the first that may not run
unfoldable pub stretch_from : List ℕ → ℕ → ℕ → List ℕ → CallResult
stretch_from t k zero l = (0, l)
stretch_from t k (suc n) l = pick (eqb (stretch_at t l k).0 0) (stretch_from t (k + 1) n (stretch_at t l k).1) (stretch_at t l k)

-- ---- the same with the stack's depth by value: how many ran, the depth then, and the bytes but for the depth's word

abbrev pub RanTo : Type 0
RanTo = ℕ × ℕ × List ℕ

abbrev pub ran_to : ℕ → ℕ → List ℕ → RanTo
ran_to i d l = (i, d, l)

unfoldable pub executed_at : List ℕ → List ℕ → ℕ → ℕ → Left
executed_at t l k d = executed l (get t (512 + k * 2)) (get t (513 + k * 2)) d

-- after i others
abbrev pub after_others : ℕ → RanTo → RanTo
after_others i r = (i + r.0, r.1, r.2)

unfoldable pub ran_from : List ℕ → ℕ → ℕ → ℕ → List ℕ → RanTo
ran_from t k zero d l = (0, d, l)
ran_from t k (suc n) d l = pick (eqb (executed_at t l k d).0 none) (0, d, l) (after_others 1 (ran_from t (k + 1) n (executed_at t l k d).0 (executed_at t l k d).1))
