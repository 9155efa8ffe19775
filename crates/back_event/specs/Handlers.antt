-- The words of an event's code, from the draft (crate draft_form), as the compiler writes them: the copy's, phase
-- one's, phase two's and the copy-back's in a row. 01 "Handlers and steps".
use Rattle.std.specs.Prelude.{ℕ, List, [], ◌∷◌, ◌++◌}
use Rattle.lib_base.specs.Basics.{pick}
use Rattle.back_schedule.specs.Ordering.{order_under, is_ordered}
use Rattle.back_emit.specs.Words.{each, member_words}
use Rattle.back_phases.specs.Phases.{first_words, second_words}

-- off, op i of each of n behaviours that the event copies, on
unfoldable pub masked_words : List ℕ → ℕ → ℕ → ℕ → List ℕ
masked_words d e op n = (256 ∷ 0 ∷ []) ++ (each n (member_words d e op) ++ (512 ∷ 0 ∷ []))

-- the code of event e, in the order is
unfoldable pub event_words : List ℕ → ℕ → ℕ → List ℕ → List ℕ
event_words d e n is = masked_words d e 768 n ++ (first_words d e n is ++ (second_words d e n is ++ masked_words d e 1024 n))

-- the same in phase one's order, if the check on dependence passes; else none
unfoldable pub code_of : List ℕ → ℕ → ℕ → List ℕ
code_of d n e = pick (is_ordered d e n) (event_words d e n (order_under d e n)) []
