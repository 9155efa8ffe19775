-- Worked examples in 01's own numbers, by computation, on the 51 instructions of W's event 0 (crate spec_language,
-- Examples): where interrupts are masked and a copy-back is under way, and the values in the middle of the event.
use Rattle.lib_base.proofs.Prelude.{ℕ, ◌≡◌, refl, true, false, some, none, List, [], ◌∷◌, flat_map, flatten, take}
use Rattle.lib_signature.specs.Signature.{arity}
use Rattle.lib_arith.specs.Exact.{beyond}
use Rattle.lib_arith.specs.Functions.{exact, result_of, over}
use Rattle.spec_language.specs.Dependence.{handled, mentions}
use Rattle.spec_language.specs.Order.{met, find, order, up_to, met_at_once, phase_one}
use Rattle.spec_language.specs.Code.{Instr, apply, postfix, in_order, copy_part, first_part, second_part, restore_part, code}
use Rattle.spec_language.proofs.Examples.{W}
use Rattle.spec_execution.specs.Execution.{Values, execute, emptied, times, masked_after, copying_back_after}
use Rattle.spec_execution.specs.Runs.{execute_all}

-- the first c instructions of the event
abbrev done : ℕ → List Instr
done c = take c (code W 0)

-- "Interrupts are masked between off and on": not before the first off; in the copy, up to its on; not from there to
-- the second off; and from it to the second on
pub record Masked : Type 0 where
  pub at_the_start : masked_after (done 0) ≡ false
  pub after_off : masked_after (done 1) ≡ true
  pub in_the_copy : masked_after (done 4) ≡ true
  pub before_on : masked_after (done 7) ≡ true
  pub after_on : masked_after (done 8) ≡ false
  pub between : masked_after (done 30) ≡ false
  pub before_the_second_off : masked_after (done 43) ≡ false
  pub after_the_second_off : masked_after (done 44) ≡ true
  pub before_the_last : masked_after (done 50) ≡ true
  pub at_the_end : masked_after (done 51) ≡ false

pub masked_W : Masked
unfolding handled mentions met find order up_to met_at_once phase_one postfix in_order flatten flat_map copy_part first_part second_part restore_part code times
masked_W = record { at_the_start = refl; after_off = refl; in_the_copy = refl; before_on = refl; after_on = refl; between = refl; before_the_second_off = refl; after_the_second_off = refl; before_the_last = refl; at_the_end = refl }

-- "Copy-back runs from after the second off to the end of the second on": the copy is none
pub record CopyBack : Type 0 where
  pub not_the_copy : copying_back_after (done 4) ≡ false
  pub before_off : copying_back_after (done 43) ≡ false
  pub from_off : copying_back_after (done 44) ≡ true
  pub before_on : copying_back_after (done 50) ≡ true
  pub from_on : copying_back_after (done 51) ≡ false

pub copy_back_W : CopyBack
unfolding handled mentions met find order up_to met_at_once phase_one postfix in_order flatten flat_map copy_part first_part second_part restore_part code times
copy_back_W = record { not_the_copy = refl; before_off = refl; from_off = refl; before_on = refl; from_on = refl }

-- the values after c instructions, from W's fresh board
abbrev values_at : ℕ → Values
values_at c = execute_all (done c) (emptied (4 ∷ 50 ∷ 3 ∷ 1 ∷ 0 ∷ 2 ∷ 3 ∷ []))

pub record InTheMiddle : Type 0 where
  -- after copy 0 and copy 1
  pub copied : (values_at 3).scratch ≡ some 4 ∷ some 50 ∷ none ∷ none ∷ none ∷ none ∷ none ∷ []
  -- the `if` has its three arguments: b6 from the board, b3 + 1, 9, the last on top
  pub three : (values_at 13).stack ≡ 9 ∷ 2 ∷ 3 ∷ []
  pub chosen : (values_at 14).stack ≡ 2 ∷ []
  -- both later handlers have run, before their moves: 50 - 5 and 2 * 10; the passives have their first values
  pub places : (values_at 33).deferred ≡ none ∷ some 45 ∷ none ∷ none ∷ none ∷ some 20 ∷ none ∷ []
  pub first_values : (values_at 33).scratch ≡ some 5 ∷ some 50 ∷ some 4 ∷ some 2 ∷ some 3 ∷ some 2 ∷ none ∷ []
  -- the moves, and the passives again
  pub moved : (values_at 35).scratch ≡ some 5 ∷ some 45 ∷ some 4 ∷ some 2 ∷ some 3 ∷ some 20 ∷ none ∷ []
  pub second_values : (values_at 43).scratch ≡ some 23 ∷ some 45 ∷ some 22 ∷ some 2 ∷ some 3 ∷ some 20 ∷ none ∷ []
  -- the board as it was until the copy-back, in the middle of it, and at the end
  pub board_before : (values_at 44).store ≡ 4 ∷ 50 ∷ 3 ∷ 1 ∷ 0 ∷ 2 ∷ 3 ∷ []
  pub board_within : (values_at 47).store ≡ 23 ∷ 45 ∷ 22 ∷ 1 ∷ 0 ∷ 2 ∷ 3 ∷ []
  pub board_after_law : (values_at 51).store ≡ 23 ∷ 45 ∷ 22 ∷ 2 ∷ 3 ∷ 20 ∷ 3 ∷ []

pub in_the_middle : InTheMiddle
unfolding exact result_of over arity handled mentions met find order up_to met_at_once phase_one postfix in_order flatten flat_map copy_part first_part second_part restore_part code execute execute_all emptied
in_the_middle = record { copied = refl; three = refl; chosen = refl; places = refl; first_values = refl; moved = refl; second_values = refl; board_before = refl; board_within = refl; board_after_law = refl }

-- ---- "the last on top of the stack": the third argument of an `if` whose first is false, and of one whose first is
-- true the second; a difference; and where one runs over

abbrev stacked : List ℕ → Values
stacked st = record { store = []; scratch = []; stack = st; deferred = []; mark = false }

pub record Applied : Type 0 where
  pub third : (execute (apply 14) (stacked (9 ∷ 2 ∷ 0 ∷ 7 ∷ []))).stack ≡ 9 ∷ 7 ∷ []
  pub second : (execute (apply 14) (stacked (0 ∷ 2 ∷ 9 ∷ 7 ∷ []))).stack ≡ 2 ∷ 7 ∷ []
  pub difference : (execute (apply 5) (stacked (3 ∷ 10 ∷ 7 ∷ []))).stack ≡ 7 ∷ 7 ∷ []
  pub negated : (execute (apply 3) (stacked (0 ∷ 7 ∷ []))).stack ≡ 1 ∷ 7 ∷ []
  pub by_zero : (execute (apply 7) (stacked (0 ∷ 5 ∷ []))).mark ≡ true
  pub of_zero : (execute (apply 7) (stacked (5 ∷ 0 ∷ []))).mark ≡ false

pub applied_once : Applied
unfolding exact result_of over beyond arity execute
applied_once = record { third = refl; second = refl; difference = refl; negated = refl; by_zero = refl; of_zero = refl }
