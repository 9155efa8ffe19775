-- Worked examples, by computation: the fields of shared events. 02, M-111: "its field has length 2 if either sheet's
-- has, with the bits set in both, a missing byte counting as 255"; an event of one sheet alone keeps its field; 26
-- where one event has two ranks; behaviours that move up; and the events that a sheet declares.
use Rattle.lib_base.proofs.Prelude.{ℕ, ◌≡◌, refl, true, false, some, none, List, [], ◌∷◌, ◌++◌}
use Rattle.spec_language.specs.Syntax.{Program}
use Rattle.spec_language.specs.Sheet.{variable, apply2, formula, state, row, Signal, Sheet, cell_count, rename_term, change_entries}
use Rattle.spec_language.specs.Grammar.{encode_events}
use Rattle.spec_language.specs.Reading.{entry, signal, sheet}
use Rattle.link_pooled.specs.Pooled.{merged_by_number, pool_signals, same_ranks, pooled}
use Rattle.link_pooled.specs.Declared.{declared}

-- no byte in either; 134, player 7 too, in the second alone; in the first alone; in both, 6 and 3
abbrev ones : List Signal
ones = signal 1 none ∷ signal 2 none ∷ signal 3 (some 134) ∷ signal 4 (some 6) ∷ []

abbrev others : List Signal
others = signal 1 none ∷ signal 2 (some 134) ∷ signal 3 none ∷ signal 4 (some 3) ∷ []

abbrev fields : List ℕ
fields = 1 ∷ 0 ∷ 1 ∷ 1 ∷ 1 ∷ 0 ∷ 2 ∷ 2 ∷ 134 ∷ 1 ∷ 0 ∷ 2 ∷ 3 ∷ 134 ∷ 1 ∷ 0 ∷ 2 ∷ 4 ∷ 2 ∷ []

-- a fifth event, in the first sheet alone or in the second
abbrev fifth : List Signal
fifth = signal 5 (some 9) ∷ []

abbrev field_5 : List ℕ
field_5 = 1 ∷ 0 ∷ 2 ∷ 5 ∷ 9 ∷ []

pub shared_fields : (encode_events (pool_signals ones others) ≡ fields) × (encode_events (pool_signals (ones ++ fifth) others) ≡ fields ++ field_5)
    × (encode_events (pool_signals ones (others ++ fifth)) ≡ fields ++ field_5)
unfolding encode_events merged_by_number
shared_fields = (refl, refl, refl)

pub ranks : (same_ranks ones others ≡ true) × (same_ranks (signal 1 none ∷ signal 2 none ∷ []) (signal 1 none ∷ signal 3 none ∷ []) ≡ false) × (same_ranks ones [] ≡ true)
unfolding same_ranks
ranks = (refl, refl, refl)

-- "behaviours of the second move up by the first's count, names with them, and rows stay rows": a row of 2 and b2, then
-- b0 passive b0 + b1
abbrev two_cells : Sheet
two_cells = sheet [] (entry (row 2 0 []) none ∷ entry (state 1 []) none ∷ [])

abbrev follower : Sheet
follower = sheet [] (entry (formula (apply2 4 (variable 0) (variable 1))) (some 2) ∷ [])

pub moved_up : pooled two_cells follower ≡ sheet [] (entry (row 2 0 []) none ∷ entry (state 1 []) none ∷ entry (formula (apply2 4 (variable 3) (variable 4))) (some 2) ∷ [])
unfolding merged_by_number cell_count change_entries rename_term
moved_up = refl

-- "events that it doesn't declare being passed over", where two are declared
abbrev of_two : Program
of_two = record { priorities = 1 ∷ 2 ∷ []; senders = 255 ∷ 255 ∷ []; behaviours = []; viewers = [] }

pub passed_over : declared of_two (2 ∷ 1 ∷ 3 ∷ 0 ∷ []) ≡ 1 ∷ 0 ∷ []
unfolding declared
passed_over = refl
