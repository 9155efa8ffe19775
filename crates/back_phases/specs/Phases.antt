-- The words of the two phases of an event, from the draft (crate draft_form) and the order of phase one, as the
-- compiler writes them. 01 "Handlers and steps".
use Rattle.std.specs.Prelude.{ℕ}
use mathlib.Core.List.{List, ◌++◌, flat_map}
use Rattle.back_emit.specs.Words.{each, turn_words, turn_words_of_kind, move_words}

-- phase one of n behaviours, in the order is, then the later handlers
unfoldable pub first_words : List ℕ → ℕ → ℕ → List ℕ → List ℕ
first_words d e n is = flat_map (turn_words d e 2304) is ++ each n (turn_words_of_kind d e 3 2560)

-- phase two: their moves, then the passives again
unfoldable pub second_words : List ℕ → ℕ → ℕ → List ℕ → List ℕ
second_words d e n is = each n (move_words d e) ++ flat_map (turn_words_of_kind d e 1 2304) is
