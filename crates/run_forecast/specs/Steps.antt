-- Counts of steps from a table's and a round's bytes (layout: crate format_layout). 02, M-100.
use Rattle.std.specs.Prelude.{ℕ, zero, suc, ◌+◌, max, List}
use Rattle.format_layout.specs.Layout.{event_word, event_at}

unfoldable pub steps_in : List ℕ → List ℕ → ℕ → ℕ
steps_in t l zero = 0
steps_in t l (suc n) = (event_word t (event_at l n) 2 + 1) + steps_in t l n

-- the longest of the first n events
unfoldable pub longest_in : List ℕ → ℕ → ℕ
longest_in t zero = 0
longest_in t (suc n) = max (event_word t n 2) (longest_in t n)
