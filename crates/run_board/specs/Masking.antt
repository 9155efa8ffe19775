-- Masking and copy-back, from a table's and a round's bytes (layout: crate format_layout). 01 "Handlers and steps":
-- "Interrupts are masked between off and on."
use Rattle.std.specs.Prelude.{ℕ, ◌-◌, Bool, true, false, List, leb, eqb}
use Rattle.lib_base.specs.Basics.{pick}
use Rattle.format_layout.specs.Layout.{event_word, running_flag, running_event, position}

unfoldable pub is_copying_back : ℕ → ℕ → ℕ → Bool
is_copying_back len m c = pick (leb len m) true (leb (len - m - 1) c)

unfoldable pub is_masked : ℕ → ℕ → ℕ → Bool
is_masked len m c = pick (is_copying_back len m c) true (pick (eqb c 0) false (leb (c - 1) m))

unfoldable pub copy_back_with : ℕ → ℕ → ℕ → ℕ → Bool
copy_back_with f len m c = pick (eqb f 0) false (is_copying_back len m c)

unfoldable pub copy_back_under_way : List ℕ → List ℕ → Bool
copy_back_under_way t l = copy_back_with (running_flag l) (event_word t (running_event l) 2) (event_word t (running_event l) 3) (position l)
