-- One sheet from two. 02, M-111: "events are shared by number, behaviours of the second move up by the first's count,
-- names with them, and rows stay rows. A player may send a shared event only where both sheets allow it; its field has
-- length 2 if either sheet's has, with the bits set in both, a missing byte counting as 255."
use Rattle.std.specs.Prelude.{ℕ, ◌+◌, Bool, true, false, List, [], ◌∷◌, ◌++◌, map, eqb}
use Rattle.std.proofs.Math.Option.{Option, none, some}
use Rattle.std.specs.Int.Bits.{bit_and}
use Rattle.lib_base.specs.Basics.{pick}
use Rattle.spec_language.specs.Sheet.{Term, Clause, Item, formula, state, row, Signal, Entry, Sheet, cell_count, rename_term, change_entries}

-- ---- events

-- what two lists share by number: as many as the longer has, f of both where both have one
unfoldable pub merged_by_number : {A : Type 0} → (A → A → A) → List A → List A → List A
merged_by_number f [] l = l
merged_by_number f (a ∷ k) [] = a ∷ k
merged_by_number f (a ∷ k) (b ∷ l) = f a b ∷ merged_by_number f k l

-- "its field has length 2 if either sheet's has, with the bits set in both, a missing byte counting as 255"
abbrev pub both_send : Option ℕ → Option ℕ → Option ℕ
both_send none none = none
both_send none (some b) = some (bit_and 255 b)
both_send (some a) none = some (bit_and a 255)
both_send (some a) (some b) = some (bit_and a b)

-- of one event; the priorities (01: ranks) are the same
abbrev pub pool_signal : Signal → Signal → Signal
pool_signal a b = record { priority = a.priority; sender = both_send a.sender b.sender }

abbrev pub pool_signals : List Signal → List Signal → List Signal
pool_signals = merged_by_number pool_signal

-- "26 when the sheets give one event different ranks"
unfoldable pub same_ranks : List Signal → List Signal → Bool
same_ranks [] l = true
same_ranks (a ∷ k) [] = true
same_ranks (a ∷ k) (b ∷ l) = pick (eqb a.priority b.priority) (same_ranks k l) false

-- ---- behaviours: "behaviours of the second move up by the first's count, names with them, and rows stay rows"

module _ (n : ℕ) where
  abbrev pub move_term : Term → Term
  move_term = rename_term (λ i. n + i)

  abbrev pub move_entries : List Entry → List Entry
  move_entries = change_entries move_term

-- the number of behaviours, a row's cells counted
abbrev pub count : Sheet → ℕ
count s = cell_count s.entries

abbrev pub pooled : Sheet → Sheet → Sheet
pooled s t = record { signals = pool_signals s.signals t.signals; entries = s.entries ++ move_entries (count s) t.entries }
