-- 01's count of an event's instructions, and the number of behaviours that it copies, from the draft (crate
-- draft_form). 01 "Handlers and steps".
use Rattle.std.specs.Prelude.{ℕ, zero, suc, ◌+◌, ◌*◌, ◌≤◌, ◌<◌, ◌≡◌, List, length, eqb}
use Rattle.lib_base.specs.Basics.{pick}
use Rattle.draft_form.specs.Draft.{draft_length, entry_of}
use Rattle.draft_form.specs.Entry.{entry_kind, entry_start, entry_count}

-- the draft d of n behaviours: each entry for event e lies within the nodes
pub record EntriesInside (d : List ℕ) (e n : ℕ) : Type 0 where
  pub long : length d ≡ draft_length
  pub few : n ≤ 64
  pub inside : (i : ℕ) → i < n → entry_start (entry_of d e i) + entry_count (entry_of d e i) ≤ 2048

-- the sum of f over the numbers below n
unfoldable pub total : ℕ → (ℕ → ℕ) → ℕ
total zero f = 0
total (suc n) f = total n f + f n

-- what an entry adds to the count of instructions
unfoldable pub share_of : ℕ → ℕ
share_of v =
    pick (eqb (entry_kind v) 1) (2 + 2 * (entry_count v + 1))
    (pick (eqb (entry_kind v) 2) (2 + (entry_count v + 1))
    (pick (eqb (entry_kind v) 3) (2 + (entry_count v + 2)) 0))

unfoldable pub count_event : List ℕ → ℕ → ℕ → ℕ
count_event d e n = 4 + total n (λ i. share_of (entry_of d e i))

-- how many behaviours the event copies
unfoldable pub is_member : ℕ → ℕ
is_member v = pick (eqb v 0) 0 1

unfoldable pub count_members : List ℕ → ℕ → ℕ → ℕ
count_members d e n = total n (λ i. is_member (entry_of d e i))
