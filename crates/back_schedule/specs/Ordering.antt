-- The check on dependence of one event, on its draft (crate draft_form): phase one's order, and whether everyone that
-- has a turn there stands in it.
use Rattle.std.specs.Prelude.{ℕ, ◌-◌, ◌≤◌, ◌<◌, Bool, not, ◌≡◌, List, length, get_or, take, eqb, ltb, Option, Some, None}
use Rattle.lib_base.specs.Basics.{pick}
use Rattle.lib_bits.specs.Bits.{bit}
use Rattle.spec_language.specs.Refusals.{cycle}
use Rattle.spec_language.specs.Order.{order, up_to}
use Rattle.draft_form.specs.Draft.{entry_of}
use Rattle.draft_form.specs.Entry.{entry_kind}
use Rattle.check_graph.specs.Matrix.{cell}
use Rattle.check_faults.specs.Checks.{matrix_on}
use Rattle.back_counts.specs.Counts.{total}

-- the mark of a behaviour whose entry is v: 0 for a passive or an immediate handler, 1 for whoever is met at once
unfoldable pub met_mark : ℕ → ℕ
met_mark v = pick (eqb (entry_kind v) 1) 0 (pick (eqb (entry_kind v) 2) 0 1)

-- of the first n on event e, those in the set are met at once
pub record MetAre (d : List ℕ) (e n set : ℕ) : Type 0 where
  pub each_mark : (i : ℕ) → i < n → bit set i ≡ not (eqb (met_mark (entry_of d e i)) 0)

-- the order of n behaviours on event e
unfoldable pub order_under : List ℕ → ℕ → ℕ → List ℕ
order_under d e n = order n (λ i j. cell (matrix_on d e n) i j) n (up_to n (λ i. not (eqb (met_mark (entry_of d e i)) 0)))

-- the first count bytes of o are behaviours
pub record OrderListed (o : List ℕ) (count n : ℕ) : Type 0 where
  pub long : count ≤ length o
  pub below : (j : ℕ) → j < count → get_or o j 0 < n

-- they are the order is, of n behaviours
pub record OrderHolds (o : List ℕ) (count n : ℕ) (is : List ℕ) : Type 0 where
  pub taken : take count o ≡ is
  pub listed : OrderListed o count n

-- how many have a turn in phase one
unfoldable pub count_turns : List ℕ → ℕ → ℕ → ℕ
count_turns d e n = total n (λ i. 1 - met_mark (entry_of d e i))

-- all of them stand in the order
unfoldable pub is_ordered : List ℕ → ℕ → ℕ → Bool
is_ordered d e n = not (ltb (length (order_under d e n)) (count_turns d e n))

-- 01's number for what the check found, 0 where nothing is refused; and how many stand in the order
abbrev pub order_refusal : Option ℕ → ℕ
order_refusal (Some count) = 0
order_refusal None = cycle

abbrev pub order_count : Option ℕ → ℕ
order_count (Some count) = count
order_count None = 0

-- what the check answers, and the bytes of the order where it refuses nothing
abbrev pub Checked : List ℕ → ℕ → ℕ → Option ℕ → List ℕ → Type 0
Checked d e n r o =
    (order_refusal r ≡ pick (is_ordered d e n) 0 cycle) × (order_refusal r ≡ 0 → OrderHolds o (order_count r) n (order_under d e n))
