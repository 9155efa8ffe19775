-- The first conflict on the sets of a draft, in the code's tests and order.
use Rattle.std.specs.Prelude.{ℕ, ◌+◌, ◌-◌, Bool, ◌&&◌, ◌||◌, List, get_or, eqb}
use Rattle.lib_base.specs.Basics.{pick}
use Rattle.lib_bits.specs.Bits.{bit}
use Rattle.check_reads.specs.First.{first_from}
use Rattle.check_reads.specs.Sets.{writes_on, named_on}
use Rattle.ask_agree.specs.Answer.{packed_difference}

-- i is written by one of two events and named or written by the other
unfoldable pub clash : Bool → Bool → Bool → Bool → Bool
clash we ne wf nf = (we && (wf || nf)) || (wf && ne)

-- the least behaviour in a set of n, with the events e and f
unfoldable pub least_in : ℕ → ℕ → ℕ → ℕ → ℕ
least_in set n e f = first_from n 0 (λ i. pick (bit set i) (packed_difference e f i) 0)

-- whether two events clash, by the priorities in the draft and what each writes and names
module _ (d : List ℕ) (n : ℕ) (writes named : ℕ → ℕ → Bool) where
  unfoldable pub conflict_at : ℕ → ℕ → ℕ → ℕ
  conflict_at e f i = pick (clash (writes e i) (named e i) (writes f i) (named f i)) (packed_difference e f i) 0

  unfoldable pub conflict_with : ℕ → ℕ → ℕ
  conflict_with e f = pick (eqb (get_or d (4224 + e) 0) (get_or d (4224 + f) 0)) 0 (first_from n 0 (conflict_at e f))

  unfoldable pub conflict_from : ℕ → ℕ → ℕ
  conflict_from ev e = first_from (ev - (e + 1)) (e + 1) (conflict_with e)

  unfoldable pub conflict_by : ℕ → ℕ
  conflict_by ev = first_from (ev - 0) 0 (conflict_from ev)

-- the sets as buffers of words
abbrev pub member : List ℕ → ℕ → ℕ → Bool
member sets e i = bit (get_or sets e 0) i

-- on the draft
abbrev pub conflict_on : List ℕ → ℕ → ℕ → ℕ
conflict_on d ev n = conflict_by d n (writes_on d) (named_on d ev n) ev
