-- Instances of what is said of a joined sheet's rights and ranks, at the bounds: of two sheets of two events and three
-- behaviours each, and of one with an event more. Each is the claim applied, so that one that was narrowed, or whose
-- order was turned, does not fit. 02, M-111: "A player may send a shared event only where both sheets allow it".
use Rattle.lib_base.proofs.Prelude.{ℕ, ◌≡◌, ◌∙◌, ap, true, false, List, get_or, arith}
use Rattle.spec_language.specs.Syntax.{Program}
use Rattle.spec_language.specs.Dependence.{size, events}
use Rattle.spec_language.specs.Rights.{may_send, may_see}
use Rattle.refine_halves.specs.HalfBoards.{Halves}

module _ (p q j : Program) (t₀ l₀ t₁ l₁ t₂ l₂ : List ℕ) (h : Halves p q j t₀ l₀ t₁ l₁ t₂ l₂) where
  -- the last shared event, of which one sheet turns player 1 away, or neither does
  one_turns_away : events p ≡ 2 → events q ≡ 2 → may_send p 1 1 ≡ true → may_send q 1 1 ≡ false → may_send j 1 1 ≡ false
  one_turns_away a b m n = h.send_shared 1 1 (omega arith) (omega arith) ∙ rw (m, n)

  both_allow : events p ≡ 2 → events q ≡ 2 → may_send p 1 1 ≡ true → may_send q 1 1 ≡ true → may_send j 1 1 ≡ true
  both_allow a b m n = h.send_shared 1 1 (omega arith) (omega arith) ∙ rw (m, n)

  -- event 2, which one sheet alone declares
  of_the_first : events p ≡ 3 → events q ≡ 2 → may_send j 1 2 ≡ may_send p 1 2
  of_the_first a b = h.send_first 1 2 (omega arith)

  of_the_second : events p ≡ 2 → events q ≡ 3 → may_send j 1 2 ≡ may_send q 1 2
  of_the_second a b = h.send_second 1 2 (omega arith)

  -- b2 of the first stays, and b0 of the second is b3
  last_of_the_first : size p ≡ 3 → may_see j 1 2 ≡ may_see p 1 2
  last_of_the_first a = h.see_first 1 2 (omega arith)

  first_of_the_second : size p ≡ 3 → may_see j 1 3 ≡ may_see q 1 0
  first_of_the_second a = ap (λ (n : ℕ). may_see j 1 n) (omega arith) ∙ h.see_second 1 0

  -- the rank of event 1 in both
  last_rank : events p ≡ 2 → events q ≡ 2 → (get_or j.priorities 1 0 ≡ get_or p.priorities 1 0) × (get_or j.priorities 1 0 ≡ get_or q.priorities 1 0)
  last_rank a b = (h.rank_first 1 (omega arith), h.rank_second 1 (omega arith))
