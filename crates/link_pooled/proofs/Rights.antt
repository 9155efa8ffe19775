-- "A player may send a shared event only where both sheets allow it", an event of one sheet alone where that allows it;
-- who may see a behaviour stays. An event's rank is the one that both give. By the places of the lists.
use Rattle.lib_base.proofs.Prelude.{ℕ, ◌≤◌, ◌<◌, ◌+◌, suc, zero, ◌≡◌, refl, ◌∙◌, ap, true, ◌&&◌, List, [], ◌∷◌, length}
use Rattle.lib_base.proofs.Prelude.{get_or, List·getD-append, get_or-append-add, eqb, eqb-true, arith}
use lib.Bits.{bit_and}
use Rattle.lib_base.proofs.Tools.{through}
use Rattle.spec_language.specs.Syntax.{Program}
use Rattle.spec_language.specs.Sheet.{Signal, Sheet, priorities_of, fill}
use Rattle.spec_language.specs.Dependence.{events}
use Rattle.spec_language.specs.Rights.{may, may_send, may_see}
use Rattle.link_pooled.specs.Pooled.{merged_by_number, same_ranks}
use Rattle.link_pooled.specs.Together.{together}
use Rattle.link_pooled.proofs.Bits.{may_both}

module _ {A : Type 0} (f : A → A → A) (d : A) where
  shared_both : (k l : List A) (e : ℕ) → e < length k → e < length l → get_or (merged_by_number f k l) e d ≡ f (get_or k e d) (get_or l e d)
  unfolding merged_by_number
  shared_both [] l e h g = absurd (omega arith)
  shared_both (a ∷ k) [] e h g = absurd (omega arith)
  shared_both (a ∷ k) (b ∷ l) zero h g = refl
  shared_both (a ∷ k) (b ∷ l) (suc e) h g = shared_both k l e (omega arith) (omega arith)

  shared_one : (k l : List A) (e : ℕ) → length l ≤ e → get_or (merged_by_number f k l) e d ≡ get_or k e d
  unfolding merged_by_number
  shared_one [] l e h = past l e h
    where
      past : (l : List A) (e : ℕ) → length l ≤ e → get_or l e d ≡ d
      past [] e h = refl
      past (b ∷ l) zero h = absurd (omega arith)
      past (b ∷ l) (suc e) h = past l e (omega arith)
  shared_one (a ∷ k) [] e h = refl
  shared_one (a ∷ k) (b ∷ l) zero h = absurd (omega arith)
  shared_one (a ∷ k) (b ∷ l) (suc e) h = shared_one k l e (omega arith)

  shared_two : (k l : List A) (e : ℕ) → length k ≤ e → get_or (merged_by_number f k l) e d ≡ get_or l e d
  unfolding merged_by_number
  shared_two [] l e h = refl
  shared_two (a ∷ k) [] zero h = absurd (omega arith)
  shared_two (a ∷ k) [] (suc e) h = past k e (omega arith)
    where
      past : (l : List A) (e : ℕ) → length l ≤ e → get_or l e d ≡ d
      past [] e h = refl
      past (b ∷ l) zero h = absurd (omega arith)
      past (b ∷ l) (suc e) h = past l e (omega arith)
  shared_two (a ∷ k) (b ∷ l) zero h = absurd (omega arith)
  shared_two (a ∷ k) (b ∷ l) (suc e) h = shared_two k l e (omega arith)

module _ (p q : Program) (player : ℕ) where
  pub send_both : (e : ℕ) → e < length p.senders → e < length q.senders → may_send (together p q) player e ≡ may_send p player e && may_send q player e
  send_both e h g =
      ap (λ (m : ℕ). may m player) (shared_both bit_and 0 p.senders q.senders e h g) ∙ may_both (get_or p.senders e 0) (get_or q.senders e 0) player

  pub send_first : (e : ℕ) → length q.senders ≤ e → may_send (together p q) player e ≡ may_send p player e
  send_first e h = ap (λ (m : ℕ). may m player) (shared_one bit_and 0 p.senders q.senders e h)

  pub send_second : (e : ℕ) → length p.senders ≤ e → may_send (together p q) player e ≡ may_send q player e
  send_second e h = ap (λ (m : ℕ). may m player) (shared_two bit_and 0 p.senders q.senders e h)

  pub see_first : (i : ℕ) → i < length p.viewers → may_see (together p q) player i ≡ may_see p player i
  see_first i h = ap (λ (m : ℕ). may m player) (List·getD-append p.viewers q.viewers 0 i h)

  pub see_second : (i : ℕ) → may_see (together p q) player (length p.viewers + i) ≡ may_see q player i
  see_second i = ap (λ (m : ℕ). may m player) (get_or-append-add p.viewers q.viewers i 0)

-- the ranks: the first's, and where the sheets agree the second's
first_rank : (k l : List ℕ) (e : ℕ) → e < length k → get_or (merged_by_number (λ a b. a) k l) e 0 ≡ get_or k e 0
unfolding merged_by_number
first_rank [] l e h = absurd (omega arith)
first_rank (a ∷ k) [] e h = refl
first_rank (a ∷ k) (b ∷ l) zero h = refl
first_rank (a ∷ k) (b ∷ l) (suc e) h = first_rank k l e (omega arith)

second_rank : (k l : List Signal) → same_ranks k l ≡ true → (e : ℕ) → e < length (priorities_of l) → get_or (merged_by_number (λ a b. a) (priorities_of k) (priorities_of l)) e 0 ≡ get_or (priorities_of l) e 0
unfolding merged_by_number same_ranks
second_rank [] l h e g = refl
second_rank (a ∷ k) [] h e g = absurd (omega arith)
second_rank (a ∷ k) (b ∷ l) h zero g = eqb-true a.priority b.priority (through (eqb a.priority b.priority) (same_ranks k l) h).0
second_rank (a ∷ k) (b ∷ l) h (suc e) g = second_rank k l (through (eqb a.priority b.priority) (same_ranks k l) h).1 e (omega arith)

pub rank_first : (p q : Program) (e : ℕ) → e < events p → get_or (together p q).priorities e 0 ≡ get_or p.priorities e 0
rank_first p q e h = first_rank p.priorities q.priorities e h

pub rank_second : (v : ℕ → ℕ) (s t : Sheet) → same_ranks s.signals t.signals ≡ true → (e : ℕ) → e < events (fill v t) → get_or (together (fill v s) (fill v t)).priorities e 0 ≡ get_or (fill v t).priorities e 0
rank_second v s t h e g = second_rank s.signals t.signals h e g
