-- The counts on the draft of a program are 01's: from what each entry of the draft holds.
use Rattle.lib_base.proofs.Prelude.{ℕ, ◌≤◌, ◌<◌, ◌+◌, suc, zero, ◌≡◌, refl, ap, true, false, Bool, List, sum, eqb}
use Rattle.lib_base.proofs.Prelude.{ne_eqb, eq-eqb, arith}
use Rattle.spec_language.specs.Syntax.{Program}
use Rattle.spec_language.specs.Dependence.{Response, follows, takes, defers, keeps, size, response}
use Rattle.spec_language.specs.Order.{up_to}
use Rattle.spec_language.specs.Code.{copied, in_c, share, instructions, one?, members}
use Rattle.draft_form.specs.Draft.{entry_of, used_by, Drafted}
use Rattle.draft_form.proofs.DraftLaws.{Entry, entry_of_law}
use Rattle.back_counts.specs.Counts.{total, share_of, count_event, is_member, count_members}

-- ---- sums

sum_snoc : (n : ℕ) (g : ℕ → ℕ) → sum ◌+◌ 0 (up_to (suc n) g) ≡ sum ◌+◌ 0 (up_to n g) + g n
unfolding sum up_to
sum_snoc zero g = omega arith
sum_snoc (suc n) g = omega (arith, sum_snoc n (λ i. g (suc i)))

none_sum : (g : ℕ → ℕ) → 0 ≡ sum ◌+◌ 0 (up_to 0 g)
unfolding sum up_to
none_sum g = refl

pub total_sum : (n : ℕ) (f g : ℕ → ℕ) → ((i : ℕ) → i < n → f i ≡ g i) → total n f ≡ sum ◌+◌ 0 (up_to n g)
unfolding total
total_sum zero f g h = none_sum g
total_sum (suc n) f g h = rw (sum_snoc n g, total_sum n f g (λ i b. h i (omega arith)), h n (omega arith))

-- ---- what one entry gives

-- copied exactly where the entry is not 0
pub copied_is : (d : List ℕ) (v : ℕ) (r : Response) → Entry d v r → eqb v 0 ≡ elim (copied r) [ true ↦ false | false ↦ true ]
copied_is d v (follows x) h = ne_eqb v 0 (λ z. omega (arith, h.some))
copied_is d v (takes x) h = ne_eqb v 0 (λ z. omega (arith, h.some))
copied_is d v (defers x) h = ne_eqb v 0 (λ z. omega (arith, h.some))
copied_is d v keeps h = eq-eqb v 0 h

share_is : (d : List ℕ) (v : ℕ) (r : Response) → Entry d v r → share_of v ≡ share r
unfolding share_of
share_is d v (follows x) h = rw (h.kind_is, h.count_is)
share_is d v (takes x) h = rw (h.kind_is, h.count_is)
share_is d v (defers x) h = rw (h.kind_is, h.count_is)
share_is d v keeps h = rw h

member_is : (v : ℕ) (b : Bool) → eqb v 0 ≡ elim b [ true ↦ false | false ↦ true ] → is_member v ≡ one? b
unfolding is_member
member_is v true h = rw h
member_is v false h = rw h

-- ---- an event

module _ (p : Program) (d : List ℕ) (n : ℕ) (dr : Drafted p d n) (e : ℕ) (b : e ≤ 32) where
  pub count_is : count_event d e (size p) ≡ instructions p e
  unfolding count_event instructions
  count_is =
      ap (λ (s : ℕ). 4 + s)
      (total_sum (size p) (λ i. share_of (entry_of d e i)) (λ i. share (response p e i))
      (λ i h. share_is (used_by d i) (entry_of d e i) (response p e i) (entry_of_law p d n dr e i b h)))

  pub members_is : count_members d e (size p) ≡ members p e
  unfolding count_members members
  members_is =
      total_sum (size p) (λ i. is_member (entry_of d e i)) (λ i. one? (in_c p e i))
      (λ i h. member_is (entry_of d e i) (in_c p e i) (copied_is (used_by d i) (entry_of d e i) (response p e i) (entry_of_law p d n dr e i b h)))
