-- A set gathered number by number: what is in it after i turns of a loop, for every loop of this crate.
use Rattle.lib_base.proofs.Prelude.{ℕ, ◌<◌, ◌+◌, suc, ◌≡◌, refl, ◌∙◌, sym, ap, false, Bool, ◌||◌, ◌&&◌}
use Rattle.lib_base.proofs.Prelude.{or-false, or-true, or_assoc, and-false, eqb, add-one, eqb-true, eq-eqb}
use Rattle.lib_base.proofs.Tools.{split}
use Rattle.lib_bits.specs.Bits.{bit}
use Rattle.lib_bits.proofs.BitLaws.{bit_none}
use Rattle.check_graph.specs.Any.{any_below}
use Rattle.check_graph.proofs.Any.{any_none, any_some}

-- one number more to look at
pub any_more : (n : ℕ) (f : ℕ → Bool) → any_below (suc n) f ≡ any_below n f || f n
unfolding any_below
any_more n f = split (f n) (λ t. rw (t, any_below) (sym (or-true (any_below n f)))) (λ t. rw (t, any_below) (sym (or-false (any_below n f))))

-- after i turns: the base, and what the turns brought
pub record Gathered (most : ℕ) (base : ℕ → Bool) (more : ℕ → ℕ → Bool) (set i : ℕ) : Type 0 where
  pub holds : (j : ℕ) → j < most → bit set j ≡ base j || any_below i (more j)

pub begin : (most : ℕ) (more : ℕ → ℕ → Bool) → Gathered most (λ j. false) more 0 0
unfolding any_below
begin most more = record { holds = λ j h. bit_none j }

pub begin_with : (most : ℕ) (set : ℕ) (more : ℕ → ℕ → Bool) → Gathered most (λ j. bit set j) more set 0
unfolding any_below
begin_with most set more = record { holds = λ j h. sym (or-false (bit set j)) }

pub turn : {most : ℕ} {base : ℕ → Bool} {more : ℕ → ℕ → Bool} {set i next : ℕ} → Gathered most base more set i
    → ((j : ℕ) → j < most → bit next j ≡ bit set j || more j i) → Gathered most base more next (i + 1)
turn {most} {base} {more} {set} {i} {next} t e = record {
  holds = λ j b. e j b
      ∙ ap (λ (x : Bool). x || more j i) (t.holds j b)
      ∙ or_assoc (base j) (any_below i (more j)) (more j i)
      ∙ ap (λ (x : Bool). base j || x) (sym (any_more i (more j)))
      ∙ ap (λ (k : ℕ). base j || any_below k (more j)) (sym (add-one i));
}

pub end : {most : ℕ} {base : ℕ → Bool} {more : ℕ → ℕ → Bool} {set i n : ℕ} → Gathered most base more set i → i ≡ n
    → (j : ℕ) → j < most → bit set j ≡ base j || any_below n (more j)
end t q j b = rw q at (t.holds j b)

-- where each turn brings its own number, if f tells it
pub any_own : (n : ℕ) (f : ℕ → Bool) (j : ℕ) → j < n → any_below n (λ i. f i && eqb j i) ≡ f j
any_own n f j h =
    split (f j)
    (λ t. any_some n (λ i. f i && eqb j i) j h (rw (t, eq-eqb j j refl)) ∙ sym t)
    (λ t. any_none n (λ i. f i && eqb j i) (λ i b. split (eqb j i)
    (λ q. let s : i ≡ j = sym (eqb-true j i q) in rw (s, t)) (λ q. rw q (and-false (f i)))) ∙ sym t)
