-- What the functions put together, branch by branch: over plain variables, each with the facts that its branch has.
use Rattle.lib_base.proofs.Prelude.{ℕ, ◌≤◌, ◌<◌, ◌+◌, ◌-◌, suc, zero, ◌≡◌, ◌∙◌, sym, ap, subst, true, false, Bool}
use Rattle.lib_base.proofs.Prelude.{true≢false, ◌≢◌, List, length, eqb, eqb-true, arith}
use Rattle.lib_base.proofs.Tools.{by_test, split}
use Rattle.format_layout.specs.Round.{CallResult, call_result}
use Rattle.run_step.specs.Machine.{step_on}
use Rattle.run_step.specs.Sound.{RoundSound, is_outranked, outranked_after}
use Rattle.run_step.proofs.Still.{idle_stays, refused_stays}
use Rattle.run_burst.specs.Burst.{unmade, stops, Burst, burst, burst_on}
use Rattle.run_burst.specs.Commit.{is_commit}
use Rattle.run_burst.specs.Progress.{InstructionsRun, Advanced}

-- a step that is not made leaves the round
pub stays : (t l : List ℕ) → unmade (step_on t l).0 ≡ true → (step_on t l).1 ≡ l
unfolding unmade
stays t l u =
    split (eqb (step_on t l).0 0) (λ e. idle_stays t l (eqb_is e)) (λ e. refused_stays t l (eqb_is (rw e at u)))
  where
    eqb_is : {x y : ℕ} → eqb x y ≡ true → x ≡ y
    eqb_is {x} {y} e = eqb-true x y e

-- ---- r instructions from l to m, and a step that answers a and leaves l'

module _ {t l : List ℕ} {o : Bool} {k r : ℕ} {m : List ℕ} (is : is_outranked t l ≡ o) (g : InstructionsRun t l r m) (within : r ≤ k) (some : 0 < k) where
  pub ranked : is_outranked t m ≡ o
  ranked = g.rank ∙ is

  pub all_ran : r ≡ k → Advanced t o k l 1 0 m
  unfolding stops unmade outranked_after
  all_ran e = record {
    whole = let z : r + 0 ≡ k = omega arith in rw z at (g.same 0);
    less = λ _. some;
    sound = g.sound;
    rank = ranked;
  }

  module _ {a : ℕ} {l' : List ℕ} (fewer : r ≢ k) (step : call_result a l' ≡ step_on t m) (made : RoundSound t l' × (is_outranked t l' ≡ outranked_after o a)) where
    answer : (step_on t m).0 ≡ a
    answer = sym (ap (λ (o : CallResult). o.0) step)

    after : (step_on t m).1 ≡ l'
    after = sym (ap (λ (o : CallResult). o.1) step)

    rest : burst_on t k l ≡ burst_on t (suc (k - r - 1)) m
    rest = let z : r + suc (k - r - 1) ≡ k = omega arith in rw z at (g.same (suc (k - r - 1)))

    pub not_made : unmade a ≡ true → Advanced t o k l a (k - r) l'
    unfolding burst_on stops
    not_made u =
        let q : l' ≡ m = sym after ∙ stays t m (rw answer u) in
        let z : suc (k - r - 1) ≡ k - r = omega arith in
        record {
          whole = rest ∙ rw (answer, u, z, q);
          less = λ h. absurd (true≢false (rw u at h));
          sound = made.0;
          rank = made.1;
        }

    pub one_made : unmade a ≡ false → Advanced t o k l a (k - r - 1) l'
    unfolding burst_on stops
    one_made u = record {
      whole = rest ∙ rw (answer, after, u);
      less = λ _. omega arith;
      sound = made.0;
      rank = made.1;
    }

-- ---- stretch by stretch

pub record Bursting (t : List ℕ) (most : ℕ) (l₀ : List ℕ) (o : Bool) (k : ℕ) (l : List ℕ) : Type 0 where
  pub whole : burst_on t k l ≡ burst_on t most l₀
  pub sound : RoundSound t l
  pub rank : is_outranked t l ≡ o
  pub as_long : length l ≡ length l₀

module _ {t : List ℕ} {most : ℕ} {l₀ : List ℕ} {o : Bool} {k : ℕ} {l : List ℕ} (u : Bursting t most l₀ o k l) where
  pub burst_spent : k ≤ 0 → (burst 1 0 l ≡ burst_on t most l₀) × RoundSound t l
  unfolding burst_on
  burst_spent h = let z : k ≡ 0 = omega arith in (rw z at u.whole, u.sound)

  module _ {a k' : ℕ} {l' : List ℕ} (v : Advanced t o k l a k' l') where
    pub burst_ends : {b : Bool} → b ≡ stops a → b ≡ true → (burst a k' l' ≡ burst_on t most l₀) × RoundSound t l'
    burst_ends e y = (sym (v.whole ∙ rw (← e, y)) ∙ u.whole, v.sound)

    pub burst_goes_on : {b p : Bool} → b ≡ stops a → b ≡ false → p ≡ outranked_after o a → length l' ≡ length l → Bursting t most l₀ p k' l' × (k' < k)
    burst_goes_on {b} {p} e y q w =
        let s : stops a ≡ false = sym e ∙ y in (
          record {
            whole = sym (v.whole ∙ rw s) ∙ u.whole;
            sound = v.sound;
            rank = v.rank ∙ sym q;
            as_long = w ∙ u.as_long;
          },
          v.less s,
        )

-- ---- the steps that a burst leaves

burst_left : (t : List ℕ) (k : ℕ) (l : List ℕ) → (burst_on t k l).1 ≤ k
unfolding burst_on
burst_left t zero l = omega arith
burst_left t (suc k) l =
    let P : Burst → Type 0 = λ o. o.1 ≤ suc k in
    by_test P (unmade (step_on t l).0) (λ _. omega arith)
    (λ _. by_test P (is_commit (step_on t l).0) (λ _. omega arith) (λ _. omega (arith, burst_left t k (step_on t l).1)))

burst_fewer : (t : List ℕ) (k : ℕ) (l : List ℕ) → 0 < k → unmade (burst_on t k l).0 ≡ false → (burst_on t k l).1 < k
unfolding burst_on
burst_fewer t zero l h = absurd (omega arith)
burst_fewer t (suc k) l h =
    let P : Burst → Type 0 = λ o. unmade o.0 ≡ false → o.1 < suc k in
    by_test P (unmade (step_on t l).0) (λ u e. absurd (true≢false (sym u ∙ e)))
    (λ _. by_test P (is_commit (step_on t l).0) (λ _ e. omega arith) (λ _ e. omega (arith, burst_left t k (step_on t l).1)))

module _ (t l : List ℕ) (k : ℕ) {a k' : ℕ} {l' : List ℕ} (made : burst a k' l' ≡ burst_on t k l) where
  pub left_at_most : k' ≤ k
  left_at_most = subst (λ (x : ℕ). x ≤ k) (sym (ap (λ (o : Burst). o.1) made)) (burst_left t k l)

  pub left_fewer : 0 < k → unmade a ≡ false → k' < k
  left_fewer h u =
      subst (λ (x : ℕ). x < k) (sym (ap (λ (o : Burst). o.1) made)) (burst_fewer t k l h (sym (ap (λ (o : Burst). unmade o.0) made) ∙ u))
