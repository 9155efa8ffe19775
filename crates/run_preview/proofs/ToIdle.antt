-- Steps to idle are bursts to idle: after a burst that did not end in the last step one goes on as one began. By
-- induction on the steps.
use Rattle.lib_base.proofs.Prelude.{ℕ, ◌≤◌, ◌<◌, suc, zero, ◌≡◌, refl, ◌∙◌, sym, ap, true, false, Bool, List, length}
use Rattle.lib_base.proofs.Prelude.{eqb, arith}
use Rattle.lib_base.specs.Basics.{pick}
use Rattle.lib_base.proofs.Tools.{split}
use Rattle.format_layout.specs.Round.{CallResult, call_result}
use Rattle.run_step.specs.Machine.{step_on}
use Rattle.run_step.specs.Sound.{RoundSound}
use Rattle.run_burst.specs.Burst.{unmade, Burst, burst, burst_on}
use Rattle.run_burst.specs.Commit.{is_commit}
use Rattle.run_burst.proofs.Glue.{stays, left_fewer}
use Rattle.run_preview.specs.Preview.{last_step, to_idle}

unfoldable onward : List ℕ → Burst → CallResult
onward t o = pick (last_step o.0) (o.0, o.2) (to_idle t o.1 o.2)

to_idle_burst : (t : List ℕ) (k : ℕ) (l : List ℕ) → to_idle t k l ≡ onward t (burst_on t k l)
unfolding to_idle burst_on onward last_step unmade
to_idle_burst t zero l = refl
to_idle_burst t (suc k) l =
    let a : ℕ = (step_on t l).0 in
    split (pick (eqb a 0) true (eqb a 14))
    (λ u. let q : (step_on t l).1 ≡ l = stays t l u in rw (u, u) (λ i. (a, q i)))
    (λ u. split (is_commit a) (λ c. rw (u, c, u)) (λ c. rw (u, c) (to_idle_burst t k (step_on t l).1)))

same_step : (a : ℕ) → unmade a ≡ last_step a
unfolding last_step unmade
same_step a = refl

pub record Turn (t l₀ : List ℕ) (most : ℕ) (l : List ℕ) (k : ℕ) : Type 0 where
  pub whole : to_idle t k l ≡ to_idle t most l₀
  pub sound : RoundSound t l
  pub as_long : length l ≡ length l₀

module _ {t l₀ : List ℕ} {most : ℕ} {l : List ℕ} {k : ℕ} (u : Turn t l₀ most l k) where
  pub spent : k ≤ 0 → call_result 14 l ≡ to_idle t most l₀
  unfolding to_idle
  spent h = let z : k ≡ 0 = omega arith in rw z at u.whole

  module _ {a k' : ℕ} {l' : List ℕ} {b : Bool} (some : 0 < k) (made : burst a k' l' ≡ burst_on t k l) (tests : b ≡ unmade a) where
    goes : onward t (a, k', l') ≡ to_idle t most l₀
    goes = ap (onward t) made ∙ sym (to_idle_burst t k l) ∙ u.whole

    pub ended : b ≡ true → call_result a l' ≡ to_idle t most l₀
    unfolding onward
    ended y = rw (← same_step a, ← tests, y) at goes

    pub turn : b ≡ false → RoundSound t l' → length l' ≡ length l → Turn t l₀ most l' k' × (k' < k)
    unfolding onward
    turn y s w =
        let e : unmade a ≡ false = sym tests ∙ y in (
          record { whole = rw (← same_step a, e) at goes; sound = s; as_long = w ∙ u.as_long },
          left_fewer t l k made some e,
        )
