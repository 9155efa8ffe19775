-- Worked examples: which handlers of b0 add. "A handler of b adds if its expression is b; or e1 + e2 or e1 - e2 where
-- e1 adds and e2 does not name b; or e1 + e2 where e2 adds and e1 does not name b; or if(c, e1, e2) where both add and
-- c does not name b".
use Rattle.lib_base.proofs.Prelude.{ℕ, ◌≡◌, refl, true, false, Bool, ◌||◌, false≢true, eqb}
use Rattle.spec_language.specs.Syntax.{Expr, con, name, app1, app2, app3, Program}
use Rattle.spec_language.specs.Dependence.{mentions}
use Rattle.ask_commute.specs.Meets.{Refers, Adds, bare, plus, minus, added_to, either_way}

module _ (p : Program) where
  none_named : (w : ℕ) → Refers p (con w) 0 → ⊥
  unfolding mentions
  none_named w r = false≢true r.1

  -- b0 - 3, 3 + b0, and if(1, b0 + 10, b0)
  pub adding : Adds p 0 (app2 5 (name 0) (con 3)) × Adds p 0 (app2 4 (con 3) (name 0)) × Adds p 0 (app3 14 (con 1) (app2 4 (name 0) (con 10)) (name 0))
  adding = (minus bare (none_named 3), added_to (none_named 3) bare, either_way (none_named 1) (plus bare (none_named 10)) bare)

  -- what may stand at the top of one that adds: b itself, 4, 5 or 14, and of 5 no constant on the left
  abbrev may_add : Expr → Bool
  may_add (con w) = false
  may_add (name i) = true
  may_add (app1 f a) = false
  may_add (app2 f a b) = eqb f 4 || eqb f 5
  may_add (app3 f a b c) = eqb f 14

  top_of : {x : Expr} → Adds p 0 x → may_add x ≡ true
  top_of bare = refl
  top_of (plus a n) = refl
  top_of (minus a n) = refl
  top_of (added_to n a) = refl
  top_of (either_way n a b) = refl

  left_of : {f : ℕ} {a b : Expr} → Adds p 0 (app2 f a b) → eqb f 5 ≡ true → may_add a ≡ true
  left_of (plus x n) q = absurd (false≢true q)
  left_of (minus x n) q = top_of x
  left_of (added_to n x) q = absurd (false≢true q)

  -- b0 * 3, 3 - b0 and 3
  pub not_adding : (Adds p 0 (app2 6 (name 0) (con 3)) → ⊥) × (Adds p 0 (app2 5 (con 3) (name 0)) → ⊥) × (Adds p 0 (con 3) → ⊥)
  not_adding = (λ h. false≢true (top_of h), λ h. false≢true (left_of h refl), λ h. false≢true (top_of h))
