-- Laws of `pick`: they follow one branch from the fact that the code has there.
use Rattle.lib_base.proofs.Prelude.{ℕ, ◌≤◌, ◌<◌, ◌≡◌, ◌∙◌, sym, ap, true, false, Bool, eqb, ltb, leb, ne_eqb}
use Rattle.lib_base.proofs.Prelude.{le-ltb, lt-ltb, eq-eqb, lt-leb, le-leb, rules}
use Rattle.lib_base.specs.Basics.{pick}

pub if-true {ℓ} : {A : Type ℓ} {x : A} (y z : A) (b : Bool) → b ≡ true → x ≡ y → x ≡ pick b y z
if-true y z b e p = p ∙ sym (ap (λ (t : Bool). pick t y z) e)

pub if-false {ℓ} : {A : Type ℓ} {x : A} (y z : A) (b : Bool) → b ≡ false → x ≡ z → x ≡ pick b y z
if-false y z b e p = p ∙ sym (ap (λ (t : Bool). pick t y z) e)

pub if_lt {ℓ} : {A : Type ℓ} {x : A} (y z : A) (a b : ℕ) → a < b → x ≡ y → x ≡ pick (ltb a b) y z
if_lt y z a b h p = if-true y z (ltb a b) (lt-ltb a b h) p

pub if_not_lt {ℓ} : {A : Type ℓ} {x : A} (y z : A) (a b : ℕ) → b ≤ a → x ≡ z → x ≡ pick (ltb a b) y z
if_not_lt y z a b h p = if-false y z (ltb a b) (le-ltb a b h) p

pub if_le {ℓ} : {A : Type ℓ} {x : A} (y z : A) (a b : ℕ) → a ≤ b → x ≡ y → x ≡ pick (leb a b) y z
if_le y z a b h p = if-true y z (leb a b) (le-leb a b h) p

pub if_not_le {ℓ} : {A : Type ℓ} {x : A} (y z : A) (a b : ℕ) → b < a → x ≡ z → x ≡ pick (leb a b) y z
if_not_le y z a b h p = if-false y z (leb a b) (lt-leb a b h) p

pub if_eq {ℓ} : {A : Type ℓ} {x : A} (y z : A) (a b : ℕ) → a ≡ b → x ≡ y → x ≡ pick (eqb a b) y z
if_eq y z a b h p = if-true y z (eqb a b) (eq-eqb a b h) p

pub if_not_eq {ℓ} : {A : Type ℓ} {x : A} (y z : A) (a b : ℕ) → (a ≡ b → ⊥) → x ≡ z → x ≡ pick (eqb a b) y z
if_not_eq y z a b h p = if-false y z (eqb a b) (ne_eqb a b h) p

pub ruleset branches = (if_lt, if_not_lt, if_le, if_not_le, if_eq, if_not_eq, if-true, if-false)

-- the answer to try first at any need: `search code depth 12`
pub ruleset code = (branches, rules)
