-- Which two bytes run together: the code's tests against the definitions, by the value of the first.
use Rattle.lib_base.proofs.Prelude.{ℕ, ◌≡◌, refl, ◌∙◌, sym, ap, true, false, Bool, true≢false, or-false}
use Rattle.lib_base.proofs.Prelude.{◌⊎◌, inl, inr, [], ◌∷◌, eqb, ne_eqb, eqb-true}
use Rattle.lib_base.specs.Basics.{pick}
use Rattle.lib_base.proofs.Tools.{split, neither}
use Rattle.source_language.specs.Tokens.{marks, same, sign_of, is_digit, is_letter, in_word}
use Rattle.source_rendering.specs.Describe.{run_together}
use Rattle.source_pen.specs.Written.{takes_equals}

pick_same : (b x : Bool) → pick b x x ≡ x
pick_same true x = refl
pick_same false x = refl

-- no mark of two bytes begins so
no_mark : (a b : ℕ) → eqb a 124 ≡ false → eqb a 38 ≡ false → eqb a 61 ≡ false → eqb a 60 ≡ false → eqb a 62 ≡ false → eqb a 33 ≡ false
    → sign_of (a ∷ b ∷ []) marks ≡ 0
unfolding sign_of marks same
no_mark a b e f g h i j = simp (e, f, g, h, i, j, pick_same)

no_word : (a k : ℕ) → in_word a ≡ true → in_word k ≡ false → eqb a k ≡ false
no_word a k h g = ne_eqb a k (λ e. true≢false (sym h ∙ (ap in_word e ∙ g)))

word_no_mark : (a b : ℕ) → in_word a ≡ true → sign_of (a ∷ b ∷ []) marks ≡ 0
unfolding in_word is_letter is_digit
word_no_mark a b h =
    no_mark a b (no_word a 124 h refl) (no_word a 38 h refl) (no_word a 61 h refl) (no_word a 60 h refl) (no_word a 62 h refl) (no_word a 33 h refl)

pub words_together : (a b : ℕ) → in_word a ≡ true → in_word b ≡ run_together a b
unfolding run_together
words_together a b h = rw (h, word_no_mark a b h) (sym (or-false (in_word b)))

-- the byte after one that a mark begins with
after_equals : (b : ℕ) (x : Bool) → eqb b 61 ≡ x → x ≡ run_together 61 b
unfolding run_together sign_of marks same in_word is_letter is_digit
after_equals b true e = rw e
after_equals b false e = rw e

after_less : (b : ℕ) (x : Bool) → eqb b 61 ≡ x → x ≡ run_together 60 b
unfolding run_together sign_of marks same in_word is_letter is_digit
after_less b true e = rw e
after_less b false e = rw e

after_more : (b : ℕ) (x : Bool) → eqb b 61 ≡ x → x ≡ run_together 62 b
unfolding run_together sign_of marks same in_word is_letter is_digit
after_more b true e = rw e
after_more b false e = rw e

after_not : (b : ℕ) (x : Bool) → eqb b 61 ≡ x → x ≡ run_together 33 b
unfolding run_together sign_of marks same in_word is_letter is_digit
after_not b true e = rw e
after_not b false e = rw e

after_bar : (b : ℕ) (x : Bool) → eqb b 124 ≡ x → x ≡ run_together 124 b
unfolding run_together sign_of marks same in_word is_letter is_digit
after_bar b true e = rw e
after_bar b false e = rw e

after_and : (b : ℕ) (x : Bool) → eqb b 38 ≡ x → x ≡ run_together 38 b
unfolding run_together sign_of marks same in_word is_letter is_digit
after_and b true e = rw e
after_and b false e = rw e

pub equals_together : (a b : ℕ) → takes_equals a ≡ true → eqb b 61 ≡ run_together a b
unfolding takes_equals
equals_together a b h =
    split (eqb a 61) (λ e. let q : a ≡ 61 = eqb-true a 61 e in rw q (after_equals b (eqb b 61) refl))
    (λ e. split (eqb a 60) (λ f. let q : a ≡ 60 = eqb-true a 60 f in rw q (after_less b (eqb b 61) refl))
    (λ f. split (eqb a 62) (λ g. let q : a ≡ 62 = eqb-true a 62 g in rw q (after_more b (eqb b 61) refl))
    (λ g. let q : a ≡ 33 = eqb-true a 33 (rw (e, f, g) at h) in rw q (after_not b (eqb b 61) refl))))

pub doubled_together : (a b : ℕ) → (a ≡ 124) ⊎ ((a ≡ 124 → ⊥) × (a ≡ 38)) → eqb b a ≡ run_together a b
doubled_together a b (inl q) = rw q (after_bar b (eqb b 124) refl)
doubled_together a b (inr q) = rw q.1 (after_and b (eqb b 38) refl)

pub others_apart : (a b : ℕ) → in_word a ≡ false → takes_equals a ≡ false → (a ≡ 124 → ⊥) → (a ≡ 38 → ⊥) → false ≡ run_together a b
unfolding run_together takes_equals
others_apart a b h t u v =
    let e = neither (eqb a 61) _ t in
    let f = neither (eqb a 60) _ e.1 in
    let g = neither (eqb a 62) _ f.1 in
    rw (h, no_mark a b (ne_eqb a 124 u) (ne_eqb a 38 v) e.0 f.0 g.0 g.1)

-- 0, which stands for no byte, runs into none
pub none_together : (b : ℕ) → run_together 0 b ≡ false
unfolding run_together sign_of marks same in_word is_letter is_digit
none_together b = refl
