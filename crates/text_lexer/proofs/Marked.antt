-- What the tables of marks say at two bytes is what the formula reader's tests on them say (`marked_of`): by the first
-- byte, which begins a row of the table or is another.
use Rattle.lib_base.proofs.Prelude.{ℕ, ◌≡◌, ◌⊎◌, inl, inr, refl, ◌∙◌, true, false, ◌&&◌, [], ◌∷◌, eqb, eqb-true, eqb-false, ne_eqb, eq-eqb}
use Rattle.std.specs.Prelude.{Option, Some, None}
use Rattle.lib_base.specs.Basics.{pick}
use Rattle.lib_base.proofs.Tools.{split}
use Rattle.lib_signature.specs.Numbers.{if_fn}
use Rattle.text_formula.specs.Tokens.{function}
use Rattle.text_formula.specs.Reader.{single_of, double_of, marked_of}
use Rattle.text_marks.specs.Marks.{spelled_alike, number_of, formula_marks, formula_mark, mark_found}
use Rattle.text_marks.proofs.Rows.{NoneBegins, none_begins, mark_some, mark_none}
use Rattle.text_lexer.specs.Codes.{found}
use Rattle.text_lexer.specs.Marked.{code_of_mark}
use Rattle.text_lexer.specs.declared.Found.{Found}

-- the code's tests, on the marks of two bytes and of one
unfoldable marked_by : ℕ → ℕ → ℕ → ℕ → Option Found
marked_by long short b c =
    pick (eqb long 0)
    (pick (eqb b 105 && eqb c 102) (found (function if_fn) 2)
    (pick (eqb short 0) None (Some (record { token = code_of_mark short; bytes = 1 }))))
    (Some (record { token = code_of_mark long; bytes = 2 }))

abbrev Agrees : ℕ → ℕ → Type 0
Agrees b c = marked_by (formula_mark (b ∷ c ∷ [])) (formula_mark (b ∷ [])) b c ≡ marked_of None found b c

is_byte : (b d c : ℕ) → Agrees d c → eqb b d ≡ true → Agrees b c
is_byte b d c h e = let q : b ≡ d = eqb-true b d e in rw q h

-- a byte that begins no mark, and is none of `if`
other : (b c : ℕ) → NoneBegins b formula_marks → eqb b 105 ≡ false → marked_by (formula_mark (b ∷ c ∷ [])) (formula_mark (b ∷ [])) b c ≡ None
unfolding marked_by
other b c h e = rw (none_begins b (c ∷ []) formula_marks h, none_begins b [] formula_marks h, e)

marked_is : (b c : ℕ) → Agrees b c
unfolding marked_by marked_of double_of single_of formula_marks number_of spelled_alike
marked_is b c =
    split (eqb b 33) (is_byte b 33 c (split (eqb c 61) (λ e. rw e) (λ e. rw e)))
    (λ e₁. split (eqb b 62) (is_byte b 62 c (split (eqb c 61) (λ e. rw e) (λ e. rw e)))
    (λ e₂. split (eqb b 60) (is_byte b 60 c (split (eqb c 61) (λ e. rw e) (λ e. rw e)))
    (λ e₃. split (eqb b 61) (is_byte b 61 c (split (eqb c 61) (λ e. rw e) (λ e. rw e)))
    (λ e₄. split (eqb b 124) (is_byte b 124 c (split (eqb c 124) (λ e. rw e) (λ e. rw e)))
    (λ e₅. split (eqb b 38) (is_byte b 38 c (split (eqb c 38) (λ e. rw e) (λ e. rw e)))
    (λ e₆. split (eqb b 105) (is_byte b 105 c (split (eqb c 102) (λ e. rw e) (λ e. rw e)))
    (λ e₇. split (eqb b 40) (is_byte b 40 c refl)
    (λ e₈. split (eqb b 41) (is_byte b 41 c refl)
    (λ e₉. split (eqb b 44) (is_byte b 44 c refl)
    (λ f₁. split (eqb b 43) (is_byte b 43 c refl)
    (λ f₂. split (eqb b 45) (is_byte b 45 c refl)
    (λ f₃. split (eqb b 42) (is_byte b 42 c refl)
    (λ f₄. split (eqb b 47) (is_byte b 47 c refl)
    (λ f₅.
    let n : (d : ℕ) → eqb b d ≡ false → b ≡ d → ⊥ = eqb-false b in
    let none : NoneBegins b formula_marks =
    (n _ e₅, (n _ e₆, (n _ e₁, (n _ f₂, (n _ f₃, (n _ f₄, (n _ f₅, (n _ e₂, (n _ e₂, (n _ e₃, (n _ e₃, (n _ e₄, (n _ e₁, (n _ e₈, (n _ e₉, (n _ f₁, tt)))))))))))))))) in
    other b c none e₇ ∙ rw (e₁, e₂, e₃, e₄, e₅, e₆, e₇, e₈, e₉, f₁, f₂, f₃, f₄, f₅)))))))))))))))

-- ---- by what the two readers of marks answer

module _ (b c : ℕ) {long : Option ℕ} (p : long ≡ mark_found (b ∷ c ∷ [])) where
  pub marked_long : {m : ℕ} → long ≡ Some m → Some (record { token = code_of_mark m; bytes = 2 }) ≡ marked_of None found b c
  unfolding marked_by
  marked_long q = let s = mark_some (b ∷ c ∷ []) p q in rw (← marked_is b c, s.0, ne_eqb _ 0 s.1)

  module _ (q : long ≡ None) where
    pub marked_if : b ≡ 105 → c ≡ 102 → found (function if_fn) 2 ≡ marked_of None found b c
    unfolding marked_by
    marked_if e f = rw (← marked_is b c, mark_none (b ∷ c ∷ []) p q, eq-eqb b 105 e, eq-eqb c 102 f)

    module _ (no : ((b ≡ 105) × (c ≡ 102 → ⊥)) ⊎ (b ≡ 105 → ⊥)) {short : Option ℕ} (r : short ≡ mark_found (b ∷ [])) where
      no_if : eqb b 105 && eqb c 102 ≡ false
      no_if = elim no [ inl w ↦ rw (eq-eqb b 105 w.0, ne_eqb c 102 w.1) | inr w ↦ rw (ne_eqb b 105 w) ]

      pub marked_none : short ≡ None → None ≡ marked_of None found b c
      unfolding marked_by
      marked_none s = rw (← marked_is b c, mark_none (b ∷ c ∷ []) p q, no_if, mark_none (b ∷ []) r s)

      pub marked_short : {m : ℕ} → short ≡ Some m → Some (record { token = code_of_mark m; bytes = 1 }) ≡ marked_of None found b c
      unfolding marked_by
      marked_short s = let t = mark_some (b ∷ []) r s in rw (← marked_is b c, mark_none (b ∷ c ∷ []) p q, no_if, t.0, ne_eqb _ 0 t.1)
