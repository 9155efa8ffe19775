-- What the pen writes of a token: its spelling after its gap.
use Rattle.lib_base.proofs.Prelude.{ℕ, ◌≤◌, ◌≡◌, refl, ◌∙◌, sym, ap, true, false, List, [], ◌∷◌, ◌++◌}
use Rattle.lib_base.proofs.Prelude.{get_or, eqb, ne_eqb, eqb-true, eq-eqb, lt-leb, le-leb, arith}
use Rattle.lib_base.specs.Basics.{pick}
use Rattle.lib_base.proofs.Tools.{by_test}
use Rattle.source_language.specs.Tokens.{sign, on_word, param_word}
use Rattle.source_rendering.specs.Describe.{spell, first_byte, run_together}
use Rattle.source_pen.specs.Written.{space_after, token_after}
use Rattle.source_pen.proofs.Bytes.{none_together}

first_is : (text : List ℕ) → get_or text 0 0 ≡ first_byte text
first_is [] = refl
first_is (b ∷ text) = refl

-- ---- bytes after a space, where one is needed

pub apart_spaced : (a : ℕ) (text : List ℕ) → run_together a (get_or text 0 0) ≡ true → 32 ∷ text ≡ space_after a (first_byte text) ++ text
unfolding space_after
apart_spaced a text e = rw (sym (ap (run_together a) (first_is text)) ∙ e) refl

pub apart_joined : (a : ℕ) (text : List ℕ) → run_together a (get_or text 0 0) ≡ false → text ≡ space_after a (first_byte text) ++ text
unfolding space_after
apart_joined a text e = rw (sym (ap (run_together a) (first_is text)) ∙ e) refl

-- nothing is before the first token, as no byte runs into it
space_gap : (a b : ℕ) → space_after a b ≡ pick (eqb a 0) [] (space_after a b)
unfolding space_after
space_gap a b =
    by_test (λ (l : List ℕ). space_after a b ≡ l) (eqb a 0) (λ e. let q : a ≡ 0 = eqb-true a 0 e in rw (q, none_together b)) (λ e. refl)

pub after_space : (a : ℕ) {text s : List ℕ} → text ≡ s
    → space_after a (first_byte text) ++ text ≡ pick (eqb a 0) [] (space_after a (first_byte s)) ++ s
after_space a {text} {s} e = rw e (ap (λ (l : List ℕ). l ++ s) (space_gap a (first_byte s)))

-- ---- a sign after its gap

pub sign_lined : (a c : ℕ) → (a ≡ 0 → ⊥) → param_word ≤ c → token_after a (sign 0 c) ≡ 10 ∷ spell (sign 0 c)
sign_lined a c z h = rw (ne_eqb a 0 z, le-leb param_word c h) refl

pub sign_on : (a c : ℕ) → (a ≡ 0 → ⊥) → c ≡ on_word → token_after a (sign 0 c) ≡ 10 ∷ 32 ∷ 32 ∷ spell (sign 0 c)
sign_on a c z h = rw (ne_eqb a 0 z, lt-leb param_word c (omega arith), eq-eqb c on_word h) refl
