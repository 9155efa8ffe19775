-- What `formula_on` answers, in terms of the grammar alone: the reader stands in none of these statements. From the
-- reader's exactness (`Readings`).
use Rattle.lib_base.proofs.Prelude.{ℕ, ◌≤◌, ◌<◌, ◌≡◌, refl, ◌⊎◌, inr, inl, Option, some, none, List, length}
use Rattle.lib_base.proofs.Prelude.{length-append, length-drop, ltb, le-ltb, lt-ltb, ltb-false, ltb-true, arith}
use Rattle.lib_base.proofs.Tools.{by_test}
use Rattle.spec_language.specs.Syntax.{Expr}
use Rattle.text_formula.specs.Grammar.{Formula}
use Rattle.text_formula.specs.Reader.{read_formula}
use Rattle.spec_language.specs.Refusals.{no_formula}
use Rattle.text_formula.specs.Answer.{large, nesting, formula_field, answered, field_answer}
use Rattle.text_formula.specs.Formula.{answer_to, formula_on}
use Rattle.text_formula.proofs.Readings.{reading_is, outside_none, none_outside}
use Rattle.text_formula.specs.Statements.{BufferKept}

-- a text within the grammar is answered for the one expression that it stands for
pub within : {text : List ℕ} {e : Expr} (buffer : List ℕ) → length text ≤ 1024 → Formula text e → formula_on text buffer ≡ field_answer e buffer
unfolding formula_on
within {text} buffer h f = rw (le-ltb 1024 (length text) h, reading_is f)

-- any other is answered 21
pub outside : (text buffer : List ℕ) → (1024 < length text) ⊎ ((e : Expr) → Formula text e → ⊥) → formula_on text buffer ≡ answered no_formula buffer
unfolding formula_on
outside text buffer (inl h) = rw (lt-ltb 1024 (length text) h)
outside text buffer (inr f) = by_test (λ (a : ℕ × List ℕ). a ≡ answered no_formula buffer) (ltb 1024 (length text)) (λ e. refl) (λ e. rw (outside_none text f))

-- what is written for an expression: 9, 22, 23, or more than 2 ^ 32; a refusal leaves the buffer as it was, and no
-- answer changes its length
pub record Kept (buffer : List ℕ) (a : ℕ × List ℕ) : Type 0 where
  pub not_21 : a.0 ≡ no_formula → ⊥
  pub unchanged : a.0 < 4294967296 → a.1 ≡ buffer
  pub long : length a.1 ≡ length buffer

kept : (e : Expr) (buffer : List ℕ) → Kept buffer (field_answer e buffer)
unfolding field_answer
kept e buffer =
    by_test (Kept buffer) (large e) (λ x. record { not_21 = λ h. omega arith; unchanged = λ h. refl; long = refl })
    (λ x. by_test (Kept buffer) (ltb 16 (nesting e)) (λ y. record { not_21 = λ h. omega arith; unchanged = λ h. refl; long = refl })
    (λ y. by_test (Kept buffer) (ltb (length buffer) (length (formula_field e))) (λ z. record { not_21 = λ h. omega arith; unchanged = λ h. refl; long = refl })
    (λ z. record {
      not_21 = λ h. omega arith;
      unchanged = λ h. absurd (omega arith);
      long = simp (length-append, length-drop) (omega (arith, ltb-false (length buffer) (length (formula_field e)) z));
    })))

-- 21 exactly outside the grammar or over 1,024 bytes
to_outside : (text buffer : List ℕ) (o : Option Expr) → read_formula text ≡ o → (answer_to o buffer).0 ≡ no_formula → (e : Expr) → Formula text e → ⊥
to_outside text buffer none h q = none_outside text h
to_outside text buffer (some d) h q = absurd ((kept d buffer).not_21 q)

pub twenty_one : (text buffer : List ℕ) → (formula_on text buffer).0 ≡ no_formula → (1024 < length text) ⊎ ((e : Expr) → Formula text e → ⊥)
unfolding formula_on
twenty_one text buffer =
    by_test (λ (a : ℕ × List ℕ). a.0 ≡ no_formula → (1024 < length text) ⊎ ((e : Expr) → Formula text e → ⊥)) (ltb 1024 (length text)) (λ e h. inl (ltb-true 1024 (length text) e))
    (λ e h. inr (to_outside text buffer (read_formula text) refl h))

to_kept : (o : Option Expr) (buffer : List ℕ) → BufferKept buffer (answer_to o buffer)
to_kept none buffer = record { unchanged = λ h. refl; long = refl }
to_kept (some e) buffer = let k = kept e buffer in record { unchanged = k.unchanged; long = k.long }

pub refusal_unchanged : (text buffer : List ℕ) → BufferKept buffer (formula_on text buffer)
unfolding formula_on
refusal_unchanged text buffer =
    by_test (BufferKept buffer) (ltb 1024 (length text)) (λ e. record { unchanged = λ h. refl; long = refl }) (λ e. to_kept (read_formula text) buffer)
