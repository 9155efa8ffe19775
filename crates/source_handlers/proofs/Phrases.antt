-- A formula leaves fewer tokens than it was given: by following its definition, with the formulas in it nesting less
-- deep.
use Rattle.lib_base.proofs.Prelude.{ℕ, ◌≤◌, ◌<◌, ◌-◌, suc, zero, List, [], ◌∷◌, length, eqb, ltb, arith}
use Rattle.lib_base.proofs.Tools.{by_test}
use Rattle.lib_signature.specs.Signature.{level}
use Rattle.lib_signature.specs.Numbers.{not_fn, if_fn, subtract_fn}
use Rattle.source_language.specs.Tokens.{SheetToken, number, name, sign, opening, closing, comma, bracket, unbracket}
use Rattle.source_language.specs.Text.{Phrase, constant, cell, negation, operation}
use Rattle.source_language.specs.Limits.{largest, phrase_nesting}
use Rattle.source_language.specs.Reader.{Phrased, got, place_at, sign_at, tokens_after, past_sign, value_of, operator_within, with_operator, after_operand, cell_of, read_constant, read_negation, read_choice, signed_of, read_primary, from_operand, phrase_within, formula_of}
use Rattle.source_declarations.proofs.Many.{Leaves, leaves_then}
use Rattle.source_declarations.proofs.Shorter.{leaves_sign, leaves_number, leaves_value}
use Rattle.source_language.proofs.Parses.{after_shorter}

leaves_constant : (ts : List SheetToken) → Leaves (length ts) (read_constant ts)
unfolding read_constant
leaves_constant ts = leaves_then (length ts) (length ts) (value_of ts) (λ c us. got (constant c) us) (leaves_value ts) (λ c us h. h)

leaves_cell : (p : ℕ) (s : List ℕ) (ts : List SheetToken) → Leaves (suc (length ts)) (cell_of p s ts)
unfolding cell_of
leaves_cell p s ts =
    by_test (Leaves (suc (length ts))) (eqb (sign_at ts) bracket)
    (λ e. leaves_number (suc (length ts)) largest (λ r n us. past_sign unbracket (λ vs. got (cell p s (place_at ts) n) vs) us) (tokens_after ts) (λ r n us h.
    leaves_sign (suc (length ts)) unbracket (λ vs. got (cell p s (place_at ts) n) vs) us (λ vs g. omega (arith, after_shorter ts))))
    (λ e. omega arith)

module _ (next : ℕ → List SheetToken → Phrased Phrase) (room : ℕ) (less : (l : ℕ) (ts : List SheetToken) → Leaves (length ts) (next l ts)) where
  leaves_negation : (m : ℕ) (ts : List SheetToken) → length ts < m → Leaves m (read_negation (next 0) ts)
  unfolding read_negation
  leaves_negation m ts h = leaves_then (length ts) m (next 0 ts) (λ a us. got (negation a) us) (less 0 ts) (λ a us g. omega arith)

  leaves_choice : (m : ℕ) (ts : List SheetToken) → length ts < m → Leaves m (read_choice (next 6) ts)
  unfolding read_choice
  leaves_choice m ts h =
      leaves_sign m opening _ ts (λ us i. leaves_then (length us) m (next 6 us) _ (less 6 us) (λ a vs j.
      leaves_sign m comma _ vs (λ ws k. leaves_then (length ws) m (next 6 ws) _ (less 6 ws) (λ b xs l.
      leaves_sign m comma _ xs (λ ys n. leaves_then (length ys) m (next 6 ys) _ (less 6 ys) (λ c zs o.
      leaves_sign m closing _ zs (λ end q. omega arith)))))))

  leaves_signed : (p c : ℕ) (ts : List SheetToken) → Leaves (suc (length ts)) (signed_of next room p c ts)
  unfolding signed_of
  leaves_signed p c ts =
      by_test (Leaves (suc (length ts))) (eqb c not_fn)
      (λ e. by_test (Leaves (suc (length ts))) (ltb 1 room) (λ d. leaves_negation (suc (length ts)) ts (omega arith)) (λ d. tt))
      (λ e. by_test (Leaves (suc (length ts))) (eqb c subtract_fn) (λ d. leaves_constant (sign p c ∷ ts)) (λ d.
      by_test (Leaves (suc (length ts))) (eqb c if_fn)
      (λ b. by_test (Leaves (suc (length ts))) (ltb 1 room) (λ a. leaves_choice (suc (length ts)) ts (omega arith)) (λ a. tt))
      (λ b. tt)))

  leaves_primary : (ts : List SheetToken) → Leaves (length ts) (read_primary next room ts)
  leaves_primary [] = tt
  leaves_primary (number p n ∷ ts) = leaves_constant (number p n ∷ ts)
  leaves_primary (name p s ∷ ts) = leaves_cell p s ts
  leaves_primary (sign p c ∷ ts) = leaves_signed p c ts

  module _ (l b : ℕ) where
    leaves_operator : (go : Phrase → List SheetToken → Phrased Phrase) (a : Phrase) (ts : List SheetToken) → length ts < b
        → ((e : Phrase) (us : List SheetToken) → length us < b → Leaves b (go e us)) → Leaves b (with_operator next room go a ts)
    leaves_operator go a ts h g =
        by_test (Leaves b) (ltb (phrase_nesting a) room)
        (λ e. leaves_then (length (tokens_after ts)) b (next (level (sign_at ts) - 1) (tokens_after ts)) (λ d us. go (operation (sign_at ts) a d) us) (less (level (sign_at ts) - 1) (tokens_after ts))
        (λ d us k. g (operation (sign_at ts) a d) us (omega (arith, after_shorter ts))))
        (λ e. tt)

    leaves_after : (m k : ℕ) (a : Phrase) (ts : List SheetToken) → length ts < b → Leaves b (after_operand next room l m k a ts)
    unfolding after_operand
    leaves_after zero zero a ts h = h
    leaves_after zero (suc k) a ts h = tt
    leaves_after (suc m) zero a ts h =
        by_test (Leaves b) (operator_within l (sign_at ts))
        (λ e. leaves_operator (after_operand next room l m zero) a ts h (λ d us g. leaves_after m zero d us g)) (λ e. h)
    leaves_after (suc m) (suc k) a ts h =
        by_test (Leaves b) (operator_within 6 (sign_at ts))
        (λ e. leaves_operator (after_operand next room l m (suc k)) a ts h (λ d us g. leaves_after m (suc k) d us g))
        (λ e. leaves_sign b closing (after_operand next room l m k a) ts (λ us g. leaves_after m k a us (omega arith)))

    leaves_operand : (m k : ℕ) (ts : List SheetToken) → length ts ≤ b → Leaves b (from_operand next room l m k ts)
    unfolding from_operand
    leaves_operand zero k ts h = tt
    leaves_operand (suc m) k ts h =
        by_test (Leaves b) (eqb (sign_at ts) opening)
        (λ e. leaves_operand m (suc k) (tokens_after ts) (omega (arith, after_shorter ts)))
        (λ e. leaves_then (length ts) b (read_primary next room ts) (λ a us. after_operand next room l m k a us) (leaves_primary ts) (λ a us g. leaves_after m k a us (omega arith)))

leaves_within : (room l : ℕ) (ts : List SheetToken) → Leaves (length ts) (phrase_within room l ts)
unfolding phrase_within
leaves_within zero l ts = tt
leaves_within (suc room) l ts = leaves_operand (phrase_within room) (suc room) (leaves_within room) l (length ts) (length ts) zero ts (omega arith)

pub leaves_formula : (ts : List SheetToken) → Leaves (length ts) (formula_of ts)
leaves_formula ts = leaves_within 16 6 ts
