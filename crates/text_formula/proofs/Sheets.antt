-- The field that is written is one of a sheet: the sheet's expression reader accepts it and reads the formula's
-- expression (01 "The sheet"). A formula's names and functions are a sheet's, by induction on the derivation; `nesting`
-- is what `TermFits` bounds, by induction on the expression; then the grammar crate's `expr-reads`.
use Rattle.lib_base.proofs.Prelude.{ℕ, ◌≤◌, ◌<◌, suc, zero, ◌≡◌, refl, sym, true, false, Option, some, none, List, []}
use Rattle.lib_base.proofs.Prelude.{◌∷◌, ◌++◌, length, drop, ltb, ltb-false, arith}
use Rattle.lib_base.specs.Basics.{pick, All}
use Rattle.lib_base.proofs.Tools.{by_test, all_split, neither}
use Rattle.lib_signature.proofs.Laws.{level_two}
use Rattle.spec_language.specs.Syntax.{Expr, con, name, app1, app2, app3}
use Rattle.spec_language.specs.Sheet.{fill_term, as_sent}
use Rattle.spec_language.specs.Grammar.{Arity, unary, ternary, binary, TermFits, t_literal, t_variable, t_apply1, t_apply2, t_apply3}
use Rattle.spec_grammar.proofs.Expressions.{expr-reads}
use Rattle.text_formula.specs.Tokens.{Token, function, closing, comma}
use Rattle.text_formula.specs.InRange.{InRange}
use Rattle.text_formula.specs.Grammar.{Operator, operator, Derives, tighter, two_sided, negated, a_number, a_name, bracketed, choice, Formula, formula}
use Rattle.text_formula.specs.Reader.{read_formula}
use Rattle.text_formula.specs.Answer.{large, nesting, formula_field, field_answer}
use Rattle.text_formula.specs.Nesting.{deeper}
use Rattle.text_formula.specs.Formula.{answer_to, formula_on}
use Rattle.text_formula.proofs.Deeper.{deeper_left, deeper_right}
use Rattle.text_formula.proofs.Scans.{tokens_fine}
use Rattle.text_formula.proofs.Readings.{reading_only}
use Rattle.text_formula.specs.Statements.{Fields}

-- names of behaviours, and functions with the arguments that they need
unfoldable pub Proper : Expr → Type 0
Proper (con n) = Unit {0}
Proper (name i) = i < 64
Proper (app1 f a) = Arity f 1 × Proper a
Proper (app2 f a b) = Arity f 2 × Proper a × Proper b
Proper (app3 f a b c) = Arity f 3 × Proper a × Proper b × Proper c

pub operator_binary : {l f : ℕ} → Operator l f → Arity f 2
operator_binary {f = f} (operator h) = let k = level_two f (omega arith) in binary k.0 k.1 k.2

derives_proper : {l : ℕ} {ts : List Token} {e : Expr} → Derives l ts e → All InRange ts → Proper e
unfolding Proper
derives_proper (tighter d) h = derives_proper d h
derives_proper (two_sided {l} {f} {ts} {us} o p q) h =
    let s = all_split InRange ts (function f ∷ us) h in (operator_binary o, derives_proper p s.0, derives_proper q s.1.1)
derives_proper (negated d) h = (unary, derives_proper d h.1)
derives_proper a_number h = tt
derives_proper a_name h = h.0
derives_proper (bracketed {ts} d) h = derives_proper d (all_split InRange ts (closing ∷ []) h.1).0
derives_proper (choice {ts} {us} {vs} p q r) h =
    let x = all_split InRange ts (comma ∷ (us ++ (comma ∷ (vs ++ (closing ∷ []))))) h.1.1 in
    let y = all_split InRange us (comma ∷ (vs ++ (closing ∷ []))) x.1.1 in
    let z = all_split InRange vs (closing ∷ []) y.1.1 in
    (ternary, derives_proper p x.0, derives_proper q y.0, derives_proper r z.0)

pub formula_proper : {text : List ℕ} {e : Expr} → Formula text e → Proper e
formula_proper (formula t d) = derives_proper d (tokens_fine t)

-- ---- nesting, as a sheet sends it

sent_fits : (e : Expr) (k : ℕ) → Proper e → large e ≡ false → nesting e ≤ k → TermFits k (as_sent e)
unfolding Proper large nesting as_sent
sent_fits (con n) zero p s h = absurd (omega arith)
sent_fits (con n) (suc k) p s h = t_literal {w = n} (omega (arith, ltb-false 2147483647 n s))
sent_fits (name i) zero p s h = absurd (omega arith)
sent_fits (name i) (suc k) p s h = t_variable {i = i} (omega arith)
sent_fits (app1 f a) zero p s h = absurd (omega arith)
sent_fits (app1 f a) (suc k) p s h = t_apply1 p.0 (sent_fits a k p.1 s (omega arith))
sent_fits (app2 f a b) zero p s h = absurd (omega arith)
sent_fits (app2 f a b) (suc k) p s h =
    let z = neither (large a) (large b) s in
    let l = deeper_left (nesting a) (nesting b) in
    let r = deeper_right (nesting a) (nesting b) in
    t_apply2 p.0 (sent_fits a k p.1 z.0 (omega arith)) (sent_fits b k p.2 z.1 (omega arith))
sent_fits (app3 f a b c) zero p s h = absurd (omega arith)
sent_fits (app3 f a b c) (suc k) p s h =
    let z = neither (large a) (pick (large b) true (large c)) s in
    let y = neither (large b) (large c) z.1 in
    let l = deeper_left (nesting a) (nesting b) in
    let r = deeper_right (nesting a) (nesting b) in
    let m = deeper_left (deeper (nesting a) (nesting b)) (nesting c) in
    let n = deeper_right (deeper (nesting a) (nesting b)) (nesting c) in
    t_apply3 p.0 (sent_fits a k p.1 z.0 (omega arith)) (sent_fits b k p.2 y.0 (omega arith)) (sent_fits c k p.3 y.1 (omega arith))

-- ---- what it means

-- whatever the parameters are, it means the expression
pub sent_means : (v : ℕ → ℕ) (e : Expr) → fill_term v (as_sent e) ≡ e
unfolding as_sent fill_term
sent_means v (con w) = refl
sent_means v (name i) = refl
sent_means v (app1 f a) = rw (sent_means v a)
sent_means v (app2 f a b) = rw (sent_means v a, sent_means v b)
sent_means v (app3 f a b c) = rw (sent_means v a, sent_means v b, sent_means v c)

-- ---- the field that is written

field_of : (text buffer : List ℕ) (e : Expr) → Formula text e → Fields text buffer (field_answer e buffer)
unfolding field_answer
field_of text buffer e f =
    by_test (Fields text buffer) (large e) (λ x n h. absurd (omega arith))
    (λ x. by_test (Fields text buffer) (ltb 16 (nesting e)) (λ y n h. absurd (omega arith))
    (λ y. by_test (Fields text buffer) (ltb (length buffer) (length (formula_field e))) (λ z n h. absurd (omega arith))
    (λ z n h.
    let q : length (formula_field e) ≡ n = omega arith in
    let m = sent_fits e 16 (formula_proper f) x (ltb-false 16 (nesting e) y) in
    record {
      expression = e;
      reading = f;
      length_is = sym q;
      fits = omega (arith, ltb-false (length buffer) (length (formula_field e)) z);
      bytes = rw q;
      nests = m;
      read_back = rw q (expr-reads m (drop n buffer));
      means = λ v. sent_means v e;
    })))

to_field : (text buffer : List ℕ) (o : Option Expr) → read_formula text ≡ o → Fields text buffer (answer_to o buffer)
to_field text buffer none q n h = absurd (omega arith)
to_field text buffer (some e) q n h = field_of text buffer e (reading_only text e q) n h

-- for every text: an answer of 2 ^ 32 and n is a field of n bytes, as a sheet has it
pub field_written : (text buffer : List ℕ) → Fields text buffer (formula_on text buffer)
unfolding formula_on
field_written text buffer =
    by_test (Fields text buffer) (ltb 1024 (length text)) (λ e n h. absurd (omega arith)) (λ e. to_field text buffer (read_formula text) refl)
