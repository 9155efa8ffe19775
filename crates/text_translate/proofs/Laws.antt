-- That the checks by the code's tokens are those of the definition: a number among the tokens is too large exactly if
-- one in the expression is, by induction on the derivation; and where none is, the bytes that the reader wrote are the
-- expression's field.
use Rattle.lib_base.proofs.Prelude.{ℕ, ◌≤◌, ◌<◌, ◌+◌, ◌≡◌, refl, ◌∙◌, sym, ap, true, false, Bool, ◌||◌}
use Rattle.lib_base.proofs.Prelude.{List, [], ◌∷◌, ◌++◌, map, append-nil, length, take, drop, length-drop}
use Rattle.lib_base.proofs.Prelude.{drop_of_length-le, length-map, take-length, ltb, le-ltb, lt-ltb}
use Rattle.lib_base.proofs.Prelude.{ltb-false, arith}
use Rattle.lib_base.specs.Basics.{pick}
use Rattle.lib_base.proofs.Tools.{by_test, neither}
use Rattle.spec_language.specs.Syntax.{Expr, con, name, app1, app2, app3}
use Rattle.text_formula.specs.Tokens.{Token, number, behaviour, function, opening, closing, comma}
use Rattle.text_formula.specs.Grammar.{Derives, tighter, two_sided, negated, a_number, a_name, bracketed, choice}
use Rattle.text_formula.specs.Reader.{Parsed, unparsed, parsed, wholly, read_at, tokens_of, read_formula}
use Rattle.spec_language.specs.Refusals.{no_formula}
use Rattle.text_formula.specs.Answer.{large, nesting, formula_field, answered, field_answer}
use Rattle.text_formula.specs.Formula.{answer_to, formula_on}
use Rattle.text_formula.proofs.Deeper.{deeper_none}
use Rattle.text_formula.proofs.Scans.{Made, scans_only, tokens_fine}
use Rattle.text_formula.proofs.Parses.{Sound, reads_only}
use Rattle.text_lexer.specs.Codes.{capped, token_code}
use Rattle.text_lexer.proofs.Laws.{TokensHeld}
use Rattle.std.specs.Prelude.{Option, Some}
use Rattle.std.proofs.Math.Option.{some, none}
use Rattle.text_formula.specs.declared.tokens.Token as code
use Rattle.text_phrase.specs.declared.Read.{Read}
use Rattle.text_parser.specs.Parser.{bounded, expression_bytes, Agrees, Reading}
use Rattle.text_translate.specs.Translate.{large_code, any_large, delivered, Translated}

-- ---- the field is copied

pub copied : (l : Bool) (depth : ℕ) (v buffer p : List ℕ) → l ≡ false → depth ≤ 16 → length v ≤ length buffer → p ≡ take (length v) v ++ drop (length v) buffer
    → answered (4294967296 + length v) p ≡ delivered l depth v buffer
unfolding delivered
copied l depth v buffer p e h g q = rw (e, le-ltb 16 depth h, le-ltb (length buffer) (length v) g, q, take-length v)

-- ---- numbers that are too large

large_token : Token → Bool
large_token (number n) = ltb 2147483647 n
large_token (behaviour i) = false
large_token (function f) = false
large_token opening = false
large_token closing = false
large_token comma = false

large_tokens : List Token → Bool
large_tokens [] = false
large_tokens (t ∷ ts) = pick (large_token t) true (large_tokens ts)

capped_large : (n : ℕ) → ltb 2147483647 (capped n) ≡ ltb 2147483647 n
capped_large n = by_test (λ x. ltb 2147483647 x ≡ ltb 2147483647 n) (ltb n 2147483648) (λ e. refl) (λ e. sym (lt-ltb 2147483647 n (omega (arith, ltb-false n 2147483648 e))))

large_code_law : (t : Token) → large_code (token_code t) ≡ large_token t
unfolding large_token
large_code_law (number n) = capped_large n
large_code_law (behaviour i) = refl
large_code_law (function f) = refl
large_code_law opening = refl
large_code_law closing = refl
large_code_law comma = refl

large_codes : (ts : List Token) → any_large (map token_code ts) ≡ large_tokens ts
unfolding large_tokens
large_codes [] = refl
large_codes (t ∷ ts) = rw (large_code_law t, large_codes ts) (by_test (λ x. large_token t || large_tokens ts ≡ x) (large_token t) (λ e. rw e) (λ e. rw e))

large_both : (ts us : List Token) → large_tokens (ts ++ us) ≡ pick (large_tokens ts) true (large_tokens us)
unfolding large_tokens
large_both [] us = refl
large_both (t ∷ ts) us = by_test (λ x. x ≡ pick (pick (large_token t) true (large_tokens ts)) true (large_tokens us)) (large_token t) (λ e. rw e) (λ e. rw e (large_both ts us))

large_last : (ts : List Token) → large_tokens (ts ++ (closing ∷ [])) ≡ large_tokens ts
unfolding large_tokens large_token
large_last [] = refl
large_last (t ∷ ts) = rw (large_last ts)

or-false : (b : Bool) → pick b true false ≡ b
or-false true = refl
or-false false = refl

large_derived : {l : ℕ} {ts : List Token} {e : Expr} → Derives l ts e → large_tokens ts ≡ large e
unfolding large large_tokens large_token
large_derived (tighter d) = large_derived d
large_derived (two_sided {l} {f} {ts} {us} o p q) = large_both ts (function f ∷ us) ∙ rw (large_derived p, large_derived q)
large_derived (negated d) = large_derived d
large_derived (a_number {n}) = or-false (ltb 2147483647 n)
large_derived a_name = refl
large_derived (bracketed {ts} d) = large_last ts ∙ large_derived d
large_derived (choice {ts} {us} {vs} p q r) =
    large_both ts (comma ∷ (us ++ (comma ∷ (vs ++ (closing ∷ [])))))
    ∙ rw (large_derived p, large_both us (comma ∷ (vs ++ (closing ∷ []))), large_derived q, large_last vs, large_derived r)

-- ---- where no number is too large, the bytes are the field

bounded_same : (e : Expr) → large e ≡ false → bounded e ≡ e
unfolding bounded large
bounded_same (con n) h = let q : capped n ≡ n = rw (lt-ltb n 2147483648 (omega (arith, ltb-false 2147483647 n h))) in ap con q
bounded_same (name i) h = refl
bounded_same (app1 f a) h = ap (app1 f) (bounded_same a h)
bounded_same (app2 f a b) h = let z = neither (large a) (large b) h in rw (bounded_same a z.0, bounded_same b z.1)
bounded_same (app3 f a b c) h =
    let z = neither (large a) (pick (large b) true (large c)) h in
    let y = neither (large b) (large c) z.1 in
    rw (bounded_same a z.0, bounded_same b y.0, bounded_same c y.1)

bytes_same : (e : Expr) → large e ≡ false → expression_bytes e ≡ formula_field e
unfolding expression_bytes
bytes_same e h = ap (λ (x : Expr). formula_field x) (bounded_same e h)

unless_large : (l : Bool) (d : ℕ) (v w buffer : List ℕ) → (l ≡ false → v ≡ w) → delivered l d v buffer ≡ delivered l d w buffer
unfolding delivered
unless_large true d v w buffer h = refl
unless_large false d v w buffer h = rw (h refl)

written_is : (e : Expr) (buffer : List ℕ) → delivered (large e) (nesting e) (formula_field e) buffer ≡ field_answer e buffer
unfolding delivered field_answer
written_is e buffer = refl

-- ---- from the tokens on

module _ (cs : List code.Token) (o p buffer : List ℕ) (r : Option Read) (rd : Reading 6 cs 0 0 o p r) where
  part_read : (ts : List Token) (d : Read) (g : Parsed) → Agrees ts 0 0 o p (Some d) g → d.at < length ts → answered no_formula buffer ≡ answer_to (wholly g) buffer
  part_read ts d unparsed a h = absurd (omega arith)
  part_read ts d (parsed e []) a h = let z = length-drop d.at ts in let y : 0 ≡ length (drop d.at ts) = ap length a.onward in absurd (omega arith)
  part_read ts d (parsed e (t ∷ rest)) a h = refl

  pub read_part : (d : Read) → r ≡ Some d → d.at ≤ length cs → (d.at ≡ length cs → ⊥) → Translated cs buffer (answered no_formula buffer)
  read_part d q h g ts fine x =
      let n : length cs ≡ length ts = ap length x ∙ length-map ts token_code in
      part_read ts d (read_at 6 (length ts) ts) (rw q at (rd ts fine x (length ts) (omega arith))) (omega arith)

  whole_read : (ts : List Token) (d : Read) (g : Parsed) → Agrees ts 0 0 o p (Some d) g → Sound 6 ts g → length ts ≤ d.at
      → delivered (large_tokens ts) d.depth (take d.end p) buffer ≡ answer_to (wholly g) buffer
  whole_read ts d unparsed a s h = absurd (omega arith)
  whole_read ts d (parsed e []) a s h =
      let t : ts ≡ s.taken = s.joined ∙ append-nil s.taken in
      let l : large_tokens ts ≡ large e = ap large_tokens t ∙ large_derived s.derived in
      let n : d.depth ≡ nesting e = a.nests ∙ deeper_none (nesting e) in
      rw (l, n, a.written) (unless_large (large e) (nesting e) (expression_bytes e) (formula_field e) buffer (bytes_same e) ∙ written_is e buffer)
  whole_read ts d (parsed e (t ∷ rest)) a s h =
      let z : t ∷ rest ≡ [] = a.onward ∙ drop_of_length-le ts h in
      let y : ◌≡◌ {A = ℕ} 0 1 = cc in absurd (omega arith)

  pub read_whole : (d : Read) (l : Bool) (answer : ℕ × List ℕ) → r ≡ Some d → d.at ≡ length cs → l ≡ any_large cs
      → answer ≡ delivered l d.depth (take d.end p) buffer → Translated cs buffer answer
  read_whole d l answer q h f e ts fine x =
      let n : length cs ≡ length ts = ap length x ∙ length-map ts token_code in
      let b : l ≡ large_tokens ts = f ∙ ap any_large x ∙ large_codes ts in
      e ∙ rw b
      (whole_read ts d (read_at 6 (length ts) ts) (rw q at (rd ts fine x (length ts) (omega arith))) (reads_only 6 (length ts) ts) (omega arith))

-- ---- from the text on

pub too_long : (text buffer : List ℕ) → 1024 < length text → answered no_formula buffer ≡ formula_on text buffer
unfolding formula_on
too_long text buffer h = rw (lt-ltb 1024 (length text) h)

pub no_tokens : (text buffer : List ℕ) → length text ≤ 1024 → tokens_of (length text) text ≡ none → answered no_formula buffer ≡ formula_on text buffer
unfolding formula_on read_formula
no_tokens text buffer h e = rw (le-ltb 1024 (length text) h, e)

pub from_text : (text buffer : List ℕ) (tokens : List code.Token) (n : ℕ) (answer : ℕ × List ℕ) → length text ≤ 1024 → TokensHeld text tokens n
    → Translated (take n tokens) buffer answer → answer ≡ formula_on text buffer
unfolding formula_on read_formula
from_text text buffer tokens n answer h s a =
    let m : Made text (some s.list) = rw s.all at (scans_only (length text) text) in
    a s.list (tokens_fine m) s.numbers ∙ rw (le-ltb 1024 (length text) h, s.all)
