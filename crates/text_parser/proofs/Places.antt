-- A place of the code's tokens is one of the tokens.
use Rattle.lib_base.proofs.Prelude.{ℕ, ◌≤◌, ◌<◌, ◌+◌, suc, zero, ◌≡◌, refl, ◌∙◌, sym, ap, List, [], ◌∷◌, map}
use Rattle.lib_base.proofs.Prelude.{length, drop, drop_of_length-le, length-map, eqb, add-one, eqb-true, eq-eqb, ne_eqb, arith}
use Rattle.std.specs.Prelude.{Option, Some, None, slice_get}
use Rattle.lib_base.specs.Basics.{pick, All}
use Rattle.lib_base.proofs.Tools.{split}
use Rattle.text_formula.specs.Tokens.{Token, number, behaviour, function, opening, closing, comma}
use Rattle.text_formula.specs.InRange.{InRange}
use Rattle.text_formula.specs.Reader.{level_of, operator_of, bracket_of}
use Rattle.text_formula.specs.declared.tokens.Token as code
use Rattle.text_lexer.specs.Codes.{token_code}
use Rattle.text_phrase.specs.Phrase.{operator_code, operator_in, mark_code, bracket_at}

-- ---- the tokens' levels and marks

-- the operator of a level that a token is
abbrev pub operator_by : ℕ → Token → Option ℕ
operator_by l t = pick (eqb (level_of t) l) (Some (operator_of t)) None

operator_code_law : (l : ℕ) → 0 < l → (t : Token) → operator_code l (token_code t) ≡ operator_by l t
operator_code_law l h (number n) = rw (ne_eqb 0 l (omega arith))
operator_code_law l h (behaviour i) = rw (ne_eqb 0 l (omega arith))
operator_code_law l h (function f) = refl
operator_code_law l h opening = rw (ne_eqb 0 l (omega arith))
operator_code_law l h closing = rw (ne_eqb 0 l (omega arith))
operator_code_law l h comma = rw (ne_eqb 0 l (omega arith))

mark_code_law : (t : Token) → mark_code (token_code t) ≡ bracket_of t
mark_code_law (number n) = refl
mark_code_law (behaviour i) = refl
mark_code_law (function f) = refl
mark_code_law opening = refl
mark_code_law closing = refl
mark_code_law comma = refl

-- the token at a place
pub record Here (ts : List Token) (cs : List code.Token) (at : ℕ) : Type 0 where
  pub token : Token
  pub code_is : slice_get cs at ≡ Some (token_code token)
  pub onward : drop at ts ≡ token ∷ drop (at + 1) ts
  pub fine : InRange token
  pub operator_is : (l : ℕ) → 0 < l → operator_in cs at l ≡ operator_by l token
  pub mark_is : bracket_at cs at ≡ bracket_of token

record There (ts : List Token) (at : ℕ) : Type 0 where
  pub token : Token
  pub code_is : slice_get (map token_code ts) at ≡ Some (token_code token)
  pub onward : drop at ts ≡ token ∷ drop (suc at) ts
  pub fine : InRange token

there : (ts : List Token) → All InRange ts → (at : ℕ) → at < length ts → There ts at
there [] h at g = absurd (omega arith)
there (t ∷ ts) h zero g = record { token = t; code_is = refl; onward = refl; fine = h.0 }
there (t ∷ ts) h (suc at) g = let r = there ts h.1 at (omega arith) in record { token = r.token; code_is = r.code_is; onward = r.onward; fine = r.fine }

pub here : (ts : List Token) (cs : List code.Token) → All InRange ts → cs ≡ map token_code ts → (at : ℕ) → at < length cs → Here ts cs at
unfolding operator_in bracket_at
here ts cs h e at g =
    let l : length cs ≡ length ts = ap length e ∙ length-map ts token_code in
    let r = there ts h at (omega arith) in
    let n : slice_get cs at ≡ Some (token_code r.token) = ap (λ (x : List code.Token). slice_get x at) e ∙ r.code_is in
    record {
      token = r.token;
      code_is = n;
      onward = rw (add-one at) r.onward;
      fine = r.fine;
      operator_is = λ l h. rw n (operator_code_law l h r.token);
      mark_is = rw n (mark_code_law r.token);
    }

-- past the last there is none
pub nowhere : (ts : List Token) (cs : List code.Token) → cs ≡ map token_code ts → (at : ℕ) → length cs ≤ at → drop at ts ≡ []
nowhere ts cs e at g = let l : length cs ≡ length ts = ap length e ∙ length-map ts token_code in let h : length ts ≤ at = omega arith in drop_of_length-le ts h

none_beyond : (cs : List code.Token) (at : ℕ) → length cs ≤ at → slice_get cs at ≡ None
none_beyond [] at h = refl
none_beyond (c ∷ cs) zero h = absurd (omega arith)
none_beyond (c ∷ cs) (suc at) h = none_beyond cs at (omega arith)

pub no_mark : (cs : List code.Token) (at : ℕ) → length cs ≤ at → bracket_at cs at ≡ 0
unfolding bracket_at
no_mark cs at h = rw (none_beyond cs at h)

-- the operator of a level at a place, and that there is none
pub operator_some : {r : Option ℕ} (ts : List Token) (cs : List code.Token) (at l f : ℕ) (h : Here ts cs at) → 0 < l → r ≡ operator_in cs at l → r ≡ Some f
    → (level_of h.token ≡ l) × (f ≡ operator_of h.token)
operator_some {r} ts cs at l f h g p q =
    let found : operator_by l h.token ≡ Some f = sym (h.operator_is l g) ∙ sym p ∙ q in
    split (eqb (level_of h.token) l)
    (λ e. let x = rw e at found in let y : operator_of h.token ≡ f = cc in (eqb-true (level_of h.token) l e, sym y))
    (λ e. let x = rw e at found in let z : ◌≡◌ {A = ℕ} 0 1 = cc in absurd (omega arith))

pub operator_none : {r : Option ℕ} (ts : List Token) (cs : List code.Token) (at l : ℕ) (h : Here ts cs at) → 0 < l → r ≡ operator_in cs at l → r ≡ None
    → level_of h.token ≡ l → ⊥
operator_none {r} ts cs at l h g p q e =
    let found : operator_by l h.token ≡ None = sym (h.operator_is l g) ∙ sym p ∙ q in
    let x = rw (eq-eqb (level_of h.token) l e) at found in
    let z : ◌≡◌ {A = ℕ} 0 1 = cc in omega arith
