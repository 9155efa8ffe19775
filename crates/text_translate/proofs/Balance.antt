-- A text whose brackets do not match is no formula: in what the grammar derives they match, by induction on the
-- derivation, whatever stands behind it and however many are open before it (`even_derived`).
use Rattle.lib_base.proofs.Prelude.{ℕ, zero, suc, ◌≤◌, ◌<◌, ◌+◌, ◌-◌, ◌≡◌, refl, ◌∙◌, sym, ap, true, false, Bool, true≢false}
use Rattle.lib_base.proofs.Prelude.{List, [], ◌∷◌, ◌++◌, map, append_assoc, append-nil, length, get_or, drop}
use Rattle.lib_base.proofs.Prelude.{drop_of_length-le, drop-cons, eqb, add-one, ne_eqb, arith}
use Rattle.lib_base.specs.Basics.{pick}
use Rattle.lib_signature.specs.Numbers.{not_fn, if_fn}
use Rattle.spec_language.specs.Syntax.{Expr}
use Rattle.spec_language.specs.Refusals.{no_formula}
use Rattle.text_formula.specs.Tokens.{Token, number, behaviour, function, opening, closing, comma}
use Rattle.text_formula.specs.Grammar.{Derives, tighter, two_sided, negated, a_number, a_name, bracketed, choice}
use Rattle.text_formula.specs.Reader.{Parsed, unparsed, parsed, wholly, read_at}
use Rattle.text_formula.specs.Answer.{answered}
use Rattle.text_formula.specs.Formula.{answer_to}
use Rattle.text_formula.proofs.Parses.{Sound, reads_only}
use Rattle.text_formula.specs.declared.tokens.Token as code
use Rattle.text_formula.specs.declared.tokens.Token.TheVariants.{Number, Name, Function, Opening, Closing, Comma}
use Rattle.text_lexer.specs.Codes.{token_code}
use Rattle.text_translate.specs.Translate.{open_after, balanced_from, Translated}

-- ---- the loop over the code's tokens

-- one closed too many is never made up for
pub closed_early : (ts : List code.Token) → balanced_from 0 ts ≡ false
unfolding balanced_from
closed_early [] = refl
closed_early (t ∷ ts) = refl

one_more : (n : ℕ) → eqb n 0 ≡ eqb (n + 1) 1
one_more zero = refl
one_more (suc n) = rw (ne_eqb (suc n) 0 (omega arith), ne_eqb (suc n + 1) 1 (omega arith))

pub all_passed : (ts : List code.Token) (n i : ℕ) → length ts ≤ i → eqb n 0 ≡ balanced_from (n + 1) (drop i ts)
unfolding balanced_from
all_passed ts n i h = rw (drop_of_length-le ts h) (one_more n)

module _ (ts : List code.Token) (n i : ℕ) (d : code.Token) (h : i < length ts) where
  one_on : balanced_from (n + 1) (drop i ts) ≡ balanced_from (open_after (n + 1) (get_or ts i d)) (drop (i + 1) ts)
  unfolding balanced_from
  one_on = rw (drop-cons ts i d h, add-one i, ne_eqb (n + 1) 0 (omega arith))

  pub one_early : get_or ts i d ≡ Closing → n ≡ 0 → false ≡ balanced_from (n + 1) (drop i ts)
  one_early e z = sym (one_on ∙ rw (e, z) (closed_early (drop (i + 1) ts)))

  pub one_opens : get_or ts i d ≡ Opening → balanced_from (n + 1 + 1) (drop (i + 1) ts) ≡ balanced_from (n + 1) (drop i ts)
  one_opens e = sym (one_on ∙ rw e)

  pub one_closes : get_or ts i d ≡ Closing → (n ≡ 0 → ⊥) → balanced_from (n - 1 + 1) (drop (i + 1) ts) ≡ balanced_from (n + 1) (drop i ts)
  one_closes e z = sym (one_on ∙ rw e (ap (λ (m : ℕ). balanced_from m (drop (i + 1) ts)) (omega arith)))

  pub one_other : (get_or ts i d ≡ Opening → ⊥) → (get_or ts i d ≡ Closing → ⊥) → balanced_from (n + 1) (drop (i + 1) ts) ≡ balanced_from (n + 1) (drop i ts)
  one_other o c = sym (one_on ∙ ap (λ (m : ℕ). balanced_from m (drop (i + 1) ts)) (stays (get_or ts i d) o c))
    where
      stays : (t : code.Token) → (t ≡ Opening → ⊥) → (t ≡ Closing → ⊥) → open_after (n + 1) t ≡ n + 1
      stays (Number v) o c = refl
      stays (Name j) o c = refl
      stays (Function f) o c = refl
      stays Opening o c = absurd (o refl)
      stays Closing o c = absurd (c refl)
      stays Comma o c = refl

-- what the loop's goals need
pub ruleset brackets = (one_early, one_opens, one_closes, one_other, all_passed)

-- ---- by tokens

opens : ℕ → Token → ℕ
opens n (number m) = n
opens n (behaviour i) = n
opens n (function f) = n
opens n opening = n + 1
opens n closing = n - 1
opens n comma = n

even_from : ℕ → List Token → Bool
even_from n [] = eqb n 1
even_from n (t ∷ ts) = pick (eqb n 0) false (even_from (opens n t) ts)

opens_code : (n : ℕ) (t : Token) → open_after n (token_code t) ≡ opens n t
unfolding opens
opens_code n (number m) = refl
opens_code n (behaviour i) = refl
opens_code n (function f) = refl
opens_code n opening = refl
opens_code n closing = refl
opens_code n comma = refl

even_codes : (n : ℕ) (ts : List Token) → balanced_from n (map token_code ts) ≡ even_from n ts
unfolding balanced_from even_from
even_codes n [] = refl
even_codes n (t ∷ ts) = rw (opens_code n t, even_codes (opens n t) ts)

-- ---- what is derived is balanced

step : (n : ℕ) (t : Token) (rest : List Token) → 0 < n → even_from n (t ∷ rest) ≡ even_from (opens n t) rest
unfolding even_from
step n t rest h = rw (ne_eqb n 0 (omega arith))

-- a closing bracket after one more was open
closes : (n : ℕ) (rest : List Token) → even_from (n + 1) (closing ∷ rest) ≡ even_from n rest
unfolding opens
closes n rest = step (n + 1) closing rest (omega arith) ∙ ap (λ (m : ℕ). even_from m rest) (omega arith)

even_derived : {l : ℕ} {ts : List Token} {e : Expr} → Derives l ts e → (n : ℕ) (rest : List Token) → 0 < n → even_from n (ts ++ rest) ≡ even_from n rest
unfolding opens
even_derived (tighter d) n rest h = even_derived d n rest h
even_derived (two_sided {l} {f} {ts} {us} o p q) n rest h =
    ap (even_from n) (append_assoc ts (function f ∷ us) rest)
    ∙ even_derived p n (function f ∷ (us ++ rest)) h ∙ step n (function f) (us ++ rest) h ∙ even_derived q n rest h
even_derived (negated {ts} d) n rest h = step n (function not_fn) (ts ++ rest) h ∙ even_derived d n rest h
even_derived (a_number {n}) b rest h = step b (number n) rest h
even_derived (a_name {i}) n rest h = step n (behaviour i) rest h
even_derived (bracketed {ts} d) n rest h =
    step n opening ((ts ++ (closing ∷ [])) ++ rest) h ∙ ap (even_from (n + 1)) (append_assoc ts (closing ∷ []) rest)
    ∙ even_derived d (n + 1) (closing ∷ rest) (omega arith) ∙ closes n rest
even_derived (choice {ts} {us} {vs} p q r) n rest h =
    let k : List Token = vs ++ (closing ∷ []) in
    let j : List Token = us ++ (comma ∷ k) in
    step n (function if_fn) (opening ∷ ((ts ++ (comma ∷ j)) ++ rest)) h ∙ step n opening ((ts ++ (comma ∷ j)) ++ rest) h
    ∙ ap (even_from (n + 1)) (append_assoc ts (comma ∷ j) rest)
    ∙ even_derived p (n + 1) (comma ∷ (j ++ rest)) (omega arith) ∙ step (n + 1) comma (j ++ rest) (omega arith)
    ∙ ap (even_from (n + 1)) (append_assoc us (comma ∷ k) rest)
    ∙ even_derived q (n + 1) (comma ∷ (k ++ rest)) (omega arith) ∙ step (n + 1) comma (k ++ rest) (omega arith)
    ∙ ap (even_from (n + 1)) (append_assoc vs (closing ∷ []) rest)
    ∙ even_derived r (n + 1) (closing ∷ rest) (omega arith) ∙ closes n rest

even_whole : {ts : List Token} {e : Expr} → Derives 6 ts e → even_from 1 ts ≡ true
unfolding even_from
even_whole {ts} d = ap (even_from 1) (sym (append-nil ts)) ∙ even_derived d 1 [] (omega arith)

-- ---- so others are turned down

uneven : (buffer : List ℕ) (ts : List Token) (g : Parsed) → Sound 6 ts g → even_from 1 ts ≡ false → answered no_formula buffer ≡ answer_to (wholly g) buffer
uneven buffer ts unparsed s h = refl
uneven buffer ts (parsed e []) s h =
    let t : ts ≡ s.taken = s.joined ∙ append-nil s.taken in
    let b : even_from 1 ts ≡ true = ap (even_from 1) t ∙ even_whole s.derived in
    absurd (true≢false (sym b ∙ h))
uneven buffer ts (parsed e (t ∷ rest)) s h = refl

pub unbalanced : (cs : List code.Token) (buffer : List ℕ) (b : Bool) → b ≡ balanced_from 1 cs → b ≡ false → Translated cs buffer (answered no_formula buffer)
unbalanced cs buffer b e f ts fine x =
    uneven buffer ts (read_at 6 (length ts) ts) (reads_only 6 (length ts) ts)
    (sym (even_codes 1 ts) ∙ ap (balanced_from 1) (sym x) ∙ sym e ∙ f)
