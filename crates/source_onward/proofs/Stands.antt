-- The sign at a place by its token, and the brackets that open from a place on: each turn of the loop is one turn of
-- `from_operand` (`Opening`).
use Rattle.lib_base.proofs.Prelude.{ℕ, ◌≤◌, ◌<◌, ◌+◌, suc, ◌≡◌, refl, ◌∙◌, ap, false, List, [], ◌∷◌, length, get_or, drop}
use Rattle.lib_base.proofs.Prelude.{List·getD-eq-default, ltb, ltb-true, ltb-false, ne_eqb, add-one, lt-leb, arith}
use Rattle.lib_base.proofs.Tools.{split}
use Rattle.lib_signature.specs.Numbers.{add_fn, subtract_fn, multiply_fn, divide_fn}
use Rattle.source_language.specs.Tokens.{SheetToken, sign, marks, same, sign_of, opening, closing, end_sign, is_digit, is_letter, is_blank}
use Rattle.source_language.specs.Scanner.{begins, first_in_text}
use Rattle.source_language.specs.Text.{Phrase}
use Rattle.source_language.specs.Reader.{Phrased, place_at, sign_at, from_operand}
use Rattle.source_coding.specs.Places.{tokens_from}
use Rattle.source_tokens.specs.Token.{TokenAt, TokenWithin, TokenBegins, PassedOver, OpeningAt}
use Rattle.source_tokens.proofs.Scanned.{tokens_begin}
use Rattle.source_tokens.proofs.Opened.{bracket_none}
use Rattle.source_tokens.specs.declared.Token.{Token}
use Rattle.source_tokens.specs.declared.Token.TheVariants.{Number, Name, Sign}
use Rattle.source_onward.specs.Onward.{StandsFor, SignStands, LoneMark, BracketsOpened}

-- ---- the sign at a place by its token

pub stands : (text : List ℕ) (at : ℕ) (t : Token) (q d to : ℕ) → TokenAt text at t → TokenWithin (length text) at t → StandsFor t q d to → SignStands text at q d to
stands text at (Number p v next) q d to h b s =
    record {
      sign_is = ap sign_at h.1 ∙ omega arith;
      place_is = ap place_at h.1 ∙ omega arith;
      some = rw h.1 (omega arith);
      within = omega arith;
      behind = omega arith;
      onward = λ x y. absurd (omega arith);
      further = λ x y. absurd (omega arith);
    }
stands text at (Name p next) q d to h b s =
    record {
      sign_is = ap sign_at h ∙ omega arith;
      place_is = ap place_at h ∙ omega arith;
      some = rw h (omega arith);
      within = omega arith;
      behind = omega arith;
      onward = λ x y. absurd (omega arith);
      further = λ x y. absurd (omega arith);
    }
stands text at (Sign p c next) q d to h b s =
    let few : d < end_sign → c < end_sign = omega arith in
    record {
      sign_is = ap sign_at h ∙ omega arith;
      place_is = ap place_at h ∙ omega arith;
      some = rw h (omega arith);
      within = omega arith;
      behind = omega arith;
      onward = λ x y. h ∙ rw (lt-leb end_sign c (few y), s.0, s.1, s.2);
      further = λ x y. let z = b.3 (few y) in omega arith;
    }

-- ---- a mark that begins no longer one

plus : (p : ℕ) (bs : List ℕ) → first_in_text p 43 bs ≡ begins (sign p add_fn) bs
unfolding first_in_text is_digit is_letter sign_of marks same
plus p [] = refl
plus p (c ∷ rest) = refl

minus : (p : ℕ) (bs : List ℕ) → first_in_text p 45 bs ≡ begins (sign p subtract_fn) bs
unfolding first_in_text is_digit is_letter sign_of marks same
minus p [] = refl
minus p (c ∷ rest) = refl

times : (p : ℕ) (bs : List ℕ) → first_in_text p 42 bs ≡ begins (sign p multiply_fn) bs
unfolding first_in_text is_digit is_letter sign_of marks same
times p [] = refl
times p (c ∷ rest) = refl

slash : (p : ℕ) (bs : List ℕ) → first_in_text p 47 bs ≡ begins (sign p divide_fn) bs
unfolding first_in_text is_digit is_letter sign_of marks same
slash p [] = refl
slash p (c ∷ rest) = refl

closes : (p : ℕ) (bs : List ℕ) → first_in_text p 41 bs ≡ begins (sign p closing) bs
unfolding first_in_text is_digit is_letter sign_of marks same
closes p [] = refl
closes p (c ∷ rest) = refl

module _ (b : ℕ) where
  pub lone_plus : b ≡ 43 → LoneMark b add_fn
  lone_plus e = record { beyond = λ h. omega arith; alone = λ h. rw e plus }

  pub lone_minus : b ≡ 45 → LoneMark b subtract_fn
  lone_minus e = record { beyond = λ h. omega arith; alone = λ h. rw e minus }

  pub lone_times : b ≡ 42 → LoneMark b multiply_fn
  lone_times e = record { beyond = λ h. omega arith; alone = λ h. rw e times }

  pub lone_slash : b ≡ 47 → LoneMark b divide_fn
  lone_slash e = record { beyond = λ h. omega arith; alone = λ h. rw e slash }

  pub lone_closes : b ≡ 41 → LoneMark b closing
  lone_closes e = record { beyond = λ h. omega arith; alone = λ h. rw e closes }

  pub lone_none : LoneMark b 0
  lone_none = record { beyond = λ h. absurd (h refl); alone = λ h. absurd (h refl) }

-- no blank, no `#` and no `(` has a byte above `(`, and the end of the text has none
above_blank : (b : ℕ) → 40 < b → is_blank b ≡ false
unfolding is_blank
above_blank b h =
    rw (ne_eqb b 32 (λ e. omega arith), ne_eqb b 9 (λ e. omega arith), ne_eqb b 10 (λ e. omega arith), ne_eqb b 13 (λ e. omega arith))

pub above_begins : (text : List ℕ) (at : ℕ) → 40 < get_or text at 0 → TokenBegins text at
above_begins text at h =
    record {
      inside = split (ltb at (length text)) (λ t. ltb-true at (length text) t)
          (λ f. let d = List·getD-eq-default text 0 (ltb-false at (length text) f) in absurd (omega arith));
      no_blank = above_blank (get_or text at 0) h;
      no_comment = ne_eqb (get_or text at 0) 35 (λ e. omega arith);
    }

pub above_here : (text : List ℕ) (at : ℕ) → 40 < get_or text at 0 → PassedOver text at at
above_here text at h =
    let u = above_begins text at h in
    record { onward = omega arith; within = omega (arith, u.inside); all = refl; begun = λ l. u }

pub lone_stands : (text : List ℕ) (at c : ℕ) → TokenBegins text at → LoneMark (get_or text at 0) c → (c ≡ 0 → ⊥) → SignStands text at at c (at + 1)
lone_stands text at c u m h =
    let q : tokens_from text at ≡ sign at c ∷ tokens_from text (at + 1) = tokens_begin text at u (sign at c) (at + 1) (rw (add-one at) (m.alone h at (drop (suc at) text))) in
    record {
      sign_is = ap sign_at q;
      place_is = ap place_at q;
      some = rw q (omega arith);
      within = omega (arith, u.inside);
      behind = omega (arith, u.inside);
      onward = λ x y. q;
      further = λ x y. (omega arith, omega (arith, u.inside));
    }

-- ---- brackets

pub record Opening (text : List ℕ) (at first opened : ℕ) : Type 0 where
  pub from : at ≤ first
  pub within : first ≤ length text
  pub few : opened + at ≤ first
  pub counted : length (tokens_from text first) + opened ≡ length (tokens_from text at)
  pub whole : (next : ℕ → List SheetToken → Phrased Phrase) (room l m : ℕ)
      → from_operand next room l (m + opened) 0 (tokens_from text at) ≡ from_operand next room l m opened (tokens_from text first)

pub opening_start : (text : List ℕ) (at : ℕ) → at ≤ length text → Opening text at at 0
opening_start text at h =
    record {
      from = omega arith;
      within = h;
      few = omega arith;
      counted = omega arith;
      whole = λ next room l m. let z : m + 0 ≡ m = omega arith in rw z;
    }

one_opens : (next : ℕ → List SheetToken → Phrased Phrase) (room l m k p : ℕ) (ts us : List SheetToken) → ts ≡ sign p opening ∷ us
    → from_operand next room l (suc m) k ts ≡ from_operand next room l m (suc k) us
unfolding from_operand
one_opens next room l m k p ts us e = rw e

module _ {text : List ℕ} {at first opened : ℕ} (o : Opening text at first opened) (next : ℕ) (s : OpeningAt text first next) where
  pub opening_turn : (next ≡ 0 → ⊥) → Opening text at next (opened + 1)
  opening_turn e =
      let h = (s.opens e).1 in
      let b = s.onward e in
      let l : length (tokens_from text first) ≡ suc (length (tokens_from text next)) = ap length h in
      record {
        from = omega (arith, o.from);
        within = b.1;
        few = omega (arith, o.few);
        counted = omega (arith, o.counted);
        whole = λ go room i m.
            let z : m + (opened + 1) ≡ suc m + opened = omega arith in
            rw (z, add-one opened) (o.whole go room i (suc m) ∙ one_opens go room i m opened (s.opens e).0 (tokens_from text first) (tokens_from text next) h);
      }

  pub opening_end : next ≡ 0 → (p : ℕ) → PassedOver text first p → BracketsOpened text at p opened
  opening_end e p b =
      record {
        from = omega (arith, o.from, b.onward);
        within = b.within;
        few = omega (arith, o.few, b.onward);
        counted = rw (← b.all) o.counted;
        some = rw (← b.all) s.some;
        other = rw (← b.all) (s.other e);
        begun = record { onward = omega arith; within = b.within; all = refl; begun = b.begun };
        whole = λ go room l m. rw (← b.all) (o.whole go room l m);
      }

-- where a byte above `(` stands, none opens
pub none_opens : (text : List ℕ) (at : ℕ) → at ≤ length text → 40 < get_or text at 0 → BracketsOpened text at at 0
none_opens text at l h =
    let o = above_here text at h in
    opening_end (opening_start text at l) 0 (bracket_none text at at o (λ e. omega arith)) refl at o
