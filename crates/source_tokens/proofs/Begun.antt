-- The token that begins at a place, for each kind of first byte: what stands there, and where the rest begins.
use Rattle.lib_base.proofs.Prelude.{ℕ, ◌≤◌, ◌<◌, ◌+◌, ◌-◌, suc, zero, ◌≡◌, refl, ◌∙◌, sym, ap, true, false, List, []}
use Rattle.lib_base.proofs.Prelude.{◌∷◌, length, get_or, take, drop, length-drop, get_or-drop, drop-drop, eqb, ltb, leb}
use Rattle.lib_base.proofs.Prelude.{add-one, ne_eqb, eqb-true, eq-eqb, ltb-false, ltb-true, lt-leb, le-leb, arith}
use Rattle.lib_base.specs.Basics.{pick}
use Rattle.lib_base.proofs.Tools.{split}
use Rattle.text_formula.specs.Tokens.{decimal_value}
use Rattle.text_marks.specs.Digits.{is_decimal, leading_digits}
use Rattle.source_language.specs.Tokens.{SheetToken, number, name, sign, row_word, end_sign, stray_sign, marks, reserved, sign_of, is_digit, in_word, is_blank, in_comment}
use Rattle.source_language.specs.Scanner.{run_of_kind, FirstInText, nothing, begins, short_mark, mark_at, long_word, first_in_text, scan_on}
use Rattle.source_coding.specs.Places.{tokens_from, name_at}
use Rattle.source_tokens.specs.Token.{capped_at, TokenAt, TokenWithin, TokenBegins, PassedOver}
use Rattle.source_tokens.specs.declared.Token.{Token}
use Rattle.source_tokens.specs.declared.Token.TheVariants.{Number, Name, Sign}
use Rattle.source_tokens.proofs.Bytes.{word_letter, word_none}
use Rattle.source_tokens.proofs.Runs.{run_taken, run_here, run_past, run_within}
use Rattle.source_tokens.proofs.Rows.{zero_none, mark_below, word_below}
use Rattle.source_tokens.proofs.Scanned.{tokens_end, tokens_blank, tokens_comment, tokens_first, tokens_begin, tokens_stray}

-- ---- a number

-- the digits of a formula's numbers
digits_run : (bs : List ℕ) → leading_digits bs ≡ run_of_kind is_digit bs
unfolding leading_digits is_decimal run_of_kind is_digit
digits_run [] = refl
digits_run (b ∷ bs) = rw (digits_run bs)

module _ (text : List ℕ) (at : ℕ) (u : TokenBegins text at) (e : is_digit (get_or text at 0) ≡ true) where
  number_first : (r : ℕ) → r ≡ at + length (run_of_kind is_digit (drop at text))
      → first_in_text at (get_or text at 0) (drop (suc at) text) ≡ begins (number at (decimal_value 0 (run_of_kind is_digit (drop at text)))) (drop r text)
  unfolding first_in_text
  number_first r q =
      let h = run_here is_digit text at u.inside e in
      let p = run_past is_digit text (suc at) r (rw h at q ∙ omega arith) in
      rw (e, h, p)

  pub number_begins : (v i : ℕ) → v ≡ capped_at (decimal_value 0 (leading_digits (drop at text))) → v ≤ 2147483649
      → i ≡ at + length (leading_digits (drop at text)) → TokenAt text at (Number at v i) × TokenWithin (length text) at (Number at v i)
  number_begins v i p m z =
      let q : i ≡ at + length (run_of_kind is_digit (drop at text)) = rw (digits_run (drop at text)) at z in
      let h = run_here is_digit text at u.inside e in
      let l = run_within is_digit text at i (omega (arith, u.inside)) q in (
        (
          decimal_value 0 (run_of_kind is_digit (drop at text)),
          tokens_begin text at u (number at (decimal_value 0 (run_of_kind is_digit (drop at text)))) i (number_first i q),
          rw (digits_run (drop at text)) at p,
        ),
        (omega arith, omega (arith, ap length h), l.1, m),
      )

-- a sign of a token is none that ends a text
sign_goes : (c : ℕ) (us vs : List SheetToken) → c ≤ row_word → us ≡ vs → us ≡ pick (leb end_sign c) [] vs
sign_goes c us vs h e = rw (lt-leb end_sign c (omega arith)) e

-- ---- a word

module _ (text : List ℕ) (at next : ℕ) (u : TokenBegins text at) (e : in_word (get_or text at 0) ≡ true) (d : is_digit (get_or text at 0) ≡ false)
    (q : next ≡ at + length (run_of_kind in_word (drop at text))) where
  word_first : first_in_text at (get_or text at 0) (drop (suc at) text) ≡ long_word at (name_at text at) (drop next text)
  unfolding first_in_text name_at
  word_first =
      let h = run_here in_word text at u.inside e in
      let p = run_past in_word text (suc at) next (rw h at q ∙ omega arith) in
      rw (d, word_letter (get_or text at 0) e d, h, p)

  pub word_length : length (name_at text at) ≡ next - at
  unfolding name_at
  word_length = omega arith

  pub word_bounds : (at < next) × (next ≤ length text)
  word_bounds =
      let h = run_here in_word text at u.inside e in
      let l = run_within in_word text at next (omega (arith, u.inside)) q in
      (omega (arith, ap length h), l.1)

  pub word_stray : (n : ℕ) → n ≡ next - at → 32 < n → TokenAt text at (Sign at stray_sign at) × TokenWithin (length text) at (Sign at stray_sign at)
  word_stray n p h =
      let l : 32 < length (name_at text at) = rw word_length (omega arith) in (
        tokens_stray text at u (word_first ∙ rw (lt-leb (length (name_at text at)) 32 l)),
        (omega arith, omega arith, omega (arith, u.inside), λ z. absurd (omega arith), omega arith, omega arith),
      )

  word_spelled : (n : ℕ) → n ≡ next - at → name_at text at ≡ take n (drop at text)
  unfolding name_at
  word_spelled n p = let l : length (run_of_kind in_word (drop at text)) ≡ n = omega arith in run_taken in_word (drop at text) ∙ rw l

  word_begins : (n : ℕ) → n ≡ next - at → n ≤ 32 → (t : SheetToken)
      → pick (eqb (sign_of (name_at text at) reserved) 0) (name at (name_at text at)) (sign at (sign_of (name_at text at) reserved)) ≡ t
      → tokens_from text at ≡ t ∷ tokens_from text next
  word_begins n p h t z =
      let l : length (name_at text at) ≤ 32 = rw word_length (omega arith) in
      tokens_begin text at u t next (word_first ∙ rw (le-leb (length (name_at text at)) 32 l, z))

  pub word_name : (n c : ℕ) → n ≡ next - at → n ≤ 32 → c ≡ sign_of (take n (drop at text)) reserved → c ≡ 0
      → TokenAt text at (Name at next) × TokenWithin (length text) at (Name at next)
  word_name n c p h z o =
      let k : sign_of (name_at text at) reserved ≡ 0 = rw (word_spelled n p) (sym z ∙ o) in
      (word_begins n p h (name at (name_at text at)) (rw k), (omega arith, word_bounds.0, word_bounds.1))

  pub word_sign : (n c : ℕ) → n ≡ next - at → n ≤ 32 → c ≡ sign_of (take n (drop at text)) reserved → (c ≡ 0 → ⊥)
      → TokenAt text at (Sign at c next) × TokenWithin (length text) at (Sign at c next)
  word_sign n c p h z o =
      let k : sign_of (name_at text at) reserved ≡ c = rw (word_spelled n p) (sym z) in
      let m : c ≤ row_word = rw z (word_below (take n (drop at text))) in (
        word_begins n p h (sign at c) (rw (k, ne_eqb c 0 o)) ∙ ap (λ (l : List SheetToken). sign at c ∷ l) (sign_goes c (tokens_from text next) (tokens_from text next) m refl),
        (omega arith, omega (arith, word_bounds.0), word_bounds.1, λ t. word_bounds.0, omega arith, omega arith),
      )

-- ---- a mark

long_begins : (p b l : ℕ) (bs : List ℕ) → l ≡ sign_of (b ∷ get_or bs 0 0 ∷ []) marks → (l ≡ 0 → ⊥) → (mark_at p b bs ≡ begins (sign p l) (drop 1 bs)) × (1 ≤ length bs)
long_begins p b l [] e h = absurd (h (e ∙ zero_none b))
long_begins p b l (c ∷ rest) e h = (rw (← e, ne_eqb l 0 h), omega arith)

short_begins : (p b : ℕ) (bs : List ℕ) → sign_of (b ∷ get_or bs 0 0 ∷ []) marks ≡ 0 → mark_at p b bs ≡ short_mark p b bs
short_begins p b [] e = refl
short_begins p b (c ∷ rest) e = rw e

module _ (text : List ℕ) (at l k : ℕ) (u : TokenBegins text at) (e : in_word (get_or text at 0) ≡ false) (k_is : k ≡ get_or text (at + 1) 0)
    (q : l ≡ sign_of (get_or text at 0 ∷ k ∷ []) marks) where
  mark_first : first_in_text at (get_or text at 0) (drop (suc at) text) ≡ mark_at at (get_or text at 0) (drop (suc at) text)
  unfolding first_in_text
  mark_first = let w = word_none (get_or text at 0) e in rw (w.1, w.0)

  behind : l ≡ sign_of (get_or text at 0 ∷ get_or (drop (suc at) text) 0 0 ∷ []) marks
  behind = let z : suc at + 0 ≡ at + 1 = omega arith in rw (get_or-drop (suc at) text 0 0, z, ← k_is) q

  pub mark_long : (l ≡ 0 → ⊥) → TokenAt text at (Sign at l (at + 2)) × TokenWithin (length text) at (Sign at l (at + 2))
  mark_long h =
      let r = long_begins at (get_or text at 0) l (drop (suc at) text) behind h in
      let m : l ≤ row_word = rw q (mark_below (get_or text at 0 ∷ k ∷ [])) in
      let z : suc at + 1 ≡ at + 2 = omega arith in (
        tokens_begin text at u (sign at l) (at + 2) (mark_first ∙ r.0 ∙ rw (drop-drop 1 (suc at) text, z))
            ∙ ap (λ (ts : List SheetToken). sign at l ∷ ts) (sign_goes l (tokens_from text (at + 2)) (tokens_from text (at + 2)) m refl),
        (omega arith, omega arith, omega (arith, r.1, length-drop (suc at) text), λ t. omega arith, omega arith, omega arith),
      )

  pub mark_short : (s : ℕ) → l ≡ 0 → s ≡ sign_of (get_or text at 0 ∷ []) marks → (s ≡ 0 → ⊥) → TokenAt text at (Sign at s (at + 1)) × TokenWithin (length text) at (Sign at s (at + 1))
  mark_short s o p h =
      let m : s ≤ row_word = rw p (mark_below (get_or text at 0 ∷ [])) in (
        tokens_begin text at u (sign at s) (at + 1) (mark_first ∙ short_begins at (get_or text at 0) (drop (suc at) text) (sym behind ∙ o) ∙ rw (← p, ne_eqb s 0 h, add-one at))
            ∙ ap (λ (ts : List SheetToken). sign at s ∷ ts) (sign_goes s (tokens_from text (at + 1)) (tokens_from text (at + 1)) m refl),
        (omega arith, omega arith, omega (arith, u.inside), λ t. omega arith, omega arith, omega arith),
      )

  pub mark_stray : (s : ℕ) → l ≡ 0 → s ≡ sign_of (get_or text at 0 ∷ []) marks → s ≡ 0 → TokenAt text at (Sign at stray_sign at) × TokenWithin (length text) at (Sign at stray_sign at)
  mark_stray s o p h = (
    tokens_stray text at u (mark_first ∙ short_begins at (get_or text at 0) (drop (suc at) text) (sym behind ∙ o) ∙ rw (← p, eq-eqb s 0 h)),
    (omega arith, omega arith, omega (arith, u.inside), λ t. absurd (omega arith), omega arith, omega arith),
  )

-- ---- blanks and comments before it

-- what the loop over them keeps
pub record PassedSoFar (text : List ℕ) (at i : ℕ) : Type 0 where
  pub onward : at ≤ i
  pub within : i ≤ length text
  pub all : tokens_from text at ≡ tokens_from text i

module _ (text : List ℕ) where
  pub pass_start : (at : ℕ) → at ≤ length text → PassedSoFar text at at
  pass_start at h = record { onward = omega arith; within = h; all = refl }

  module _ {at i : ℕ} (s : PassedSoFar text at i) where
    pub pass_blank : i < length text → is_blank (get_or text i 0) ≡ true → PassedSoFar text at (i + 1)
    pass_blank h e = record { onward = omega (arith, s.onward); within = omega arith; all = s.all ∙ tokens_blank text i h e }

    pub line_within : (r : ℕ) → i < length text → r ≡ (i + 1) + length (run_of_kind in_comment (drop (i + 1) text)) → (i < r) × (r ≤ length text)
    line_within r h q = let l = run_within in_comment text (i + 1) r (omega arith) q in (omega (arith, l.0), l.1)

    pub pass_comment : (r : ℕ) → i < length text → is_blank (get_or text i 0) ≡ false → get_or text i 0 ≡ 35
        → r ≡ (i + 1) + length (run_of_kind in_comment (drop (i + 1) text)) → PassedSoFar text at r
    pass_comment r h e d q =
        let l = line_within r h q in
        record { onward = omega (arith, s.onward, l.0); within = l.1; all = s.all ∙ tokens_comment text i h r e d q }

    pub pass_stop : i < length text → is_blank (get_or text i 0) ≡ false → (get_or text i 0 ≡ 35 → ⊥) → PassedOver text at i
    pass_stop h e d =
        record {
          onward = s.onward;
          within = s.within;
          all = s.all;
          begun = λ l. record { inside = h; no_blank = e; no_comment = ne_eqb (get_or text i 0) 35 d };
        }

    pub pass_end : length text ≤ i → PassedOver text at i
    pass_end h = record { onward = s.onward; within = s.within; all = s.all; begun = λ l. absurd (omega arith) }

  pub moved_at : (at p : ℕ) (t : Token) → PassedOver text at p → TokenAt text p t → TokenAt text at t
  moved_at at p (Number q v next) s (n, e, f) = (n, s.all ∙ e, f)
  moved_at at p (Name q next) s e = s.all ∙ e
  moved_at at p (Sign q c next) s e = s.all ∙ e

  pub moved_within : (at p : ℕ) (t : Token) → PassedOver text at p → TokenWithin (length text) p t → TokenWithin (length text) at t
  moved_within at p (Number q v next) s (a, b, c, d) = (omega (arith, s.onward), b, c, d)
  moved_within at p (Name q next) s (a, b, c) = (omega (arith, s.onward), b, c)
  moved_within at p (Sign q c next) s (a, b, d, f, g, h) = (omega (arith, s.onward), b, d, f, g, h)

  pub moved_end : (at p : ℕ) → PassedOver text at p → length text ≤ p → TokenAt text at (Sign p end_sign p) × TokenWithin (length text) at (Sign p end_sign p)
  moved_end at p s h = (
    s.all ∙ tokens_end text p (omega (arith, s.within)),
    (s.onward, omega arith, s.within, λ t. absurd (omega arith), omega arith, omega arith),
  )

-- ---- from every place on there is a token, the end of the text if no other

scan_some : (p : ℕ) (go : List ℕ → List SheetToken) (f : FirstInText) → 0 < length (scan_on p go f)
scan_some p go nothing = omega arith
scan_some p go (begins t rest) = omega arith

some_within : (text : List ℕ) (k at : ℕ) → at ≤ length text → length text - at ≤ k → 0 < length (tokens_from text at)
some_within text zero at h g = rw (tokens_end text at (omega arith)) (omega arith)
some_within text (suc k) at h g =
    split (ltb at (length text))
    (λ t. let l = ltb-true at (length text) t in
    split (is_blank (get_or text at 0))
    (λ e. rw (tokens_blank text at l e) (some_within text k (at + 1) (omega arith) (omega arith)))
    (λ e. split (eqb (get_or text at 0) 35)
    (λ d.
    let r = (at + 1) + length (run_of_kind in_comment (drop (at + 1) text)) in
    let b = run_within in_comment text (at + 1) r (omega arith) refl in
    rw (tokens_comment text at l r e (eqb-true (get_or text at 0) 35 d) refl) (some_within text k r b.1 (omega (arith, b.0))))
    (λ d.
    rw (tokens_first text at record { inside = l; no_blank = e; no_comment = d })
    (scan_some at _ (first_in_text at (get_or text at 0) (drop (suc at) text))))))
    (λ f. rw (tokens_end text at (omega (arith, ltb-false at (length text) f))) (omega arith))

pub tokens_some : (text : List ℕ) (at : ℕ) → at ≤ length text → 0 < length (tokens_from text at)
tokens_some text at h = some_within text (length text - at) at h (omega arith)
