-- A byte of a word with none behind it is a whole token: a digit is its number, and any other a name, since no reserved
-- word is so short.
use Rattle.lib_base.proofs.Prelude.{ℕ, ◌≤◌, ◌<◌, ◌+◌, ◌-◌, suc, ◌≡◌, refl, ◌∙◌, ap, true, false, Bool, false≢true, List}
use Rattle.lib_base.proofs.Prelude.{[], ◌∷◌, length, get_or, drop, eqb, ltb, add-one, ne_eqb, lt-ltb, ltb-false, ltb-true}
use Rattle.lib_base.proofs.Prelude.{lt-leb, le-leb, arith}
use Rattle.lib_base.proofs.Tools.{split}
use Rattle.text_formula.specs.Tokens.{decimal_value}
use Rattle.source_language.specs.Tokens.{Spelling, spelled, number, name, reserved, same, sign_of, is_digit, is_letter, in_word, is_blank}
use Rattle.source_language.specs.Scanner.{begins, first_in_text, run_of_kind, beyond_run}
use Rattle.source_coding.specs.Places.{name_at}
use Rattle.source_tokens.specs.Token.{TokenAt, TokenWithin, TokenBegins}
use Rattle.source_tokens.specs.declared.Token.TheVariants.{Number, Name}
use Rattle.source_tokens.proofs.Bytes.{word_letter, word_none}
use Rattle.source_tokens.proofs.Runs.{run_ends, run_out, run_past}
use Rattle.source_tokens.proofs.Scanned.{tokens_begin}
use Rattle.source_names.proofs.Laws.{word_inside, name_goes, name_stops}

-- ---- no reserved word has one byte

same_one : (b c d : ℕ) (s : List ℕ) → same (b ∷ []) (c ∷ d ∷ s) ≡ false
unfolding same
same_one b c d s = split (eqb b c) (λ e. rw e refl) (λ e. rw e refl)

abbrev LongRows : List Spelling → Type 0
LongRows [] = Unit {0}
LongRows (spelled [] n ∷ rows) = ⊥
LongRows (spelled (c ∷ []) n ∷ rows) = ⊥
LongRows (spelled (c ∷ d ∷ s) n ∷ rows) = LongRows rows

none_long : (b : ℕ) (rows : List Spelling) → LongRows rows → sign_of (b ∷ []) rows ≡ 0
unfolding sign_of
none_long b [] h = refl
none_long b (spelled [] n ∷ rows) h = absurd h
none_long b (spelled (c ∷ []) n ∷ rows) h = absurd h
none_long b (spelled (c ∷ d ∷ s) n ∷ rows) h = rw (same_one b c d s) (none_long b rows h)

none_reserved : (b : ℕ) → sign_of (b ∷ []) reserved ≡ 0
unfolding reserved
none_reserved b = none_long b reserved tt

-- ---- bytes of a word

pub word_low : (b : ℕ) → in_word b ≡ true → 48 ≤ b
unfolding in_word is_letter is_digit
word_low b e =
    split (ltb b 48)
    (λ t. let l = ltb-true b 48 t in
    absurd (false≢true (rw (lt-leb 48 b l, lt-leb 65 b (omega arith), lt-leb 97 b (omega arith), ne_eqb b 95 (λ z. omega arith)) at e)))
    (λ f. ltb-false b 48 f)

digit_low : (b : ℕ) → 48 ≤ b → b ≤ 57 → is_digit b ≡ true
unfolding is_digit
digit_low b h g = rw (le-leb 48 b h, le-leb b 57 g)

digit_high : (b : ℕ) → 48 ≤ b → 57 < b → is_digit b ≡ false
unfolding is_digit
digit_high b h g = rw (le-leb 48 b h, lt-leb b 57 g)

no_blank : (b : ℕ) → 48 ≤ b → is_blank b ≡ false
unfolding is_blank
no_blank b h = rw (ne_eqb b 32 (λ z. omega arith), ne_eqb b 9 (λ z. omega arith), ne_eqb b 10 (λ z. omega arith), ne_eqb b 13 (λ z. omega arith))

one_digit : (b : ℕ) → decimal_value 0 (b ∷ []) ≡ b - 48
unfolding decimal_value
one_digit b = omega arith

-- ---- the token

module _ (text : List ℕ) (at : ℕ) (e : in_word (get_or text at 0) ≡ true) (f : in_word (get_or text (at + 1) 0) ≡ false) where
  low : 48 ≤ get_or text at 0
  low = word_low (get_or text at 0) e

  begun : TokenBegins text at
  begun =
      record {
        inside = word_inside text at e;
        no_blank = no_blank (get_or text at 0) low;
        no_comment = ne_eqb (get_or text at 0) 35 (λ z. omega (arith, low));
      }

  no_more : (kind : ℕ → Bool) → kind (get_or text (at + 1) 0) ≡ false → run_of_kind kind (drop (suc at) text) ≡ []
  no_more kind g =
      split (ltb (suc at) (length text)) (λ t. run_ends kind text (suc at) (ltb-true (suc at) (length text) t) (rw (add-one at) at g))
      (λ n. run_out kind text (suc at) (ltb-false (suc at) (length text) n))

  all_beyond : (kind : ℕ → Bool) → kind (get_or text (at + 1) 0) ≡ false → beyond_run kind (drop (suc at) text) ≡ drop (at + 1) text
  all_beyond kind g =
      rw (add-one at) (run_past kind text (suc at) (suc at) (rw (no_more kind g) (omega arith)))

  pub short_number : (b : ℕ) → b ≡ get_or text at 0 → b ≤ 57 → TokenAt text at (Number at (b - 48) (at + 1)) × TokenWithin (length text) at (Number at (b - 48) (at + 1))
  unfolding first_in_text
  short_number b is h =
      let g : get_or text at 0 ≤ 57 = omega arith in
      let d = (word_none (get_or text (at + 1) 0) f).1 in
      let q : first_in_text at (get_or text at 0) (drop (suc at) text) ≡ begins (number at (b - 48)) (drop (at + 1) text)
      = rw (digit_low (get_or text at 0) low g, no_more is_digit d, all_beyond is_digit d, one_digit (get_or text at 0), is) refl in
      let k : b - 48 < 2147483649 = omega arith in (
        (b - 48, tokens_begin text at begun (number at (b - 48)) (at + 1) q, rw (lt-ltb (b - 48) 2147483649 k) refl),
        (omega arith, omega arith, omega (arith, begun.inside), omega (arith, k)),
      )

  pub short_name : 57 < get_or text at 0 → TokenAt text at (Name at (at + 1)) × TokenWithin (length text) at (Name at (at + 1))
  unfolding first_in_text
  short_name h =
      let d = digit_high (get_or text at 0) low h in
      let n : name_at text at ≡ get_or text at 0 ∷ [] = name_goes text at e ∙ ap (λ (s : List ℕ). get_or text at 0 ∷ s) (name_stops text (at + 1) f) in
      let q : first_in_text at (get_or text at 0) (drop (suc at) text) ≡ begins (name at (name_at text at)) (drop (at + 1) text)
      = rw (d, word_letter (get_or text at 0) e d, no_more in_word f, all_beyond in_word f, none_reserved (get_or text at 0), n) refl in
      (tokens_begin text at begun (name at (name_at text at)) (at + 1) q, (omega arith, omega arith, omega (arith, begun.inside)))
