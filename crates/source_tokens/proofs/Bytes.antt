-- The kinds of bytes by comparisons, each by computing the tests of a kind's definition.
use Rattle.lib_base.proofs.Prelude.{ℕ, ◌≡◌, refl, true, false, false≢true, ne_eqb}
use Rattle.lib_base.proofs.Tools.{split, none_of}
use Rattle.source_language.specs.Tokens.{is_digit, is_letter, in_word, in_comment}
use Rattle.text_marks.specs.Digits.{is_decimal}

-- ---- digits, which are those of a formula's numbers

pub digit_decimal : (b : ℕ) → is_decimal b ≡ is_digit b
unfolding is_decimal is_digit
digit_decimal b = refl

-- ---- bytes of a word

-- in a word and no digit: a letter; no byte of a word: neither
pub word_letter : (b : ℕ) → in_word b ≡ true → is_digit b ≡ false → is_letter b ≡ true
unfolding in_word
word_letter b h d = split (is_letter b) (λ e. e) (λ e. absurd (false≢true (rw (e, d) at h)))

pub word_none : (b : ℕ) → in_word b ≡ false → (is_letter b ≡ false) × (is_digit b ≡ false)
unfolding in_word
word_none b h = none_of (is_letter b) (is_digit b) h

-- ---- blanks and comments

pub comment_on : (b : ℕ) → (b ≡ 10 → ⊥) → in_comment b ≡ true
unfolding in_comment
comment_on b h = rw (ne_eqb b 10 h)

pub comment_ends : (b : ℕ) → b ≡ 10 → in_comment b ≡ false
unfolding in_comment
comment_ends b e = rw e
