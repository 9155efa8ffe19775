-- What the scanner's answers say of the text: which token stands there, and where the tokens behind it begin.
use Rattle.std.specs.Prelude.{ℕ, ◌≤◌, ◌<◌, false, ◌≡◌, ◌≢◌, List, [], ◌∷◌, length, get_or, ltb, leb, eqb}
use Rattle.lib_base.specs.Basics.{pick}
use Rattle.source_language.specs.Tokens.{number, name, sign, opening, is_blank, end_sign, stray_sign}
use Rattle.source_language.specs.Reader.{sign_at}
use Rattle.source_coding.specs.Places.{tokens_from, name_at}
use Rattle.source_tokens.specs.declared.Token.{Token}
use Rattle.source_tokens.specs.declared.Token.TheVariants.{Number, Name, Sign}

-- numbers above 2 ^ 31 are all alike: they are turned down
abbrev pub capped_at : ℕ → ℕ
capped_at n = pick (ltb n 2147483649) n 2147483649

-- where it stands
abbrev pub place_of_token : Token → ℕ
place_of_token (Number p v next) = p
place_of_token (Name p next) = p
place_of_token (Sign p c next) = p

-- a token's place, and what it is; behind the end of the text or a stray byte there are none
abbrev pub TokenAt : List ℕ → ℕ → Token → Type 0
TokenAt text at (Number p v next) = (n : ℕ) × (tokens_from text at ≡ number p n ∷ tokens_from text next) × (v ≡ capped_at n)
TokenAt text at (Name p next) = tokens_from text at ≡ name p (name_at text p) ∷ tokens_from text next
TokenAt text at (Sign p c next) = tokens_from text at ≡ sign p c ∷ pick (leb end_sign c) [] (tokens_from text next)

-- it stands at `at` or later in a text of so many bytes, and takes some of them, but for the end and a stray byte
abbrev pub TokenWithin : ℕ → ℕ → Token → Type 0
TokenWithin long at (Number p v next) = (at ≤ p) × (p < next) × (next ≤ long) × (v ≤ 2147483649)
TokenWithin long at (Name p next) = (at ≤ p) × (p < next) × (next ≤ long)
TokenWithin long at (Sign p c next) = (at ≤ p) × (p ≤ next) × (next ≤ long) × (c < end_sign → p < next) × (1 ≤ c) × (c ≤ stray_sign)

-- what is not passed over begins here
pub record TokenBegins (text : List ℕ) (at : ℕ) : Type 0 where
  pub inside : at < length text
  pub no_blank : is_blank (get_or text at 0) ≡ false
  pub no_comment : eqb (get_or text at 0) 35 ≡ false

-- from `at` to `next` there are only blanks and comments, and `next` is the text's end or a token's beginning
pub record PassedOver (text : List ℕ) (at next : ℕ) : Type 0 where
  pub onward : at ≤ next
  pub within : next ≤ length text
  pub all : tokens_from text at ≡ tokens_from text next
  pub begun : next < length text → TokenBegins text next

-- `next` is behind an opening bracket that is the first token from `at` on; it is 0 where another token is
pub record OpeningAt (text : List ℕ) (at next : ℕ) : Type 0 where
  pub opens : (next ≡ 0 → ⊥) → (p : ℕ) × (tokens_from text at ≡ sign p opening ∷ tokens_from text next)
  pub onward : (next ≡ 0 → ⊥) → (at < next) × (next ≤ length text)
  pub other : next ≡ 0 → sign_at (tokens_from text at) ≢ opening
  pub some : 0 < length (tokens_from text at)
