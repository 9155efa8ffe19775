-- The tokens of a sheet's text, and how a text is made of them: docs/SHEETS.md "Tokens". Bytes are those of ASCII.
use Rattle.std.specs.Prelude.{ℕ, suc, ◌-◌, ◌≤◌, Bool, true, false, not, ◌&&◌, ◌||◌, ◌≡◌, ◌≢◌, List, [], ◌∷◌, ◌++◌, length, get_or, leb, eqb}
use Rattle.lib_base.specs.Basics.{pick, All}
use Rattle.lib_signature.specs.Signature.{Function, its_spelling, functions}
use Rattle.text_formula.specs.Tokens.{decimal_value, NotFirst}

-- each token has its place, the number of bytes before it. A number; a name; or a sign: an operator or `if` by 01's
-- function number, another mark or reserved word by a number of its own, the end of the text, or a byte where no token
-- begins
pub data SheetToken : Type 0 where
  number : ℕ → ℕ → SheetToken
  name : ℕ → List ℕ → SheetToken
  sign : ℕ → ℕ → SheetToken

-- ---- the signs beyond 01's functions, from 64 on: a function's number is below 64, so that no function moves a sign.
-- Those that can follow a whole declaration or handler have the highest numbers

abbrev pub opening : ℕ
opening = 64

abbrev pub closing : ℕ
closing = 65

abbrev pub comma : ℕ
comma = 66

abbrev pub colon : ℕ
colon = 67

abbrev pub equals : ℕ
equals = 68

abbrev pub bracket : ℕ
bracket = 69

abbrev pub unbracket : ℕ
unbracket = 70

abbrev pub rank_word : ℕ
rank_word = 71

abbrev pub from_word : ℕ
from_word = 72

abbrev pub by_word : ℕ
by_word = 73

abbrev pub nobody_word : ℕ
nobody_word = 74

abbrev pub later_word : ℕ
later_word = 75

abbrev pub seen_word : ℕ
seen_word = 76

abbrev pub on_word : ℕ
on_word = 77

abbrev pub param_word : ℕ
param_word = 78

abbrev pub event_keyword : ℕ
event_keyword = 79

abbrev pub passive_word : ℕ
passive_word = 80

abbrev pub active_word : ℕ
active_word = 81

abbrev pub row_word : ℕ
row_word = 82

-- the end of the text, and a byte where no token begins
abbrev pub end_sign : ℕ
end_sign = 83

abbrev pub stray_sign : ℕ
stray_sign = 84

-- how a sign is spelled
pub data Spelling : Type 0 where
  spelled : List ℕ → ℕ → Spelling

-- the functions' spellings, from number n on: those that a small letter begins are words, the others marks
abbrev pub is_word : List ℕ → Bool
is_word s = leb 97 (get_or s 0 0) && leb (get_or s 0 0) 122

abbrev pub function_marks : ℕ → List Function → List Spelling
function_marks n [] = []
function_marks n (f ∷ rows) = pick (is_word (its_spelling f)) [] (spelled (its_spelling f) n ∷ []) ++ function_marks (suc n) rows

abbrev pub function_words : ℕ → List Function → List Spelling
function_words n [] = []
function_words n (f ∷ rows) = pick (is_word (its_spelling f)) (spelled (its_spelling f) n ∷ []) [] ++ function_words (suc n) rows

-- "Operators, brackets and their precedence are those of 02, M-105; further tokens: `:` `=` `[` `]`."
unfoldable pub marks : List Spelling
marks =
    function_marks 1 functions
    ++ (spelled (40 ∷ []) opening
    ∷ spelled (41 ∷ []) closing
    ∷ spelled (44 ∷ []) comma
    ∷ spelled (58 ∷ []) colon
    ∷ spelled (61 ∷ []) equals
    ∷ spelled (91 ∷ []) bracket
    ∷ spelled (93 ∷ []) unbracket
    ∷ [])

-- "reserved: `param event rank from passive active row seen by nobody on later if`"
unfoldable pub reserved : List Spelling
reserved =
    spelled (112 ∷ 97 ∷ 114 ∷ 97 ∷ 109 ∷ []) param_word
    ∷ spelled (101 ∷ 118 ∷ 101 ∷ 110 ∷ 116 ∷ []) event_keyword
    ∷ spelled (114 ∷ 97 ∷ 110 ∷ 107 ∷ []) rank_word
    ∷ spelled (102 ∷ 114 ∷ 111 ∷ 109 ∷ []) from_word
    ∷ spelled (112 ∷ 97 ∷ 115 ∷ 115 ∷ 105 ∷ 118 ∷ 101 ∷ []) passive_word
    ∷ spelled (97 ∷ 99 ∷ 116 ∷ 105 ∷ 118 ∷ 101 ∷ []) active_word
    ∷ spelled (114 ∷ 111 ∷ 119 ∷ []) row_word
    ∷ spelled (115 ∷ 101 ∷ 101 ∷ 110 ∷ []) seen_word
    ∷ spelled (98 ∷ 121 ∷ []) by_word
    ∷ spelled (110 ∷ 111 ∷ 98 ∷ 111 ∷ 100 ∷ 121 ∷ []) nobody_word
    ∷ spelled (111 ∷ 110 ∷ []) on_word
    ∷ spelled (108 ∷ 97 ∷ 116 ∷ 101 ∷ 114 ∷ []) later_word
    ∷ function_words 1 functions

-- the same bytes: "upper and lower case differ"
unfoldable pub same : List ℕ → List ℕ → Bool
same [] [] = true
same [] (b ∷ m) = false
same (a ∷ l) [] = false
same (a ∷ l) (b ∷ m) = pick (eqb a b) (same l m) false

-- the sign that is spelled so; 0 for none
unfoldable pub sign_of : List ℕ → List Spelling → ℕ
sign_of w [] = 0
sign_of w (spelled s n ∷ rows) = pick (same w s) n (sign_of w rows)

-- ---- kinds of bytes

unfoldable pub is_digit : ℕ → Bool
is_digit b = leb 48 b && leb b 57

unfoldable pub is_letter : ℕ → Bool
is_letter b = (leb 65 b && leb b 90) || ((leb 97 b && leb b 122) || eqb b 95)

unfoldable pub in_word : ℕ → Bool
in_word b = is_letter b || is_digit b

-- space, tab, line feed, carriage return
unfoldable pub is_blank : ℕ → Bool
is_blank b = eqb b 32 || (eqb b 9 || (eqb b 10 || eqb b 13))

-- any byte but a line feed
unfoldable pub in_comment : ℕ → Bool
in_comment b = not (eqb b 10)

-- every byte is of a kind; the text ends, or goes on with a byte of another kind
abbrev pub Are : (ℕ → Bool) → List ℕ → Type 0
Are kind = All (λ b. kind b ≡ true)

abbrev pub KindStops : (ℕ → Bool) → List ℕ → Type 0
KindStops kind = NotFirst (λ b. kind b ≡ true)

-- ---- a text of so many bytes, and what is left of it

abbrev pub place_in : ℕ → List ℕ → ℕ
place_in long bs = long - length bs

-- a word is reserved, or a name
abbrev pub word_at_place : ℕ → List ℕ → SheetToken
word_at_place p w = pick (eqb (sign_of w reserved) 0) (name p w) (sign p (sign_of w reserved))

-- what is left begins with a token, and the rest follows it. "A number is decimal digits, leading zeros allowed." "A
-- name is a letter or `_`, then letters, digits and `_`, at most 32 bytes". "A token is as long as it can be"
pub data TextBegins (long : ℕ) : List ℕ → SheetToken → List ℕ → Type 0 where
  a_number : (b : ℕ) (ds rest : List ℕ) → is_digit b ≡ true → Are is_digit ds → KindStops is_digit rest
      → TextBegins long (b ∷ (ds ++ rest)) (number (place_in long (b ∷ (ds ++ rest))) (decimal_value 0 (b ∷ ds))) rest
  a_word : (b : ℕ) (w rest : List ℕ) → is_letter b ≡ true → Are in_word w → KindStops in_word rest → length (b ∷ w) ≤ 32
      → TextBegins long (b ∷ (w ++ rest)) (word_at_place (place_in long (b ∷ (w ++ rest))) (b ∷ w)) rest
  a_long_mark : (b c : ℕ) (rest : List ℕ) → sign_of (b ∷ c ∷ []) marks ≢ 0
      → TextBegins long (b ∷ c ∷ rest) (sign (place_in long (b ∷ c ∷ rest)) (sign_of (b ∷ c ∷ []) marks)) rest
  a_mark : (b : ℕ) (rest : List ℕ) → sign_of (b ∷ []) marks ≢ 0 → NotFirst (λ c. sign_of (b ∷ c ∷ []) marks ≢ 0) rest
      → TextBegins long (b ∷ rest) (sign (place_in long (b ∷ rest)) (sign_of (b ∷ []) marks)) rest

-- "Spaces, tabs, line ends and comments separate tokens and mean nothing else", "in a comment any byte but a line
-- feed". Where no token begins the last one is `stray_sign`
pub data TokensOfText (long : ℕ) : List ℕ → List SheetToken → Type 0 where
  t_end : TokensOfText long [] (sign (place_in long []) end_sign ∷ [])
  t_blank : (b : ℕ) {bs : List ℕ} {ts : List SheetToken} → is_blank b ≡ true → TokensOfText long bs ts → TokensOfText long (b ∷ bs) ts
  t_comment : (c rest : List ℕ) {ts : List SheetToken} → Are in_comment c → KindStops in_comment rest → TokensOfText long rest ts
      → TokensOfText long (35 ∷ (c ++ rest)) ts
  t_token : {bs rest : List ℕ} {t : SheetToken} {ts : List SheetToken} → TextBegins long bs t rest → TokensOfText long rest ts → TokensOfText long bs (t ∷ ts)
  t_stray : (b : ℕ) (bs : List ℕ) → is_blank b ≡ false → b ≢ 35 → ((t : SheetToken) (rest : List ℕ) → TextBegins long (b ∷ bs) t rest → ⊥)
      → TokensOfText long (b ∷ bs) (sign (place_in long (b ∷ bs)) stray_sign ∷ [])
