-- The tokens of a formula, and how a text is made of them. 02, M-105 "Formulas as we write them". Bytes are those of
-- ASCII.
use Rattle.std.specs.Prelude.{ℕ, ◌+◌, ◌*◌, ◌-◌, ◌≤◌, ◌<◌, ◌≡◌, List, [], ◌∷◌, ◌++◌}
use Rattle.lib_base.specs.Basics.{All}
use Rattle.lib_signature.specs.Signature.{its_spelling, function_at}

-- "decimal numbers", "names b0 to b63", operators and `if` by 01's function number, brackets and the comma between
-- `if`'s arguments
pub data Token : Type 0 where
  number : ℕ → Token
  behaviour : ℕ → Token
  function : ℕ → Token
  opening closing comma : Token

-- a digit's byte, and the number that digits stand for after those for n
abbrev pub Digit : ℕ → Type 0
Digit b = (48 ≤ b) × (b < 58)

unfoldable pub decimal_value : ℕ → List ℕ → ℕ
decimal_value n [] = n
decimal_value n (b ∷ bs) = decimal_value (n * 10 + (b - 48)) bs

-- the text ends, or goes on with a byte that is not of this kind
abbrev pub NotFirst : (ℕ → Type 0) → List ℕ → Type 0
NotFirst P [] = Unit {0}
NotFirst P (b ∷ bs) = P b → ⊥

-- a text begins with a token, and the rest follows. A number and a name take all digits that follow, `!`, `>` and `<`
-- the `=`. "leading zeros allowed" in numbers; names "without leading zeros"
pub data Begins : List ℕ → Token → List ℕ → Type 0 where
  b_number : (b : ℕ) (ds rest : List ℕ) → Digit b → All Digit ds → NotFirst Digit rest → Begins (b ∷ (ds ++ rest)) (number (decimal_value 0 (b ∷ ds))) rest
  b_digit : (d : ℕ) (rest : List ℕ) → d < 10 → NotFirst Digit rest → Begins (98 ∷ (48 + d) ∷ rest) (behaviour d) rest
  b_digits : (d e : ℕ) (rest : List ℕ) → 0 < d → e < 10 → d * 10 + e < 64 → NotFirst Digit rest
      → Begins (98 ∷ (48 + d) ∷ (48 + e) ∷ rest) (behaviour (d * 10 + e)) rest
  b_or : (rest : List ℕ) → Begins (its_spelling (function_at 1) ++ rest) (function 1) rest
  b_and : (rest : List ℕ) → Begins (its_spelling (function_at 2) ++ rest) (function 2) rest
  b_not : (rest : List ℕ) → NotFirst (λ b. b ≡ 61) rest → Begins (its_spelling (function_at 3) ++ rest) (function 3) rest
  b_plus : (rest : List ℕ) → Begins (its_spelling (function_at 4) ++ rest) (function 4) rest
  b_minus : (rest : List ℕ) → Begins (its_spelling (function_at 5) ++ rest) (function 5) rest
  b_times : (rest : List ℕ) → Begins (its_spelling (function_at 6) ++ rest) (function 6) rest
  b_divided : (rest : List ℕ) → Begins (its_spelling (function_at 7) ++ rest) (function 7) rest
  b_above : (rest : List ℕ) → NotFirst (λ b. b ≡ 61) rest → Begins (its_spelling (function_at 8) ++ rest) (function 8) rest
  b_at_least : (rest : List ℕ) → Begins (its_spelling (function_at 9) ++ rest) (function 9) rest
  b_below : (rest : List ℕ) → NotFirst (λ b. b ≡ 61) rest → Begins (its_spelling (function_at 10) ++ rest) (function 10) rest
  b_at_most : (rest : List ℕ) → Begins (its_spelling (function_at 11) ++ rest) (function 11) rest
  b_equal : (rest : List ℕ) → Begins (its_spelling (function_at 12) ++ rest) (function 12) rest
  b_different : (rest : List ℕ) → Begins (its_spelling (function_at 13) ++ rest) (function 13) rest
  b_if : (rest : List ℕ) → Begins (its_spelling (function_at 14) ++ rest) (function 14) rest
  b_opening : (rest : List ℕ) → Begins (40 ∷ rest) opening rest
  b_closing : (rest : List ℕ) → Begins (41 ∷ rest) closing rest
  b_comma : (rest : List ℕ) → Begins (44 ∷ rest) comma rest

-- "Spaces may stand before, between and after tokens."
pub data Tokens : List ℕ → List Token → Type 0 where
  t_end : Tokens [] []
  t_space : {bs : List ℕ} {ts : List Token} → Tokens bs ts → Tokens (32 ∷ bs) ts
  t_token : {bs rest : List ℕ} {t : Token} {ts : List Token} → Begins bs t rest → Tokens rest ts → Tokens bs (t ∷ ts)
