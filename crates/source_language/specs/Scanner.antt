-- The tokens of a text as a function, from left to right.
use Rattle.std.specs.Prelude.{ℕ, zero, suc, Bool, true, false, List, [], ◌∷◌, length, leb, eqb}
use Rattle.lib_base.specs.Basics.{pick}
use Rattle.text_formula.specs.Tokens.{decimal_value}
use Rattle.source_language.specs.Tokens.{SheetToken, number, sign, marks, sign_of, is_digit, is_letter, in_word}
use Rattle.source_language.specs.Tokens.{is_blank, in_comment, place_in, word_at_place, end_sign, stray_sign}

-- the bytes of a kind at the front, and what is left past them
unfoldable pub run_of_kind : (ℕ → Bool) → List ℕ → List ℕ
run_of_kind kind [] = []
run_of_kind kind (b ∷ bs) = pick (kind b) (b ∷ run_of_kind kind bs) []

unfoldable pub beyond_run : (ℕ → Bool) → List ℕ → List ℕ
beyond_run kind [] = []
beyond_run kind (b ∷ bs) = pick (kind b) (beyond_run kind bs) (b ∷ bs)

-- what stands at the front: no token, or one and the rest
pub data FirstInText : Type 0 where
  nothing : FirstInText
  begins : SheetToken → List ℕ → FirstInText

-- a mark of one byte
abbrev pub short_mark : ℕ → ℕ → List ℕ → FirstInText
short_mark p b rest = pick (eqb (sign_of (b ∷ []) marks) 0) nothing (begins (sign p (sign_of (b ∷ []) marks)) rest)

-- a mark of two bytes where there is one
abbrev pub mark_at : ℕ → ℕ → List ℕ → FirstInText
mark_at p b [] = short_mark p b []
mark_at p b (c ∷ rest) = pick (eqb (sign_of (b ∷ c ∷ []) marks) 0) (short_mark p b (c ∷ rest)) (begins (sign p (sign_of (b ∷ c ∷ []) marks)) rest)

abbrev pub long_word : ℕ → List ℕ → List ℕ → FirstInText
long_word p w rest = pick (leb (length w) 32) (begins (word_at_place p w) rest) nothing

unfoldable pub first_in_text : ℕ → ℕ → List ℕ → FirstInText
first_in_text p b bs =
    pick (is_digit b) (begins (number p (decimal_value 0 (b ∷ run_of_kind is_digit bs))) (beyond_run is_digit bs))
    (pick (is_letter b) (long_word p (b ∷ run_of_kind in_word bs) (beyond_run in_word bs))
    (mark_at p b bs))

-- on with what follows a token; without one the byte is stray, and the last
abbrev pub scan_on : ℕ → (List ℕ → List SheetToken) → FirstInText → List SheetToken
scan_on p go nothing = sign p stray_sign ∷ []
scan_on p go (begins t rest) = t ∷ go rest

abbrev pub scanned_from : ℕ → (List ℕ → List SheetToken) → List ℕ → List SheetToken
scanned_from long go [] = sign (place_in long []) end_sign ∷ []
scanned_from long go (b ∷ bs) =
    elim (is_blank b) [
      | true ↦ go bs
      | false ↦
          elim (eqb b 35) [
            | true ↦ go (beyond_run in_comment bs)
            | false ↦
                scan_on (place_in long (b ∷ bs)) go (first_in_text (place_in long (b ∷ bs)) b bs)
          ]
    ]

-- all tokens of what is left of a text; the number bounds its bytes
unfoldable pub scanned_tokens : ℕ → ℕ → List ℕ → List SheetToken
scanned_tokens long zero bs = scanned_from long (λ rest. []) bs
scanned_tokens long (suc k) bs = scanned_from long (scanned_tokens long k) bs

abbrev pub scan_text : List ℕ → List SheetToken
scan_text bytes = scanned_tokens (length bytes) (length bytes) bytes
