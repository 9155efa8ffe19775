-- The marks of a formula: two-sided operators and `!` by their functions' numbers, brackets and comma by their own.
use Rattle.std.specs.Prelude.{ℕ, suc, Bool, true, false, ◌&&◌, Option, Some, None, List, [], ◌∷◌, ◌++◌, get_or, leb, eqb}
use Rattle.lib_base.specs.Basics.{pick}
use Rattle.lib_signature.specs.Signature.{Function, its_spelling, functions}

-- a row of a table of marks or words: a spelling, and the number that it stands for
pub data Lexeme : Type 0 where
  lexeme : List ℕ → ℕ → Lexeme

-- the same bytes
unfoldable pub spelled_alike : List ℕ → List ℕ → Bool
spelled_alike [] [] = true
spelled_alike [] (b ∷ m) = false
spelled_alike (a ∷ l) [] = false
spelled_alike (a ∷ l) (b ∷ m) = pick (eqb a b) (spelled_alike l m) false

-- the number of the first row that is spelled so; 0 for none
unfoldable pub number_of : List ℕ → List Lexeme → ℕ
number_of w [] = 0
number_of w (lexeme s n ∷ rows) = pick (spelled_alike w s) n (number_of w rows)

-- the functions from number n on, but for `if`: a small letter begins a word
abbrev pub operator_marks : ℕ → List Function → List Lexeme
operator_marks n [] = []
operator_marks n (f ∷ rows) =
    pick (leb 97 (get_or (its_spelling f) 0 0) && leb (get_or (its_spelling f) 0 0) 122) [] (lexeme (its_spelling f) n ∷ []) ++ operator_marks (suc n) rows

-- brackets and comma, beyond the functions' numbers
abbrev pub opening_mark : ℕ
opening_mark = 64

abbrev pub closing_mark : ℕ
closing_mark = 65

abbrev pub comma_mark : ℕ
comma_mark = 66

unfoldable pub formula_marks : List Lexeme
formula_marks = operator_marks 1 functions ++ (lexeme (40 ∷ []) opening_mark ∷ lexeme (41 ∷ []) closing_mark ∷ lexeme (44 ∷ []) comma_mark ∷ [])

-- the mark that is spelled so; 0 for none
abbrev pub formula_mark : List ℕ → ℕ
formula_mark w = number_of w formula_marks

-- the same, where there is one
abbrev pub mark_found : List ℕ → Option ℕ
mark_found w = pick (eqb (formula_mark w) 0) None (Some (formula_mark w))
