-- Formulas and what they stand for, each by computing: precedence, grouping, spaces, leading zeros, texts outside the
-- grammar, and the order of refusals.
use Rattle.lib_base.proofs.Prelude.{ℕ, ◌≤◌, ◌+◌, ◌≡◌, refl, some, none, List, [], ◌∷◌, ◌++◌, length, replicate, arith}
use Rattle.lib_signature.specs.Signature.{level}
use Rattle.spec_language.specs.Sheet.{as_sent}
use Rattle.spec_language.specs.Syntax.{con, name, app1, app2, app3}
use Rattle.spec_language.specs.Grammar.{encode_expr}
use Rattle.text_formula.specs.Tokens.{Digit}
use Rattle.text_formula.specs.Grammar.{Operator, operator}
use Rattle.text_formula.specs.Reader.{digit_of, name_of, single_of, double_of, marked_of, word_token, number_token, first_of, tokens_of, operator_chain, tower, bracketed_of, choice_of, operand_at, read_formula}
use Rattle.text_formula.specs.Answer.{large, nesting, answered, field_answer}
use Rattle.text_formula.specs.Formula.{formula_on}
use Rattle.text_formula.specs.Statements.{FieldWritten}

-- 1+2*3 and (1+2)*3
pub products_first : (read_formula (49 ∷ 43 ∷ 50 ∷ 42 ∷ 51 ∷ []) ≡ some (app2 4 (con 1) (app2 6 (con 2) (con 3))))
    × (read_formula (40 ∷ 49 ∷ 43 ∷ 50 ∷ 41 ∷ 42 ∷ 51 ∷ []) ≡ some (app2 6 (app2 4 (con 1) (con 2)) (con 3)))
unfolding digit_of name_of single_of double_of marked_of word_token number_token first_of tokens_of level operator_chain tower bracketed_of choice_of operand_at read_formula
products_first = (refl, refl)

-- 8-4-2 groups to the left, and so does 1<2>0
pub to_the_left : (read_formula (56 ∷ 45 ∷ 52 ∷ 45 ∷ 50 ∷ []) ≡ some (app2 5 (app2 5 (con 8) (con 4)) (con 2)))
    × (read_formula (49 ∷ 60 ∷ 50 ∷ 62 ∷ 48 ∷ []) ≡ some (app2 8 (app2 10 (con 1) (con 2)) (con 0)))
unfolding digit_of name_of single_of double_of marked_of word_token number_token first_of tokens_of level operator_chain tower bracketed_of choice_of operand_at read_formula
to_the_left = (refl, refl)

-- !!b3, and !b3*2, where `!` is the tighter one
pub nots : (read_formula (33 ∷ 33 ∷ 98 ∷ 51 ∷ []) ≡ some (app1 3 (app1 3 (name 3))))
    × (read_formula (33 ∷ 98 ∷ 51 ∷ 42 ∷ 50 ∷ []) ≡ some (app2 6 (app1 3 (name 3)) (con 2)))
unfolding digit_of name_of single_of double_of marked_of word_token number_token first_of tokens_of level operator_chain tower bracketed_of choice_of operand_at read_formula
nots = (refl, refl)

-- if(b0<b1,b0,b1)
pub smaller : read_formula (105 ∷ 102 ∷ 40 ∷ 98 ∷ 48 ∷ 60 ∷ 98 ∷ 49 ∷ 44 ∷ 98 ∷ 48 ∷ 44 ∷ 98 ∷ 49 ∷ 41 ∷ []) ≡ some (app3 14 (app2 10 (name 0) (name 1)) (name 0) (name 1))
unfolding digit_of name_of single_of double_of marked_of word_token number_token first_of tokens_of level operator_chain tower bracketed_of choice_of operand_at read_formula
smaller = refl

-- every level: 1||2&&3==4<5+6*!7
pub all_levels : read_formula (49 ∷ 124 ∷ 124 ∷ 50 ∷ 38 ∷ 38 ∷ 51 ∷ 61 ∷ 61 ∷ 52 ∷ 60 ∷ 53 ∷ 43 ∷ 54 ∷ 42 ∷ 33 ∷ 55 ∷ [])
    ≡ some (app2 1 (con 1) (app2 2 (con 2) (app2 12 (con 3) (app2 10 (con 4) (app2 4 (con 5) (app2 6 (con 6) (app1 3 (con 7))))))))
unfolding digit_of name_of single_of double_of marked_of word_token number_token first_of tokens_of level operator_chain tower bracketed_of choice_of operand_at read_formula
all_levels = refl

-- names: b63 is one; b64, b00, b1 followed by a digit too many and a lone b are none
pub names : (read_formula (98 ∷ 54 ∷ 51 ∷ []) ≡ some (name 63)) × (read_formula (98 ∷ 54 ∷ 52 ∷ []) ≡ none)
    × (read_formula (98 ∷ 48 ∷ 48 ∷ []) ≡ none) × (read_formula (98 ∷ 49 ∷ 48 ∷ 48 ∷ []) ≡ none) × (read_formula (98 ∷ []) ≡ none)
unfolding digit_of name_of single_of double_of marked_of word_token number_token first_of tokens_of level operator_chain tower bracketed_of choice_of operand_at read_formula
names = (refl, refl, refl, refl, refl)

-- 007 is a number, 1 2 are two, and spaces stand before, between and after tokens: " 1 + 2 "; no text is no formula
pub spaces : (read_formula (48 ∷ 48 ∷ 55 ∷ []) ≡ some (con 7)) × (read_formula (49 ∷ 32 ∷ 50 ∷ []) ≡ none)
    × (read_formula (32 ∷ 49 ∷ 32 ∷ 43 ∷ 32 ∷ 50 ∷ 32 ∷ []) ≡ some (app2 4 (con 1) (con 2))) × (read_formula [] ≡ none) × (read_formula (32 ∷ []) ≡ none)
unfolding digit_of name_of single_of double_of marked_of word_token number_token first_of tokens_of level operator_chain tower bracketed_of choice_of operand_at read_formula
spaces = (refl, refl, refl, refl, refl)

-- a sign is no part of a number: -1; a space parts the two bytes of <=; a tab is no space
pub outside : (read_formula (45 ∷ 49 ∷ []) ≡ none) × (read_formula (49 ∷ 60 ∷ 32 ∷ 61 ∷ 50 ∷ []) ≡ none) × (read_formula (49 ∷ 9 ∷ []) ≡ none)
unfolding digit_of name_of single_of double_of marked_of word_token number_token first_of tokens_of level operator_chain tower bracketed_of choice_of operand_at read_formula
outside = (refl, refl, refl)

-- ---- answers

-- b1+1 in a buffer of seventeen bytes: the field of fifteen, and the two behind it as they were; in fourteen bytes 23
pub field_first : formula_on (98 ∷ 49 ∷ 43 ∷ 49 ∷ []) (replicate 17 9)
    ≡ answered (4294967296 + 15) (18 ∷ 0 ∷ 12 ∷ 4 ∷ 17 ∷ 0 ∷ 1 ∷ 1 ∷ 16 ∷ 0 ∷ 4 ∷ 0 ∷ 0 ∷ 0 ∷ 1 ∷ 9 ∷ 9 ∷ [])
unfolding digit_of name_of single_of double_of marked_of word_token number_token first_of tokens_of level operator_chain tower bracketed_of choice_of operand_at read_formula large nesting field_answer formula_on encode_expr as_sent
field_first = refl

pub too_short : formula_on (98 ∷ 49 ∷ 43 ∷ 49 ∷ []) (replicate 14 9) ≡ answered 23 (replicate 14 9)
unfolding digit_of name_of single_of double_of marked_of word_token number_token first_of tokens_of level operator_chain tower bracketed_of choice_of operand_at read_formula large nesting field_answer formula_on encode_expr as_sent
too_short = refl

-- 2147483647 passes, 2147483648 is 22, and with a fault of grammar behind it 21
pub largest : (formula_on (50 ∷ 49 ∷ 52 ∷ 55 ∷ 52 ∷ 56 ∷ 51 ∷ 54 ∷ 52 ∷ 55 ∷ []) (replicate 7 0) ≡ answered (4294967296 + 7) (16 ∷ 0 ∷ 4 ∷ 127 ∷ 255 ∷ 255 ∷ 255 ∷ []))
    × (formula_on (50 ∷ 49 ∷ 52 ∷ 55 ∷ 52 ∷ 56 ∷ 51 ∷ 54 ∷ 52 ∷ 56 ∷ []) [] ≡ answered 22 [])
    × (formula_on (50 ∷ 49 ∷ 52 ∷ 55 ∷ 52 ∷ 56 ∷ 51 ∷ 54 ∷ 52 ∷ 56 ∷ 43 ∷ []) [] ≡ answered 21 [])
unfolding digit_of name_of single_of double_of marked_of word_token number_token first_of tokens_of level operator_chain tower bracketed_of choice_of operand_at read_formula large nesting field_answer formula_on encode_expr as_sent
largest = (refl, refl, refl)

-- `!` 15 times before b0 passes, 16 times is 9, before a number too large 22; brackets add nothing
pub deep : (formula_on (replicate 15 33 ++ (98 ∷ 48 ∷ [])) (replicate 3 0) ≡ answered 23 (replicate 3 0))
    × (formula_on (replicate 16 33 ++ (98 ∷ 48 ∷ [])) (replicate 3 0) ≡ answered 9 (replicate 3 0))
    × (formula_on (replicate 16 33 ++ (50 ∷ 49 ∷ 52 ∷ 55 ∷ 52 ∷ 56 ∷ 51 ∷ 54 ∷ 52 ∷ 56 ∷ [])) [] ≡ answered 22 [])
    × (formula_on (replicate 30 40 ++ (98 ∷ 48 ∷ replicate 30 41)) (replicate 4 0) ≡ answered (4294967296 + 4) (17 ∷ 0 ∷ 1 ∷ 0 ∷ []))
unfolding digit_of name_of single_of double_of marked_of word_token number_token first_of tokens_of level operator_chain tower bracketed_of choice_of operand_at read_formula large nesting field_answer formula_on encode_expr as_sent
deep = (refl, refl, refl, refl)

-- 1,022 spaces and b0 are 1,024 bytes; one space more is too many
pub longest : (formula_on (replicate 1022 32 ++ (98 ∷ 48 ∷ [])) (replicate 4 0) ≡ answered (4294967296 + 4) (17 ∷ 0 ∷ 1 ∷ 0 ∷ []))
    × (formula_on (replicate 1023 32 ++ (98 ∷ 48 ∷ [])) (replicate 4 0) ≡ answered 21 (replicate 4 0))
unfolding digit_of name_of single_of double_of marked_of word_token number_token first_of tokens_of level operator_chain tower bracketed_of choice_of operand_at read_formula large nesting field_answer formula_on encode_expr as_sent
longest = (refl, refl)

-- the grammar's levels, the tightest first: `* /`, `+ -`, the four orderings, the two equalities, `&&`, `||`
pub products : Operator 1 6 × Operator 1 7
unfolding level
products = (operator refl, operator refl)

pub sums : Operator 2 4 × Operator 2 5
unfolding level
sums = (operator refl, operator refl)

pub orderings : Operator 3 8 × Operator 3 9 × Operator 3 10 × Operator 3 11
unfolding level
orderings = (operator refl, operator refl, operator refl, operator refl)

pub equalities : Operator 4 12 × Operator 4 13
unfolding level
equalities = (operator refl, operator refl)

pub connectives : Operator 5 2 × Operator 6 1
unfolding level
connectives = (operator refl, operator refl)

-- the digits' bytes are 48 to 57
pub digits : Digit 48 × Digit 57 × (Digit 47 → ⊥) × (Digit 58 → ⊥)
digits = ((omega arith, omega arith), (omega arith, omega arith), (λ d. omega (arith, d.0)), (λ d. omega (arith, d.1)))

-- a field that is written to a buffer of seven bytes has no more
pub within_seven : (text buffer after : List ℕ) (n : ℕ) → FieldWritten text buffer n after → length buffer ≡ 7 → n ≤ 7
within_seven text buffer after n w h = omega (arith, w.fits)
