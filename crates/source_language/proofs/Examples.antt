-- Texts and what they are assembled to, each by computing: the sheet of docs/SHEETS.md and sheet S of 01 to the very
-- bytes, precedence and signs, and faults of each kind with their places.
use Rattle.lib_base.proofs.Prelude.{ℕ, ◌+◌, ◌≡◌, refl, true, false, Bool, List, [], ◌∷◌, ◌++◌, length, replicate, eqb}
use Rattle.lib_base.proofs.Prelude.{arith}
use Rattle.lib_base.specs.Basics.{pick}
use Rattle.lib_signature.specs.Signature.{level}
use Rattle.spec_language.specs.Syntax.{later}
use Rattle.spec_language.specs.Sheet.{Sheet}
use Rattle.spec_language.specs.Grammar.{encode, encode_events, encode_behaviours, encode_handlers, encode_expr}
use Rattle.text_formula.specs.Tokens.{decimal_value}
use Rattle.source_language.specs.Tokens.{number, sign, Spelling, spelled, end_sign, stray_sign, marks, reserved, same, sign_of, is_digit, is_letter, in_word, is_blank, in_comment}
use Rattle.source_language.specs.Text.{plus, minus, named, cell, on}
use Rattle.source_language.specs.Grammar.{IsValue, v_minus}
use Rattle.source_language.specs.Renaming.{phrase_as, reactions_as}
use Rattle.source_language.specs.Faults.{fine, fault, outside, too_large, off_scale, too_many_fault, declared_twice_fault, second_handler_fault, too_deep, unknown_name, no_such_cell_fault, long_sheet_fault, short_buffer_fault, long_text_fault}
use Rattle.source_language.specs.Limits.{ConstantFits, among, phrase_nesting, after_all}
use Rattle.source_language.specs.Meaning.{among_players, bits_below, behaviour_named, meaning_of_name, event_named, term_of, clauses_of, entries_of, sheet_of}
use Rattle.source_language.specs.Scanner.{run_of_kind, beyond_run, first_in_text, scanned_tokens}
use Rattle.source_language.specs.Reader.{past_sign, value_of, after_operand, cell_of, read_constant, read_negation, read_choice, signed_of, from_operand, phrase_within, more_players, from_of, seen_of, many_of, default_of, parameter_of, event_declared, reaction_of, passive_declared, state_of, row_declared, behaviour_declared, behaviour_begins, declarations_of, read_text}
use Rattle.source_language.specs.Answer.{line_from, column_from, turned_down}
use Rattle.source_language.specs.Assembled.{length_judged, assembled, assemble_on}

-- the sheet of docs/SHEETS.md
--   # Twelve lamps. A comment runs to the end of its line.
--   param points = 10
--   param need = 3
--
--   event hit    rank 2 from 1 2
--   event miss   rank 2 from 1 2
--   event bonus  rank 2 from 0
--   event flip   rank 2 from 1 2
--   event timeup rank 2 from 0
--
--   active over = 0
--     on timeup: 1
--
--   active score = 0
--     on hit:   if(over, score, score + points * if(streak + 1 >= need, 2, 1))
--     on miss:  if(over, score, score - 5)
--     on bonus: if(over, score, score + secret)
--
--   active streak = 0
--     on hit later: if(over, streak, streak + 1)
--     on miss: 0
--
--   active secret = 50 seen by nobody
--
--   row lamp[12] = -1
--     on flip: if(over, lamp, 0 - lamp)
--
--   passive first = lamp[0] + lamp[11]
--   passive final = if(over, score, -1)
abbrev pub lamps : List ℕ
lamps =
    35 ∷ 32 ∷ 84 ∷ 119 ∷ 101 ∷ 108 ∷ 118 ∷ 101 ∷ 32 ∷ 108 ∷ 97 ∷ 109 ∷ 112 ∷ 115 ∷ 46 ∷ 32 ∷ 65 ∷ 32 ∷ 99 ∷
    111 ∷ 109 ∷ 109 ∷ 101 ∷ 110 ∷ 116 ∷ 32 ∷ 114 ∷ 117 ∷ 110 ∷ 115 ∷ 32 ∷ 116 ∷ 111 ∷ 32 ∷ 116 ∷ 104 ∷ 101 ∷
    32 ∷ 101 ∷ 110 ∷ 100 ∷ 32 ∷ 111 ∷ 102 ∷ 32 ∷ 105 ∷ 116 ∷ 115 ∷ 32 ∷ 108 ∷ 105 ∷ 110 ∷ 101 ∷ 46 ∷ 10 ∷
    112 ∷ 97 ∷ 114 ∷ 97 ∷ 109 ∷ 32 ∷ 112 ∷ 111 ∷ 105 ∷ 110 ∷ 116 ∷ 115 ∷ 32 ∷ 61 ∷ 32 ∷ 49 ∷ 48 ∷ 10 ∷ 112 ∷
    97 ∷ 114 ∷ 97 ∷ 109 ∷ 32 ∷ 110 ∷ 101 ∷ 101 ∷ 100 ∷ 32 ∷ 61 ∷ 32 ∷ 51 ∷ 10 ∷ 10 ∷ 101 ∷ 118 ∷ 101 ∷ 110 ∷
    116 ∷ 32 ∷ 104 ∷ 105 ∷ 116 ∷ 32 ∷ 32 ∷ 32 ∷ 32 ∷ 114 ∷ 97 ∷ 110 ∷ 107 ∷ 32 ∷ 50 ∷ 32 ∷ 102 ∷ 114 ∷ 111 ∷
    109 ∷ 32 ∷ 49 ∷ 32 ∷ 50 ∷ 10 ∷ 101 ∷ 118 ∷ 101 ∷ 110 ∷ 116 ∷ 32 ∷ 109 ∷ 105 ∷ 115 ∷ 115 ∷ 32 ∷ 32 ∷ 32 ∷
    114 ∷ 97 ∷ 110 ∷ 107 ∷ 32 ∷ 50 ∷ 32 ∷ 102 ∷ 114 ∷ 111 ∷ 109 ∷ 32 ∷ 49 ∷ 32 ∷ 50 ∷ 10 ∷ 101 ∷ 118 ∷ 101 ∷
    110 ∷ 116 ∷ 32 ∷ 98 ∷ 111 ∷ 110 ∷ 117 ∷ 115 ∷ 32 ∷ 32 ∷ 114 ∷ 97 ∷ 110 ∷ 107 ∷ 32 ∷ 50 ∷ 32 ∷ 102 ∷ 114 ∷
    111 ∷ 109 ∷ 32 ∷ 48 ∷ 10 ∷ 101 ∷ 118 ∷ 101 ∷ 110 ∷ 116 ∷ 32 ∷ 102 ∷ 108 ∷ 105 ∷ 112 ∷ 32 ∷ 32 ∷ 32 ∷
    114 ∷ 97 ∷ 110 ∷ 107 ∷ 32 ∷ 50 ∷ 32 ∷ 102 ∷ 114 ∷ 111 ∷ 109 ∷ 32 ∷ 49 ∷ 32 ∷ 50 ∷ 10 ∷ 101 ∷ 118 ∷ 101 ∷
    110 ∷ 116 ∷ 32 ∷ 116 ∷ 105 ∷ 109 ∷ 101 ∷ 117 ∷ 112 ∷ 32 ∷ 114 ∷ 97 ∷ 110 ∷ 107 ∷ 32 ∷ 50 ∷ 32 ∷ 102 ∷
    114 ∷ 111 ∷ 109 ∷ 32 ∷ 48 ∷ 10 ∷ 10 ∷ 97 ∷ 99 ∷ 116 ∷ 105 ∷ 118 ∷ 101 ∷ 32 ∷ 111 ∷ 118 ∷ 101 ∷ 114 ∷ 32 ∷
    61 ∷ 32 ∷ 48 ∷ 10 ∷ 32 ∷ 32 ∷ 111 ∷ 110 ∷ 32 ∷ 116 ∷ 105 ∷ 109 ∷ 101 ∷ 117 ∷ 112 ∷ 58 ∷ 32 ∷ 49 ∷ 10 ∷
    10 ∷ 97 ∷ 99 ∷ 116 ∷ 105 ∷ 118 ∷ 101 ∷ 32 ∷ 115 ∷ 99 ∷ 111 ∷ 114 ∷ 101 ∷ 32 ∷ 61 ∷ 32 ∷ 48 ∷ 10 ∷ 32 ∷
    32 ∷ 111 ∷ 110 ∷ 32 ∷ 104 ∷ 105 ∷ 116 ∷ 58 ∷ 32 ∷ 32 ∷ 32 ∷ 105 ∷ 102 ∷ 40 ∷ 111 ∷ 118 ∷ 101 ∷ 114 ∷ 44 ∷
    32 ∷ 115 ∷ 99 ∷ 111 ∷ 114 ∷ 101 ∷ 44 ∷ 32 ∷ 115 ∷ 99 ∷ 111 ∷ 114 ∷ 101 ∷ 32 ∷ 43 ∷ 32 ∷ 112 ∷ 111 ∷ 105 ∷
    110 ∷ 116 ∷ 115 ∷ 32 ∷ 42 ∷ 32 ∷ 105 ∷ 102 ∷ 40 ∷ 115 ∷ 116 ∷ 114 ∷ 101 ∷ 97 ∷ 107 ∷ 32 ∷ 43 ∷ 32 ∷ 49 ∷
    32 ∷ 62 ∷ 61 ∷ 32 ∷ 110 ∷ 101 ∷ 101 ∷ 100 ∷ 44 ∷ 32 ∷ 50 ∷ 44 ∷ 32 ∷ 49 ∷ 41 ∷ 41 ∷ 10 ∷ 32 ∷ 32 ∷ 111 ∷
    110 ∷ 32 ∷ 109 ∷ 105 ∷ 115 ∷ 115 ∷ 58 ∷ 32 ∷ 32 ∷ 105 ∷ 102 ∷ 40 ∷ 111 ∷ 118 ∷ 101 ∷ 114 ∷ 44 ∷ 32 ∷
    115 ∷ 99 ∷ 111 ∷ 114 ∷ 101 ∷ 44 ∷ 32 ∷ 115 ∷ 99 ∷ 111 ∷ 114 ∷ 101 ∷ 32 ∷ 45 ∷ 32 ∷ 53 ∷ 41 ∷ 10 ∷ 32 ∷
    32 ∷ 111 ∷ 110 ∷ 32 ∷ 98 ∷ 111 ∷ 110 ∷ 117 ∷ 115 ∷ 58 ∷ 32 ∷ 105 ∷ 102 ∷ 40 ∷ 111 ∷ 118 ∷ 101 ∷ 114 ∷
    44 ∷ 32 ∷ 115 ∷ 99 ∷ 111 ∷ 114 ∷ 101 ∷ 44 ∷ 32 ∷ 115 ∷ 99 ∷ 111 ∷ 114 ∷ 101 ∷ 32 ∷ 43 ∷ 32 ∷ 115 ∷ 101 ∷
    99 ∷ 114 ∷ 101 ∷ 116 ∷ 41 ∷ 10 ∷ 10 ∷ 97 ∷ 99 ∷ 116 ∷ 105 ∷ 118 ∷ 101 ∷ 32 ∷ 115 ∷ 116 ∷ 114 ∷ 101 ∷ 97 ∷
    107 ∷ 32 ∷ 61 ∷ 32 ∷ 48 ∷ 10 ∷ 32 ∷ 32 ∷ 111 ∷ 110 ∷ 32 ∷ 104 ∷ 105 ∷ 116 ∷ 32 ∷ 108 ∷ 97 ∷ 116 ∷ 101 ∷
    114 ∷ 58 ∷ 32 ∷ 105 ∷ 102 ∷ 40 ∷ 111 ∷ 118 ∷ 101 ∷ 114 ∷ 44 ∷ 32 ∷ 115 ∷ 116 ∷ 114 ∷ 101 ∷ 97 ∷ 107 ∷
    44 ∷ 32 ∷ 115 ∷ 116 ∷ 114 ∷ 101 ∷ 97 ∷ 107 ∷ 32 ∷ 43 ∷ 32 ∷ 49 ∷ 41 ∷ 10 ∷ 32 ∷ 32 ∷ 111 ∷ 110 ∷ 32 ∷
    109 ∷ 105 ∷ 115 ∷ 115 ∷ 58 ∷ 32 ∷ 48 ∷ 10 ∷ 10 ∷ 97 ∷ 99 ∷ 116 ∷ 105 ∷ 118 ∷ 101 ∷ 32 ∷ 115 ∷ 101 ∷ 99 ∷
    114 ∷ 101 ∷ 116 ∷ 32 ∷ 61 ∷ 32 ∷ 53 ∷ 48 ∷ 32 ∷ 115 ∷ 101 ∷ 101 ∷ 110 ∷ 32 ∷ 98 ∷ 121 ∷ 32 ∷ 110 ∷ 111 ∷
    98 ∷ 111 ∷ 100 ∷ 121 ∷ 10 ∷ 10 ∷ 114 ∷ 111 ∷ 119 ∷ 32 ∷ 108 ∷ 97 ∷ 109 ∷ 112 ∷ 91 ∷ 49 ∷ 50 ∷ 93 ∷ 32 ∷
    61 ∷ 32 ∷ 45 ∷ 49 ∷ 10 ∷ 32 ∷ 32 ∷ 111 ∷ 110 ∷ 32 ∷ 102 ∷ 108 ∷ 105 ∷ 112 ∷ 58 ∷ 32 ∷ 105 ∷ 102 ∷ 40 ∷
    111 ∷ 118 ∷ 101 ∷ 114 ∷ 44 ∷ 32 ∷ 108 ∷ 97 ∷ 109 ∷ 112 ∷ 44 ∷ 32 ∷ 48 ∷ 32 ∷ 45 ∷ 32 ∷ 108 ∷ 97 ∷ 109 ∷
    112 ∷ 41 ∷ 10 ∷ 10 ∷ 112 ∷ 97 ∷ 115 ∷ 115 ∷ 105 ∷ 118 ∷ 101 ∷ 32 ∷ 102 ∷ 105 ∷ 114 ∷ 115 ∷ 116 ∷ 32 ∷
    61 ∷ 32 ∷ 108 ∷ 97 ∷ 109 ∷ 112 ∷ 91 ∷ 48 ∷ 93 ∷ 32 ∷ 43 ∷ 32 ∷ 108 ∷ 97 ∷ 109 ∷ 112 ∷ 91 ∷ 49 ∷ 49 ∷ 93 ∷
    10 ∷ 112 ∷ 97 ∷ 115 ∷ 115 ∷ 105 ∷ 118 ∷ 101 ∷ 32 ∷ 102 ∷ 105 ∷ 110 ∷ 97 ∷ 108 ∷ 32 ∷ 61 ∷ 32 ∷ 105 ∷
    102 ∷ 40 ∷ 111 ∷ 118 ∷ 101 ∷ 114 ∷ 44 ∷ 32 ∷ 115 ∷ 99 ∷ 111 ∷ 114 ∷ 101 ∷ 44 ∷ 32 ∷ 45 ∷ 49 ∷ 41 ∷ 10 ∷ []

pub lamps_assembled : assembled lamps 8192 ≡ fine (
    1 ∷ 0 ∷ 2 ∷ 2 ∷ 6 ∷ 1 ∷ 0 ∷ 2 ∷ 2 ∷ 6 ∷ 1 ∷ 0 ∷ 2 ∷ 2 ∷ 1 ∷ 1 ∷ 0 ∷ 2 ∷ 2 ∷ 6 ∷ 1 ∷ 0 ∷ 2 ∷ 2 ∷ 1 ∷ 3 ∷
    0 ∷ 19 ∷ 4 ∷ 0 ∷ 4 ∷ 0 ∷ 0 ∷ 0 ∷ 0 ∷ 5 ∷ 0 ∷ 9 ∷ 4 ∷ 0 ∷ 16 ∷ 0 ∷ 4 ∷ 0 ∷ 0 ∷ 0 ∷ 1 ∷ 3 ∷ 0 ∷ 142 ∷ 4 ∷
    0 ∷ 4 ∷ 0 ∷ 0 ∷ 0 ∷ 0 ∷ 5 ∷ 0 ∷ 71 ∷ 0 ∷ 0 ∷ 18 ∷ 0 ∷ 66 ∷ 14 ∷ 17 ∷ 0 ∷ 1 ∷ 0 ∷ 17 ∷ 0 ∷ 1 ∷ 1 ∷ 18 ∷
    0 ∷ 54 ∷ 4 ∷ 17 ∷ 0 ∷ 1 ∷ 1 ∷ 18 ∷ 0 ∷ 46 ∷ 6 ∷ 19 ∷ 0 ∷ 1 ∷ 0 ∷ 18 ∷ 0 ∷ 38 ∷ 14 ∷ 18 ∷ 0 ∷ 20 ∷ 9 ∷
    18 ∷ 0 ∷ 12 ∷ 4 ∷ 17 ∷ 0 ∷ 1 ∷ 2 ∷ 16 ∷ 0 ∷ 4 ∷ 0 ∷ 0 ∷ 0 ∷ 1 ∷ 19 ∷ 0 ∷ 1 ∷ 1 ∷ 16 ∷ 0 ∷ 4 ∷ 0 ∷ 0 ∷ 0 ∷
    2 ∷ 16 ∷ 0 ∷ 4 ∷ 0 ∷ 0 ∷ 0 ∷ 1 ∷ 5 ∷ 0 ∷ 29 ∷ 1 ∷ 0 ∷ 18 ∷ 0 ∷ 24 ∷ 14 ∷ 17 ∷ 0 ∷ 1 ∷ 0 ∷ 17 ∷ 0 ∷ 1 ∷
    1 ∷ 18 ∷ 0 ∷ 12 ∷ 5 ∷ 17 ∷ 0 ∷ 1 ∷ 1 ∷ 16 ∷ 0 ∷ 4 ∷ 0 ∷ 0 ∷ 0 ∷ 5 ∷ 5 ∷ 0 ∷ 26 ∷ 2 ∷ 0 ∷ 18 ∷ 0 ∷ 21 ∷
    14 ∷ 17 ∷ 0 ∷ 1 ∷ 0 ∷ 17 ∷ 0 ∷ 1 ∷ 1 ∷ 18 ∷ 0 ∷ 9 ∷ 4 ∷ 17 ∷ 0 ∷ 1 ∷ 1 ∷ 17 ∷ 0 ∷ 1 ∷ 3 ∷ 3 ∷ 0 ∷ 51 ∷
    4 ∷ 0 ∷ 4 ∷ 0 ∷ 0 ∷ 0 ∷ 0 ∷ 5 ∷ 0 ∷ 29 ∷ 0 ∷ 1 ∷ 18 ∷ 0 ∷ 24 ∷ 14 ∷ 17 ∷ 0 ∷ 1 ∷ 0 ∷ 17 ∷ 0 ∷ 1 ∷ 2 ∷
    18 ∷ 0 ∷ 12 ∷ 4 ∷ 17 ∷ 0 ∷ 1 ∷ 2 ∷ 16 ∷ 0 ∷ 4 ∷ 0 ∷ 0 ∷ 0 ∷ 1 ∷ 5 ∷ 0 ∷ 9 ∷ 1 ∷ 0 ∷ 16 ∷ 0 ∷ 4 ∷ 0 ∷ 0 ∷
    0 ∷ 0 ∷ 3 ∷ 0 ∷ 11 ∷ 4 ∷ 0 ∷ 4 ∷ 0 ∷ 0 ∷ 0 ∷ 50 ∷ 8 ∷ 0 ∷ 1 ∷ 0 ∷ 6 ∷ 0 ∷ 40 ∷ 12 ∷ 4 ∷ 0 ∷ 4 ∷ 255 ∷
    255 ∷ 255 ∷ 255 ∷ 5 ∷ 0 ∷ 29 ∷ 3 ∷ 0 ∷ 18 ∷ 0 ∷ 24 ∷ 14 ∷ 17 ∷ 0 ∷ 1 ∷ 0 ∷ 17 ∷ 0 ∷ 1 ∷ 4 ∷ 18 ∷ 0 ∷ 12 ∷
    5 ∷ 16 ∷ 0 ∷ 4 ∷ 0 ∷ 0 ∷ 0 ∷ 0 ∷ 17 ∷ 0 ∷ 1 ∷ 4 ∷ 2 ∷ 0 ∷ 12 ∷ 18 ∷ 0 ∷ 9 ∷ 4 ∷ 17 ∷ 0 ∷ 1 ∷ 4 ∷ 17 ∷ 0 ∷
    1 ∷ 15 ∷ 2 ∷ 0 ∷ 19 ∷ 18 ∷ 0 ∷ 16 ∷ 14 ∷ 17 ∷ 0 ∷ 1 ∷ 0 ∷ 17 ∷ 0 ∷ 1 ∷ 1 ∷ 16 ∷ 0 ∷ 4 ∷ 255 ∷ 255 ∷ 255 ∷
    255 ∷ [])
unfolding marks reserved same sign_of is_digit is_letter in_word is_blank in_comment decimal_value level run_of_kind beyond_run first_in_text scanned_tokens among phrase_nesting after_all among_players bits_below behaviour_named meaning_of_name event_named term_of clauses_of entries_of sheet_of past_sign value_of after_operand cell_of read_constant read_negation read_choice signed_of from_operand phrase_within more_players from_of seen_of many_of default_of parameter_of event_declared reaction_of passive_declared state_of row_declared behaviour_declared behaviour_begins declarations_of read_text assembled encode encode_events encode_behaviours encode_handlers encode_expr
lamps_assembled = refl

-- sheet S of 01 "Rounds to check"
--   event a rank 1
--   event b rank 2
--   active x = 1
--     on a: x + y
--   active y = 1
--     on a later: x - y
--     on b: 1
abbrev pub sheet_S : List ℕ
sheet_S =
    101 ∷ 118 ∷ 101 ∷ 110 ∷ 116 ∷ 32 ∷ 97 ∷ 32 ∷ 114 ∷ 97 ∷ 110 ∷ 107 ∷ 32 ∷ 49 ∷ 10 ∷ 101 ∷ 118 ∷ 101 ∷
    110 ∷ 116 ∷ 32 ∷ 98 ∷ 32 ∷ 114 ∷ 97 ∷ 110 ∷ 107 ∷ 32 ∷ 50 ∷ 10 ∷ 97 ∷ 99 ∷ 116 ∷ 105 ∷ 118 ∷ 101 ∷ 32 ∷
    120 ∷ 32 ∷ 61 ∷ 32 ∷ 49 ∷ 10 ∷ 32 ∷ 32 ∷ 111 ∷ 110 ∷ 32 ∷ 97 ∷ 58 ∷ 32 ∷ 120 ∷ 32 ∷ 43 ∷ 32 ∷ 121 ∷ 10 ∷
    97 ∷ 99 ∷ 116 ∷ 105 ∷ 118 ∷ 101 ∷ 32 ∷ 121 ∷ 32 ∷ 61 ∷ 32 ∷ 49 ∷ 10 ∷ 32 ∷ 32 ∷ 111 ∷ 110 ∷ 32 ∷ 97 ∷
    32 ∷ 108 ∷ 97 ∷ 116 ∷ 101 ∷ 114 ∷ 58 ∷ 32 ∷ 120 ∷ 32 ∷ 45 ∷ 32 ∷ 121 ∷ 10 ∷ 32 ∷ 32 ∷ 111 ∷ 110 ∷ 32 ∷
    98 ∷ 58 ∷ 32 ∷ 49 ∷ 10 ∷ []

pub S_assembled : assembled sheet_S 74 ≡ fine (
    1 ∷ 0 ∷ 1 ∷ 1 ∷ 1 ∷ 0 ∷ 1 ∷ 2 ∷ 3 ∷ 0 ∷ 24 ∷ 4 ∷ 0 ∷ 4 ∷ 0 ∷ 0 ∷ 0 ∷ 1 ∷ 5 ∷ 0 ∷ 14 ∷ 0 ∷ 0 ∷ 18 ∷ 0 ∷
    9 ∷ 4 ∷ 17 ∷ 0 ∷ 1 ∷ 0 ∷ 17 ∷ 0 ∷ 1 ∷ 1 ∷ 3 ∷ 0 ∷ 36 ∷ 4 ∷ 0 ∷ 4 ∷ 0 ∷ 0 ∷ 0 ∷ 1 ∷ 5 ∷ 0 ∷ 14 ∷ 0 ∷ 1 ∷
    18 ∷ 0 ∷ 9 ∷ 5 ∷ 17 ∷ 0 ∷ 1 ∷ 0 ∷ 17 ∷ 0 ∷ 1 ∷ 1 ∷ 5 ∷ 0 ∷ 9 ∷ 1 ∷ 0 ∷ 16 ∷ 0 ∷ 4 ∷ 0 ∷ 0 ∷ 0 ∷ 1 ∷ [])
unfolding marks reserved same sign_of is_digit is_letter in_word is_blank in_comment decimal_value level run_of_kind beyond_run first_in_text scanned_tokens among phrase_nesting after_all among_players bits_below behaviour_named meaning_of_name event_named term_of clauses_of entries_of sheet_of past_sign value_of after_operand cell_of read_constant read_negation read_choice signed_of from_operand phrase_within more_players from_of seen_of many_of default_of parameter_of event_declared reaction_of passive_declared state_of row_declared behaviour_declared behaviour_begins declarations_of read_text assembled encode encode_events encode_behaviours encode_handlers encode_expr
S_assembled = refl

-- the empty text is the rest day's sheet, and so is a comment that the text ends in
--
--   # a \x00ÿ
pub empty : (assembled [] 8192 ≡ fine [])
    × (assembled (35 ∷ 32 ∷ 97 ∷ 32 ∷ 0 ∷ 255 ∷ []) 8192 ≡ fine [])
unfolding marks reserved same sign_of is_digit is_letter in_word is_blank in_comment decimal_value level run_of_kind beyond_run first_in_text scanned_tokens among phrase_nesting after_all among_players bits_below behaviour_named meaning_of_name event_named term_of clauses_of entries_of sheet_of past_sign value_of after_operand cell_of read_constant read_negation read_choice signed_of from_operand phrase_within more_players from_of seen_of many_of default_of parameter_of event_declared reaction_of passive_declared state_of row_declared behaviour_declared behaviour_begins declarations_of read_text assembled encode encode_events encode_behaviours encode_handlers encode_expr
empty = (refl, refl)

-- precedence and grouping; a negative constant where an operand is due, else `-` is two-sided
--   passive a=1+2*3
--   passive a=8-4-2
--   passive a=-1- -2
--   passive a=!-1==2
--   passive a=2147483647-1>=-2147483648
pub tightness : (assembled (112 ∷ 97 ∷ 115 ∷ 115 ∷ 105 ∷ 118 ∷ 101 ∷ 32 ∷ 97 ∷ 61 ∷ 49 ∷ 43 ∷ 50 ∷ 42 ∷ 51 ∷ []) 8192 ≡ fine (
    2 ∷ 0 ∷ 29 ∷ 18 ∷ 0 ∷ 26 ∷ 4 ∷ 16 ∷ 0 ∷ 4 ∷ 0 ∷ 0 ∷ 0 ∷ 1 ∷ 18 ∷ 0 ∷ 15 ∷ 6 ∷ 16 ∷ 0 ∷ 4 ∷ 0 ∷ 0 ∷ 0 ∷
    2 ∷ 16 ∷ 0 ∷ 4 ∷ 0 ∷ 0 ∷ 0 ∷ 3 ∷ []))
    × (assembled (112 ∷ 97 ∷ 115 ∷ 115 ∷ 105 ∷ 118 ∷ 101 ∷ 32 ∷ 97 ∷ 61 ∷ 56 ∷ 45 ∷ 52 ∷ 45 ∷ 50 ∷ []) 8192 ≡ fine (
    2 ∷ 0 ∷ 29 ∷ 18 ∷ 0 ∷ 26 ∷ 5 ∷ 18 ∷ 0 ∷ 15 ∷ 5 ∷ 16 ∷ 0 ∷ 4 ∷ 0 ∷ 0 ∷ 0 ∷ 8 ∷ 16 ∷ 0 ∷ 4 ∷ 0 ∷ 0 ∷ 0 ∷
    4 ∷ 16 ∷ 0 ∷ 4 ∷ 0 ∷ 0 ∷ 0 ∷ 2 ∷ []))
    × (assembled (112 ∷ 97 ∷ 115 ∷ 115 ∷ 105 ∷ 118 ∷ 101 ∷ 32 ∷ 97 ∷ 61 ∷ 45 ∷ 49 ∷ 45 ∷ 32 ∷ 45 ∷ 50 ∷ []) 8192 ≡ fine (
    2 ∷ 0 ∷ 18 ∷ 18 ∷ 0 ∷ 15 ∷ 5 ∷ 16 ∷ 0 ∷ 4 ∷ 255 ∷ 255 ∷ 255 ∷ 255 ∷ 16 ∷ 0 ∷ 4 ∷ 255 ∷ 255 ∷ 255 ∷ 254 ∷ []))
    × (assembled (112 ∷ 97 ∷ 115 ∷ 115 ∷ 105 ∷ 118 ∷ 101 ∷ 32 ∷ 97 ∷ 61 ∷ 33 ∷ 45 ∷ 49 ∷ 61 ∷ 61 ∷ 50 ∷ []) 8192 ≡ fine (
    2 ∷ 0 ∷ 22 ∷ 18 ∷ 0 ∷ 19 ∷ 12 ∷ 18 ∷ 0 ∷ 8 ∷ 3 ∷ 16 ∷ 0 ∷ 4 ∷ 255 ∷ 255 ∷ 255 ∷ 255 ∷ 16 ∷ 0 ∷ 4 ∷ 0 ∷
    0 ∷ 0 ∷ 2 ∷ []))
    × (assembled (112 ∷ 97 ∷ 115 ∷ 115 ∷ 105 ∷ 118 ∷ 101 ∷ 32 ∷ 97 ∷ 61 ∷ 50 ∷ 49 ∷ 52 ∷ 55 ∷ 52 ∷ 56 ∷ 51 ∷ 54 ∷ 52 ∷ 55 ∷ 45 ∷ 49 ∷ 62 ∷ 61 ∷ 45 ∷ 50 ∷ 49 ∷ 52 ∷ 55 ∷ 52 ∷ 56 ∷ 51 ∷ 54 ∷ 52 ∷ 56 ∷ []) 8192 ≡ fine (
    2 ∷ 0 ∷ 29 ∷ 18 ∷ 0 ∷ 26 ∷ 9 ∷ 18 ∷ 0 ∷ 15 ∷ 5 ∷ 16 ∷ 0 ∷ 4 ∷ 127 ∷ 255 ∷ 255 ∷ 255 ∷ 16 ∷ 0 ∷ 4 ∷ 0 ∷
    0 ∷ 0 ∷ 1 ∷ 16 ∷ 0 ∷ 4 ∷ 128 ∷ 0 ∷ 0 ∷ 0 ∷ []))
unfolding marks reserved same sign_of is_digit is_letter in_word is_blank in_comment decimal_value level run_of_kind beyond_run first_in_text scanned_tokens among phrase_nesting after_all among_players bits_below behaviour_named meaning_of_name event_named term_of clauses_of entries_of sheet_of past_sign value_of after_operand cell_of read_constant read_negation read_choice signed_of from_operand phrase_within more_players from_of seen_of many_of default_of parameter_of event_declared reaction_of passive_declared state_of row_declared behaviour_declared behaviour_begins declarations_of read_text assembled encode encode_events encode_behaviours encode_handlers encode_expr
tightness = (refl, refl, refl, refl, refl)

-- the bits of the players named, `nobody` none, nothing said no byte
--   event e rank 0 from 0 7 7
--   event e rank 15 from nobody
--   passive a=1 seen by 1 0
pub players : (assembled (101 ∷ 118 ∷ 101 ∷ 110 ∷ 116 ∷ 32 ∷ 101 ∷ 32 ∷ 114 ∷ 97 ∷ 110 ∷ 107 ∷ 32 ∷ 48 ∷ 32 ∷ 102 ∷ 114 ∷ 111 ∷ 109 ∷ 32 ∷ 48 ∷ 32 ∷ 55 ∷ 32 ∷ 55 ∷ []) 8192 ≡ fine (
    1 ∷ 0 ∷ 2 ∷ 0 ∷ 129 ∷ []))
    × (assembled (101 ∷ 118 ∷ 101 ∷ 110 ∷ 116 ∷ 32 ∷ 101 ∷ 32 ∷ 114 ∷ 97 ∷ 110 ∷ 107 ∷ 32 ∷ 49 ∷ 53 ∷ 32 ∷ 102 ∷ 114 ∷ 111 ∷ 109 ∷ 32 ∷ 110 ∷ 111 ∷ 98 ∷ 111 ∷ 100 ∷ 121 ∷ []) 8192 ≡ fine (
    1 ∷ 0 ∷ 2 ∷ 15 ∷ 0 ∷ []))
    × (assembled (112 ∷ 97 ∷ 115 ∷ 115 ∷ 105 ∷ 118 ∷ 101 ∷ 32 ∷ 97 ∷ 61 ∷ 49 ∷ 32 ∷ 115 ∷ 101 ∷ 101 ∷ 110 ∷ 32 ∷ 98 ∷ 121 ∷ 32 ∷ 49 ∷ 32 ∷ 48 ∷ []) 8192 ≡ fine (
    2 ∷ 0 ∷ 11 ∷ 16 ∷ 0 ∷ 4 ∷ 0 ∷ 0 ∷ 0 ∷ 1 ∷ 8 ∷ 0 ∷ 1 ∷ 3 ∷ []))
unfolding marks reserved same sign_of is_digit is_letter in_word is_blank in_comment decimal_value level run_of_kind beyond_run first_in_text scanned_tokens among phrase_nesting after_all among_players bits_below behaviour_named meaning_of_name event_named term_of clauses_of entries_of sheet_of past_sign value_of after_operand cell_of read_constant read_negation read_choice signed_of from_operand phrase_within more_players from_of seen_of many_of default_of parameter_of event_declared reaction_of passive_declared state_of row_declared behaviour_declared behaviour_begins declarations_of read_text assembled encode encode_events encode_behaviours encode_handlers encode_expr
players = (refl, refl, refl)

-- cells of rows, before they are declared; in a row's handler the bare name, and cell 0 of a row of another count
--   passive a=r[1]+r row r[2]=-5
--   event e rank 1 row r[2]=0 on e:r+r[1]+q[0] row q[3]=0
pub cells : (assembled (112 ∷ 97 ∷ 115 ∷ 115 ∷ 105 ∷ 118 ∷ 101 ∷ 32 ∷ 97 ∷ 61 ∷ 114 ∷ 91 ∷ 49 ∷ 93 ∷ 43 ∷ 114 ∷ 32 ∷ 114 ∷ 111 ∷ 119 ∷ 32 ∷ 114 ∷ 91 ∷ 50 ∷ 93 ∷ 61 ∷ 45 ∷ 53 ∷ []) 8192 ≡ fine (
    2 ∷ 0 ∷ 12 ∷ 18 ∷ 0 ∷ 9 ∷ 4 ∷ 17 ∷ 0 ∷ 1 ∷ 2 ∷ 17 ∷ 0 ∷ 1 ∷ 1 ∷ 6 ∷ 0 ∷ 8 ∷ 2 ∷ 4 ∷ 0 ∷ 4 ∷ 255 ∷ 255 ∷
    255 ∷ 251 ∷ []))
    × (assembled (101 ∷ 118 ∷ 101 ∷ 110 ∷ 116 ∷ 32 ∷ 101 ∷ 32 ∷ 114 ∷ 97 ∷ 110 ∷ 107 ∷ 32 ∷ 49 ∷ 32 ∷ 114 ∷ 111 ∷ 119 ∷ 32 ∷ 114 ∷ 91 ∷ 50 ∷ 93 ∷ 61 ∷ 48 ∷ 32 ∷ 111 ∷ 110 ∷ 32 ∷ 101 ∷ 58 ∷ 114 ∷ 43 ∷ 114 ∷ 91 ∷ 49 ∷ 93 ∷ 43 ∷ 113 ∷ 91 ∷ 48 ∷ 93 ∷ 32 ∷ 114 ∷ 111 ∷ 119 ∷ 32 ∷ 113 ∷ 91 ∷ 51 ∷ 93 ∷ 61 ∷ 48 ∷ []) 8192 ≡ fine (
    1 ∷ 0 ∷ 1 ∷ 1 ∷ 6 ∷ 0 ∷ 33 ∷ 2 ∷ 4 ∷ 0 ∷ 4 ∷ 0 ∷ 0 ∷ 0 ∷ 0 ∷ 5 ∷ 0 ∷ 22 ∷ 0 ∷ 0 ∷ 18 ∷ 0 ∷ 17 ∷ 4 ∷ 18 ∷
    0 ∷ 9 ∷ 4 ∷ 17 ∷ 0 ∷ 1 ∷ 0 ∷ 17 ∷ 0 ∷ 1 ∷ 1 ∷ 17 ∷ 0 ∷ 1 ∷ 2 ∷ 6 ∷ 0 ∷ 8 ∷ 3 ∷ 4 ∷ 0 ∷ 4 ∷ 0 ∷ 0 ∷ 0 ∷
    0 ∷ []))
unfolding marks reserved same sign_of is_digit is_letter in_word is_blank in_comment decimal_value level run_of_kind beyond_run first_in_text scanned_tokens among phrase_nesting after_all among_players bits_below behaviour_named meaning_of_name event_named term_of clauses_of entries_of sheet_of past_sign value_of after_operand cell_of read_constant read_negation read_choice signed_of from_operand phrase_within more_players from_of seen_of many_of default_of parameter_of event_declared reaction_of passive_declared state_of row_declared behaviour_declared behaviour_begins declarations_of read_text assembled encode encode_events encode_behaviours encode_handlers encode_expr
cells = (refl, refl)

-- outside the grammar: a byte, a name of 33 bytes, a token that cannot follow, the end of the text
--   param a @  ('outside', 8)
--   param aaaaaaaaaaaaaaaaaaaaaaaaaaaaaaaaa  ('outside', 6)
--   event e rank -1  ('outside', 13)
--   passive a=-x  ('outside', 11)
--   param a event e rank 1 param b  ('outside', 23)
--   passive a=if(1,2  ('outside', 16)
--   active on=1  ('outside', 7)
--   passive a=1<=\x80  ('outside', 13)
--   passive a=)1)  ('outside', 10)
pub outside_the_grammar : (assembled (112 ∷ 97 ∷ 114 ∷ 97 ∷ 109 ∷ 32 ∷ 97 ∷ 32 ∷ 64 ∷ []) 8192 ≡ fault outside 8)
    × (assembled (112 ∷ 97 ∷ 114 ∷ 97 ∷ 109 ∷ 32 ∷ 97 ∷ 97 ∷ 97 ∷ 97 ∷ 97 ∷ 97 ∷ 97 ∷ 97 ∷ 97 ∷ 97 ∷ 97 ∷ 97 ∷ 97 ∷ 97 ∷ 97 ∷ 97 ∷ 97 ∷ 97 ∷ 97 ∷ 97 ∷ 97 ∷ 97 ∷ 97 ∷ 97 ∷ 97 ∷ 97 ∷ 97 ∷ 97 ∷ 97 ∷ 97 ∷ 97 ∷ 97 ∷ 97 ∷ []) 8192 ≡ fault outside 6)
    × (assembled (101 ∷ 118 ∷ 101 ∷ 110 ∷ 116 ∷ 32 ∷ 101 ∷ 32 ∷ 114 ∷ 97 ∷ 110 ∷ 107 ∷ 32 ∷ 45 ∷ 49 ∷ []) 8192 ≡ fault outside 13)
    × (assembled (112 ∷ 97 ∷ 115 ∷ 115 ∷ 105 ∷ 118 ∷ 101 ∷ 32 ∷ 97 ∷ 61 ∷ 45 ∷ 120 ∷ []) 8192 ≡ fault outside 11)
    × (assembled (112 ∷ 97 ∷ 114 ∷ 97 ∷ 109 ∷ 32 ∷ 97 ∷ 32 ∷ 101 ∷ 118 ∷ 101 ∷ 110 ∷ 116 ∷ 32 ∷ 101 ∷ 32 ∷ 114 ∷ 97 ∷ 110 ∷ 107 ∷ 32 ∷ 49 ∷ 32 ∷ 112 ∷ 97 ∷ 114 ∷ 97 ∷ 109 ∷ 32 ∷ 98 ∷ []) 8192 ≡ fault outside 23)
    × (assembled (112 ∷ 97 ∷ 115 ∷ 115 ∷ 105 ∷ 118 ∷ 101 ∷ 32 ∷ 97 ∷ 61 ∷ 105 ∷ 102 ∷ 40 ∷ 49 ∷ 44 ∷ 50 ∷ []) 8192 ≡ fault outside 16)
    × (assembled (97 ∷ 99 ∷ 116 ∷ 105 ∷ 118 ∷ 101 ∷ 32 ∷ 111 ∷ 110 ∷ 61 ∷ 49 ∷ []) 8192 ≡ fault outside 7)
    × (assembled (112 ∷ 97 ∷ 115 ∷ 115 ∷ 105 ∷ 118 ∷ 101 ∷ 32 ∷ 97 ∷ 61 ∷ 49 ∷ 60 ∷ 61 ∷ 128 ∷ []) 8192 ≡ fault outside 13)
    × (assembled (112 ∷ 97 ∷ 115 ∷ 115 ∷ 105 ∷ 118 ∷ 101 ∷ 32 ∷ 97 ∷ 61 ∷ 41 ∷ 49 ∷ 41 ∷ []) 8192 ≡ fault outside 10)
unfolding marks reserved same sign_of is_digit is_letter in_word is_blank in_comment decimal_value level run_of_kind beyond_run first_in_text scanned_tokens among phrase_nesting after_all among_players bits_below behaviour_named meaning_of_name event_named term_of clauses_of entries_of sheet_of past_sign value_of after_operand cell_of read_constant read_negation read_choice signed_of from_operand phrase_within more_players from_of seen_of many_of default_of parameter_of event_declared reaction_of passive_declared state_of row_declared behaviour_declared behaviour_begins declarations_of read_text assembled encode encode_events encode_behaviours encode_handlers encode_expr
outside_the_grammar = (refl, refl, refl, refl, refl, refl, refl, refl, refl)

-- no two signs are one: the marks, the reserved words, the text's end and a byte where no token begins
unfoldable pub other_signs : ℕ → List Spelling → Bool
other_signs n [] = true
other_signs n (spelled s m ∷ rows) = pick (eqb n m) false (other_signs n rows)

unfoldable pub signs_apart : List Spelling → Bool
signs_apart [] = true
signs_apart (spelled s n ∷ rows) = pick (other_signs n rows) (signs_apart rows) false

pub signs_apart_law : signs_apart (marks ++ (reserved ++ (spelled [] end_sign ∷ spelled [] stray_sign ∷ []))) ≡ true
unfolding marks reserved other_signs signs_apart
signs_apart_law = refl

-- a number over 2,147,483,647, and one more after a `-` that makes a constant; also as a rank, a count, a cell
--   param a=2147483648  ('tooLarge', 8)
--   param a=-2147483649  ('tooLarge', 9)
--   passive a=1-2147483648  ('tooLarge', 12)
--   event e rank 2147483648  ('tooLarge', 13)
--   row r[4294967298]=0  ('tooLarge', 6)
--   passive a=b[2147483648]  ('tooLarge', 12)
pub too_large_law : (assembled (112 ∷ 97 ∷ 114 ∷ 97 ∷ 109 ∷ 32 ∷ 97 ∷ 61 ∷ 50 ∷ 49 ∷ 52 ∷ 55 ∷ 52 ∷ 56 ∷ 51 ∷ 54 ∷ 52 ∷ 56 ∷ []) 8192 ≡ fault too_large 8)
    × (assembled (112 ∷ 97 ∷ 114 ∷ 97 ∷ 109 ∷ 32 ∷ 97 ∷ 61 ∷ 45 ∷ 50 ∷ 49 ∷ 52 ∷ 55 ∷ 52 ∷ 56 ∷ 51 ∷ 54 ∷ 52 ∷ 57 ∷ []) 8192 ≡ fault too_large 9)
    × (assembled (112 ∷ 97 ∷ 115 ∷ 115 ∷ 105 ∷ 118 ∷ 101 ∷ 32 ∷ 97 ∷ 61 ∷ 49 ∷ 45 ∷ 50 ∷ 49 ∷ 52 ∷ 55 ∷ 52 ∷ 56 ∷ 51 ∷ 54 ∷ 52 ∷ 56 ∷ []) 8192 ≡ fault too_large 12)
    × (assembled (101 ∷ 118 ∷ 101 ∷ 110 ∷ 116 ∷ 32 ∷ 101 ∷ 32 ∷ 114 ∷ 97 ∷ 110 ∷ 107 ∷ 32 ∷ 50 ∷ 49 ∷ 52 ∷ 55 ∷ 52 ∷ 56 ∷ 51 ∷ 54 ∷ 52 ∷ 56 ∷ []) 8192 ≡ fault too_large 13)
    × (assembled (114 ∷ 111 ∷ 119 ∷ 32 ∷ 114 ∷ 91 ∷ 52 ∷ 50 ∷ 57 ∷ 52 ∷ 57 ∷ 54 ∷ 55 ∷ 50 ∷ 57 ∷ 56 ∷ 93 ∷ 61 ∷ 48 ∷ []) 8192 ≡ fault too_large 6)
    × (assembled (112 ∷ 97 ∷ 115 ∷ 115 ∷ 105 ∷ 118 ∷ 101 ∷ 32 ∷ 97 ∷ 61 ∷ 98 ∷ 91 ∷ 50 ∷ 49 ∷ 52 ∷ 55 ∷ 52 ∷ 56 ∷ 51 ∷ 54 ∷ 52 ∷ 56 ∷ 93 ∷ []) 8192 ≡ fault too_large 12)
unfolding marks reserved same sign_of is_digit is_letter in_word is_blank in_comment decimal_value level run_of_kind beyond_run first_in_text scanned_tokens among phrase_nesting after_all among_players bits_below behaviour_named meaning_of_name event_named term_of clauses_of entries_of sheet_of past_sign value_of after_operand cell_of read_constant read_negation read_choice signed_of from_operand phrase_within more_players from_of seen_of many_of default_of parameter_of event_declared reaction_of passive_declared state_of row_declared behaviour_declared behaviour_begins declarations_of read_text assembled encode encode_events encode_behaviours encode_handlers encode_expr
too_large_law = (refl, refl, refl, refl, refl, refl)

-- a rank over 15, a player over 7, a cell count not 2 to 16
--   event e rank 16  ('offScale', 13)
--   event e rank 1 from 0 8  ('offScale', 22)
--   row r[1]=0  ('offScale', 6)
--   row r[17]=0  ('offScale', 6)
pub off_scale_law : (assembled (101 ∷ 118 ∷ 101 ∷ 110 ∷ 116 ∷ 32 ∷ 101 ∷ 32 ∷ 114 ∷ 97 ∷ 110 ∷ 107 ∷ 32 ∷ 49 ∷ 54 ∷ []) 8192 ≡ fault off_scale 13)
    × (assembled (101 ∷ 118 ∷ 101 ∷ 110 ∷ 116 ∷ 32 ∷ 101 ∷ 32 ∷ 114 ∷ 97 ∷ 110 ∷ 107 ∷ 32 ∷ 49 ∷ 32 ∷ 102 ∷ 114 ∷ 111 ∷ 109 ∷ 32 ∷ 48 ∷ 32 ∷ 56 ∷ []) 8192 ≡ fault off_scale 22)
    × (assembled (114 ∷ 111 ∷ 119 ∷ 32 ∷ 114 ∷ 91 ∷ 49 ∷ 93 ∷ 61 ∷ 48 ∷ []) 8192 ≡ fault off_scale 6)
    × (assembled (114 ∷ 111 ∷ 119 ∷ 32 ∷ 114 ∷ 91 ∷ 49 ∷ 55 ∷ 93 ∷ 61 ∷ 48 ∷ []) 8192 ≡ fault off_scale 6)
unfolding marks reserved same sign_of is_digit is_letter in_word is_blank in_comment decimal_value level run_of_kind beyond_run first_in_text scanned_tokens among phrase_nesting after_all among_players bits_below behaviour_named meaning_of_name event_named term_of clauses_of entries_of sheet_of past_sign value_of after_operand cell_of read_constant read_negation read_choice signed_of from_operand phrase_within more_players from_of seen_of many_of default_of parameter_of event_declared reaction_of passive_declared state_of row_declared behaviour_declared behaviour_begins declarations_of read_text assembled encode encode_events encode_behaviours encode_handlers encode_expr
off_scale_law = (refl, refl, refl, refl)

-- a ninth parameter; and where a row's cells go past 64, its count
--   param p0 param p1 param p2 param p3 param p4 param p5 param p6 param p7 param p8   ('tooMany', 72)
--   row r0[16]=0 row r1[16]=0 row r2[16]=0 row a[15]=0 row b[2]=0  ('tooMany', 57)
--   row r0[16]=0 row r1[16]=0 row r2[16]=0 row r3[16]=0 row 1  ('tooMany', 52)
--   event e0 rank 1 event e1 rank 1 event e2 rank 1 event e3 rank 1 event e4 rank 1 event e5 rank 1 event e6 rank 1 e
pub too_many : (assembled (112 ∷ 97 ∷ 114 ∷ 97 ∷ 109 ∷ 32 ∷ 112 ∷ 48 ∷ 32 ∷ 112 ∷ 97 ∷ 114 ∷ 97 ∷ 109 ∷ 32 ∷ 112 ∷ 49 ∷ 32 ∷ 112 ∷ 97 ∷ 114 ∷ 97 ∷ 109 ∷ 32 ∷ 112 ∷ 50 ∷ 32 ∷ 112 ∷ 97 ∷ 114 ∷ 97 ∷ 109 ∷ 32 ∷ 112 ∷ 51 ∷ 32 ∷ 112 ∷ 97 ∷ 114 ∷ 97 ∷ 109 ∷ 32 ∷ 112 ∷ 52 ∷ 32 ∷ 112 ∷ 97 ∷ 114 ∷ 97 ∷ 109 ∷ 32 ∷ 112 ∷ 53 ∷ 32 ∷ 112 ∷ 97 ∷ 114 ∷ 97 ∷ 109 ∷ 32 ∷ 112 ∷ 54 ∷ 32 ∷ 112 ∷ 97 ∷ 114 ∷ 97 ∷ 109 ∷ 32 ∷ 112 ∷ 55 ∷ 32 ∷ 112 ∷ 97 ∷ 114 ∷ 97 ∷ 109 ∷ 32 ∷ 112 ∷ 56 ∷ 32 ∷ []) 8192 ≡ fault too_many_fault 72)
    × (assembled (114 ∷ 111 ∷ 119 ∷ 32 ∷ 114 ∷ 48 ∷ 91 ∷ 49 ∷ 54 ∷ 93 ∷ 61 ∷ 48 ∷ 32 ∷ 114 ∷ 111 ∷ 119 ∷ 32 ∷ 114 ∷ 49 ∷ 91 ∷ 49 ∷ 54 ∷ 93 ∷ 61 ∷ 48 ∷ 32 ∷ 114 ∷ 111 ∷ 119 ∷ 32 ∷ 114 ∷ 50 ∷ 91 ∷ 49 ∷ 54 ∷ 93 ∷ 61 ∷ 48 ∷ 32 ∷ 114 ∷ 111 ∷ 119 ∷ 32 ∷ 97 ∷ 91 ∷ 49 ∷ 53 ∷ 93 ∷ 61 ∷ 48 ∷ 32 ∷ 114 ∷ 111 ∷ 119 ∷ 32 ∷ 98 ∷ 91 ∷ 50 ∷ 93 ∷ 61 ∷ 48 ∷ []) 8192 ≡ fault too_many_fault 57)
    × (assembled (114 ∷ 111 ∷ 119 ∷ 32 ∷ 114 ∷ 48 ∷ 91 ∷ 49 ∷ 54 ∷ 93 ∷ 61 ∷ 48 ∷ 32 ∷ 114 ∷ 111 ∷ 119 ∷ 32 ∷ 114 ∷ 49 ∷ 91 ∷ 49 ∷ 54 ∷ 93 ∷ 61 ∷ 48 ∷ 32 ∷ 114 ∷ 111 ∷ 119 ∷ 32 ∷ 114 ∷ 50 ∷ 91 ∷ 49 ∷ 54 ∷ 93 ∷ 61 ∷ 48 ∷ 32 ∷ 114 ∷ 111 ∷ 119 ∷ 32 ∷ 114 ∷ 51 ∷ 91 ∷ 49 ∷ 54 ∷ 93 ∷ 61 ∷ 48 ∷ 32 ∷ 114 ∷ 111 ∷ 119 ∷ 32 ∷ 49 ∷ []) 8192 ≡ fault too_many_fault 52)
    × (assembled (101 ∷ 118 ∷ 101 ∷ 110 ∷ 116 ∷ 32 ∷ 101 ∷ 48 ∷ 32 ∷ 114 ∷ 97 ∷ 110 ∷ 107 ∷ 32 ∷ 49 ∷ 32 ∷ 101 ∷ 118 ∷ 101 ∷ 110 ∷ 116 ∷ 32 ∷ 101 ∷ 49 ∷ 32 ∷ 114 ∷ 97 ∷ 110 ∷ 107 ∷ 32 ∷ 49 ∷ 32 ∷ 101 ∷ 118 ∷ 101 ∷ 110 ∷ 116 ∷ 32 ∷ 101 ∷ 50 ∷ 32 ∷ 114 ∷ 97 ∷ 110 ∷ 107 ∷ 32 ∷ 49 ∷ 32 ∷ 101 ∷ 118 ∷ 101 ∷ 110 ∷ 116 ∷ 32 ∷ 101 ∷ 51 ∷ 32 ∷ 114 ∷ 97 ∷ 110 ∷ 107 ∷ 32 ∷ 49 ∷ 32 ∷ 101 ∷ 118 ∷ 101 ∷ 110 ∷ 116 ∷ 32 ∷ 101 ∷ 52 ∷ 32 ∷ 114 ∷ 97 ∷ 110 ∷ 107 ∷ 32 ∷ 49 ∷ 32 ∷ 101 ∷ 118 ∷ 101 ∷ 110 ∷ 116 ∷ 32 ∷ 101 ∷ 53 ∷ 32 ∷ 114 ∷ 97 ∷ 110 ∷ 107 ∷ 32 ∷ 49 ∷ 32 ∷ 101 ∷ 118 ∷ 101 ∷ 110 ∷ 116 ∷ 32 ∷ 101 ∷ 54 ∷ 32 ∷ 114 ∷ 97 ∷ 110 ∷ 107 ∷ 32 ∷ 49 ∷ 32 ∷ 101 ∷ 118 ∷ 101 ∷ 110 ∷ 116 ∷ 32 ∷ 101 ∷ 55 ∷ 32 ∷ 114 ∷ 97 ∷ 110 ∷ 107 ∷ 32 ∷ 49 ∷ 32 ∷ 101 ∷ 118 ∷ 101 ∷ 110 ∷ 116 ∷ 32 ∷ 101 ∷ 56 ∷ 32 ∷ 114 ∷ 97 ∷ 110 ∷ 107 ∷ 32 ∷ 49 ∷ 32 ∷ 101 ∷ 118 ∷ 101 ∷ 110 ∷ 116 ∷ 32 ∷ 101 ∷ 57 ∷ 32 ∷ 114 ∷ 97 ∷ 110 ∷ 107 ∷ 32 ∷ 49 ∷ 32 ∷ 101 ∷ 118 ∷ 101 ∷ 110 ∷ 116 ∷ 32 ∷ 101 ∷ 49 ∷ 48 ∷ 32 ∷ 114 ∷ 97 ∷ 110 ∷ 107 ∷ 32 ∷ 49 ∷ 32 ∷ 101 ∷ 118 ∷ 101 ∷ 110 ∷ 116 ∷ 32 ∷ 101 ∷ 49 ∷ 49 ∷ 32 ∷ 114 ∷ 97 ∷ 110 ∷ 107 ∷ 32 ∷ 49 ∷ 32 ∷ 101 ∷ 118 ∷ 101 ∷ 110 ∷ 116 ∷ 32 ∷ 101 ∷ 49 ∷ 50 ∷ 32 ∷ 114 ∷ 97 ∷ 110 ∷ 107 ∷ 32 ∷ 49 ∷ 32 ∷ 101 ∷ 118 ∷ 101 ∷ 110 ∷ 116 ∷ 32 ∷ 101 ∷ 49 ∷ 51 ∷ 32 ∷ 114 ∷ 97 ∷ 110 ∷ 107 ∷ 32 ∷ 49 ∷ 32 ∷ 101 ∷ 118 ∷ 101 ∷ 110 ∷ 116 ∷ 32 ∷ 101 ∷ 49 ∷ 52 ∷ 32 ∷ 114 ∷ 97 ∷ 110 ∷ 107 ∷ 32 ∷ 49 ∷ 32 ∷ 101 ∷ 118 ∷ 101 ∷ 110 ∷ 116 ∷ 32 ∷ 101 ∷ 49 ∷ 53 ∷ 32 ∷ 114 ∷ 97 ∷ 110 ∷ 107 ∷ 32 ∷ 49 ∷ 32 ∷ 101 ∷ 118 ∷ 101 ∷ 110 ∷ 116 ∷ 32 ∷ 101 ∷ 49 ∷ 54 ∷ 32 ∷ 114 ∷ 97 ∷ 110 ∷ 107 ∷ 32 ∷ 49 ∷ 32 ∷ 101 ∷ 118 ∷ 101 ∷ 110 ∷ 116 ∷ 32 ∷ 101 ∷ 49 ∷ 55 ∷ 32 ∷ 114 ∷ 97 ∷ 110 ∷ 107 ∷ 32 ∷ 49 ∷ 32 ∷ 101 ∷ 118 ∷ 101 ∷ 110 ∷ 116 ∷ 32 ∷ 101 ∷ 49 ∷ 56 ∷ 32 ∷ 114 ∷ 97 ∷ 110 ∷ 107 ∷ 32 ∷ 49 ∷ 32 ∷ 101 ∷ 118 ∷ 101 ∷ 110 ∷ 116 ∷ 32 ∷ 101 ∷ 49 ∷ 57 ∷ 32 ∷ 114 ∷ 97 ∷ 110 ∷ 107 ∷ 32 ∷ 49 ∷ 32 ∷ 101 ∷ 118 ∷ 101 ∷ 110 ∷ 116 ∷ 32 ∷ 101 ∷ 50 ∷ 48 ∷ 32 ∷ 114 ∷ 97 ∷ 110 ∷ 107 ∷ 32 ∷ 49 ∷ 32 ∷ 101 ∷ 118 ∷ 101 ∷ 110 ∷ 116 ∷ 32 ∷ 101 ∷ 50 ∷ 49 ∷ 32 ∷ 114 ∷ 97 ∷ 110 ∷ 107 ∷ 32 ∷ 49 ∷ 32 ∷ 101 ∷ 118 ∷ 101 ∷ 110 ∷ 116 ∷ 32 ∷ 101 ∷ 50 ∷ 50 ∷ 32 ∷ 114 ∷ 97 ∷ 110 ∷ 107 ∷ 32 ∷ 49 ∷ 32 ∷ 101 ∷ 118 ∷ 101 ∷ 110 ∷ 116 ∷ 32 ∷ 101 ∷ 50 ∷ 51 ∷ 32 ∷ 114 ∷ 97 ∷ 110 ∷ 107 ∷ 32 ∷ 49 ∷ 32 ∷ 101 ∷ 118 ∷ 101 ∷ 110 ∷ 116 ∷ 32 ∷ 101 ∷ 50 ∷ 52 ∷ 32 ∷ 114 ∷ 97 ∷ 110 ∷ 107 ∷ 32 ∷ 49 ∷ 32 ∷ 101 ∷ 118 ∷ 101 ∷ 110 ∷ 116 ∷ 32 ∷ 101 ∷ 50 ∷ 53 ∷ 32 ∷ 114 ∷ 97 ∷ 110 ∷ 107 ∷ 32 ∷ 49 ∷ 32 ∷ 101 ∷ 118 ∷ 101 ∷ 110 ∷ 116 ∷ 32 ∷ 101 ∷ 50 ∷ 54 ∷ 32 ∷ 114 ∷ 97 ∷ 110 ∷ 107 ∷ 32 ∷ 49 ∷ 32 ∷ 101 ∷ 118 ∷ 101 ∷ 110 ∷ 116 ∷ 32 ∷ 101 ∷ 50 ∷ 55 ∷ 32 ∷ 114 ∷ 97 ∷ 110 ∷ 107 ∷ 32 ∷ 49 ∷ 32 ∷ 101 ∷ 118 ∷ 101 ∷ 110 ∷ 116 ∷ 32 ∷ 101 ∷ 50 ∷ 56 ∷ 32 ∷ 114 ∷ 97 ∷ 110 ∷ 107 ∷ 32 ∷ 49 ∷ 32 ∷ 101 ∷ 118 ∷ 101 ∷ 110 ∷ 116 ∷ 32 ∷ 101 ∷ 50 ∷ 57 ∷ 32 ∷ 114 ∷ 97 ∷ 110 ∷ 107 ∷ 32 ∷ 49 ∷ 32 ∷ 101 ∷ 118 ∷ 101 ∷ 110 ∷ 116 ∷ 32 ∷ 101 ∷ 51 ∷ 48 ∷ 32 ∷ 114 ∷ 97 ∷ 110 ∷ 107 ∷ 32 ∷ 49 ∷ 32 ∷ 101 ∷ 118 ∷ 101 ∷ 110 ∷ 116 ∷ 32 ∷ 101 ∷ 51 ∷ 49 ∷ 32 ∷ 114 ∷ 97 ∷ 110 ∷ 107 ∷ 32 ∷ 49 ∷ 32 ∷ 101 ∷ 118 ∷ 101 ∷ 110 ∷ 116 ∷ 32 ∷ 101 ∷ 51 ∷ 50 ∷ 32 ∷ 114 ∷ 97 ∷ 110 ∷ 107 ∷ 32 ∷ 49 ∷ 32 ∷ []) 8192 ≡ fault too_many_fault 534)
unfolding marks reserved same sign_of is_digit is_letter in_word is_blank in_comment decimal_value level run_of_kind beyond_run first_in_text scanned_tokens among phrase_nesting after_all among_players bits_below behaviour_named meaning_of_name event_named term_of clauses_of entries_of sheet_of past_sign value_of after_operand cell_of read_constant read_negation read_choice signed_of from_operand phrase_within more_players from_of seen_of many_of default_of parameter_of event_declared reaction_of passive_declared state_of row_declared behaviour_declared behaviour_begins declarations_of read_text assembled encode encode_events encode_behaviours encode_handlers encode_expr
too_many = (refl, refl, refl, refl)

-- a name declared twice; events have their own names
--   param a param a  ('declaredTwice', 14)
--   param a event e rank 1 passive a=1  ('declaredTwice', 31)
--   event a rank 1 passive a=1
pub declared_twice : (assembled (112 ∷ 97 ∷ 114 ∷ 97 ∷ 109 ∷ 32 ∷ 97 ∷ 32 ∷ 112 ∷ 97 ∷ 114 ∷ 97 ∷ 109 ∷ 32 ∷ 97 ∷ []) 8192 ≡ fault declared_twice_fault 14)
    × (assembled (112 ∷ 97 ∷ 114 ∷ 97 ∷ 109 ∷ 32 ∷ 97 ∷ 32 ∷ 101 ∷ 118 ∷ 101 ∷ 110 ∷ 116 ∷ 32 ∷ 101 ∷ 32 ∷ 114 ∷ 97 ∷ 110 ∷ 107 ∷ 32 ∷ 49 ∷ 32 ∷ 112 ∷ 97 ∷ 115 ∷ 115 ∷ 105 ∷ 118 ∷ 101 ∷ 32 ∷ 97 ∷ 61 ∷ 49 ∷ []) 8192 ≡ fault declared_twice_fault 31)
    × (assembled (101 ∷ 118 ∷ 101 ∷ 110 ∷ 116 ∷ 32 ∷ 97 ∷ 32 ∷ 114 ∷ 97 ∷ 110 ∷ 107 ∷ 32 ∷ 49 ∷ 32 ∷ 112 ∷ 97 ∷ 115 ∷ 115 ∷ 105 ∷ 118 ∷ 101 ∷ 32 ∷ 97 ∷ 61 ∷ 49 ∷ []) 8192 ≡ fine (
    1 ∷ 0 ∷ 1 ∷ 1 ∷ 2 ∷ 0 ∷ 7 ∷ 16 ∷ 0 ∷ 4 ∷ 0 ∷ 0 ∷ 0 ∷ 1 ∷ []))
unfolding marks reserved same sign_of is_digit is_letter in_word is_blank in_comment decimal_value level run_of_kind beyond_run first_in_text scanned_tokens among phrase_nesting after_all among_players bits_below behaviour_named meaning_of_name event_named term_of clauses_of entries_of sheet_of past_sign value_of after_operand cell_of read_constant read_negation read_choice signed_of from_operand phrase_within more_players from_of seen_of many_of default_of parameter_of event_declared reaction_of passive_declared state_of row_declared behaviour_declared behaviour_begins declarations_of read_text assembled encode encode_events encode_behaviours encode_handlers encode_expr
declared_twice = (refl, refl, refl)

-- a second handler for an event, an event that is not declared
--   event e rank 1 active a=0 on e:1 on e later:2  ('secondHandler', 36)
--   event e rank 1 active a=0 on f:1  ('unknownName', 29)
pub handlers : (assembled (101 ∷ 118 ∷ 101 ∷ 110 ∷ 116 ∷ 32 ∷ 101 ∷ 32 ∷ 114 ∷ 97 ∷ 110 ∷ 107 ∷ 32 ∷ 49 ∷ 32 ∷ 97 ∷ 99 ∷ 116 ∷ 105 ∷ 118 ∷ 101 ∷ 32 ∷ 97 ∷ 61 ∷ 48 ∷ 32 ∷ 111 ∷ 110 ∷ 32 ∷ 101 ∷ 58 ∷ 49 ∷ 32 ∷ 111 ∷ 110 ∷ 32 ∷ 101 ∷ 32 ∷ 108 ∷ 97 ∷ 116 ∷ 101 ∷ 114 ∷ 58 ∷ 50 ∷ []) 8192 ≡ fault second_handler_fault 36)
    × (assembled (101 ∷ 118 ∷ 101 ∷ 110 ∷ 116 ∷ 32 ∷ 101 ∷ 32 ∷ 114 ∷ 97 ∷ 110 ∷ 107 ∷ 32 ∷ 49 ∷ 32 ∷ 97 ∷ 99 ∷ 116 ∷ 105 ∷ 118 ∷ 101 ∷ 32 ∷ 97 ∷ 61 ∷ 48 ∷ 32 ∷ 111 ∷ 110 ∷ 32 ∷ 102 ∷ 58 ∷ 49 ∷ []) 8192 ≡ fault unknown_name 29)
unfolding marks reserved same sign_of is_digit is_letter in_word is_blank in_comment decimal_value level run_of_kind beyond_run first_in_text scanned_tokens among phrase_nesting after_all among_players bits_below behaviour_named meaning_of_name event_named term_of clauses_of entries_of sheet_of past_sign value_of after_operand cell_of read_constant read_negation read_choice signed_of from_operand phrase_within more_players from_of seen_of many_of default_of parameter_of event_declared reaction_of passive_declared state_of row_declared behaviour_declared behaviour_begins declarations_of read_text assembled encode encode_events encode_behaviours encode_handlers encode_expr
handlers = (refl, refl)

-- `!` 15 times before a number or a name passes, a 16th has no room; so for `+`, on the left and on the right, and for
-- `if`; what stands behind the sign at fault is not looked at
--   passive a=!!!!!!!!!!!!!!!1
--   param p passive a=!!!!!!!!!!!!!!!p
--   passive a=!!!!!!!!!!!!!!!!1  ('tooDeep', 25)
--   passive a=!!!!!!!!!!!!!!!!@  ('tooDeep', 25)
--   passive a=1+1+1+1+1+1+1+1+1+1+1+1+1+1+1+1
--   passive a=1+1+1+1+1+1+1+1+1+1+1+1+1+1+1+1+1  ('tooDeep', 41)
--   passive a=1+(1+(1+(1+(1+(1+(1+(1+(1+(1+(1+(1+(1+(1+(1+(1)))))))))))))))
--   passive a=1+(1+(1+(1+(1+(1+(1+(1+(1+(1+(1+(1+(1+(1+(1+(1+(1))))))))))))))))  ('tooDeep', 56)
--   passive a=if(1,2,!!!!!!!!!!!!!!1)
--   passive a=if(1,2,!!!!!!!!!!!!!!!1)  ('tooDeep', 31)
--   passive a=!!!!!!!!!!!!!!!if(  ('tooDeep', 25)
pub too_deep_law : (assembled (112 ∷ 97 ∷ 115 ∷ 115 ∷ 105 ∷ 118 ∷ 101 ∷ 32 ∷ 97 ∷ 61 ∷ 33 ∷ 33 ∷ 33 ∷ 33 ∷ 33 ∷ 33 ∷ 33 ∷ 33 ∷ 33 ∷ 33 ∷ 33 ∷ 33 ∷ 33 ∷ 33 ∷ 33 ∷ 49 ∷ []) 8192 ≡ fine (
    2 ∷ 0 ∷ 67 ∷ 18 ∷ 0 ∷ 64 ∷ 3 ∷ 18 ∷ 0 ∷ 60 ∷ 3 ∷ 18 ∷ 0 ∷ 56 ∷ 3 ∷ 18 ∷ 0 ∷ 52 ∷ 3 ∷ 18 ∷ 0 ∷ 48 ∷ 3 ∷ 18 ∷ 0 ∷
    44 ∷ 3 ∷ 18 ∷ 0 ∷ 40 ∷ 3 ∷ 18 ∷ 0 ∷ 36 ∷ 3 ∷ 18 ∷ 0 ∷ 32 ∷ 3 ∷ 18 ∷ 0 ∷ 28 ∷ 3 ∷ 18 ∷ 0 ∷ 24 ∷ 3 ∷ 18 ∷ 0 ∷ 20 ∷
    3 ∷ 18 ∷ 0 ∷ 16 ∷ 3 ∷ 18 ∷ 0 ∷ 12 ∷ 3 ∷ 18 ∷ 0 ∷ 8 ∷ 3 ∷ 16 ∷ 0 ∷ 4 ∷ 0 ∷ 0 ∷ 0 ∷ 1 ∷ []))
    × (assembled (112 ∷ 97 ∷ 114 ∷ 97 ∷ 109 ∷ 32 ∷ 112 ∷ 32 ∷ 112 ∷ 97 ∷ 115 ∷ 115 ∷ 105 ∷ 118 ∷ 101 ∷ 32 ∷ 97 ∷ 61 ∷ 33 ∷ 33 ∷ 33 ∷ 33 ∷ 33 ∷ 33 ∷ 33 ∷ 33 ∷ 33 ∷ 33 ∷ 33 ∷ 33 ∷ 33 ∷ 33 ∷ 33 ∷ 112 ∷ []) 8192 ≡ fine (
    2 ∷ 0 ∷ 64 ∷ 18 ∷ 0 ∷ 61 ∷ 3 ∷ 18 ∷ 0 ∷ 57 ∷ 3 ∷ 18 ∷ 0 ∷ 53 ∷ 3 ∷ 18 ∷ 0 ∷ 49 ∷ 3 ∷ 18 ∷ 0 ∷ 45 ∷ 3 ∷ 18 ∷ 0 ∷
    41 ∷ 3 ∷ 18 ∷ 0 ∷ 37 ∷ 3 ∷ 18 ∷ 0 ∷ 33 ∷ 3 ∷ 18 ∷ 0 ∷ 29 ∷ 3 ∷ 18 ∷ 0 ∷ 25 ∷ 3 ∷ 18 ∷ 0 ∷ 21 ∷ 3 ∷ 18 ∷ 0 ∷ 17 ∷
    3 ∷ 18 ∷ 0 ∷ 13 ∷ 3 ∷ 18 ∷ 0 ∷ 9 ∷ 3 ∷ 18 ∷ 0 ∷ 5 ∷ 3 ∷ 19 ∷ 0 ∷ 1 ∷ 0 ∷ []))
    × (assembled (112 ∷ 97 ∷ 115 ∷ 115 ∷ 105 ∷ 118 ∷ 101 ∷ 32 ∷ 97 ∷ 61 ∷ 33 ∷ 33 ∷ 33 ∷ 33 ∷ 33 ∷ 33 ∷ 33 ∷ 33 ∷ 33 ∷ 33 ∷ 33 ∷ 33 ∷ 33 ∷ 33 ∷ 33 ∷ 33 ∷ 49 ∷ []) 8192 ≡ fault too_deep 25)
    × (assembled (112 ∷ 97 ∷ 115 ∷ 115 ∷ 105 ∷ 118 ∷ 101 ∷ 32 ∷ 97 ∷ 61 ∷ 33 ∷ 33 ∷ 33 ∷ 33 ∷ 33 ∷ 33 ∷ 33 ∷ 33 ∷ 33 ∷ 33 ∷ 33 ∷ 33 ∷ 33 ∷ 33 ∷ 33 ∷ 33 ∷ 64 ∷ []) 8192 ≡ fault too_deep 25)
    × (assembled (112 ∷ 97 ∷ 115 ∷ 115 ∷ 105 ∷ 118 ∷ 101 ∷ 32 ∷ 97 ∷ 61 ∷ 49 ∷ 43 ∷ 49 ∷ 43 ∷ 49 ∷ 43 ∷ 49 ∷ 43 ∷ 49 ∷ 43 ∷ 49 ∷ 43 ∷ 49 ∷ 43 ∷ 49 ∷ 43 ∷ 49 ∷ 43 ∷ 49 ∷ 43 ∷ 49 ∷ 43 ∷ 49 ∷ 43 ∷ 49 ∷ 43 ∷ 49 ∷ 43 ∷ 49 ∷ 43 ∷ 49 ∷ []) 8192 ≡ fine (
    2 ∷ 0 ∷ 172 ∷ 18 ∷ 0 ∷ 169 ∷ 4 ∷ 18 ∷ 0 ∷ 158 ∷ 4 ∷ 18 ∷ 0 ∷ 147 ∷ 4 ∷ 18 ∷ 0 ∷ 136 ∷ 4 ∷ 18 ∷ 0 ∷ 125 ∷ 4 ∷
    18 ∷ 0 ∷ 114 ∷ 4 ∷ 18 ∷ 0 ∷ 103 ∷ 4 ∷ 18 ∷ 0 ∷ 92 ∷ 4 ∷ 18 ∷ 0 ∷ 81 ∷ 4 ∷ 18 ∷ 0 ∷ 70 ∷ 4 ∷ 18 ∷ 0 ∷ 59 ∷ 4 ∷
    18 ∷ 0 ∷ 48 ∷ 4 ∷ 18 ∷ 0 ∷ 37 ∷ 4 ∷ 18 ∷ 0 ∷ 26 ∷ 4 ∷ 18 ∷ 0 ∷ 15 ∷ 4 ∷ 16 ∷ 0 ∷ 4 ∷ 0 ∷ 0 ∷ 0 ∷ 1 ∷ 16 ∷ 0 ∷
    4 ∷ 0 ∷ 0 ∷ 0 ∷ 1 ∷ 16 ∷ 0 ∷ 4 ∷ 0 ∷ 0 ∷ 0 ∷ 1 ∷ 16 ∷ 0 ∷ 4 ∷ 0 ∷ 0 ∷ 0 ∷ 1 ∷ 16 ∷ 0 ∷ 4 ∷ 0 ∷ 0 ∷ 0 ∷ 1 ∷ 16 ∷
    0 ∷ 4 ∷ 0 ∷ 0 ∷ 0 ∷ 1 ∷ 16 ∷ 0 ∷ 4 ∷ 0 ∷ 0 ∷ 0 ∷ 1 ∷ 16 ∷ 0 ∷ 4 ∷ 0 ∷ 0 ∷ 0 ∷ 1 ∷ 16 ∷ 0 ∷ 4 ∷ 0 ∷ 0 ∷ 0 ∷ 1 ∷
    16 ∷ 0 ∷ 4 ∷ 0 ∷ 0 ∷ 0 ∷ 1 ∷ 16 ∷ 0 ∷ 4 ∷ 0 ∷ 0 ∷ 0 ∷ 1 ∷ 16 ∷ 0 ∷ 4 ∷ 0 ∷ 0 ∷ 0 ∷ 1 ∷ 16 ∷ 0 ∷ 4 ∷ 0 ∷ 0 ∷ 0 ∷
    1 ∷ 16 ∷ 0 ∷ 4 ∷ 0 ∷ 0 ∷ 0 ∷ 1 ∷ 16 ∷ 0 ∷ 4 ∷ 0 ∷ 0 ∷ 0 ∷ 1 ∷ 16 ∷ 0 ∷ 4 ∷ 0 ∷ 0 ∷ 0 ∷ 1 ∷ []))
    × (assembled (112 ∷ 97 ∷ 115 ∷ 115 ∷ 105 ∷ 118 ∷ 101 ∷ 32 ∷ 97 ∷ 61 ∷ 49 ∷ 43 ∷ 49 ∷ 43 ∷ 49 ∷ 43 ∷ 49 ∷ 43 ∷ 49 ∷ 43 ∷ 49 ∷ 43 ∷ 49 ∷ 43 ∷ 49 ∷ 43 ∷ 49 ∷ 43 ∷ 49 ∷ 43 ∷ 49 ∷ 43 ∷ 49 ∷ 43 ∷ 49 ∷ 43 ∷ 49 ∷ 43 ∷ 49 ∷ 43 ∷ 49 ∷ 43 ∷ 49 ∷ []) 8192 ≡ fault too_deep 41)
    × (assembled (112 ∷ 97 ∷ 115 ∷ 115 ∷ 105 ∷ 118 ∷ 101 ∷ 32 ∷ 97 ∷ 61 ∷ 49 ∷ 43 ∷ 40 ∷ 49 ∷ 43 ∷ 40 ∷ 49 ∷ 43 ∷ 40 ∷ 49 ∷ 43 ∷ 40 ∷ 49 ∷ 43 ∷ 40 ∷ 49 ∷ 43 ∷ 40 ∷ 49 ∷ 43 ∷ 40 ∷ 49 ∷ 43 ∷ 40 ∷ 49 ∷ 43 ∷ 40 ∷ 49 ∷ 43 ∷ 40 ∷ 49 ∷ 43 ∷ 40 ∷ 49 ∷ 43 ∷ 40 ∷ 49 ∷ 43 ∷ 40 ∷ 49 ∷ 43 ∷ 40 ∷ 49 ∷ 43 ∷ 40 ∷ 49 ∷ 41 ∷ 41 ∷ 41 ∷ 41 ∷ 41 ∷ 41 ∷ 41 ∷ 41 ∷ 41 ∷ 41 ∷ 41 ∷ 41 ∷ 41 ∷ 41 ∷ 41 ∷ []) 8192 ≡ fine (
    2 ∷ 0 ∷ 172 ∷ 18 ∷ 0 ∷ 169 ∷ 4 ∷ 16 ∷ 0 ∷ 4 ∷ 0 ∷ 0 ∷ 0 ∷ 1 ∷ 18 ∷ 0 ∷ 158 ∷ 4 ∷ 16 ∷ 0 ∷ 4 ∷ 0 ∷ 0 ∷ 0 ∷ 1 ∷
    18 ∷ 0 ∷ 147 ∷ 4 ∷ 16 ∷ 0 ∷ 4 ∷ 0 ∷ 0 ∷ 0 ∷ 1 ∷ 18 ∷ 0 ∷ 136 ∷ 4 ∷ 16 ∷ 0 ∷ 4 ∷ 0 ∷ 0 ∷ 0 ∷ 1 ∷ 18 ∷ 0 ∷ 125 ∷
    4 ∷ 16 ∷ 0 ∷ 4 ∷ 0 ∷ 0 ∷ 0 ∷ 1 ∷ 18 ∷ 0 ∷ 114 ∷ 4 ∷ 16 ∷ 0 ∷ 4 ∷ 0 ∷ 0 ∷ 0 ∷ 1 ∷ 18 ∷ 0 ∷ 103 ∷ 4 ∷ 16 ∷ 0 ∷ 4 ∷
    0 ∷ 0 ∷ 0 ∷ 1 ∷ 18 ∷ 0 ∷ 92 ∷ 4 ∷ 16 ∷ 0 ∷ 4 ∷ 0 ∷ 0 ∷ 0 ∷ 1 ∷ 18 ∷ 0 ∷ 81 ∷ 4 ∷ 16 ∷ 0 ∷ 4 ∷ 0 ∷ 0 ∷ 0 ∷ 1 ∷
    18 ∷ 0 ∷ 70 ∷ 4 ∷ 16 ∷ 0 ∷ 4 ∷ 0 ∷ 0 ∷ 0 ∷ 1 ∷ 18 ∷ 0 ∷ 59 ∷ 4 ∷ 16 ∷ 0 ∷ 4 ∷ 0 ∷ 0 ∷ 0 ∷ 1 ∷ 18 ∷ 0 ∷ 48 ∷ 4 ∷
    16 ∷ 0 ∷ 4 ∷ 0 ∷ 0 ∷ 0 ∷ 1 ∷ 18 ∷ 0 ∷ 37 ∷ 4 ∷ 16 ∷ 0 ∷ 4 ∷ 0 ∷ 0 ∷ 0 ∷ 1 ∷ 18 ∷ 0 ∷ 26 ∷ 4 ∷ 16 ∷ 0 ∷ 4 ∷ 0 ∷
    0 ∷ 0 ∷ 1 ∷ 18 ∷ 0 ∷ 15 ∷ 4 ∷ 16 ∷ 0 ∷ 4 ∷ 0 ∷ 0 ∷ 0 ∷ 1 ∷ 16 ∷ 0 ∷ 4 ∷ 0 ∷ 0 ∷ 0 ∷ 1 ∷ []))
    × (assembled (112 ∷ 97 ∷ 115 ∷ 115 ∷ 105 ∷ 118 ∷ 101 ∷ 32 ∷ 97 ∷ 61 ∷ 49 ∷ 43 ∷ 40 ∷ 49 ∷ 43 ∷ 40 ∷ 49 ∷ 43 ∷ 40 ∷ 49 ∷ 43 ∷ 40 ∷ 49 ∷ 43 ∷ 40 ∷ 49 ∷ 43 ∷ 40 ∷ 49 ∷ 43 ∷ 40 ∷ 49 ∷ 43 ∷ 40 ∷ 49 ∷ 43 ∷ 40 ∷ 49 ∷ 43 ∷ 40 ∷ 49 ∷ 43 ∷ 40 ∷ 49 ∷ 43 ∷ 40 ∷ 49 ∷ 43 ∷ 40 ∷ 49 ∷ 43 ∷ 40 ∷ 49 ∷ 43 ∷ 40 ∷ 49 ∷ 43 ∷ 40 ∷ 49 ∷ 41 ∷ 41 ∷ 41 ∷ 41 ∷ 41 ∷ 41 ∷ 41 ∷ 41 ∷ 41 ∷ 41 ∷ 41 ∷ 41 ∷ 41 ∷ 41 ∷ 41 ∷ 41 ∷ []) 8192 ≡ fault too_deep 56)
    × (assembled (112 ∷ 97 ∷ 115 ∷ 115 ∷ 105 ∷ 118 ∷ 101 ∷ 32 ∷ 97 ∷ 61 ∷ 105 ∷ 102 ∷ 40 ∷ 49 ∷ 44 ∷ 50 ∷ 44 ∷ 33 ∷ 33 ∷ 33 ∷ 33 ∷ 33 ∷ 33 ∷ 33 ∷ 33 ∷ 33 ∷ 33 ∷ 33 ∷ 33 ∷ 33 ∷ 33 ∷ 49 ∷ 41 ∷ []) 8192 ≡ fine (
    2 ∷ 0 ∷ 81 ∷ 18 ∷ 0 ∷ 78 ∷ 14 ∷ 16 ∷ 0 ∷ 4 ∷ 0 ∷ 0 ∷ 0 ∷ 1 ∷ 16 ∷ 0 ∷ 4 ∷ 0 ∷ 0 ∷ 0 ∷ 2 ∷ 18 ∷ 0 ∷ 60 ∷ 3 ∷ 18 ∷
    0 ∷ 56 ∷ 3 ∷ 18 ∷ 0 ∷ 52 ∷ 3 ∷ 18 ∷ 0 ∷ 48 ∷ 3 ∷ 18 ∷ 0 ∷ 44 ∷ 3 ∷ 18 ∷ 0 ∷ 40 ∷ 3 ∷ 18 ∷ 0 ∷ 36 ∷ 3 ∷ 18 ∷ 0 ∷
    32 ∷ 3 ∷ 18 ∷ 0 ∷ 28 ∷ 3 ∷ 18 ∷ 0 ∷ 24 ∷ 3 ∷ 18 ∷ 0 ∷ 20 ∷ 3 ∷ 18 ∷ 0 ∷ 16 ∷ 3 ∷ 18 ∷ 0 ∷ 12 ∷ 3 ∷ 18 ∷ 0 ∷ 8 ∷
    3 ∷ 16 ∷ 0 ∷ 4 ∷ 0 ∷ 0 ∷ 0 ∷ 1 ∷ []))
    × (assembled (112 ∷ 97 ∷ 115 ∷ 115 ∷ 105 ∷ 118 ∷ 101 ∷ 32 ∷ 97 ∷ 61 ∷ 105 ∷ 102 ∷ 40 ∷ 49 ∷ 44 ∷ 50 ∷ 44 ∷ 33 ∷ 33 ∷ 33 ∷ 33 ∷ 33 ∷ 33 ∷ 33 ∷ 33 ∷ 33 ∷ 33 ∷ 33 ∷ 33 ∷ 33 ∷ 33 ∷ 33 ∷ 49 ∷ 41 ∷ []) 8192 ≡ fault too_deep 31)
    × (assembled (112 ∷ 97 ∷ 115 ∷ 115 ∷ 105 ∷ 118 ∷ 101 ∷ 32 ∷ 97 ∷ 61 ∷ 33 ∷ 33 ∷ 33 ∷ 33 ∷ 33 ∷ 33 ∷ 33 ∷ 33 ∷ 33 ∷ 33 ∷ 33 ∷ 33 ∷ 33 ∷ 33 ∷ 33 ∷ 105 ∷ 102 ∷ 40 ∷ []) 8192 ≡ fault too_deep 25)
unfolding marks reserved same sign_of is_digit is_letter in_word is_blank in_comment decimal_value level run_of_kind beyond_run first_in_text scanned_tokens among phrase_nesting after_all among_players bits_below behaviour_named meaning_of_name event_named term_of clauses_of entries_of sheet_of past_sign value_of after_operand cell_of read_constant read_negation read_choice signed_of from_operand phrase_within more_players from_of seen_of many_of default_of parameter_of event_declared reaction_of passive_declared state_of row_declared behaviour_declared behaviour_begins declarations_of read_text assembled encode encode_events encode_behaviours encode_handlers encode_expr
too_deep_law = (refl, refl, refl, refl, refl, refl, refl, refl, refl, refl, refl)

-- brackets nest as deep as they like and are no functions; each is closed by one
--   passive a=((((((((((((((((((((((((((((((((((((((((1))))))))))))))))))))))))))))))))))))))))
--   passive a=((((((((((((((((((((1+1+1+1+1+1+1+1+1+1+1+1+1+1+1+1))))))))))))))))))))+1  ('tooDeep', 81)
--   passive a=(1+2)*((3-4)*5)
--   passive a=((1)  ('outside', 14)
--   passive a=(1))  ('outside', 13)
--   passive a=1+1+1+1+1+1+1+1+1+1+1+1+1+1+1+1)  ('outside', 41)
pub brackets : (assembled (112 ∷ 97 ∷ 115 ∷ 115 ∷ 105 ∷ 118 ∷ 101 ∷ 32 ∷ 97 ∷ 61 ∷ 40 ∷ 40 ∷ 40 ∷ 40 ∷ 40 ∷ 40 ∷ 40 ∷ 40 ∷ 40 ∷ 40 ∷ 40 ∷ 40 ∷ 40 ∷ 40 ∷ 40 ∷ 40 ∷ 40 ∷ 40 ∷ 40 ∷ 40 ∷ 40 ∷ 40 ∷ 40 ∷ 40 ∷ 40 ∷ 40 ∷ 40 ∷ 40 ∷ 40 ∷ 40 ∷ 40 ∷ 40 ∷ 40 ∷ 40 ∷ 40 ∷ 40 ∷ 40 ∷ 40 ∷ 40 ∷ 40 ∷ 49 ∷ 41 ∷ 41 ∷ 41 ∷ 41 ∷ 41 ∷ 41 ∷ 41 ∷ 41 ∷ 41 ∷ 41 ∷ 41 ∷ 41 ∷ 41 ∷ 41 ∷ 41 ∷ 41 ∷ 41 ∷ 41 ∷ 41 ∷ 41 ∷ 41 ∷ 41 ∷ 41 ∷ 41 ∷ 41 ∷ 41 ∷ 41 ∷ 41 ∷ 41 ∷ 41 ∷ 41 ∷ 41 ∷ 41 ∷ 41 ∷ 41 ∷ 41 ∷ 41 ∷ 41 ∷ 41 ∷ 41 ∷ []) 8192 ≡ fine (
    2 ∷ 0 ∷ 7 ∷ 16 ∷ 0 ∷ 4 ∷ 0 ∷ 0 ∷ 0 ∷ 1 ∷ []))
    × (assembled (112 ∷ 97 ∷ 115 ∷ 115 ∷ 105 ∷ 118 ∷ 101 ∷ 32 ∷ 97 ∷ 61 ∷ 40 ∷ 40 ∷ 40 ∷ 40 ∷ 40 ∷ 40 ∷ 40 ∷ 40 ∷ 40 ∷ 40 ∷ 40 ∷ 40 ∷ 40 ∷ 40 ∷ 40 ∷ 40 ∷ 40 ∷ 40 ∷ 40 ∷ 40 ∷ 49 ∷ 43 ∷ 49 ∷ 43 ∷ 49 ∷ 43 ∷ 49 ∷ 43 ∷ 49 ∷ 43 ∷ 49 ∷ 43 ∷ 49 ∷ 43 ∷ 49 ∷ 43 ∷ 49 ∷ 43 ∷ 49 ∷ 43 ∷ 49 ∷ 43 ∷ 49 ∷ 43 ∷ 49 ∷ 43 ∷ 49 ∷ 43 ∷ 49 ∷ 43 ∷ 49 ∷ 41 ∷ 41 ∷ 41 ∷ 41 ∷ 41 ∷ 41 ∷ 41 ∷ 41 ∷ 41 ∷ 41 ∷ 41 ∷ 41 ∷ 41 ∷ 41 ∷ 41 ∷ 41 ∷ 41 ∷ 41 ∷ 41 ∷ 41 ∷ 43 ∷ 49 ∷ []) 8192 ≡ fault too_deep 81)
    × (assembled (112 ∷ 97 ∷ 115 ∷ 115 ∷ 105 ∷ 118 ∷ 101 ∷ 32 ∷ 97 ∷ 61 ∷ 40 ∷ 49 ∷ 43 ∷ 50 ∷ 41 ∷ 42 ∷ 40 ∷ 40 ∷ 51 ∷ 45 ∷ 52 ∷ 41 ∷ 42 ∷ 53 ∷ 41 ∷ []) 8192 ≡ fine (
    2 ∷ 0 ∷ 51 ∷ 18 ∷ 0 ∷ 48 ∷ 6 ∷ 18 ∷ 0 ∷ 15 ∷ 4 ∷ 16 ∷ 0 ∷ 4 ∷ 0 ∷ 0 ∷ 0 ∷ 1 ∷ 16 ∷ 0 ∷ 4 ∷ 0 ∷ 0 ∷ 0 ∷ 2 ∷ 18 ∷
    0 ∷ 26 ∷ 6 ∷ 18 ∷ 0 ∷ 15 ∷ 5 ∷ 16 ∷ 0 ∷ 4 ∷ 0 ∷ 0 ∷ 0 ∷ 3 ∷ 16 ∷ 0 ∷ 4 ∷ 0 ∷ 0 ∷ 0 ∷ 4 ∷ 16 ∷ 0 ∷ 4 ∷ 0 ∷ 0 ∷
    0 ∷ 5 ∷ []))
    × (assembled (112 ∷ 97 ∷ 115 ∷ 115 ∷ 105 ∷ 118 ∷ 101 ∷ 32 ∷ 97 ∷ 61 ∷ 40 ∷ 40 ∷ 49 ∷ 41 ∷ []) 8192 ≡ fault outside 14)
    × (assembled (112 ∷ 97 ∷ 115 ∷ 115 ∷ 105 ∷ 118 ∷ 101 ∷ 32 ∷ 97 ∷ 61 ∷ 40 ∷ 49 ∷ 41 ∷ 41 ∷ []) 8192 ≡ fault outside 13)
    × (assembled (112 ∷ 97 ∷ 115 ∷ 115 ∷ 105 ∷ 118 ∷ 101 ∷ 32 ∷ 97 ∷ 61 ∷ 49 ∷ 43 ∷ 49 ∷ 43 ∷ 49 ∷ 43 ∷ 49 ∷ 43 ∷ 49 ∷ 43 ∷ 49 ∷ 43 ∷ 49 ∷ 43 ∷ 49 ∷ 43 ∷ 49 ∷ 43 ∷ 49 ∷ 43 ∷ 49 ∷ 43 ∷ 49 ∷ 43 ∷ 49 ∷ 43 ∷ 49 ∷ 43 ∷ 49 ∷ 43 ∷ 49 ∷ 41 ∷ []) 8192 ≡ fault outside 41)
unfolding marks reserved same sign_of is_digit is_letter in_word is_blank in_comment decimal_value level run_of_kind beyond_run first_in_text scanned_tokens among phrase_nesting after_all among_players bits_below behaviour_named meaning_of_name event_named term_of clauses_of entries_of sheet_of past_sign value_of after_operand cell_of read_constant read_negation read_choice signed_of from_operand phrase_within more_players from_of seen_of many_of default_of parameter_of event_declared reaction_of passive_declared state_of row_declared behaviour_declared behaviour_begins declarations_of read_text assembled encode encode_events encode_behaviours encode_handlers encode_expr
brackets = (refl, refl, refl, refl, refl, refl)

-- a name in a formula that is not declared; no row, past its end, cell 0 where it cannot be said; first pass first
--   passive a=1+b  ('unknownName', 12)
--   passive a=a[0]  ('noSuchCell', 11)
--   row r[2]=0 passive a=r[2]  ('noSuchCell', 22)
--   event e rank 1 row r[2]=0 on e:r[0]  ('noSuchCell', 32)
--   passive a=b passive a=1  ('declaredTwice', 20)
--   param p passive a=p[0]  ('noSuchCell', 19)
pub unknown : (assembled (112 ∷ 97 ∷ 115 ∷ 115 ∷ 105 ∷ 118 ∷ 101 ∷ 32 ∷ 97 ∷ 61 ∷ 49 ∷ 43 ∷ 98 ∷ []) 8192 ≡ fault unknown_name 12)
    × (assembled (112 ∷ 97 ∷ 115 ∷ 115 ∷ 105 ∷ 118 ∷ 101 ∷ 32 ∷ 97 ∷ 61 ∷ 97 ∷ 91 ∷ 48 ∷ 93 ∷ []) 8192 ≡ fault no_such_cell_fault 11)
    × (assembled (114 ∷ 111 ∷ 119 ∷ 32 ∷ 114 ∷ 91 ∷ 50 ∷ 93 ∷ 61 ∷ 48 ∷ 32 ∷ 112 ∷ 97 ∷ 115 ∷ 115 ∷ 105 ∷ 118 ∷ 101 ∷ 32 ∷ 97 ∷ 61 ∷ 114 ∷ 91 ∷ 50 ∷ 93 ∷ []) 8192 ≡ fault no_such_cell_fault 22)
    × (assembled (101 ∷ 118 ∷ 101 ∷ 110 ∷ 116 ∷ 32 ∷ 101 ∷ 32 ∷ 114 ∷ 97 ∷ 110 ∷ 107 ∷ 32 ∷ 49 ∷ 32 ∷ 114 ∷ 111 ∷ 119 ∷ 32 ∷ 114 ∷ 91 ∷ 50 ∷ 93 ∷ 61 ∷ 48 ∷ 32 ∷ 111 ∷ 110 ∷ 32 ∷ 101 ∷ 58 ∷ 114 ∷ 91 ∷ 48 ∷ 93 ∷ []) 8192 ≡ fault no_such_cell_fault 32)
    × (assembled (112 ∷ 97 ∷ 115 ∷ 115 ∷ 105 ∷ 118 ∷ 101 ∷ 32 ∷ 97 ∷ 61 ∷ 98 ∷ 32 ∷ 112 ∷ 97 ∷ 115 ∷ 115 ∷ 105 ∷ 118 ∷ 101 ∷ 32 ∷ 97 ∷ 61 ∷ 49 ∷ []) 8192 ≡ fault declared_twice_fault 20)
    × (assembled (112 ∷ 97 ∷ 114 ∷ 97 ∷ 109 ∷ 32 ∷ 112 ∷ 32 ∷ 112 ∷ 97 ∷ 115 ∷ 115 ∷ 105 ∷ 118 ∷ 101 ∷ 32 ∷ 97 ∷ 61 ∷ 112 ∷ 91 ∷ 48 ∷ 93 ∷ []) 8192 ≡ fault no_such_cell_fault 19)
unfolding marks reserved same sign_of is_digit is_letter in_word is_blank in_comment decimal_value level run_of_kind beyond_run first_in_text scanned_tokens among phrase_nesting after_all among_players bits_below behaviour_named meaning_of_name event_named term_of clauses_of entries_of sheet_of past_sign value_of after_operand cell_of read_constant read_negation read_choice signed_of from_operand phrase_within more_players from_of seen_of many_of default_of parameter_of event_declared reaction_of passive_declared state_of row_declared behaviour_declared behaviour_begins declarations_of read_text assembled encode encode_events encode_behaviours encode_handlers encode_expr
unknown = (refl, refl, refl, refl, refl, refl)

-- a text of 65,537 bytes is turned down before anything else, at its last byte; a buffer of 73 bytes is too short for
-- sheet S, at the end of its text
pub lengths : (assembled (64 ∷ replicate 65536 32) 0 ≡ fault long_text_fault 65536) × (assembled sheet_S 73 ≡ fault short_buffer_fault 100)
unfolding marks reserved same sign_of is_digit is_letter in_word is_blank in_comment decimal_value level run_of_kind beyond_run first_in_text scanned_tokens among phrase_nesting after_all among_players bits_below behaviour_named meaning_of_name event_named term_of clauses_of entries_of sheet_of past_sign value_of after_operand cell_of read_constant read_negation read_choice signed_of from_operand phrase_within more_players from_of seen_of many_of default_of parameter_of event_declared reaction_of passive_declared state_of row_declared behaviour_declared behaviour_begins declarations_of read_text assembled encode encode_events encode_behaviours encode_handlers encode_expr
lengths = (refl, refl)

-- line and column of the fault, and the buffer as it was
--   param a
--
--     param b
--    param a
pub place_told_law : assemble_on (112 ∷ 97 ∷ 114 ∷ 97 ∷ 109 ∷ 32 ∷ 97 ∷ 10 ∷ 10 ∷ 32 ∷ 32 ∷ 112 ∷ 97 ∷ 114 ∷ 97 ∷ 109 ∷ 32 ∷ 98 ∷ 10 ∷ 32 ∷ 112 ∷ 97 ∷ 114 ∷ 97 ∷ 109 ∷ 32 ∷ 97 ∷ []) (9 ∷ [])
    ≡ (turned_down declared_twice_fault 4 8, 9 ∷ [])
unfolding line_from column_from assemble_on marks reserved same sign_of is_digit is_letter in_word is_blank in_comment decimal_value level run_of_kind beyond_run first_in_text scanned_tokens among phrase_nesting after_all among_players bits_below behaviour_named meaning_of_name event_named term_of clauses_of entries_of sheet_of past_sign value_of after_operand cell_of read_constant read_negation read_choice signed_of from_operand phrase_within more_players from_of seen_of many_of default_of parameter_of event_declared reaction_of passive_declared state_of row_declared behaviour_declared behaviour_begins declarations_of read_text assembled encode encode_events encode_behaviours encode_handlers encode_expr
place_told_law = refl

-- a text with other names: f gives one letter more, and each place moves by itself; a[2] with its name at 3 and its `[`
-- at 7, and the event's name in a handler
pub renamed : (phrase_as (λ s. 98 ∷ s) (λ s. 99 ∷ s) (λ p. p + 1) (cell 3 (97 ∷ []) 7 2) ≡ cell 4 (98 ∷ 97 ∷ []) 8 2)
    × (reactions_as (λ s. 98 ∷ s) (λ s. 99 ∷ s) (λ p. p + 1) (on (101 ∷ []) later (named 5 (97 ∷ [])) ∷ []) ≡ on (99 ∷ 101 ∷ []) later (named 6 (98 ∷ 97 ∷ [])) ∷ [])
unfolding phrase_as reactions_as
renamed = (refl, refl)

-- `-` and 7 are the constant -7; the largest and the least number
pub minus_seven : IsValue (sign 0 5 ∷ number 1 7 ∷ []) (minus 7) []
minus_seven = v_minus

pub constants : ConstantFits (plus 2147483647) × (ConstantFits (plus 2147483648) → ⊥) × ConstantFits (minus 2147483648) × (ConstantFits (minus 2147483649) → ⊥)
constants = (omega arith, (λ h. omega arith), omega arith, (λ h. omega arith))

-- a sheet of 8,192 bytes, at the end of a text of nine: in a buffer of as many, and of one byte less; one of 8,193
pub longest_sheet : (s : Sheet) → length (encode s) ≡ 8192 → (length_judged 9 8192 s ≡ fine (encode s)) × (length_judged 9 8191 s ≡ fault short_buffer_fault 9)
longest_sheet s h = (rw h, rw h)

pub too_long_a_sheet : (s : Sheet) → length (encode s) ≡ 8193 → length_judged 9 8193 s ≡ fault long_sheet_fault 9
too_long_a_sheet s h = rw h
