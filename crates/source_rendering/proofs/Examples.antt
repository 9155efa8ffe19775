-- Texts that describe sheets, each by computing from a text that is read: the sheet of docs/SHEETS.md, brackets, spaces
-- and lines, rows' cells.
use Rattle.lib_base.proofs.Prelude.{ℕ, ◌≡◌, refl, List, [], ◌∷◌}
use Rattle.lib_signature.specs.Signature.{level}
use Rattle.text_formula.specs.Tokens.{decimal_value}
use Rattle.source_language.specs.Tokens.{marks, reserved, same, sign_of, is_digit, is_letter, in_word, is_blank, in_comment}
use Rattle.source_language.specs.Faults.{OrFault, fine, and_then}
use Rattle.source_language.specs.Limits.{among, phrase_nesting, after_all}
use Rattle.source_language.specs.Meaning.{among_players, bits_below, behaviour_named, meaning_of_name, event_named, term_of, clauses_of, entries_of, sheet_of}
use Rattle.source_language.specs.Scanner.{run_of_kind, beyond_run, first_in_text, scanned_tokens}
use Rattle.source_language.specs.Reader.{past_sign, value_of, after_operand, cell_of, read_constant, read_negation, read_choice, signed_of, from_operand, phrase_within, more_players, from_of, seen_of, many_of, default_of, parameter_of, event_declared, reaction_of, passive_declared, state_of, row_declared, behaviour_declared, behaviour_begins, declarations_of, read_text}
use Rattle.source_rendering.specs.Describe.{digits_of, cell_named, phrase_of, described_reactions, players_from, described_behaviours, described_events, parameters_from, phrase_tokens, number_tokens, parameter_tokens, event_tokens, reaction_tokens, behaviour_tokens, spelled_as, last_of, run_together, rendered, render, described}
use Rattle.spec_language.specs.Sheet.{params_of, params_of_clauses, params_of_entries}
use Rattle.source_language.proofs.Examples.{lamps}

-- the text that describes the sheet of a text
abbrev again : List ℕ → OrFault (List ℕ)
again bytes = and_then (read_text bytes) (λ x. and_then (sheet_of x) (λ s. fine (described s)))

-- the sheet of docs/SHEETS.md
--   param p0
--   param p1
--   event e0 rank 2 from 1 2
--   event e1 rank 2 from 1 2
--   event e2 rank 2 from 0
--   event e3 rank 2 from 1 2
--   event e4 rank 2 from 0
--   active b0=0
--     on e4:1
--   active b1=0
--     on e0:if(b0,b1,b1+p0*if(b2+1>=p1,2,1))
--     on e1:if(b0,b1,b1-5)
--     on e2:if(b0,b1,b1+b3)
--   active b2=0
--     on e0 later:if(b0,b2,b2+1)
--     on e1:0
--   active b3=50 seen by nobody
--   row b4[12]=-1
--     on e3:if(b0,b4,0-b4)
--   passive b16=b4+b4[11]
--   passive b17=if(b0,b1,-1)
pub lamps_described : again lamps ≡ fine (
    112 ∷ 97 ∷ 114 ∷ 97 ∷ 109 ∷ 32 ∷ 112 ∷ 48 ∷ 10 ∷ 112 ∷ 97 ∷ 114 ∷ 97 ∷ 109 ∷ 32 ∷ 112 ∷ 49 ∷ 10 ∷ 101 ∷
    118 ∷ 101 ∷ 110 ∷ 116 ∷ 32 ∷ 101 ∷ 48 ∷ 32 ∷ 114 ∷ 97 ∷ 110 ∷ 107 ∷ 32 ∷ 50 ∷ 32 ∷ 102 ∷ 114 ∷ 111 ∷
    109 ∷ 32 ∷ 49 ∷ 32 ∷ 50 ∷ 10 ∷ 101 ∷ 118 ∷ 101 ∷ 110 ∷ 116 ∷ 32 ∷ 101 ∷ 49 ∷ 32 ∷ 114 ∷ 97 ∷ 110 ∷ 107 ∷
    32 ∷ 50 ∷ 32 ∷ 102 ∷ 114 ∷ 111 ∷ 109 ∷ 32 ∷ 49 ∷ 32 ∷ 50 ∷ 10 ∷ 101 ∷ 118 ∷ 101 ∷ 110 ∷ 116 ∷ 32 ∷ 101 ∷
    50 ∷ 32 ∷ 114 ∷ 97 ∷ 110 ∷ 107 ∷ 32 ∷ 50 ∷ 32 ∷ 102 ∷ 114 ∷ 111 ∷ 109 ∷ 32 ∷ 48 ∷ 10 ∷ 101 ∷ 118 ∷ 101 ∷
    110 ∷ 116 ∷ 32 ∷ 101 ∷ 51 ∷ 32 ∷ 114 ∷ 97 ∷ 110 ∷ 107 ∷ 32 ∷ 50 ∷ 32 ∷ 102 ∷ 114 ∷ 111 ∷ 109 ∷ 32 ∷ 49 ∷
    32 ∷ 50 ∷ 10 ∷ 101 ∷ 118 ∷ 101 ∷ 110 ∷ 116 ∷ 32 ∷ 101 ∷ 52 ∷ 32 ∷ 114 ∷ 97 ∷ 110 ∷ 107 ∷ 32 ∷ 50 ∷ 32 ∷
    102 ∷ 114 ∷ 111 ∷ 109 ∷ 32 ∷ 48 ∷ 10 ∷ 97 ∷ 99 ∷ 116 ∷ 105 ∷ 118 ∷ 101 ∷ 32 ∷ 98 ∷ 48 ∷ 61 ∷ 48 ∷ 10 ∷
    32 ∷ 32 ∷ 111 ∷ 110 ∷ 32 ∷ 101 ∷ 52 ∷ 58 ∷ 49 ∷ 10 ∷ 97 ∷ 99 ∷ 116 ∷ 105 ∷ 118 ∷ 101 ∷ 32 ∷ 98 ∷ 49 ∷
    61 ∷ 48 ∷ 10 ∷ 32 ∷ 32 ∷ 111 ∷ 110 ∷ 32 ∷ 101 ∷ 48 ∷ 58 ∷ 105 ∷ 102 ∷ 40 ∷ 98 ∷ 48 ∷ 44 ∷ 98 ∷ 49 ∷ 44 ∷
    98 ∷ 49 ∷ 43 ∷ 112 ∷ 48 ∷ 42 ∷ 105 ∷ 102 ∷ 40 ∷ 98 ∷ 50 ∷ 43 ∷ 49 ∷ 62 ∷ 61 ∷ 112 ∷ 49 ∷ 44 ∷ 50 ∷ 44 ∷
    49 ∷ 41 ∷ 41 ∷ 10 ∷ 32 ∷ 32 ∷ 111 ∷ 110 ∷ 32 ∷ 101 ∷ 49 ∷ 58 ∷ 105 ∷ 102 ∷ 40 ∷ 98 ∷ 48 ∷ 44 ∷ 98 ∷ 49 ∷
    44 ∷ 98 ∷ 49 ∷ 45 ∷ 53 ∷ 41 ∷ 10 ∷ 32 ∷ 32 ∷ 111 ∷ 110 ∷ 32 ∷ 101 ∷ 50 ∷ 58 ∷ 105 ∷ 102 ∷ 40 ∷ 98 ∷ 48 ∷
    44 ∷ 98 ∷ 49 ∷ 44 ∷ 98 ∷ 49 ∷ 43 ∷ 98 ∷ 51 ∷ 41 ∷ 10 ∷ 97 ∷ 99 ∷ 116 ∷ 105 ∷ 118 ∷ 101 ∷ 32 ∷ 98 ∷ 50 ∷
    61 ∷ 48 ∷ 10 ∷ 32 ∷ 32 ∷ 111 ∷ 110 ∷ 32 ∷ 101 ∷ 48 ∷ 32 ∷ 108 ∷ 97 ∷ 116 ∷ 101 ∷ 114 ∷ 58 ∷ 105 ∷ 102 ∷
    40 ∷ 98 ∷ 48 ∷ 44 ∷ 98 ∷ 50 ∷ 44 ∷ 98 ∷ 50 ∷ 43 ∷ 49 ∷ 41 ∷ 10 ∷ 32 ∷ 32 ∷ 111 ∷ 110 ∷ 32 ∷ 101 ∷ 49 ∷
    58 ∷ 48 ∷ 10 ∷ 97 ∷ 99 ∷ 116 ∷ 105 ∷ 118 ∷ 101 ∷ 32 ∷ 98 ∷ 51 ∷ 61 ∷ 53 ∷ 48 ∷ 32 ∷ 115 ∷ 101 ∷ 101 ∷
    110 ∷ 32 ∷ 98 ∷ 121 ∷ 32 ∷ 110 ∷ 111 ∷ 98 ∷ 111 ∷ 100 ∷ 121 ∷ 10 ∷ 114 ∷ 111 ∷ 119 ∷ 32 ∷ 98 ∷ 52 ∷ 91 ∷
    49 ∷ 50 ∷ 93 ∷ 61 ∷ 45 ∷ 49 ∷ 10 ∷ 32 ∷ 32 ∷ 111 ∷ 110 ∷ 32 ∷ 101 ∷ 51 ∷ 58 ∷ 105 ∷ 102 ∷ 40 ∷ 98 ∷ 48 ∷
    44 ∷ 98 ∷ 52 ∷ 44 ∷ 48 ∷ 45 ∷ 98 ∷ 52 ∷ 41 ∷ 10 ∷ 112 ∷ 97 ∷ 115 ∷ 115 ∷ 105 ∷ 118 ∷ 101 ∷ 32 ∷ 98 ∷ 49 ∷
    54 ∷ 61 ∷ 98 ∷ 52 ∷ 43 ∷ 98 ∷ 52 ∷ 91 ∷ 49 ∷ 49 ∷ 93 ∷ 10 ∷ 112 ∷ 97 ∷ 115 ∷ 115 ∷ 105 ∷ 118 ∷ 101 ∷ 32 ∷
    98 ∷ 49 ∷ 55 ∷ 61 ∷ 105 ∷ 102 ∷ 40 ∷ 98 ∷ 48 ∷ 44 ∷ 98 ∷ 49 ∷ 44 ∷ 45 ∷ 49 ∷ 41 ∷ 10 ∷ [])
unfolding marks reserved same sign_of is_digit is_letter in_word is_blank in_comment decimal_value level run_of_kind beyond_run first_in_text scanned_tokens among phrase_nesting after_all among_players bits_below behaviour_named meaning_of_name event_named term_of clauses_of entries_of sheet_of past_sign value_of after_operand cell_of read_constant read_negation read_choice signed_of from_operand phrase_within more_players from_of seen_of many_of default_of parameter_of event_declared reaction_of passive_declared state_of row_declared behaviour_declared behaviour_begins declarations_of read_text digits_of cell_named phrase_of described_reactions players_from described_behaviours described_events params_of params_of_clauses params_of_entries parameters_from phrase_tokens number_tokens parameter_tokens event_tokens reaction_tokens behaviour_tokens spelled_as last_of run_together rendered render described
lamps_described = refl

-- minimal brackets, spaces where they are needed, lines, rows' cells
--   'passive a=(1+2)*3'  'passive b0=(1+2)*3\n'
--   'passive a=(8-4)-2 seen by 0'  'passive b0=8-4-2 seen by 0\n'
--   'passive a=8-(4-2)'  'passive b0=8-(4-2)\n'
--   'passive a=!(!(a))- -1'  'passive b0=!!b0--1\n'
--   'passive a=((1<2)==(3&&4)||5)*(if((6),7,8))'  'passive b0=(1<2==(3&&4)||5)*if(6,7,8)\n'
--   ''  ''
--   'event a rank 1 from nobody row r[2]=0 seen by 3 passive q=r[1]'
--   'event e0 rank 1 from nobody\nrow b0[2]=0 seen by 3\npassive b2=b0[1]\n'
pub described_so : (again (112 ∷ 97 ∷ 115 ∷ 115 ∷ 105 ∷ 118 ∷ 101 ∷ 32 ∷ 97 ∷ 61 ∷ 40 ∷ 49 ∷ 43 ∷ 50 ∷ 41 ∷ 42 ∷ 51 ∷ []) ≡ fine (112 ∷ 97 ∷ 115 ∷ 115 ∷ 105 ∷ 118 ∷ 101 ∷ 32 ∷ 98 ∷ 48 ∷ 61 ∷ 40 ∷ 49 ∷ 43 ∷ 50 ∷ 41 ∷ 42 ∷ 51 ∷ 10 ∷ []))
    × (again (112 ∷ 97 ∷ 115 ∷ 115 ∷ 105 ∷ 118 ∷ 101 ∷ 32 ∷ 97 ∷ 61 ∷ 40 ∷ 56 ∷ 45 ∷ 52 ∷ 41 ∷ 45 ∷ 50 ∷ 32 ∷ 115 ∷ 101 ∷ 101 ∷ 110 ∷ 32 ∷ 98 ∷ 121 ∷ 32 ∷ 48 ∷ []) ≡ fine (112 ∷ 97 ∷ 115 ∷ 115 ∷ 105 ∷ 118 ∷ 101 ∷ 32 ∷ 98 ∷ 48 ∷ 61 ∷ 56 ∷ 45 ∷ 52 ∷ 45 ∷ 50 ∷ 32 ∷ 115 ∷ 101 ∷ 101 ∷ 110 ∷ 32 ∷ 98 ∷ 121 ∷ 32 ∷ 48 ∷ 10 ∷ []))
    × (again (112 ∷ 97 ∷ 115 ∷ 115 ∷ 105 ∷ 118 ∷ 101 ∷ 32 ∷ 97 ∷ 61 ∷ 56 ∷ 45 ∷ 40 ∷ 52 ∷ 45 ∷ 50 ∷ 41 ∷ []) ≡ fine (112 ∷ 97 ∷ 115 ∷ 115 ∷ 105 ∷ 118 ∷ 101 ∷ 32 ∷ 98 ∷ 48 ∷ 61 ∷ 56 ∷ 45 ∷ 40 ∷ 52 ∷ 45 ∷ 50 ∷ 41 ∷ 10 ∷ []))
    × (again (112 ∷ 97 ∷ 115 ∷ 115 ∷ 105 ∷ 118 ∷ 101 ∷ 32 ∷ 97 ∷ 61 ∷ 33 ∷ 40 ∷ 33 ∷ 40 ∷ 97 ∷ 41 ∷ 41 ∷ 45 ∷ 32 ∷ 45 ∷ 49 ∷ []) ≡ fine (112 ∷ 97 ∷ 115 ∷ 115 ∷ 105 ∷ 118 ∷ 101 ∷ 32 ∷ 98 ∷ 48 ∷ 61 ∷ 33 ∷ 33 ∷ 98 ∷ 48 ∷ 45 ∷ 45 ∷ 49 ∷ 10 ∷ []))
    × (again (112 ∷ 97 ∷ 115 ∷ 115 ∷ 105 ∷ 118 ∷ 101 ∷ 32 ∷ 97 ∷ 61 ∷ 40 ∷ 40 ∷ 49 ∷ 60 ∷ 50 ∷ 41 ∷ 61 ∷ 61 ∷ 40 ∷ 51 ∷ 38 ∷ 38 ∷ 52 ∷ 41 ∷ 124 ∷ 124 ∷ 53 ∷ 41 ∷ 42 ∷ 40 ∷ 105 ∷ 102 ∷ 40 ∷ 40 ∷ 54 ∷ 41 ∷ 44 ∷ 55 ∷ 44 ∷ 56 ∷ 41 ∷ 41 ∷ []) ≡ fine (112 ∷ 97 ∷ 115 ∷ 115 ∷ 105 ∷ 118 ∷ 101 ∷ 32 ∷ 98 ∷ 48 ∷ 61 ∷ 40 ∷ 49 ∷ 60 ∷ 50 ∷ 61 ∷ 61 ∷ 40 ∷ 51 ∷ 38 ∷ 38 ∷ 52 ∷ 41 ∷ 124 ∷ 124 ∷ 53 ∷ 41 ∷ 42 ∷ 105 ∷ 102 ∷ 40 ∷ 54 ∷ 44 ∷ 55 ∷ 44 ∷ 56 ∷ 41 ∷ 10 ∷ []))
    × (again ([]) ≡ fine ([]))
    × (again (101 ∷ 118 ∷ 101 ∷ 110 ∷ 116 ∷ 32 ∷ 97 ∷ 32 ∷ 114 ∷ 97 ∷ 110 ∷ 107 ∷ 32 ∷ 49 ∷ 32 ∷ 102 ∷ 114 ∷ 111 ∷ 109 ∷ 32 ∷ 110 ∷ 111 ∷ 98 ∷ 111 ∷ 100 ∷ 121 ∷ 32 ∷ 114 ∷ 111 ∷ 119 ∷ 32 ∷ 114 ∷ 91 ∷ 50 ∷ 93 ∷ 61 ∷ 48 ∷ 32 ∷ 115 ∷ 101 ∷ 101 ∷ 110 ∷ 32 ∷ 98 ∷ 121 ∷ 32 ∷ 51 ∷ 32 ∷ 112 ∷ 97 ∷ 115 ∷ 115 ∷ 105 ∷ 118 ∷ 101 ∷ 32 ∷ 113 ∷ 61 ∷ 114 ∷ 91 ∷ 49 ∷ 93 ∷ []) ≡ fine (101 ∷ 118 ∷ 101 ∷ 110 ∷ 116 ∷ 32 ∷ 101 ∷ 48 ∷ 32 ∷ 114 ∷ 97 ∷ 110 ∷ 107 ∷ 32 ∷ 49 ∷ 32 ∷ 102 ∷ 114 ∷ 111 ∷ 109 ∷ 32 ∷ 110 ∷ 111 ∷ 98 ∷ 111 ∷ 100 ∷ 121 ∷ 10 ∷ 114 ∷ 111 ∷ 119 ∷ 32 ∷ 98 ∷ 48 ∷ 91 ∷ 50 ∷ 93 ∷ 61 ∷ 48 ∷ 32 ∷ 115 ∷ 101 ∷ 101 ∷ 110 ∷ 32 ∷ 98 ∷ 121 ∷ 32 ∷ 51 ∷ 10 ∷ 112 ∷ 97 ∷ 115 ∷ 115 ∷ 105 ∷ 118 ∷ 101 ∷ 32 ∷ 98 ∷ 50 ∷ 61 ∷ 98 ∷ 48 ∷ 91 ∷ 49 ∷ 93 ∷ 10 ∷ []))
unfolding marks reserved same sign_of is_digit is_letter in_word is_blank in_comment decimal_value level run_of_kind beyond_run first_in_text scanned_tokens among phrase_nesting after_all among_players bits_below behaviour_named meaning_of_name event_named term_of clauses_of entries_of sheet_of past_sign value_of after_operand cell_of read_constant read_negation read_choice signed_of from_operand phrase_within more_players from_of seen_of many_of default_of parameter_of event_declared reaction_of passive_declared state_of row_declared behaviour_declared behaviour_begins declarations_of read_text digits_of cell_named phrase_of described_reactions players_from described_behaviours described_events params_of params_of_clauses params_of_entries parameters_from phrase_tokens number_tokens parameter_tokens event_tokens reaction_tokens behaviour_tokens spelled_as last_of run_together rendered render described
described_so = (refl, refl, refl, refl, refl, refl, refl)
