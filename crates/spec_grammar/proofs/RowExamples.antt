-- Worked checks of rows (02, M-110), each by computing: what a row reads as, and what it is written out to. Its faults:
-- spec_language, FaultTable.antt.
use Rattle.lib_base.proofs.Prelude.{◌≡◌, refl, some, [], ◌∷◌, ◌++◌, flat_map}
use Rattle.lib_word.specs.Word.{get_at}
use Rattle.spec_language.specs.Syntax.{immediate, later}
use Rattle.spec_language.specs.Sheet.{literal, variable, apply2, clause, formula, state, row, Sheet, cell_count, heads, rename_term, entries_out, rows_out, change_clauses}
use Rattle.spec_language.specs.Order.{up_to}
use Rattle.spec_language.specs.Grammar.{encode_expr, encode_handlers, encode_behaviours, encode_events, encode}
use Rattle.spec_language.specs.Reading.{got, field_at, read_all, expr_at, handles, entry, sheet, read_sheet}
use Rattle.spec_language.proofs.FaultTable.{events, first, seen, rowed}
use Rattle.spec_grammar.proofs.Examples.{plain, bare}

-- ---- written out

-- two rows of 2 cells, b0 and b1, b2 and b3; a row of 3, b4 to b6; and a passive, b7. In the first row's handler b0 is
-- its own cell and b2 the second row's at the same place; b3, which begins no row, b4, which begins one of another
-- count, and b7 are what they say. In the passive b0 is b0, and so in an active's handler
abbrev pub rows : Sheet
rows =
    sheet (plain 0 ∷ [])
    (entry (row 2 7 (clause 0 immediate (apply2 4 (variable 0) (variable 2)) ∷ [])) (some 5)
    ∷ bare (row 2 8 (clause 0 later (apply2 4 (variable 3) (apply2 4 (variable 4) (variable 7))) ∷ []))
    ∷ bare (row 3 9 (clause 0 immediate (apply2 4 (variable 4) (variable 0)) ∷ []))
    ∷ bare (formula (apply2 4 (variable 0) (variable 2)))
    ∷ bare (state 1 (clause 0 later (variable 0) ∷ []))
    ∷ [])

pub written : rows_out rows
    ≡ sheet (plain 0 ∷ [])
    (entry (state 7 (clause 0 immediate (apply2 4 (variable 0) (variable 2)) ∷ [])) (some 5)
    ∷ entry (state 7 (clause 0 immediate (apply2 4 (variable 1) (variable 3)) ∷ [])) (some 5)
    ∷ bare (state 8 (clause 0 later (apply2 4 (variable 3) (apply2 4 (variable 4) (variable 7))) ∷ []))
    ∷ bare (state 8 (clause 0 later (apply2 4 (variable 3) (apply2 4 (variable 4) (variable 7))) ∷ []))
    ∷ bare (state 9 (clause 0 immediate (apply2 4 (variable 4) (variable 0)) ∷ []))
    ∷ bare (state 9 (clause 0 immediate (apply2 4 (variable 5) (variable 0)) ∷ []))
    ∷ bare (state 9 (clause 0 immediate (apply2 4 (variable 6) (variable 0)) ∷ []))
    ∷ bare (formula (apply2 4 (variable 0) (variable 2)))
    ∷ bare (state 1 (clause 0 later (variable 0) ∷ []))
    ∷ [])
unfolding entries_out flat_map heads rename_term change_clauses up_to
written = refl

pub rows_read : read_sheet (encode rows) ≡ got rows []
unfolding encode encode_events encode_behaviours encode_handlers encode_expr read_sheet read_all handles expr_at field_at get_at cell_count
rows_read = refl

-- ---- bytes

-- 2 and 16 cells, with a handler, and with a right to see
pub cell_counts : (read_sheet (rowed 2 []) ≡ got (sheet [] (bare (row 2 1 []) ∷ [])) []) × (read_sheet (rowed 16 []) ≡ got (sheet [] (bare (row 16 1 []) ∷ [])) [])
    × (read_sheet (events 1 (rowed 3 (first ++ seen 2))) ≡ got (sheet (plain 0 ∷ []) (entry (row 3 1 (clause 0 immediate (literal 1) ∷ [])) (some 2) ∷ [])) [])
unfolding read_sheet read_all handles expr_at field_at get_at cell_count
cell_counts = (refl, refl, refl)

-- four rows of 16
pub full_rows : read_sheet (rowed 16 [] ++ (rowed 16 [] ++ (rowed 16 [] ++ rowed 16 []))) ≡ got (sheet [] (bare (row 16 1 []) ∷ bare (row 16 1 []) ∷ bare (row 16 1 []) ∷ bare (row 16 1 []) ∷ [])) []
unfolding read_sheet read_all handles expr_at field_at get_at cell_count
full_rows = refl
