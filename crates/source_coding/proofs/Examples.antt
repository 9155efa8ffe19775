-- The numbers of faults and of assemble's answers as docs/SHEETS.md has them, by computation: a number that is wrong in
-- the definition and in the code alike would not be these.
use Rattle.lib_base.proofs.Prelude.{◌≡◌, refl, List, [], ◌∷◌, map}
use Rattle.source_language.specs.Faults.{Kind, outside, too_large, off_scale, too_many_fault, declared_twice_fault, second_handler_fault, too_deep, unknown_name, no_such_cell_fault, long_sheet_fault, short_buffer_fault, long_text_fault}
use Rattle.source_language.specs.Answer.{written, turned_down}
use Rattle.source_coding.specs.Faults.{fault_number, outcome_number}

abbrev every_kind : List Kind
every_kind =
    outside ∷ too_large ∷ off_scale ∷ too_many_fault ∷ declared_twice_fault ∷ second_handler_fault ∷ too_deep ∷ unknown_name ∷ no_such_cell_fault ∷ long_sheet_fault ∷ short_buffer_fault ∷ long_text_fault ∷ []

pub numbers_of_kinds : map fault_number every_kind ≡ (31 ∷ 32 ∷ 33 ∷ 34 ∷ 35 ∷ 36 ∷ 37 ∷ 38 ∷ 39 ∷ 40 ∷ 41 ∷ 42 ∷ [])
numbers_of_kinds = refl

-- a sheet of 74 bytes: 2 ^ 32 + 74
pub number_of_74_bytes : outcome_number (written 74) ≡ 4294967370
number_of_74_bytes = refl

-- outside the grammar at line 3, column 7: 31 * 2 ^ 56 + 3 * 2 ^ 28 + 7
pub number_of_line_3_column_7 : outcome_number (turned_down outside 3 7) ≡ 2233785415981072391
number_of_line_3_column_7 = refl
