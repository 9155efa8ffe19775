-- Faults as numbers: a kind's own, and a fault's word, 0 for none. docs/SHEETS.md "Faults".
use Rattle.std.specs.Prelude.{ℕ, ◌+◌, ◌*◌}
use Rattle.source_language.specs.Faults.{Kind, outside, too_large, off_scale, too_many_fault, declared_twice_fault, second_handler_fault}
use Rattle.source_language.specs.Faults.{too_deep, unknown_name, no_such_cell_fault, long_sheet_fault, short_buffer_fault, long_text_fault}
use Rattle.source_language.specs.Answer.{TextOutcome, written, turned_down}
use Rattle.spec_language.specs.Answers.{told}

abbrev pub fault_number : Kind → ℕ
fault_number outside = 31
fault_number too_large = 32
fault_number off_scale = 33
fault_number too_many_fault = 34
fault_number declared_twice_fault = 35
fault_number second_handler_fault = 36
fault_number too_deep = 37
fault_number unknown_name = 38
fault_number no_such_cell_fault = 39
fault_number long_sheet_fault = 40
fault_number short_buffer_fault = 41
fault_number long_text_fault = 42

abbrev pub kind_unit : ℕ
kind_unit = 72057594037927936

abbrev pub line_unit : ℕ
line_unit = 268435456

-- assemble's answer: 2 ^ 32 and the length; or the kind times 2 ^ 56, the line times 2 ^ 28 and the column
abbrev pub outcome_number : TextOutcome → ℕ
outcome_number (written n) = told n
outcome_number (turned_down k l c) = fault_number k * kind_unit + (l * line_unit + c)
