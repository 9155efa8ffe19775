-- A kind of the code has the number of the kind that it stands for.
use Rattle.lib_base.proofs.Prelude.{◌≡◌, refl}
use Rattle.source_language.specs.Faults.{Kind, outside, too_large, off_scale, too_many_fault, declared_twice_fault, second_handler_fault, too_deep, unknown_name, no_such_cell_fault, long_sheet_fault, short_buffer_fault, long_text_fault}
use Rattle.source_coding.specs.Faults.{fault_number}
use Rattle.source_coding.specs.FaultWords.{kind_of, number}

pub number_of_kind : (k : Kind) → number (kind_of k) ≡ fault_number k
number_of_kind outside = refl
number_of_kind too_large = refl
number_of_kind off_scale = refl
number_of_kind too_many_fault = refl
number_of_kind declared_twice_fault = refl
number_of_kind second_handler_fault = refl
number_of_kind too_deep = refl
number_of_kind unknown_name = refl
number_of_kind no_such_cell_fault = refl
number_of_kind long_sheet_fault = refl
number_of_kind short_buffer_fault = refl
number_of_kind long_text_fault = refl
