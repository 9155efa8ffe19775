-- Faults as the crates of the reader hand them to each other.
use Rattle.std.specs.Prelude.{ℕ, Option, None, Some}
use Rattle.source_language.specs.Faults.{OrFault, fault, fine}
use Rattle.source_language.specs.Faults.{outside, too_large, off_scale, too_many_fault, declared_twice_fault, second_handler_fault}
use Rattle.source_language.specs.Faults.{too_deep, unknown_name, no_such_cell_fault, long_sheet_fault, short_buffer_fault, long_text_fault}
use Rattle.source_language.specs.Faults as language
use Rattle.source_coding.specs.Faults.{fault_number}
use Rattle.source_coding.specs.declared.faults.Kind.{Kind}
use Rattle.source_coding.specs.declared.faults.Kind.TheVariants as K
use Rattle.source_coding.specs.declared.faults.Fault.{Fault}

-- a kind as the code has it
abbrev pub kind_of : language.Kind → Kind
kind_of outside = K.Outside
kind_of too_large = K.LargeNumber
kind_of off_scale = K.OffScale
kind_of too_many_fault = K.TooMany
kind_of declared_twice_fault = K.DeclaredTwice
kind_of second_handler_fault = K.SecondHandler
kind_of too_deep = K.TooDeep
kind_of unknown_name = K.UnknownName
kind_of no_such_cell_fault = K.NoSuchCell
kind_of long_sheet_fault = K.LongSheet
kind_of short_buffer_fault = K.ShortBuffer
kind_of long_text_fault = K.LongText

-- the number of a kind
abbrev pub number : Kind → ℕ
number K.Outside = fault_number outside
number K.LargeNumber = fault_number too_large
number K.OffScale = fault_number off_scale
number K.TooMany = fault_number too_many_fault
number K.DeclaredTwice = fault_number declared_twice_fault
number K.SecondHandler = fault_number second_handler_fault
number K.TooDeep = fault_number too_deep
number K.UnknownName = fault_number unknown_name
number K.NoSuchCell = fault_number no_such_cell_fault
number K.LongSheet = fault_number long_sheet_fault
number K.ShortBuffer = fault_number short_buffer_fault
number K.LongText = fault_number long_text_fault

-- a fault of this kind at a place
abbrev pub fault_of : language.Kind → ℕ → Fault
fault_of k p = record { kind = kind_of k; place = p }

-- the fault in what was worked out, if there is one
abbrev pub fault_in : {A : Type 0} → OrFault A → Option Fault
fault_in (fault k p) = Some (fault_of k p)
fault_in (fine x) = None
