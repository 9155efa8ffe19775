-- Why a text is turned down: a kind, and a place, the number of bytes before it. docs/SHEETS.md "Faults".
use Rattle.std.specs.Prelude.{ℕ}

pub data Kind : Type 0 where
  outside too_large off_scale too_many_fault declared_twice_fault second_handler_fault too_deep unknown_name no_such_cell_fault long_sheet_fault short_buffer_fault long_text_fault : Kind

-- a result, or the first fault
pub data OrFault (A : Type 0) : Type 0 where
  fault : Kind → ℕ → OrFault A
  fine : A → OrFault A

abbrev pub and_then : {A B : Type 0} → OrFault A → (A → OrFault B) → OrFault B
and_then (fault k p) f = fault k p
and_then (fine x) f = f x
