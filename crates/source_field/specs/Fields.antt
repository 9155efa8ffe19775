-- What a reading comes to with those before it, and what then stands in the buffer.
use Rattle.std.specs.Prelude.{Option, Ok, Err, ℕ, ◌+◌, ◌≤◌, ◌<◌, List}
use Rattle.text_formula.specs.Nesting.{deeper}
use Rattle.sheet_write.specs.Writes.{as_application}
use Rattle.std.specs.Option.{option_or}
use Rattle.source_coding.specs.declared.faults.Fault.{Fault}
use Rattle.source_field.specs.Formula.{Read, formula_done}

-- a reading after others that nest d deep, v the first fault of their names
abbrev pub under_by : ℕ → Option Fault → Read → Read
under_by d v (Err w) = Err w
under_by d v (Ok f) = formula_done f.next (deeper d f.depth) f.end (option_or v f.stray)

-- an application of them all: four bytes more, and one level of nesting
abbrev pub applied_by : ℕ → Option Fault → Read → Read
applied_by d v (Err w) = Err w
applied_by d v (Ok f) = formula_done f.next (deeper d f.depth + 1) (f.end + 4) (option_or v f.stray)

abbrev pub headed_in : ℕ → ℕ → Read → List ℕ → List ℕ
headed_in f start (Err w) o = o
headed_in f start (Ok g) o = as_application f start g.end o

abbrev pub Headable : ℕ → ℕ → Read → Type 0
Headable start d (Err w) = Unit {0}
Headable start d (Ok f) = (start ≤ f.end) × (f.end ≤ 2097152) × (d + f.depth < 65536)
