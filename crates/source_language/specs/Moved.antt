-- A result whose fault has moved.
use Rattle.std.specs.Prelude.{ℕ}
use Rattle.source_language.specs.Faults.{OrFault, fault, fine}

-- a result whose fault has moved
abbrev pub moved_by : {A : Type 0} → (ℕ → ℕ) → OrFault A → OrFault A
moved_by g (fault k p) = fault k (g p)
moved_by g (fine x) = fine x
