-- The kind that a recorded call's first byte tells: 0 arrival, 1 step, else board reading, as `call_of` has it.
use Rattle.std.specs.Prelude.{ℕ, ◌≡◌, ◌≢◌}
use Rattle.engine.specs.declared.steps.CallKind.{CallKind}
use Rattle.engine.specs.declared.steps.CallKind.TheVariants.{Arrival, Step, Board}

abbrev pub IsKind : ℕ → CallKind → Type 0
IsKind byte Arrival = byte ≡ 0
IsKind byte Step = byte ≡ 1
IsKind byte Board = (byte ≢ 0) × (byte ≢ 1)
