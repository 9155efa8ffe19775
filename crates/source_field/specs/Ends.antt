-- Where a field of a sheet's text ends at the most, before it is known to fit.
use Rattle.std.specs.Prelude.{ℕ}

abbrev pub field_end : ℕ
field_end = 2097152
