-- Numbers of a formula's text that are larger than 2^31 - 1 are all read as this one.
use Rattle.std.specs.Prelude.{ℕ}

abbrev pub too_large : ℕ
too_large = 2147483648
