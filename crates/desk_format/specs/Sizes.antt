-- The bytes that the desk reads by name: a field's tags, from a sheet's to a show's.
use Rattle.std.specs.Prelude.{ℕ}

abbrev pub space : ℕ
space = 32

abbrev pub sharp : ℕ
sharp = 35
