-- A bound for the instructions that work the passives out.
use Rattle.std.specs.Prelude.{ℕ}

abbrev pub most_passive_code : ℕ
most_passive_code = 262400
