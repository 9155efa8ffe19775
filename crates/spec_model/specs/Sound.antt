-- Turns whose changes are to programs that compile accepts: what proofs ask of turns.
use Rattle.spec_language.specs.Valid.{Valid}
use Rattle.spec_model.specs.Model.{Turn, call, change}

-- the changes are to programs as compile accepts them
abbrev pub Sound : Turn → Type 0
Sound (call c) = Unit {0}
Sound (change q) = Valid q
