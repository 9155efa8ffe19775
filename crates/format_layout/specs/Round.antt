-- A fresh round, of the round's own type, and what a call answers and leaves of a round. 01 "A fresh round has start
-- values, .., an empty hand."
use Rattle.std.specs.Prelude.{ℕ, List}

-- a call's answer, and the round's bytes after it
abbrev pub CallResult : Type 0
CallResult = ℕ × List ℕ

abbrev pub call_result : ℕ → List ℕ → CallResult
call_result r l = (r, l)
