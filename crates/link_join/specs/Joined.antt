-- What a join answers and leaves. 02, M-111.
use Rattle.std.specs.Prelude.{ℕ, List}

-- an answer, and the buffer's bytes after the call
abbrev pub Joined : Type 0
Joined = ℕ × List ℕ

abbrev pub joined : ℕ → List ℕ → Joined
joined r l = (r, l)
