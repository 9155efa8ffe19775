-- The tags of nodes by the names that contracts use, as src/layout.rt has them for the code.
use Rattle.std.specs.Prelude.{ℕ}

-- of a name's node
abbrev pub name_tag : ℕ
name_tag = 17
