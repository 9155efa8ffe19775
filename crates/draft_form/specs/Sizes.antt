-- The draft's parts by the names that contracts use, as src/layout.rt has them for the code.
use Rattle.std.specs.Prelude.{ℕ}

-- how many nodes it holds at the most
abbrev pub draft_nodes : ℕ
draft_nodes = 2048

-- where the events' priorities stand
abbrev pub draft_priorities : ℕ
draft_priorities = 4224
