-- How the meaning of a name is one number: a behaviour's number and so many for each of its cells; and how often
-- a list of names is halved.
use Rattle.std.specs.Prelude.{ℕ}

abbrev pub cell_unit : ℕ
cell_unit = 128

-- above all meanings: 65 units
abbrev pub meaning_limit : ℕ
meaning_limit = 8320

-- 72 names are halved so often at the most
abbrev pub halvings : ℕ
halvings = 7
