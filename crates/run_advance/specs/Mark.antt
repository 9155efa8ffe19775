-- The mark of a commit. 02, M-104.
use Rattle.std.specs.Prelude.{ℕ}

-- M-104: "the committing step's answer carries a mark", 2^56 more: arrival numbers, whatever the bytes, end below
abbrev pub over_mark : ℕ
over_mark = 72057594037927936
