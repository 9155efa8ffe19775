-- Which answers of a step tell of a commit.
use Rattle.std.specs.Prelude.{ℕ, ◌%◌, Bool, eqb}
use Rattle.spec_language.specs.Answers as kinds

-- a step that answers a commits: the kind is the remainder by 16
abbrev pub is_commit : ℕ → Bool
is_commit a = eqb (a % 16) kinds.committed
