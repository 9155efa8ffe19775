-- What the code finds, as the number that `join` answers.
use Rattle.std.specs.Prelude.{ℕ, ◌+◌, Result, Ok, Err}

-- what a joined sheet's length, or the number that turns a join down, is as an answer: 2 ^ 32 is added to the length
abbrev pub join_answer : Result ℕ ℕ → ℕ
join_answer (Ok n) = 4294967296 + n
join_answer (Err n) = n
