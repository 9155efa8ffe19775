-- The numbers of a step's answers with 01's words. 01 "A step does the first that fits .. The answer names which, with
-- arrival and event number where one starts or commits." And an answer that is a value.
use Rattle.std.specs.Prelude.{ℕ, ◌+◌}

-- a value as an answer: 2 ^ 32 more, which no refusal's number reaches
abbrev pub told : ℕ → ℕ
told v = 4294967296 + v

abbrev pub idle : ℕ  -- else idle
idle = 0

abbrev pub ran : ℕ  -- something runs: one instruction
ran = 1

abbrev pub started : ℕ  -- something waits: the next starts
started = 2

abbrev pub committed : ℕ  -- one instruction, the on that commits the event
committed = 3

abbrev pub preempted : ℕ  -- something outranks the running event: that goes back to the hand, the next starts
preempted = 4
