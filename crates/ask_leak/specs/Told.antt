-- What the code finds, as the number that `leak` answers.
use Rattle.std.specs.Prelude.{ℕ, Option, Some, None}
use Rattle.ask_leak.specs.declared.Leak.{Leak}
use Rattle.ask_leak.specs.Answer.{packed_leak}

-- the number of what is found; 0 where nothing is
abbrev pub told_leak : Option Leak → ℕ
told_leak None = 0
told_leak (Some l) = packed_leak l.seen l.hidden
