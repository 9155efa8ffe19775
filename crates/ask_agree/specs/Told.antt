-- What the code finds, as the number that `agree` answers.
use Rattle.std.specs.Prelude.{ℕ, Option, Some, None}
use Rattle.ask_agree.specs.declared.Clash.{Clash}
use Rattle.ask_agree.specs.Answer.{packed_difference}

-- the number of what is found; 0 where nothing is
abbrev pub told_difference : Option Clash → ℕ
told_difference None = 0
told_difference (Some c) = packed_difference c.first c.second c.behaviour
