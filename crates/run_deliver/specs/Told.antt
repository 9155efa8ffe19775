-- What the code finds, as the number that `deliver` answers.
use Rattle.std.specs.Prelude.{Result, Ok, Err, ℕ}
use Rattle.spec_language.specs.Numbers.{refusal_number}
use Rattle.spec_language.specs.declared.refusals.Refusal.{Refusal}

-- what is answered: a refusal's number, or the answer of one that is not refused
abbrev pub answer_number : Result ℕ Refusal → ℕ
answer_number (Ok a) = a
answer_number (Err r) = refusal_number r
