-- What a call answers: a refusal's number, or 0 where it is done, or 2 ^ 32 and the word where it reads one.
use Rattle.std.specs.Prelude.{Result, Ok, Err, ℕ}
use Rattle.spec_language.specs.Answers.{told}
use Rattle.spec_language.specs.Numbers.{refusal_number}
use Rattle.spec_language.specs.declared.refusals.Refusal.{Refusal}

abbrev pub verdict_number : Result (Unit {0}) Refusal → ℕ
verdict_number (Ok u) = 0
verdict_number (Err r) = refusal_number r

abbrev pub told_number : Result ℕ Refusal → ℕ
told_number (Ok w) = told w
told_number (Err r) = refusal_number r
