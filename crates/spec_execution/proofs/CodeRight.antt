-- What the engine relies on in an event's code holds of every valid program: the facts of the other files put together.
use native.Mathlib.Omega.{arith}
use Rattle.spec_language.specs.Syntax.{Program}
use Rattle.spec_language.specs.Valid.{Valid}
use Rattle.spec_semantics.proofs.Lengths.{length_event}
use Rattle.spec_execution.specs.CodeFacts.{CodeFacts}
use Rattle.spec_execution.proofs.Lengths.{length_code, length_counted}
use Rattle.spec_execution.proofs.Masks.{marks}
use Rattle.spec_execution.proofs.Quiet.{quiet}
use Rattle.spec_execution.proofs.Right.{code_right}
use Rattle.spec_execution.proofs.MarkRight.{code_marked}

pub code_facts : (p : Program) → Valid p → CodeFacts p
code_facts p v = record {
  long = λ e h. omega (arith, length_code p e);
  counted = λ e h. length_counted p e v (omega arith);
  masks = λ e c h b. (marks p e c b).0;
  copies_back = λ e c h b. (marks p e c b).1;
  quiet = λ e c h s l b k. quiet p e c s b k;
  right = λ e h s l. code_right p v e s l;
  kept = λ e h s l. length_event p e s;
  marked = λ e h s l. code_marked p v e s l;
}
