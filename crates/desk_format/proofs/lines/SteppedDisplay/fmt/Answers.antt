-- Each return is one branch of the definition.
use Rattle.lib_base.proofs.Prelude.{[]}
use Rattle.lib_base.proofs.Pick.{code}
use Rattle.std.proofs.Output.{has_written_of_eq, writes_in_calls_nil}
use Rattle.desk_format.specs.Script.{step_line}
use Rattle.desk_format.proofs.lines.SteppedDisplay.fmt.Goals as goal

pub returns-then-answer-eq-FOREIGN-clause-writes :
    goal.returns-then-answer-eq-FOREIGN-clause-writes
unfolding step_line
returns-then-answer-eq-FOREIGN-clause-writes g c = λ plain ok. has_written_of_eq _ _ _ _ _ (search code depth 12) (c.fmt.ensures.writes plain ok)

pub returns-then-answer-eq-COMMITTED-clause-writes :
    goal.returns-then-answer-eq-COMMITTED-clause-writes
unfolding step_line
returns-then-answer-eq-COMMITTED-clause-writes g c = λ plain ok. has_written_of_eq _ _ _ _ _ (search code depth 12) (c.fmt-then-answer-eq-COMMITTED.ensures.writes plain ok)

pub returns-clause-writes : goal.returns-clause-writes
unfolding step_line
returns-clause-writes g c = λ plain ok. has_written_of_eq _ _ [] _ _ (search code depth 12) (record { wrote = writes_in_calls_nil _ _; plain = plain })
