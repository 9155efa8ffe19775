-- The number's digits between their texts.
use Rattle.lib_base.proofs.Prelude.{refl, arith}
use Rattle.std.proofs.Output.{has_written_of_eq}
use Rattle.desk_format.specs.Script.{refusal_line}
use Rattle.desk_format.proofs.Laws.{decimal_is}
use Rattle.desk_format.proofs.lines.RefusedDisplay.fmt.Goals as goal

pub returns-clause-writes : goal.returns-clause-writes
unfolding refusal_line
returns-clause-writes g c = λ plain ok. has_written_of_eq _ _ _ _ _ (rw (decimal_is c.args.self.now.0 (omega arith)) refl) (c.write.ensures.writes plain ok)
