use Rattle.lib_base.proofs.Prelude.{◌∙◌, arith}
use Rattle.check_reads.proofs.Gathering.{begin, turn, end, any_own}
use Rattle.ask_pair.specs.Pair.{everyone}
use Rattle.ask_pair.proofs.all_of.Goals as goal

pub loop-i-init : goal.loop-i-init
loop-i-init c = begin 64 _

pub loop-i-preserved : goal.loop-i-preserved
loop-i-preserved c = turn c.loop-i.invariant (λ j b. c.insert-set.ensures j)

pub returns : goal.returns
returns c j b = end c.loop-i.invariant (omega arith) j (omega arith) ∙ any_own _ everyone j b
