use Rattle.lib_base.proofs.Prelude.{◌∙◌, arith}
use Rattle.ask_leak.specs.Leaking.{hidden_on}
use Rattle.check_reads.proofs.Gathering.{begin, turn, end, any_own}
use Rattle.ask_leak.proofs.LeakLaws.{hidden_put}
use Rattle.ask_leak.proofs.hidden_of.Goals as goal

pub loop-j-init : goal.loop-j-init
loop-j-init c = begin 64 _

pub loop-j-preserved : goal.loop-j-preserved
loop-j-preserved c = turn c.loop-j.invariant (hidden_put _ _ _ _ _ c.add_hidden-set.ensures)

pub returns : goal.returns
returns c h b = end c.loop-j.invariant (omega arith) h (omega arith) ∙ any_own _ (hidden_on _ _) h b
