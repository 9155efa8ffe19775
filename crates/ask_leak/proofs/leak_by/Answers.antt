use Rattle.lib_base.proofs.Prelude.{◌∙◌, sym, arith}
use Rattle.ask_leak.specs.Leaking.{leak_by}
use Rattle.check_reads.proofs.FirstLaws.{seek, seek_on, seek_stop, seek_end}
use Rattle.ask_leak.proofs.LeakLaws.{packed_some}
use Rattle.ask_leak.proofs.leak_by.Goals as goal

pub loop-i-init : goal.loop-i-init
loop-i-init c = seek _ _ _

pub returns-in-Some : goal.returns-in-Some
unfolding leak_by
returns-in-Some c = c.in-Some.ensures ∙ seek_stop c.loop-i.invariant (omega arith) (λ z. packed_some _ _ (c.in-Some.ensures ∙ z))

pub loop-i-preserved : goal.loop-i-preserved
loop-i-preserved c = seek_on c.loop-i.invariant (omega arith) (sym c.in_default.ensures)

pub returns : goal.returns
unfolding leak_by
returns c = seek_end c.loop-i.invariant (omega arith)
