use Rattle.lib_base.proofs.Prelude.{◌+◌, ◌≡◌, arith}
use Rattle.ask_leak.specs.Leaking.{names_any}
use Rattle.check_reads.proofs.Gathering.{begin, turn, end}
use Rattle.ask_leak.proofs.LeakLaws.{names_joined}
use Rattle.ask_leak.proofs.names_of.Goals as goal

pub loop-e-init : goal.loop-e-init
loop-e-init c = begin 64 _

pub loop-e-preserved : goal.loop-e-preserved
loop-e-preserved c = turn c.loop-e.invariant (names_joined _ _ _ _ _ _ c.entry_of-v.ensures c.names_in.ensures c.union_of-set.ensures)

pub returns-2 : goal.returns-2
unfolding names_any
returns-2 c =
    let last : c.loop-e.e + 1 ≡ c.args.ev + 1 = omega arith in
    end (turn c.loop-e.invariant (names_joined _ _ _ _ _ _ c.entry_of-v.ensures c.names_in.ensures c.union_of-set.ensures)) last
