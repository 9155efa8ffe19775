use Rattle.lib_bits.specs.Bits.{bit}
use Rattle.ask_leak.specs.Answer.{packed_leak}
use Rattle.check_reads.proofs.FirstLaws.{none_given, first_given}
use Rattle.ask_leak.proofs.LeakLaws.{packed_some}
use Rattle.ask_leak.proofs.least_leak.Goals as goal

pub returns-in_default : goal.returns-in_default
returns-in_default c = none_given c.args.n (bit c.args.set) (packed_leak c.args.i) c.in_default.ensures

pub returns : goal.returns
returns c = let w = c.in-Some.ensures in first_given c.args.n (bit c.args.set) (packed_leak c.args.i) _ w.0 w.1 w.2 (packed_some _ _)
