use Rattle.lib_bits.specs.Bits.{bit}
use Rattle.ask_agree.specs.Answer.{packed_difference}
use Rattle.ask_agree.specs.Conflict.{least_in}
use Rattle.check_reads.proofs.FirstLaws.{none_given, first_given}
use Rattle.ask_agree.proofs.ConflictLaws.{packed_some}
use Rattle.ask_agree.proofs.least_in.Goals as goal

pub returns-in_default : goal.returns-in_default
unfolding least_in
returns-in_default c = none_given c.args.n (bit c.args.set) (packed_difference c.args.e c.args.f) c.in_default.ensures

pub returns : goal.returns
unfolding least_in
returns c = let w = c.in-Some.ensures in first_given c.args.n (bit c.args.set) (packed_difference c.args.e c.args.f) _ w.0 w.1 w.2 (packed_some _ _ _)
