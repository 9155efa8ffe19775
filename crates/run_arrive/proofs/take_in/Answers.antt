-- One whom the judge turns down is refused by the same test.
use Rattle.lib_base.proofs.Prelude.{arith}
use Rattle.lib_base.proofs.Pick.{branches}
use Rattle.std.proofs.lemmas.Grind.{common_steps}
use Rattle.run_arrive.specs.Arrivals.{sending, arrive_with, arrive_known, arrive_in, arrive_on}
use Rattle.run_arrive.proofs.take_in.Goals as goal

pub returns-in_err-judge_sender-clause-round_after : goal.returns-in_err-judge_sender-clause-round_after
unfolding sending arrive_with arrive_known arrive_in arrive_on
returns-in_err-judge_sender-clause-round_after c = grind (arith, common_steps, branches)
