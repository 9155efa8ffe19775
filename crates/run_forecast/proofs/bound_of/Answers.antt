-- The product of a number up to 66 and one up to 4,097 is small.
use Rattle.lib_base.proofs.Prelude.{◌≤◌, ◌+◌, mul-le-mul_left, arith}
use Rattle.run_forecast.proofs.bound_of.Goals as goal

pub overflow_mul-result : goal.overflow_mul-result
overflow_mul-result c = let h : c.args.longest + 1 ≤ 4097 = omega arith in omega (arith, mul-le-mul_left (c.args.hand + 1) h)

pub returns-clause-upper_bound : goal.returns-clause-upper_bound
returns-clause-upper_bound c = let h : c.args.longest + 1 ≤ 4097 = omega arith in omega (arith, mul-le-mul_left (c.args.hand + 1) h)
