-- Each call has fewer tokens left, or as many and a lower level. A level's loop keeps `Kept`.
use Rattle.std.proofs.Common.{◌*◌, ◌+◌, ◌-◌, length}
use Rattle.text_parser.proofs.Levels.{Kept, to_come}
use Rattle.text_parser.proofs.+argument_choice_conjunction_disjunction_equality_operand_ordering_product_sum.Given as goal

abbrev pub decreases-argument : goal.decreases-argument
decreases-argument l = (length l.ts.now - l.r.at) * 9

abbrev pub decreases-choice : goal.decreases-choice
decreases-choice l = (length l.ts.now - l.at) * 9 + 1

abbrev pub decreases-operand : goal.decreases-operand
decreases-operand l = (length l.ts.now - l.at) * 9 + 2

abbrev pub decreases-product : goal.decreases-product
decreases-product l = (length l.ts.now - l.at) * 9 + 3

abbrev pub decreases-sum : goal.decreases-sum
decreases-sum l = (length l.ts.now - l.at) * 9 + 4

abbrev pub decreases-ordering : goal.decreases-ordering
decreases-ordering l = (length l.ts.now - l.at) * 9 + 5

abbrev pub decreases-equality : goal.decreases-equality
decreases-equality l = (length l.ts.now - l.at) * 9 + 6

abbrev pub decreases-conjunction : goal.decreases-conjunction
decreases-conjunction l = (length l.ts.now - l.at) * 9 + 7

abbrev pub decreases-disjunction : goal.decreases-disjunction
decreases-disjunction l = (length l.ts.now - l.at) * 9 + 8

abbrev pub invariant-product-loop-r : goal.invariant-product-loop-r
invariant-product-loop-r l = Kept 0 l.ts l.at l.n l.fn.out l.out l.r

abbrev pub decreases-product-loop-r : goal.decreases-product-loop-r
decreases-product-loop-r l = to_come (length l.ts) l.r

abbrev pub invariant-sum-loop-r : goal.invariant-sum-loop-r
invariant-sum-loop-r l = Kept 1 l.ts l.at l.n l.fn.out l.out l.r

abbrev pub decreases-sum-loop-r : goal.decreases-sum-loop-r
decreases-sum-loop-r l = to_come (length l.ts) l.r

abbrev pub invariant-ordering-loop-r : goal.invariant-ordering-loop-r
invariant-ordering-loop-r l = Kept 2 l.ts l.at l.n l.fn.out l.out l.r

abbrev pub decreases-ordering-loop-r : goal.decreases-ordering-loop-r
decreases-ordering-loop-r l = to_come (length l.ts) l.r

abbrev pub invariant-equality-loop-r : goal.invariant-equality-loop-r
invariant-equality-loop-r l = Kept 3 l.ts l.at l.n l.fn.out l.out l.r

abbrev pub decreases-equality-loop-r : goal.decreases-equality-loop-r
decreases-equality-loop-r l = to_come (length l.ts) l.r

abbrev pub invariant-conjunction-loop-r : goal.invariant-conjunction-loop-r
invariant-conjunction-loop-r l = Kept 4 l.ts l.at l.n l.fn.out l.out l.r

abbrev pub decreases-conjunction-loop-r : goal.decreases-conjunction-loop-r
decreases-conjunction-loop-r l = to_come (length l.ts) l.r

abbrev pub invariant-disjunction-loop-r : goal.invariant-disjunction-loop-r
invariant-disjunction-loop-r l = Kept 5 l.ts l.at l.n l.fn.out l.out l.r

abbrev pub decreases-disjunction-loop-r : goal.decreases-disjunction-loop-r
decreases-disjunction-loop-r l = to_come (length l.ts) l.r
