-- A function's word is known in its arm, and the callee's contract is the definition; any other word is no function's.
use Rattle.lib_base.proofs.Prelude.{rules, arith}
use Rattle.lib_signature.specs.Numbers.{or_fn, and_fn, add_fn, subtract_fn, multiply_fn, divide_fn, above_fn, at_least_fn, below_fn, at_most_fn, equal_fn, unequal_fn}
use Rattle.run_instruction.proofs.Arms.{other, two_arguments, one_argument, three_arguments}
use Rattle.run_instruction.proofs.execute.Statement.{statement}
use Rattle.run_instruction.proofs.execute.Tie as tie

returns : tie.Need-returns-in-2049
returns c = two_arguments _ _ _ _ or_fn c.in-2049.is (omega arith) (omega arith) (omega arith) (omega arith) c.apply_two.ensures

returns_2 : tie.Need-returns-in-2050
returns_2 c = two_arguments _ _ _ _ and_fn c.in-2050.is (omega arith) (omega arith) (omega arith) (omega arith) c.apply_two-in-2050.ensures

returns_3 : tie.Need-returns-in-2051
returns_3 c = one_argument _ _ _ _ c.in-2051.is c.apply_one.ensures

returns_4 : tie.Need-returns-in-2052
returns_4 c = two_arguments _ _ _ _ add_fn c.in-2052.is (omega arith) (omega arith) (omega arith) (omega arith) c.apply_two-in-2052.ensures

returns_5 : tie.Need-returns-in-2053
returns_5 c = two_arguments _ _ _ _ subtract_fn c.in-2053.is (omega arith) (omega arith) (omega arith) (omega arith) c.apply_two-in-2053.ensures

returns_6 : tie.Need-returns-in-2054
returns_6 c = two_arguments _ _ _ _ multiply_fn c.in-2054.is (omega arith) (omega arith) (omega arith) (omega arith) c.apply_two-in-2054.ensures

returns_7 : tie.Need-returns-in-2055
returns_7 c = two_arguments _ _ _ _ divide_fn c.in-2055.is (omega arith) (omega arith) (omega arith) (omega arith) c.apply_two-in-2055.ensures

returns_8 : tie.Need-returns-in-2056
returns_8 c = two_arguments _ _ _ _ above_fn c.in-2056.is (omega arith) (omega arith) (omega arith) (omega arith) c.apply_two-in-2056.ensures

returns_9 : tie.Need-returns-in-2057
returns_9 c = two_arguments _ _ _ _ at_least_fn c.in-2057.is (omega arith) (omega arith) (omega arith) (omega arith) c.apply_two-in-2057.ensures

returns_10 : tie.Need-returns-in-2058
returns_10 c = two_arguments _ _ _ _ below_fn c.in-2058.is (omega arith) (omega arith) (omega arith) (omega arith) c.apply_two-in-2058.ensures

returns_11 : tie.Need-returns-in-2059
returns_11 c = two_arguments _ _ _ _ at_most_fn c.in-2059.is (omega arith) (omega arith) (omega arith) (omega arith) c.apply_two-in-2059.ensures

returns_12 : tie.Need-returns-in-2060
returns_12 c = two_arguments _ _ _ _ equal_fn c.in-2060.is (omega arith) (omega arith) (omega arith) (omega arith) c.apply_two-in-2060.ensures

returns_13 : tie.Need-returns-in-2061
returns_13 c = two_arguments _ _ _ _ unequal_fn c.in-2061.is (omega arith) (omega arith) (omega arith) (omega arith) c.apply_two-in-2061.ensures

returns_14 : tie.Need-returns-in-2062
returns_14 c = three_arguments _ _ _ _ c.in-2062.is c.apply_three.ensures

-- none of the fourteen
returns_15 : tie.Need-returns-in_default
returns_15 c =
    let late = c.in_default.in_default-own.rest in
    let early = late.0.0.0.0.0.0.0 in
    other _ _ _ _ early.0.0.0.0.0.0.1 early.0.0.0.0.0.1 early.0.0.0.0.1 early.0.0.0.1 early.0.0.1 early.0.1 early.1
    late.0.0.0.0.0.0.1 late.0.0.0.0.0.1 late.0.0.0.0.1 late.0.0.0.1 late.0.0.1 late.0.1 late.1
    c.move_on.ensures

pub execute_spec : {M : Type 1} → statement M
execute_spec =
    tie.close
    (tie.spec (search rules) (search rules) (search rules) (search rules) (search rules) (search rules) (search rules)
    (search rules) (search rules) (search rules) (search rules) (search rules) (search rules) (search rules)
    (search rules) (search rules) (search rules) returns (search rules) returns_2 (search rules) returns_3
    (search rules) returns_4 (search rules) returns_5 (search rules) returns_6 (search rules) returns_7 (search rules)
    returns_8 (search rules) returns_9 (search rules) returns_10 (search rules) returns_11 (search rules) returns_12
    (search rules) returns_13 (search rules) returns_14 (search rules) returns_15)
