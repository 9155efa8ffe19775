-- The dispatch is the definition's: in each arm f is a numeral, so `marked_result` computes to the callee's contract;
-- in the last no test of the definition holds.
use Rattle.lib_base.proofs.Prelude.{◌≡◌, ◌∙◌, ap, false, Bool, not, eqb, ne_eqb, rules}
use lib.IntN.{pos}
use Rattle.lib_base.proofs.Pick.{code}
use Rattle.lib_signature.specs.Numbers.{divide_fn}
use Rattle.lib_arith.specs.Exact.{signed}
use Rattle.lib_arith.specs.Marked.{reported, marked_result}
use Rattle.lib_arith.specs.Functions.{truth, exact, result_of, over}
use Rattle.lib_arith.proofs.ArithLaws.{beyond_pos}
use Rattle.lib_functions.proofs.apply.Statement.{statement}
use Rattle.lib_functions.proofs.apply.Tie as tie

returns : tie.Need-returns-in-1
unfolding marked_result over result_of exact
returns c = rw c.before.in-1.is c.either.ensures

returns_2 : tie.Need-returns-in-2
unfolding marked_result over result_of exact
returns_2 c = rw c.before.in-2.is c.both.ensures

returns_3 : tie.Need-returns-in-3
unfolding marked_result over result_of exact
returns_3 c = rw c.before.in-3.is c.opposite.ensures

returns_4 : tie.Need-returns-in-4
unfolding marked_result over result_of exact
returns_4 c = rw c.before.in-4.is c.marked_sum.ensures

returns_5 : tie.Need-returns-in-5
unfolding marked_result over result_of exact
returns_5 c = rw c.before.in-5.is c.marked_difference.ensures

returns_6 : tie.Need-returns-in-6
unfolding marked_result over result_of exact
returns_6 c = rw c.before.in-6.is c.marked_product.ensures

returns_7 : tie.Need-returns-in-7
unfolding marked_result over result_of exact
returns_7 c = rw c.before.in-7.is c.quotient.ensures

returns_8 : tie.Need-returns-in-8
unfolding marked_result over result_of exact
returns_8 c =
    rw c.before.before.in-8.is (c.truth.ensures ∙ ap (λ (t : Bool). reported (truth t))
    c.before.below.ensures)

returns_9 : tie.Need-returns-in-9
unfolding marked_result over result_of exact
returns_9 c =
    rw c.before.before.in-9.is (c.truth-in-9.ensures ∙ ap (λ (t : Bool). reported (truth (not t)))
    c.before.below-in-9.ensures)

returns_10 : tie.Need-returns-in-10
unfolding marked_result over result_of exact
returns_10 c =
    rw c.before.before.in-10.is (c.truth-in-10.ensures ∙ ap (λ (t : Bool). reported (truth t))
    c.before.below-in-10.ensures)

returns_11 : tie.Need-returns-in-11
unfolding marked_result over result_of exact
returns_11 c =
    rw c.before.before.in-11.is (c.truth-in-11.ensures ∙ ap (λ (t : Bool). reported (truth (not t)))
    c.before.below-in-11.ensures)

returns_12 : tie.Need-returns-in-12
unfolding marked_result over result_of exact
returns_12 c = rw c.before.in-12.is c.same.ensures

returns_13 : tie.Need-returns-in-13
unfolding marked_result over result_of exact
returns_13 c = rw c.before.in-13.is c.differ.ensures

returns_14 : tie.Need-returns-in-14
unfolding marked_result over result_of exact
returns_14 c = rw c.before.in-14.is c.choose.ensures

returns_15 : tie.Need-returns-in_default
unfolding marked_result over result_of exact
returns_15 c =
    let none : pos 0 ≡ exact c.before.args.f (signed c.before.args.a) (signed c.before.args.b)
    (signed c.before.args.c) = search code depth 20 in
    let no_quotient : eqb c.before.args.f divide_fn ≡ false = ne_eqb c.before.args.f divide_fn (search rules) in
    rw (← none, no_quotient, beyond_pos 0)

pub apply_spec : {M : Type 1} → statement M
apply_spec =
    tie.close
    (tie.spec (λ c κs. search rules) (λ c κs. search rules) (λ c κs. search rules) (λ c κs. search rules) (λ c κs. search rules) (λ c κs. search rules)
    (λ c κs. search rules) (λ c κs. search rules) (λ c κs. search rules) (λ c κs. search rules) (λ c κs. search rules) (λ c κs. search rules) (λ c κs. search rules)
    (λ c κs. search rules) (λ c κs. search rules) (λ c κs. search rules) (λ c κs. search rules) (λ c κs. search rules) returns returns_2 returns_3
    returns_4 returns_5 returns_6 returns_7 returns_8 returns_9 returns_10 returns_11 returns_12 returns_13
    returns_14 returns_15)
