-- The loop passes a blank or a comment at a time; the tokens from its place on stay the same.
use Rattle.lib_base.proofs.Prelude.{◌-◌, ◌∙◌, sym, length, rules, arith}
use Rattle.source_tokens.proofs.Begun.{PassedSoFar, pass_start, pass_blank, line_within, pass_comment, pass_stop, pass_end}
use Rattle.source_tokens.proofs.pass_over.Statement.{statement}
use Rattle.source_tokens.proofs.pass_over.Tie as tie

abbrev invariant-loop : tie.invariant-loop-i
invariant-loop text at i₀ i = PassedSoFar text at i

abbrev decreases-loop : tie.decreases-loop-i
decreases-loop text at i₀ i = length text - i

loop_holds : tie.Need-loop-i-init invariant-loop decreases-loop
loop_holds c = pass_start _ _ c.before.requires

loop_again : tie.Need-loop-i-preserved-then-is_blank invariant-loop decreases-loop
loop_again c =
    let at_loop_test = c.before.before.before in
    pass_blank _ at_loop_test.before.loop-i.invariant at_loop_test.loop-i-test.true (sym c.before.is_blank.ensures ∙ c.if-is_blank.true)

returns : tie.Need-returns-then-b-ne35 invariant-loop decreases-loop
returns c =
    let at_blank = c.before.before in
    let at_loop_test = at_blank.before.before in
    pass_stop _ at_loop_test.before.loop-i.invariant at_loop_test.loop-i-test.true
    (sym at_blank.is_blank.ensures ∙ c.before.if-is_blank.false) c.if-b-ne35.true

loop_less_2 : tie.Need-loop-i-smaller invariant-loop decreases-loop
loop_less_2 c =
    let at_loop_test = c.before.before.before.before.before in
    omega (arith, line_within _ at_loop_test.before.loop-i.invariant _ at_loop_test.loop-i-test.true c.line_end-i.ensures)

loop_again_2 : tie.Need-loop-i-preserved invariant-loop decreases-loop
loop_again_2 c =
    let at_blank = c.before.before.before in
    let at_loop_test = at_blank.before.before in
    pass_comment _ at_loop_test.before.loop-i.invariant _ at_loop_test.loop-i-test.true
    (sym at_blank.is_blank.ensures ∙ c.before.before.if-is_blank.false) c.before.if-b-ne35.false c.line_end-i.ensures

returns_2 : tie.Need-returns invariant-loop decreases-loop
returns_2 c = pass_end _ c.before.loop-i.invariant c.loop-i-test.false

pub pass_over_spec : {M : Type 1} → statement M
pass_over_spec =
    tie.close
    (tie.spec invariant-loop decreases-loop loop_holds (λ c. search rules) (λ c κs. search rules) (λ c. omega arith) (λ c. omega arith)
    loop_again returns (λ c. omega arith) (λ c κs. omega arith) loop_less_2 loop_again_2 returns_2)
