-- A row of steps and one call more are made; with none left it is the whole.
use Rattle.lib_base.proofs.Prelude.{rules, arith}
use Rattle.engine.proofs.Laws.{and_then, one_call, end_round, end_answers}
use Rattle.engine.proofs.replay.Goals as goal

pub returns-then-at-n-clause-round_after : goal.returns-then-at-n-clause-round_after
returns-then-at-n-clause-round_after c =
    end_round (and_then c.loop-i.invariant c.past_steps-at.ensures) (omega (arith, c.if-at-n.true))

pub returns-then-at-n-clause-answers_after : goal.returns-then-at-n-clause-answers_after
returns-then-at-n-clause-answers_after c =
    end_answers (and_then c.loop-i.invariant c.past_steps-at.ensures) (omega (arith, c.if-at-n.true))

pub loop-i-preserved : goal.loop-i-preserved
loop-i-preserved c =
    and_then (and_then c.loop-i.invariant c.past_steps-at.ensures)
    (one_call _ _ _ _ (omega (arith, c.past_steps-at.ensures.within, c.if-at-n.false))
    (rw c.get_at.ensures at c.make_call-r.ensures)
    c.put_answer.ensures (search rules) (search rules))

pub returns-clause-round_after : goal.returns-clause-round_after
returns-clause-round_after c = end_round c.loop-i.invariant c.loop-i-test.false

pub returns-clause-answers_after : goal.returns-clause-answers_after
returns-clause-answers_after c = end_answers c.loop-i.invariant c.loop-i-test.false
