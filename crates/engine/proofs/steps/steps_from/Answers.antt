-- A step more, where the record has one.
use Rattle.lib_base.proofs.Prelude.{rules}
use Rattle.engine.proofs.Laws.{next_step}
use Rattle.engine.proofs.steps.steps_from.Goals as goal

pub loop-at-preserved : goal.loop-at-preserved
loop-at-preserved c =
    next_step c.loop-at.invariant c.loop-at-test.true (rw c.in-Step.is at c.from.ensures)
    c.step_on-answer.ensures.round_after c.step_on-answer.ensures.round_sound
    c.is_outranked_after-outranked.ensures c.put_answer.ensures (search rules) (search rules)
