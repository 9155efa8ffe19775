-- Each kind's call is that of `call_on`.
use Rattle.lib_base.proofs.Prelude.{◌∙◌}
use Rattle.engine.proofs.Laws.{call_arrive, call_step, call_board}
use Rattle.engine.proofs.make_call.Goals as goal

pub returns-in-Arrival : goal.returns-in-Arrival
returns-in-Arrival c =
    c.arrive.ensures.round_after ∙ call_arrive _ _ _ _ _ (rw c.in-Arrival.is at c.from.ensures)

pub returns-in-Step : goal.returns-in-Step
returns-in-Step c =
    c.step.ensures.round_after ∙ call_step _ _ _ _ _ (rw c.in-Step.is at c.from.ensures)

pub returns-in-Board : goal.returns-in-Board
returns-in-Board c =
    let kind = rw c.in-Board.is at c.from.ensures in
    call_board _ _ _ _ _ _ kind.0 kind.1 c.board.ensures.value
