use Rattle.lib_base.proofs.Prelude.{arith}
use Rattle.back_emit.proofs.WritingLaws.{each_start, each_room, each_turn, each_end}
use Rattle.back_table.proofs.write_events.Goals as goal

pub loop-e-init : goal.loop-e-init
loop-e-init c = each_start _ _ _

pub compile_event-requires-clause-entries_inside : goal.compile_event-requires-clause-entries_inside
compile_event-requires-clause-entries_inside c =
    let p = c.requires.planned in
    (record { long = p.long; few = p.few_behaviours; inside = p.inside c.loop-e.e (omega arith) }, omega (arith, p.few_events))

pub compile_event-requires-clause-room : goal.compile_event-requires-clause-room
compile_event-requires-clause-room c = each_room _ c.requires.room c.loop-e.invariant (omega arith)

pub loop-e-preserved : goal.loop-e-preserved
loop-e-preserved c = each_turn _ c.loop-e.invariant c.compile_event.ensures

pub returns : goal.returns
returns c = each_end _ c.loop-e.invariant (omega arith)
