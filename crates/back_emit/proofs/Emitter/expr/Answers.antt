use Rattle.lib_base.proofs.Prelude.{sym, ap, arith}
use Rattle.back_emit.specs.Words.{node_words}
use Rattle.back_emit.proofs.WritingLaws.{room_as, wrote_as, each_of, each_start, each_room, each_turn, each_end}
use Rattle.back_emit.proofs.Emitter.expr.Goals as goal

pub loop-node-init : goal.loop-node-init
loop-node-init c = each_start _ _ _

pub node-requires : goal.node-requires
node-requires c =
    room_as (ap (node_words c.args.draft.now c.args.event) c.moved_node.ensures)
    (each_room _ (room_as (sym (each_of _ c.args.nodes.now)) c.requires.room) c.loop-node.invariant (omega arith))

pub loop-node-preserved : goal.loop-node-preserved
loop-node-preserved c =
    each_turn _ c.loop-node.invariant (wrote_as (ap (node_words c.args.draft.now c.args.event) c.moved_node.ensures) c.node.ensures)

pub returns : goal.returns
returns c = wrote_as (sym (each_of _ c.args.nodes.now)) (each_end _ c.loop-node.invariant (omega arith))
