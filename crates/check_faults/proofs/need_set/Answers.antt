use Rattle.lib_base.proofs.Prelude.{ℕ, ◌∙◌, ap, arith}
use Rattle.draft_form.specs.Draft.{moved}
use Rattle.check_faults.proofs.RowLaws.{nodes_long, node_at, gathered_start, gathered_turn}
use Rattle.check_faults.proofs.need_set.Goals as goal

pub loop-node-init : goal.loop-node-init
loop-node-init c = gathered_start _ _ _ _ _

pub loop-node-preserved : goal.loop-node-preserved
loop-node-preserved c =
    let d = c.args.d.now in
    let nodes = c.nodes_of-node-items.ensures in
    let long = nodes_long d _ _ _ nodes (omega arith) in
    let node = node_at d _ _ _ c.loop-node.node-index nodes (omega (arith, long)) in
    gathered_turn c.loop-node.invariant (omega (arith, long)) (c.moved_node.ensures ∙ ap (λ (x : ℕ). moved d c.args.i x) node) c.add_need-set.ensures
