use Rattle.lib_base.proofs.Prelude.{ℕ, ◌≡◌, ◌∙◌, refl, ap, arith}
use Rattle.draft_form.specs.Draft.{moved}
use Rattle.draft_form.specs.Entry.{entry_count}
use Rattle.check_faults.proofs.RowLaws.{nodes_long, node_at}
use Rattle.ask_meets.specs.Marks.{marks_among}
use Rattle.ask_meets.specs.Strict.{mark_in}
use Rattle.ask_meets.specs.Marking.{standing}
use Rattle.ask_meets.proofs.MarkLaws.{node_marked}
use Rattle.ask_meets.proofs.mark_in.Goals as goal

pub loop-node-init : goal.loop-node-init
unfolding marks_among standing
loop-node-init c = refl

pub loop-node-preserved : goal.loop-node-preserved
loop-node-preserved c =
    let d = c.args.d.now in
    let nodes = c.nodes_of-node-items.ensures in
    let node = node_at d _ _ _ c.loop-node.node-index nodes (omega (arith, nodes_long d _ _ _ nodes (omega arith))) in
    node_marked d c.args.rows.now c.args.i _ _ c.loop-node.invariant (c.moved_node.ensures ∙ ap (λ (x : ℕ). moved d c.args.i x) node) c.read.ensures

pub returns : goal.returns
unfolding mark_in
returns c =
    let all = nodes_long c.args.d.now _ _ _ c.nodes_of-node-items.ensures (omega arith) in
    let q : c.loop-node.node-index ≡ entry_count c.args.v = omega (arith, all) in
    rw (c.loop-node.invariant, q)
