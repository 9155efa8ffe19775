use Rattle.lib_base.proofs.Prelude.{ℕ, ◌∙◌, ap, arith}
use Rattle.draft_form.specs.Draft.{moved}
use Rattle.check_faults.proofs.RowLaws.{nodes_long, node_at}
use Rattle.check_reads.specs.Sets.{named_among}
use Rattle.check_reads.proofs.Gathering.{begin, turn, end}
use Rattle.check_reads.proofs.NameLaws.{node_joins}
use Rattle.check_reads.proofs.names_in.Goals as goal

pub loop-node-init : goal.loop-node-init
loop-node-init c = begin 64 _

pub loop-node-preserved : goal.loop-node-preserved
loop-node-preserved c =
    let d = c.args.d.now in
    let nodes = c.nodes_of-node-items.ensures in
    let node = node_at d _ _ _ c.loop-node.node-index nodes (omega (arith, nodes_long d _ _ _ nodes (omega arith))) in
    turn c.loop-node.invariant (node_joins _ _ _ _ _ _ (c.moved_node.ensures ∙ ap (λ (x : ℕ). moved d c.args.i x) node) c.add_name-set.ensures)

pub returns : goal.returns
unfolding named_among
returns c = end c.loop-node.invariant (omega (arith, nodes_long c.args.d.now _ _ _ c.nodes_of-node-items.ensures (omega arith)))
