-- The nodes that are left, on the stack as it stands, give the whole.
use Rattle.std.proofs.Common.{◌≡◌, ◌≤◌, map, drop}
use Rattle.draft_form.specs.Draft.{moved}
use Rattle.back_fresh.specs.Evaluate.{nodes_on, evaluated}
use Rattle.back_fresh.proofs.eval_nodes.Given as goal

abbrev pub invariant-loop-node : goal.invariant-loop-node
invariant-loop-node l =
    (nodes_on l.values (map (moved l.draft l.b) (drop l.node-index l.nodes)) l.stack l.k ≡ evaluated l.values (map (moved l.draft l.b) l.nodes)) × (l.k ≤ 64)
