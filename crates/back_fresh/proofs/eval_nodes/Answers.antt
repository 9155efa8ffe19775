use Rattle.lib_base.proofs.Prelude.{ℕ, ◌<◌, ◌≤◌, ◌+◌, ◌≡◌, refl, List, get_or, length, map, drop, drop-cons, add-one, arith}
use Rattle.std.proofs.lemmas.List.{drop_all}
use Rattle.draft_form.specs.Draft.{moved}
use Rattle.back_fresh.specs.Evaluate.{node_depth, node_stack, nodes_on, evaluated}
use Rattle.back_fresh.proofs.eval_nodes.Goals as goal

-- one node on, with the stack s of depth m that it leaves
turn : (f : ℕ → ℕ) (v xs st : List ℕ) (k i : ℕ) {s : List ℕ} {m y a : ℕ} → nodes_on v (map f (drop i xs)) st k ≡ a → i < length xs → y ≡ f (get_or xs i 0)
    → s ≡ node_stack v y st k → m ≡ node_depth y k → nodes_on v (map f (drop (i + 1) xs)) s m ≡ a
unfolding nodes_on
turn f v xs st k i t b y e d = rw (d, e, y, add-one i) (rw (drop-cons xs i 0 b) at t)

end : (f : ℕ → ℕ) (v xs st : List ℕ) (k i : ℕ) {a : ℕ} → nodes_on v (map f (drop i xs)) st k ≡ a → length xs ≤ i → get_or st 0 0 ≡ a
unfolding nodes_on
end f v xs st k i t b = rw (drop_all i xs b) at t

pub loop-node-init : goal.loop-node-init
unfolding evaluated
loop-node-init c = (refl, omega arith)

pub loop-node-preserved : goal.loop-node-preserved
loop-node-preserved c =
    (turn (moved c.args.draft.now c.args.b) _ c.args.nodes.now _ _ c.loop-node.node-index c.loop-node.invariant.0 (omega arith) c.moved_node.ensures c.eval_node-k.ensures.stack_after c.eval_node-k.ensures.value, c.eval_node-k.ensures.upper_bound)

pub returns : goal.returns
returns c = end (moved c.args.draft.now c.args.b) _ c.args.nodes.now _ _ c.loop-node.node-index c.loop-node.invariant.0 (omega arith)
