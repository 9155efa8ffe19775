-- The nodes passed are filled in.
use Rattle.lib_base.proofs.Prelude.{◌≡◌, ◌++◌, drop}
use Rattle.draft_params.specs.Filling.{fill_to}
use Rattle.draft_params.proofs.fill_draft.Given as goal

abbrev pub invariant-loop-node : goal.invariant-loop-node
invariant-loop-node l = l.node-items ++ drop l.nodes l.fn.draft ≡ fill_to l.params l.fn.draft l.node-index
