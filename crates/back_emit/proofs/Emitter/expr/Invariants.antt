-- The words of the nodes passed are written.
use Rattle.lib_base.proofs.Prelude.{get_or}
use Rattle.draft_form.specs.Draft.{moved}
use Rattle.back_emit.specs.Words.{each, node_words}
use Rattle.back_emit.specs.Writing.{Emits}
use Rattle.back_emit.proofs.Emitter.expr.Given as goal

abbrev pub invariant-loop-node : goal.invariant-loop-node
invariant-loop-node l = Emits l.fn.self (each l.node-index (λ j. node_words l.draft l.event (moved l.draft l.i (get_or l.nodes j 0)))) l.self
