-- The words of the behaviours passed are written.
use Rattle.lib_base.proofs.Prelude.{get_or}
use Rattle.back_emit.specs.Words.{each, turn_words_of_kind}
use Rattle.back_emit.specs.Writing.{Emits}
use Rattle.back_phases.proofs.emit_passives.Given as goal

abbrev pub invariant-loop-i : goal.invariant-loop-i
invariant-loop-i l = Emits l.fn.out (each l.i-index (λ j. turn_words_of_kind l.draft l.event 1 2304 (get_or l.order j 0))) l.out
