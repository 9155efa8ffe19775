-- The words of the behaviours passed are written.
use Rattle.back_emit.specs.Words.{each, move_words}
use Rattle.back_emit.specs.Writing.{Emits}
use Rattle.back_phases.proofs.emit_moves.Given as goal

abbrev pub invariant-loop-i : goal.invariant-loop-i
invariant-loop-i l = Emits l.fn.out (each l.i (move_words l.draft l.event)) l.out
