-- The words of the behaviours passed are written.
use Rattle.back_emit.specs.Words.{each, turn_words_of_kind}
use Rattle.back_emit.specs.Writing.{Emits}
use Rattle.back_phases.proofs.emit_laters.Given as goal

abbrev pub invariant-loop-i : goal.invariant-loop-i
invariant-loop-i l = Emits l.fn.out (each l.i (turn_words_of_kind l.draft l.event 3 2560)) l.out
