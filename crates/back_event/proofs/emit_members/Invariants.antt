-- The words of the behaviours passed are written.
use Rattle.back_emit.specs.Words.{each, member_words}
use Rattle.back_emit.specs.Writing.{Emits}
use Rattle.back_event.proofs.emit_members.Given as goal

abbrev pub invariant-loop-i : goal.invariant-loop-i
invariant-loop-i l = Emits l.fn.out (each l.i (member_words l.draft l.event l.operation)) l.out
