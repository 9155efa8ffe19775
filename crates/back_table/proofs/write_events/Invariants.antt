-- The code of the events passed is written.
use Rattle.back_emit.specs.Words.{each}
use Rattle.back_emit.specs.Writing.{Emits}
use Rattle.back_event.specs.Handlers.{code_of}
use Rattle.back_table.proofs.write_events.Given as goal

abbrev pub invariant-loop-e : goal.invariant-loop-e
invariant-loop-e l = Emits l.fn.out (each l.e (code_of l.draft l.behaviours)) l.out
