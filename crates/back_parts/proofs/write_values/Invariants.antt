-- The values passed are written.
use Rattle.lib_base.proofs.Prelude.{take}
use Rattle.back_emit.specs.Writing.{Emits}
use Rattle.back_parts.proofs.write_values.Given as goal

abbrev pub invariant-loop-value : goal.invariant-loop-value
invariant-loop-value l = Emits l.fn.out (take l.value-index l.values) l.out
