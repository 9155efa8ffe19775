-- The words of the numbers passed are written.
use Rattle.lib_base.proofs.Prelude.{◌%◌, [], ◌∷◌, get_or}
use Rattle.back_emit.specs.Words.{each}
use Rattle.back_emit.specs.Writing.{Emits}
use Rattle.back_parts.proofs.write_numbers.Given as goal

abbrev pub invariant-loop-number : goal.invariant-loop-number
invariant-loop-number l = Emits l.fn.out (each l.number-index (λ j. (get_or l.numbers j 0 % 4294967296) ∷ [])) l.out
