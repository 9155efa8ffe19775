-- The kinds of the behaviours passed are written.
use Rattle.back_emit.specs.Words.{each}
use Rattle.back_emit.specs.Writing.{Emits}
use Rattle.back_passives.specs.PassiveWords.{kind_word}
use Rattle.back_passives.proofs.write_kinds.Given as goal

abbrev pub invariant-loop-i : goal.invariant-loop-i
invariant-loop-i l = Emits l.fn.out (each l.i (kind_word l.draft)) l.out
