-- Formulas one inside another: each call has less room, or as much and a lower place among these functions. The
-- formula's loop keeps `Turn`, and takes bytes of the text.
use Rattle.lib_base.proofs.Prelude.{◌+◌, ◌*◌, ◌-◌, length}
use Rattle.std.specs.Prelude.{Ok}
use Rattle.source_names.specs.Known.{meaning_by}
use Rattle.source_formula.proofs.Turns.{Turn}
use Rattle.source_formula.proofs.+argument_choice_phrase_primary.Given as goal

abbrev pub decreases-argument : goal.decreases-argument
decreases-argument l = l.cursor.room * 4

abbrev pub decreases-choice : goal.decreases-choice
decreases-choice l = l.cursor.room * 4 + 1

abbrev pub decreases-phrase : goal.decreases-phrase
decreases-phrase l = l.cursor.room * 4 + 3

abbrev pub decreases-primary : goal.decreases-primary
decreases-primary l = l.cursor.room * 4 + 2

abbrev pub invariant-phrase-loop-next : goal.invariant-phrase-loop-next
invariant-phrase-loop-next l =
    Turn l.text (meaning_by l.text l.places l.cursor.sorted l.meanings) l.cursor.cells l.cursor.room l.level l.cursor.at l.cursor.end
    l.fn.out l.out l.opened (Ok l.formula)

abbrev pub decreases-phrase-loop-next : goal.decreases-phrase-loop-next
decreases-phrase-loop-next l = length l.text - l.formula.next
