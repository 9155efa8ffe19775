use Rattle.lib_base.proofs.Prelude.{◌∙◌, refl}
use Rattle.source_walk.specs.Fields.{needed_after}
use Rattle.source_walk.proofs.Needed.{most_needed}
use Rattle.source_walk.proofs.needed_after.Goals as goal

pub returns-then-is_number-clause-value : goal.returns-then-is_number-clause-value
unfolding needed_after
returns-then-is_number-clause-value c = rw (← c.is_number.ensures, c.if-is_number.true) (c.max.ensures ∙ most_needed _ _)

pub returns-clause-value : goal.returns-clause-value
unfolding needed_after
returns-clause-value c = rw (← c.is_number.ensures, c.if-is_number.false) refl
