-- Demand 3 holds of the model engine on every list of turns, the first program and each that a change goes to being
-- valid. The sentences are those of Claims.
use mathlib.Core.List.{List}
use Rattle.lib_base.specs.Basics.{All}
use Rattle.spec_language.specs.Syntax.{Program}
use Rattle.spec_language.specs.Valid.{Valid}
use Rattle.spec_model.specs.Model.{Turn}
use Rattle.spec_model.specs.Claims.{Sentences}
use Rattle.spec_model.specs.Sound.{Sound}
use Rattle.spec_model.specs.Evaluated.{SameBoard}
use Rattle.spec_model.proofs.Once as once
use Rattle.spec_model.proofs.Equals as equals
use Rattle.spec_model.proofs.Lower as lower
use Rattle.spec_model.proofs.Counts as counts
use Rattle.spec_model.proofs.SameBoard as same

module _ (p : Program) (v : Valid p) where
  pub holds : (ts : List Turn) → All Sound ts → Sentences p ts
  holds ts g = record {
    once = once.once_each p v ts g;
    equals = equals.equals_in_order p v ts g;
    lower = lower.lower_first p v ts g;
    within = counts.idle_in_count p v ts g;
    quiet = counts.quiet_exactly p v ts g;
    nobody_waits = counts.nobody_waits p v ts g;
    previews = counts.preview_right p v ts g;
  }

  pub same_board : (ts us : List Turn) → All Sound ts → All Sound us → SameBoard p ts us
  same_board = same.same_board p v
