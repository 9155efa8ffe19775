-- Worked examples, by computation: what a player hears of numbers. 02, M-104 and M-107: the mark, bit 56 of a commit,
-- is the host's; of an arrival and a board reading each hears its own.
use Rattle.lib_base.proofs.Prelude.{◌≡◌, refl, some, none}
use Rattle.spec_model.specs.Model.{arrive, step, board}
use Rattle.secrecy_engine.specs.Heard.{hears_on}

pub of_a_step : (hears_on 0 step 72057594038387475 ≡ some 72057594038387475) × (hears_on 1 step 72057594038387475 ≡ some 459539) × (hears_on 7 step 14 ≡ some 14)
of_a_step = (refl, refl, refl)

pub of_the_others : (hears_on 1 (arrive 0 1) 16 ≡ some 16) × (hears_on 1 (arrive 0 2) 16 ≡ none) × (hears_on 0 (board 3 0) 19 ≡ some 19) × (hears_on 0 (board 3 1) 19 ≡ none)
of_the_others = (refl, refl, refl, refl)
