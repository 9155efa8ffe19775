-- Worked examples, by computation: 01's bound "(k + 1) × (L + 1) steps .., k being the number in hand", with two
-- waiting beside the running one and 51 instructions; and M-100's sum, of two that wait with no instruction: each
-- counts one.
use Rattle.lib_base.proofs.Prelude.{◌≡◌, refl, []}
use Rattle.lib_word.specs.Word.{get, get_at}
use Rattle.format_layout.specs.Layout.{event_word}
use Rattle.run_forecast.specs.Steps.{steps_in}
use Rattle.run_forecast.specs.Forecast.{bound}

pub three_in_hand : bound 2 51 ≡ 208
unfolding bound
three_in_hand = refl

pub two_starts : steps_in [] [] 2 ≡ 2
unfolding steps_in event_word get get_at
two_starts = refl
