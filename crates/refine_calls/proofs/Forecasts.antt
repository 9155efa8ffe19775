-- Forecast on the bytes is the model engine's: each slot's event has its code's length in the table, the slots are the
-- waiting in any order, and the longest event is the same counted from either end.
use Rattle.lib_base.proofs.Prelude.{ℕ, ◌≤◌, ◌<◌, ◌+◌, suc, zero, max, ◌≡◌, refl, sym, List, sum, length, arith}
use mathlib.Core.List.{foldr}
use Rattle.lib_base.specs.Basics.{All}
use Rattle.lib_word.specs.Word.{get}
use Rattle.spec_language.specs.Syntax.{Program}
use Rattle.spec_language.specs.Dependence.{size, events}
use Rattle.spec_language.specs.Order.{up_to}
use Rattle.spec_language.specs.Code.{code}
use Rattle.spec_language.specs.Valid.{Valid}
use Rattle.spec_model.specs.Model.{Arrival, rest, busy, Engine, engine}
use Rattle.spec_model.specs.Claims.{longest, steps_of, forecast}
use Rattle.spec_model.proofs.Reached.{Reached}
use Rattle.spec_model.proofs.Quiet.{steps_perm}
use Rattle.format_layout.specs.Layout.{event_at}
use Rattle.format_image.proofs.ImageLaws.{Says}
use Rattle.run_forecast.specs.Forecast.{bound, forecast_with, forecast_in, forecast_on}
use Rattle.run_forecast.specs.Steps.{steps_in, longest_in}
use Rattle.refine_calls.specs.Refinement.{slots}
use Rattle.refine_calls.proofs.Relation.{Alike, count_is}
use Rattle.refine_calls.proofs.Agrees.{known_slots, ours_is}

-- ---- the greatest of a list, from either end

max_last : (n : ℕ) (f : ℕ → ℕ) → foldr max 0 (up_to (suc n) f) ≡ max (f n) (foldr max 0 (up_to n f))
unfolding up_to
max_last zero f = refl
max_last (suc n) f = omega (arith, max_last n (λ i. f (suc i)))

module _ (p : Program) (valid : Valid p) (t : List ℕ) (table : Says p t) where
  pub longest_is : (n : ℕ) → n ≤ events p → longest_in t n ≡ foldr max 0 (up_to n (λ e. length (code p e)))
  unfolding longest_in up_to
  longest_is zero h = refl
  longest_is (suc n) h = rw (table.lengths n (omega arith), longest_is n (omega arith)) (sym (max_last n (λ e. length (code p e))))

  steps_are : (l : List ℕ) (n : ℕ) → All (λ (a : Arrival). a.event < events p) (slots l n) → steps_in t l n ≡ steps_of p (slots l n)
  unfolding steps_in steps_of sum slots
  steps_are l zero h = refl
  steps_are l (suc n) h = rw (table.lengths (event_at l n) h.0, steps_are l n h.1)

  pub forecast_agrees : (l : List ℕ) (w : Engine) → Alike (size p) l w → Reached p w → forecast_on t l ≡ 4294967296 + forecast p w
  unfolding forecast_on forecast_in forecast_with bound longest
  forecast_agrees l (engine k q rest d) R i =
      rw (ours_is p valid t table l k q rest d R i, R.runs, steps_are l (get l 1) (known_slots p valid t table l k q rest d R i), steps_perm p R.queue)
  forecast_agrees l (engine k q (busy a c) d) R i =
      let z : length q + 1 ≡ suc (length q) = omega arith in
      rw (
        ours_is p valid t table l k q (busy a c) d R i,
        R.runs.0,
        count_is (size p) table.few_behaviours l k q (busy a c) d R,
        table.event_count_law,
        longest_is (events p) (omega arith),
        z,
      )
