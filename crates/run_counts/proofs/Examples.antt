-- The numbers that `version` and the counts of a table answer, by computation, as engine.h takes them apart.
use Rattle.lib_base.proofs.Prelude.{ℕ, ◌≡◌, refl, true, List, arith}
use Rattle.lib_word.specs.Word.{get}
use Rattle.spec_language.specs.Syntax.{Program}
use Rattle.spec_language.specs.Dependence.{events}
use Rattle.spec_language.specs.Answers.{told}
use Rattle.format_layout.specs.Layout.{event_count, event_word}
use Rattle.format_layout.specs.Foreign.{table_fits}
use Rattle.run_counts.specs.Version.{version_number}
use Rattle.run_counts.specs.Counts.{event_rank_on}
use Rattle.run_counts.specs.Tells.{Tells}

pub version : version_number ≡ 65537
version = refl

pub five : told 5 ≡ 4294967301
five = refl

-- of two events, event 2 is not declared: 15
pub third_of_two : (p : Program) (t : List ℕ) → Tells p t → events p ≡ 2 → event_rank_on t 2 ≡ 15
third_of_two p t h n = h.no_other 2 (omega arith)

-- the second event's record begins at word 12, with its rank
pub rank_of_event_1 : (t : List ℕ) → table_fits t ≡ true → event_count t ≡ 2 → event_rank_on t 1 ≡ told (get t 12)
unfolding event_rank_on event_word
rank_of_event_1 t f n = rw (f, n)
