-- What the calls on a table's counts and ranks answer, for all bytes (layout: crate format_layout).
use Rattle.std.specs.Prelude.{ℕ, List, leb}
use Rattle.lib_base.specs.Basics.{pick}
use Rattle.lib_word.specs.Word.{get}
use Rattle.spec_language.specs.Refusals.{foreign, undeclared_event}
use Rattle.spec_language.specs.Answers.{told}
use Rattle.format_layout.specs.Layout.{event_count, behaviour_count, event_word}
use Rattle.format_layout.specs.Foreign.{table_fits}

-- word k of a table that is not foreign
unfoldable pub word_on : List ℕ → ℕ → ℕ
word_on t k = pick (table_fits t) (told (get t k)) foreign

unfoldable pub event_count_on : List ℕ → ℕ
event_count_on t = pick (table_fits t) (told (event_count t)) foreign

unfoldable pub behaviour_count_on : List ℕ → ℕ
behaviour_count_on t = pick (table_fits t) (told (behaviour_count t)) foreign

-- the rank (word 0 of the event's record)
unfoldable pub event_rank_on : List ℕ → ℕ → ℕ
event_rank_on t e = pick (table_fits t) (pick (leb (event_count t) e) undeclared_event (told (event_word t e 0))) foreign
