-- The words of the table from the draft (crate draft_form), as the compiler writes them: the image's parts (crate
-- image) one after the other.
use Rattle.std.specs.Prelude.{ℕ, ◌+◌, ◌%◌, ◌≤◌, ◌≡◌, length, get_or, eqb}
use mathlib.Core.List.{List, [], ◌∷◌, ◌++◌, flat_map}
use Rattle.lib_base.specs.Basics.{pick}
use Rattle.format_image.specs.Table.{padded}
use Rattle.check_faults.specs.Checks.{AllInside}
use Rattle.back_fresh.specs.Evaluate.{fresh_on}
use Rattle.back_counts.specs.Counts.{total, count_event, count_members}
use Rattle.back_schedule.specs.Ordering.{order_under}
use Rattle.back_emit.specs.Words.{each, turn_words_of_kind}
use Rattle.back_event.specs.Handlers.{code_of}
use Rattle.draft_form.specs.Draft.{draft_length}
use Rattle.back_parts.specs.RightWords.{right_words}
use Rattle.back_passives.specs.PassiveWords.{draft_passive_words}

-- ---- the parts

-- how many instructions the first e events have: where event e's begin
unfoldable pub count_before : List ℕ → ℕ → ℕ → ℕ
count_before d bs e = total e (λ f. count_event d f bs)

unfoldable pub record_words : List ℕ → ℕ → ℕ → List ℕ
record_words d bs e = (get_or d (4224 + e) 0 % 4294967296) ∷ count_before d bs e ∷ count_event d e bs ∷ count_members d e bs ∷ []

-- the values of a fresh round, who may see and send, and how passives are worked out
unfoldable pub fresh_words : List ℕ → ℕ → ℕ → List ℕ
fresh_words d ev bs = fresh_on d bs ev (order_under d ev bs) ++ (right_words d ev bs ++ draft_passive_words d ev bs)

-- the instructions: each event's; where none is declared, those that work the passives out
unfoldable pub alone_words : List ℕ → ℕ → List ℕ
alone_words d bs = flat_map (turn_words_of_kind d 0 1 2304) (order_under d 0 bs)

unfoldable pub codes_of : List ℕ → ℕ → ℕ → List ℕ
codes_of d ev bs = pick (eqb ev 0) (alone_words d bs) (each ev (code_of d bs))

unfoldable pub table_words : List ℕ → ℕ → ℕ → List ℕ
table_words d ev bs = padded 8 (ev ∷ bs ∷ []) ++ (padded 128 (each ev (record_words d bs)) ++ (fresh_words d ev bs ++ padded 8192 (codes_of d ev bs)))

-- ---- what writing the table needs

pub record Planned (d : List ℕ) (ev bs : ℕ) : Type 0 where
  pub long : length d ≡ draft_length
  pub few_events : ev ≤ 32
  pub few_behaviours : bs ≤ 64
  pub inside : AllInside d ev bs
  pub short : count_before d bs ev ≤ 4096
  pub code_fits : length (codes_of d ev bs) ≤ 8192
