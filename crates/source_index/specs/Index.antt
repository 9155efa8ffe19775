-- What the order of the names promises: the number for each place is that of its name, and names are found.
use Rattle.std.specs.Prelude.{ℕ, ◌<◌, ◌≡◌, List, length, get_or}
use Rattle.lib_base.specs.Basics.{All}
use Rattle.source_coding.specs.Places.{name_at, index_in}
use Rattle.source_names.specs.Search.{found_in}
use Rattle.source_names.specs.Known.{meaning_number}

-- the first k of these places have the numbers of their names
pub record MeaningsPut (text names : List ℕ) (params : ℕ) (firsts places : List ℕ) (k : ℕ) (before after : List ℕ) : Type 0 where
  pub each : (i : ℕ) → i < k → get_or after i 0 ≡ meaning_number params firsts (index_in text names (name_at text (get_or places i 0)))
  pub low : All (λ m. m < 8320) after
  pub kept : length after ≡ length before

-- the first k names are found among the places, all of which are in order, and the first k places are those of names
pub record AllFound (text names places : List ℕ) (k : ℕ) : Type 0 where
  pub met : (j : ℕ) → j < k → found_in text places (length places) (name_at text (get_or names j 0)) < length places
  pub named : (j : ℕ) → j < k → index_in text names (name_at text (get_or places j 0)) < length names
