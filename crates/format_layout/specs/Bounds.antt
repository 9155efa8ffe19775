-- What holds of a table and a round that are not foreign: what the functions over them need.
use Rattle.std.specs.Prelude.{ℕ, ◌+◌, ◌≤◌, ◌<◌, ◌≢◌, List, length}
use Rattle.format_layout.specs.Layout.{event_count, behaviour_count, event_word, waiting_count, running_flag, running_event, position, depth, event_at}

pub record TableBounds (t : List ℕ) : Type 0 where
  pub long : 34816 ≤ length t
  pub few_events : event_count t ≤ 32
  pub few_behaviours : behaviour_count t ≤ 64
  pub codes : (e : ℕ) → e < event_count t → event_word t e 1 + event_word t e 2 ≤ 4096

pub record RoundBounds (t l : List ℕ) : Type 0 where
  pub long : 2048 ≤ length l
  pub few_waiting : waiting_count l ≤ 64
  pub shallow : depth l ≤ 64
  pub known : (i : ℕ) → i < waiting_count l → event_at l i < event_count t
  pub room : running_flag l ≢ 0 → waiting_count l ≤ 63
  pub running_known : running_flag l ≢ 0 → running_event l < event_count t
  pub running_within : running_flag l ≢ 0 → position l < event_word t (running_event l) 2

pub record Bounds (t l : List ℕ) : Type 0 where
  pub table : TableBounds t
  pub round : RoundBounds t l
