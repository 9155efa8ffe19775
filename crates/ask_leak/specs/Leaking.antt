-- The first name of a hidden behaviour in one that a player sees, in the code's tests and order.
use Rattle.std.specs.Prelude.{ℕ, ◌+◌, ◌-◌, Bool, not, ◌&&◌, List, get_or, ltb}
use Rattle.lib_base.specs.Basics.{pick}
use Rattle.spec_language.specs.Refusals.{no_player}
use Rattle.spec_language.specs.Rights.{may}
use Rattle.check_graph.specs.Any.{any_below}
use Rattle.check_reads.specs.First.{first_from}
use Rattle.check_reads.specs.Sets.{names_on}
use Rattle.ask_leak.specs.Answer.{packed_leak}

-- among n behaviours, by which are hidden and which each names
module _ (n : ℕ) (hidden : ℕ → Bool) (names : ℕ → ℕ → Bool) where
  unfoldable pub leak_at : ℕ → ℕ → ℕ
  leak_at i j = pick (names i j && hidden j) (packed_leak i j) 0

  unfoldable pub leak_from : ℕ → ℕ
  leak_from i = pick (hidden i) 0 (first_from n 0 (leak_at i))

  unfoldable pub leak_by : ℕ
  leak_by = first_from (n - 0) 0 leak_from

-- ---- on the draft of ev events

-- behaviour i names j: in its expression, or in a handler of either phase. ev is the number of no event
unfoldable pub names_any : List ℕ → ℕ → ℕ → ℕ → Bool
names_any d ev i j = any_below (ev + 1) (λ e. names_on d e i j)

-- hidden from the player
unfoldable pub hidden_on : List ℕ → ℕ → ℕ → Bool
hidden_on d player i = not (may (get_or d (4256 + i) 0) player)

abbrev pub leaking_on : List ℕ → ℕ → ℕ → ℕ → ℕ
leaking_on d ev n player = leak_by n (hidden_on d player) (names_any d ev)

-- 24 for a player above 7
unfoldable pub leak_for : List ℕ → ℕ → ℕ → ℕ → ℕ
leak_for d ev n player = pick (ltb 7 player) no_player (leaking_on d ev n player)
