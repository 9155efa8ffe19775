-- What the call `leak` answers, for all bytes and every player: does a behaviour that the player sees depend on a
-- hidden one? compile's number for a sheet that compile turns down; 24 for a player above 7; 0 where none does; else a
-- behaviour that it sees and a hidden one that this names, the least of each. 02, M-107: "by a name in its expression
-- or in a handler of either phase, directly or by a chain": a chain from a seen behaviour to a hidden one has a step
-- from a seen one to a hidden one, so that names decide it.
use Rattle.std.specs.Prelude.{ℕ, ◌+◌, Bool, not, List, eqb, ltb}
use Rattle.lib_base.specs.Basics.{pick}
use Rattle.spec_language.specs.Syntax.{Program}
use Rattle.spec_language.specs.Sheet.{Sheet}
use Rattle.spec_language.specs.Reading.{Got, bad, got, read_sheet}
use Rattle.spec_language.specs.Refusals.{no_player}
use Rattle.spec_language.specs.Rights.{may_see}
use Rattle.spec_language.specs.Dependence.{size, events, response}
use Rattle.back_compile.specs.Number.{number_on}
use Rattle.back_compile.specs.Compiled.{program_of}
use Rattle.check_graph.specs.Any.{any_below}
use Rattle.check_reads.specs.InResponse.{in_response}
use Rattle.ask_leak.specs.Leaking.{leak_by}

-- behaviour i names j: a passive in its expression, which it follows under every event and under none; an active in its
-- handler for some event
unfoldable pub behaviour_names : Program → ℕ → ℕ → Bool
behaviour_names p i j = any_below (events p + 1) (λ e. in_response j (response p e i))

abbrev pub hidden_in : Program → ℕ → ℕ → Bool
hidden_in p player i = not (may_see p player i)

abbrev pub leak_in : Program → ℕ → ℕ
leak_in p player = leak_by (size p) (hidden_in p player) (behaviour_names p)

-- of the sheet that the bytes encode
abbrev pub leak_read : Got Sheet → List ℕ → ℕ → ℕ
leak_read (bad k) ps player = k
leak_read (got s rest) ps player = leak_in (program_of ps s) player

unfoldable pub leak_on : List ℕ → List ℕ → ℕ → ℕ
leak_on s ps player =
    pick (eqb (number_on s ps) 0) (pick (ltb 7 player) no_player (leak_read (read_sheet s) ps player)) (number_on s ps)
