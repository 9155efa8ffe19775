-- Who may send an event and who may see a behaviour. 02, M-107: "Up to eight players, 0 to 7, share a round, 0 being
-- the host. .. The host may do everything".
use Rattle.std.specs.Prelude.{ℕ, ◌/◌, ◌%◌, ◌^◌, Bool, true, get_or, eqb}
use Rattle.lib_base.specs.Basics.{pick}
use Rattle.spec_language.specs.Syntax.{Program}

-- "(bit n for player n)"; the host is let in whatever the byte is
abbrev pub may : ℕ → ℕ → Bool
may byte player = pick (eqb player 0) true (eqb (byte / 2 ^ player % 2) 1)

abbrev pub may_send : Program → ℕ → ℕ → Bool
may_send p player e = may (get_or p.senders e 0) player

abbrev pub may_see : Program → ℕ → ℕ → Bool
may_see p player i = may (get_or p.viewers i 0) player
