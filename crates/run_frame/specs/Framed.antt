-- Why a frame ends, and what it answers and leaves.
use Rattle.std.specs.Prelude.{ℕ, ◌/◌, List, ltb}
use Rattle.lib_base.specs.Basics.{pick}

-- why a frame ended: all steps made; nothing is in hand, the next step would be idle; the next is refused; no room for
-- a further commit
abbrev pub all_made : ℕ
all_made = 0

abbrev pub met_idle : ℕ
met_idle = 1

abbrev pub met_refusal : ℕ
met_refusal = 2

abbrev pub no_room : ℕ
no_room = 3

-- the answer packs the steps made, the commits written and why it ended
abbrev pub commit_unit : ℕ
commit_unit = 4294967296

abbrev pub end_unit : ℕ
end_unit = 72057594037927936

-- the answer, the round's bytes and the commits' after it
abbrev pub Framed : Type 0
Framed = ℕ × List ℕ × List ℕ

abbrev pub framed : ℕ → List ℕ → List ℕ → Framed
framed r l b = (r, l, b)

-- places of eight bytes, as many as 24 bits count
unfoldable pub room_for : ℕ → ℕ
room_for bytes = pick (ltb (bytes / 8) 16777215) (bytes / 8) 16777215
