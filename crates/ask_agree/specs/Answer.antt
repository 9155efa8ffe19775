-- The answer of `agree` for an accepted sheet that may end differently on two phones, beside 01's refusals: what the
-- getters of other answers take apart, in one number.
use Rattle.std.specs.Prelude.{ℕ, ◌+◌, ◌*◌}

-- the answer packs the refusal's number, the first event, the second and the behaviour, a byte each
abbrev pub first_unit : ℕ
first_unit = 256

abbrev pub second_unit : ℕ
second_unit = 65536

abbrev pub behaviour_unit : ℕ
behaviour_unit = 16777216

-- 29, two events of unequal rank are not independent, so that demand 3 promises no equal boards: the two events and a
-- behaviour that one writes and the other reads or writes
unfoldable pub packed_difference : ℕ → ℕ → ℕ → ℕ
packed_difference e f i = 29 + first_unit * e + second_unit * f + behaviour_unit * i
