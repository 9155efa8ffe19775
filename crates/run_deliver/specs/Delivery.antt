-- What a delivery answers, and what `taken` does.
use Rattle.std.specs.Prelude.{ℕ, ◌+◌, ◌*◌, List}
use Rattle.spec_language.specs.Answers.{told}

-- taken in; the hand is full and there is no room for a commit: no step made; a step on the way was refused by 14
abbrev pub delivered_now : ℕ
delivered_now = 1

abbrev pub no_commit_room : ℕ
no_commit_room = 2

abbrev pub broken_off : ℕ
broken_off = 3

-- the answer, the round's bytes and the commits' after it
abbrev pub Delivery : Type 0
Delivery = ℕ × List ℕ × List ℕ

abbrev pub delivery : ℕ → List ℕ → List ℕ → Delivery
delivery r l b = (r, l, b)

abbrev pub hand_unit : ℕ
hand_unit = 1099511627776

abbrev pub taken_said : ℕ → ℕ → ℕ
taken_said k hand = told k + hand * hand_unit
