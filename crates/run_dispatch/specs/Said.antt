-- What a step answers: one of the kinds of crate spec_language, Answers.antt, those of a start or a commit with player,
-- event number and arrival number; or 14. 01 "Handlers and steps"; 02, M-107.
use Rattle.std.specs.Prelude.{ℕ, ◌+◌, ◌*◌}
use Rattle.format_layout.specs.Layout.{event_of, player_of}

abbrev pub number_unit : ℕ
number_unit = 65536

abbrev pub event_unit : ℕ
event_unit = 256

abbrev pub player_unit : ℕ
player_unit = 16

unfoldable pub said : ℕ → ℕ → ℕ → ℕ → ℕ
said k n e who = n * number_unit + e * event_unit + who * player_unit + k

-- of arrival n, w being the word of its event and player
abbrev pub said_of : ℕ → ℕ → ℕ → ℕ
said_of k n w = said k n (event_of w) (player_of w)
