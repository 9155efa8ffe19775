-- A fresh round, of the round's own type. 01: "A fresh round has start values, .., an empty hand."
use Rattle.std.specs.Prelude.{ℕ, List}
use Rattle.format_layout.specs.declared.round.Round.{Round}

abbrev pub fresh_of : List ℕ → Round
fresh_of store = record { taken = 0; waiting = 0; running = 0; store = store }
