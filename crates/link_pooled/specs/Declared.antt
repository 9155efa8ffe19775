-- The events that a program declares. 02, M-111: "events that it doesn't declare being passed over".
use Rattle.std.specs.Prelude.{ℕ, true, false, List, [], ◌∷◌, ltb}
use Rattle.spec_language.specs.Syntax.{Program}
use Rattle.spec_language.specs.Dependence.{events}

-- the events of a list that a program declares, in their order
unfoldable pub declared : Program → List ℕ → List ℕ
declared p [] = []
declared p (e ∷ es) = elim (ltb e (events p)) [ true ↦ e ∷ declared p es | false ↦ declared p es ]
