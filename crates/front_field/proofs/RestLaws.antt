-- How much the rest of a part holds.
use Rattle.lib_base.proofs.Prelude.{ℕ, ◌-◌, ◌≡◌, List, length, length-drop, length-take, arith}
use Rattle.front_field.specs.Expression.{rest_from}

pub rest_length : (at : ℕ) (v : List ℕ) → length (rest_from at v) ≡ length v - at
rest_length at v = simp (length-take, length-drop) (omega arith)
