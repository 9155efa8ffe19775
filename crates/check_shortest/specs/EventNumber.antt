-- An event's number in the answer of `circle`. 02, M-108.
use Rattle.std.specs.Prelude.{ℕ, ltb}
use Rattle.lib_base.specs.Basics.{pick}

-- an event's number in an answer; 255 for none
unfoldable pub event_number : ℕ → ℕ → ℕ
event_number e ev = pick (ltb e ev) e 255
