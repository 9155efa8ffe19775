-- What a response to an event names. 01 "Independence".
use Rattle.std.specs.Prelude.{ℕ, Bool, false}
use Rattle.spec_language.specs.Dependence.{Response, follows, takes, defers, keeps, mentions}

-- name j stands in a passive's expression or in the handler for the event
abbrev pub in_response : ℕ → Response → Bool
in_response j (follows x) = mentions j x
in_response j (takes x) = mentions j x
in_response j (defers x) = mentions j x
in_response j keeps = false
