-- How many turns phase one has: what the check on dependence counts.
use Rattle.std.specs.Prelude.{ℕ, ◌+◌}
use mathlib.Core.List.{sum}
use Rattle.spec_language.specs.Syntax.{Program}
use Rattle.spec_language.specs.Dependence.{size, response}
use Rattle.spec_language.specs.Order.{up_to, early}
use Rattle.spec_language.specs.Code.{one?}

-- how many behaviours have a turn in phase one, before the later handlers: the check on dependence asks whether an
-- order holds them all
unfoldable pub turns_in : Program → ℕ → ℕ
turns_in p e = sum ◌+◌ 0 (up_to (size p) (λ i. one? (early (response p e i))))
