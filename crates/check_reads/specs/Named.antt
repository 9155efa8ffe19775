-- What the handlers of an event name, as tests that compute: they decide 01's definition (proofs/Decides.antt). 01:
-- "An event writes the actives with a handler for it. It reads the actives named in those handlers, directly or through
-- passives."
use Rattle.std.specs.Prelude.{ℕ, Bool, ◌&&◌, ◌||◌}
use Rattle.spec_language.specs.Syntax.{Program}
use Rattle.spec_language.specs.Dependence.{size, no_event, response, writes}
use Rattle.check_graph.specs.Matrix.{cell, closed}
use Rattle.check_graph.specs.Any.{any_below}
use Rattle.check_faults.specs.Faults.{matrix_of}
use Rattle.check_reads.specs.InResponse.{in_response}

-- "named in those handlers, directly"
unfoldable pub named_directly : Program → ℕ → ℕ → Bool
named_directly p e j = any_below (size p) (λ i. writes p e i && in_response j (response p e i))

-- "or through passives": under no event a passive depends on its names and an active on nothing, so that a chain from i
-- to j leads through passives alone
unfoldable pub through_passives : Program → ℕ → ℕ → Bool
through_passives p i j = cell (closed (matrix_of p (no_event p)) (size p)) i j

-- the handlers for event e name j, directly or through passives: an active that they name is read
unfoldable pub named_by : Program → ℕ → ℕ → Bool
named_by p e j = named_directly p e j || any_below (size p) (λ i. named_directly p e i && through_passives p i j)
