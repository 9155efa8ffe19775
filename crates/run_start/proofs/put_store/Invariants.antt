-- The first i values stand in the store.
use Rattle.lib_base.proofs.Prelude.{◌≡◌, length}
use Rattle.run_start.specs.Start.{stored}
use Rattle.run_start.proofs.put_store.Given as goal

abbrev pub invariant-loop-i : goal.invariant-loop-i
invariant-loop-i l = (l.round ≡ stored l.store l.fn.round l.i) × (length l.round ≡ length l.fn.round)
