-- The values of the first i behaviours stand in the store.
use Rattle.lib_base.proofs.Prelude.{◌≡◌, length}
use Rattle.run_carry.specs.Carry.{store_shown}
use Rattle.run_carry.proofs.show.Given as goal

abbrev pub invariant-loop-i : goal.invariant-loop-i
invariant-loop-i l =
    (l.round ≡ store_shown l.table l.values l.fn.round l.i) × (length l.round ≡ length l.fn.round)
