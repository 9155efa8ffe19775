-- The first i behaviours are filled.
use Rattle.lib_base.proofs.Prelude.{◌≡◌, length}
use Rattle.run_carry.specs.Carry.{filled_store}
use Rattle.run_carry.proofs.fill.Given as goal

abbrev pub invariant-loop-i : goal.invariant-loop-i
invariant-loop-i l =
    (l.values ≡ filled_store l.old l.table l.round l.fn.values l.i) × (length l.values ≡ length l.fn.values)
