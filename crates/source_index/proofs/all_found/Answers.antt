-- The loop tries one name and one place after another.
use Rattle.lib_base.proofs.Prelude.{arith}
use Rattle.source_index.proofs.Laws.{found_start, found_turn, found_end}
use Rattle.source_index.proofs.all_found.Goals as goal

pub loop-j-init : goal.loop-j-init
loop-j-init c = found_start _ _ _

pub loop-j-preserved : goal.loop-j-preserved
loop-j-preserved c =
    found_turn _ _ _ c.loop-j.invariant (omega (arith, c.found_in.ensures, c.if-n-found_in.false))
    (omega (arith, c.index_of.ensures.value, c.if-n-index_of.false, c.requires))

pub returns : goal.returns
returns c e = found_end _ _ _ c.loop-j.invariant (omega (arith, c.loop-j-test.false, c.requires))
