use Rattle.lib_base.proofs.Prelude.{◌∙◌, sym, arith}
use Rattle.check_faults.proofs.Search.{pass, stop, end}
use Rattle.check_faults.proofs.has_cycle.Goals as goal

pub search-preserved : goal.search-preserved
search-preserved c = pass c.search.invariant c.loop-b.invariant (omega arith)

-- left where one reaches itself
pub returns-then-reaches_itself : goal.returns-then-reaches_itself
returns-then-reaches_itself c =
    let h = c.loop-b-test.true in
    stop _ _ _ c.search.e _ (omega arith) h (sym (c.reach_all-placed.ensures.told _ h) ∙ sym c.reaches_itself.ensures ∙ c.if-reaches_itself.true)

pub returns-2 : goal.returns-2
returns-2 c = end (pass c.search.invariant c.loop-b.invariant (omega arith)) (omega arith)
