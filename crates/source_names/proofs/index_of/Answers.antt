-- The loop goes through the places in order, as `index_in` does.
use Rattle.lib_base.proofs.Prelude.{◌∙◌, sym, arith}
use Rattle.source_names.proofs.Laws.{index_start, index_turn, index_found, index_end}
use Rattle.source_names.proofs.index_of.Goals as goal

pub returns-then-places-eq0-clause-value : goal.returns-then-places-eq0-clause-value
returns-then-places-eq0-clause-value c = index_end (index_start _ _ _) (omega arith)

pub loop-i-init : goal.loop-i-init
loop-i-init c = index_start _ _ _

pub returns-then-same_name-clause-value : goal.returns-then-same_name-clause-value
returns-then-same_name-clause-value c =
    index_found c.loop-i.invariant c.loop-i-test.true (sym c.same_name.ensures ∙ c.if-same_name.true)

pub loop-i-preserved : goal.loop-i-preserved
loop-i-preserved c = index_turn c.loop-i.invariant c.loop-i-test.true (sym c.same_name.ensures ∙ c.if-same_name.false)

pub returns-clause-value : goal.returns-clause-value
returns-clause-value c = omega (arith, index_end c.loop-i.invariant c.loop-i-test.false, c.loop-i.invariant.within)
