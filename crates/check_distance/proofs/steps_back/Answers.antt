use Rattle.lib_base.proofs.Prelude.{◌∙◌, sym, arith}
use Rattle.check_distance.proofs.LayerLaws.{shares, trying_start, trying_turn, trying_stop, trying_end}
use Rattle.check_distance.proofs.steps_back.Goals as goal

pub loop-k-init : goal.loop-k-init
loop-k-init c = trying_start _ _ _ c.args.levels.now _ c.told-levels c.insert.ensures

-- home
pub returns-then-is_common : goal.returns-then-is_common
returns-then-is_common c =
    let home = sym c.if-is_common.true ∙ c.is_common.ensures ∙ shares _ _ c.requires.1 c.requires.2 _ _ c.requires.0 in
    trying_stop _ _ _ c.loop-k.invariant c.loop-k-test.true home

pub loop-k-preserved : goal.loop-k-preserved
loop-k-preserved c =
    let away = sym c.if-is_common.false ∙ c.is_common.ensures ∙ shares _ _ c.requires.1 c.requires.2 _ _ c.requires.0 in
    trying_turn _ _ _ c.loop-k.invariant (omega arith) c.requires.1 c.loop-k-test.true away c.leading_to.ensures

pub returns : goal.returns
returns c = trying_end _ _ _ c.loop-k.invariant (omega arith)
