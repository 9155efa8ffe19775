use Rattle.lib_base.proofs.Prelude.{◌∙◌, ap, refl, arith}
use Rattle.source_walk.specs.Fields.{needed_in}
use Rattle.source_walk.proofs.Places.{counting_on, counting_ends}
use Rattle.sheet_walk.proofs.Places.{rest_is}
use Rattle.source_walk.proofs.needed_from.Goals as goal

pub loop-b-preserved : goal.loop-b-preserved
loop-b-preserved c =
    let need = c.needed_after-n.ensures in
    counting_on c.loop-b.invariant c.loop-b-test.true refl need.value need.upper_bound c.pass.ensures.tag c.pass.ensures.left

pub returns-clause-value : goal.returns-clause-value
returns-clause-value c = counting_ends c.loop-b.invariant (omega arith) ∙ ap (needed_in 0 0 0) (rest_is c.args.s.now c.args.first)
