use Rattle.lib_base.proofs.Prelude.{length-take-le, arith}
use Rattle.back_emit.proofs.WritingLaws.{wrote_none, wrote_long}
use Rattle.back_parts.proofs.PartLaws.{values_turn, values_end}
use Rattle.back_parts.proofs.write_values.Goals as goal

pub loop-value-init : goal.loop-value-init
loop-value-init c = wrote_none _ _

pub word-requires : goal.word-requires
word-requires c =
    let w = c.loop-value.invariant in
    record {
      within = omega (arith, w.next, length-take-le c.loop-value.value-index c.args.values.now (omega arith));
      long = omega (arith, wrote_long w);
    }

pub loop-value-preserved : goal.loop-value-preserved
loop-value-preserved c = values_turn c.args.values.now _ (omega arith) c.loop-value.invariant c.word.ensures

pub returns : goal.returns
returns c = values_end c.args.values.now c.loop-value.value-index (omega arith) c.loop-value.invariant
