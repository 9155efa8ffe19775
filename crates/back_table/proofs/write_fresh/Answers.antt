-- The values, the rights, and how passives are worked out, up to word 512.
use Rattle.lib_base.proofs.Prelude.{rules, arith}
use Rattle.back_emit.proofs.WritingLaws.{wrote_long}
use Rattle.back_table.proofs.TableLaws.{planned_inside, planned_sound, fresh_wrote}
use Rattle.back_table.proofs.write_fresh.Goals as goal

pub order_under-count-requires : goal.order_under-count-requires
order_under-count-requires c =
    let p = c.requires.planned in (omega (arith, p.few_events), p.few_behaviours, λ i b. planned_inside p _ i b (omega arith))

pub write_rights-requires : goal.write_rights-requires
write_rights-requires c =
    let p = c.requires.planned in (p.few_events, p.few_behaviours, omega (arith, wrote_long c.write_values.ensures))

pub write_passives-requires : goal.write_passives-requires
write_passives-requires c =
    (planned_sound c.requires.planned, omega (arith, wrote_long c.write_values.ensures, wrote_long c.write_rights.ensures.wrote))

pub returns : goal.returns
returns c =
    let rights = c.write_rights.ensures in
    let passives = c.write_passives.ensures in
    record {
      wrote = fresh_wrote _ _ _ c.order_under-count.ensures c.fresh_values-values.ensures c.write_values.ensures (search rules) rights.wrote rights.value passives.wrote;
      value = passives.value;
    }
