-- The parts one after the other.
use Rattle.lib_base.proofs.Prelude.{◌∙◌, rules, arith}
use Rattle.back_emit.proofs.WritingLaws.{wrote_long}
use Rattle.back_table.proofs.TableLaws.{length_records, records_end, head_end, table_wrote}
use Rattle.back_table.proofs.write_table.Goals as goal

pub write_records-requires-clause-room : goal.write_records-requires-clause-room
write_records-requires-clause-room c = record {
  within = omega (
    arith,
    head_end _ _ c.write_head.ensures,
    length_records c.args.draft.now c.args.behaviours c.args.events,
    c.requires.planned.few_events,
  );
  long = omega (arith, wrote_long c.write_head.ensures);
}

pub zeros-requires : goal.zeros-requires
zeros-requires c = (
  omega (arith, wrote_long c.write_head.ensures, wrote_long c.write_records.ensures),
  records_end _ _ _ c.write_records.ensures (head_end _ _ c.write_head.ensures) c.requires.planned.few_events,
  omega arith,
)

pub write_fresh-requires-clause-table_bytes_in_bounds : goal.write_fresh-requires-clause-table_bytes_in_bounds
write_fresh-requires-clause-table_bytes_in_bounds c = omega (arith, wrote_long c.write_head.ensures, wrote_long c.write_records.ensures, wrote_long c.zeros.ensures)

pub write_codes-requires-clause-room : goal.write_codes-requires-clause-room
write_codes-requires-clause-room c = record {
  within = omega (arith, c.write_fresh.ensures.value, c.requires.planned.code_fits);
  long = omega (arith, wrote_long c.write_head.ensures, wrote_long c.write_records.ensures, wrote_long c.zeros.ensures, wrote_long c.write_fresh.ensures.wrote);
}

pub zeros-requires-2 : goal.zeros-requires-2
zeros-requires-2 c = (
  omega (arith, wrote_long c.write_head.ensures, wrote_long c.write_records.ensures, wrote_long c.zeros.ensures, wrote_long c.write_fresh.ensures.wrote, wrote_long c.write_codes.ensures),
  omega (arith, c.write_codes.ensures.next, c.write_fresh.ensures.value, c.requires.planned.code_fits),
  omega arith,
)

pub returns : goal.returns
returns c =
    let w =
    table_wrote _ _ _ c.requires.planned.few_events c.write_head.ensures c.write_records.ensures c.zeros.ensures c.write_fresh.ensures.wrote
    c.write_fresh.ensures.value c.write_codes.ensures c.zeros-2.ensures in
    (search rules) ∙ w.table
