use Rattle.check_reads.proofs.passive_rows.Goals as goal

pub returns : goal.returns
returns c = c.close_rows.ensures _ c.fill_passives.ensures
