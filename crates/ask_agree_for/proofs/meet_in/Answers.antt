use Rattle.lib_base.proofs.Prelude.{arith}
use Rattle.ask_agree_for.proofs.EncounterLaws.{encounter_is}
use Rattle.ask_agree_for.proofs.meet_in.Goals as goal

pub passive_rows-requires : goal.passive_rows-requires
passive_rows-requires c = let p = c.requires in (p.0, p.1, p.3 _ (omega arith))

pub returns : goal.returns
returns c =
    encounter_is _ _ _ _ _ _ c.passive_rows.new.rows c.fill_writes.new.writes c.fill_strict.new.strict
    c.requires.2 c.cone_of-cone.ensures c.passive_rows.ensures c.fill_writes.ensures
    c.fill_strict.ensures c.meet_by.ensures
