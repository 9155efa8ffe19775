use Rattle.lib_base.proofs.Prelude.{arith}
use Rattle.ask_meets.proofs.StrictLaws.{cone_is}
use Rattle.ask_meets.proofs.cone_of.Goals as goal

pub returns : goal.returns
returns c = cone_is _ _ _ _ _ _ (c.close_rows.ensures _ c.fill_all_names.ensures _ (omega arith)) c.insert.ensures
