use Rattle.lib_base.proofs.Prelude.{rules, arith}
use Rattle.check_faults.proofs.RowLaws.{rows_past}
use Rattle.back_schedule.proofs.OrderingLaws.{order_holds}
use Rattle.back_schedule.proofs.order_under.Goals as goal

pub arrange-requires : goal.arrange-requires
arrange-requires c = (omega arith, record { none_past = rows_past c.fill_rows.ensures })

pub returns : goal.returns
returns c =
    order_holds _ _ _ _ _ _ _ _ _ (search rules) c.requires.1 c.requires.2 c.fill_rows.ensures c.met_set-met.ensures (search rules) c.arrange.ensures
    (search rules)
