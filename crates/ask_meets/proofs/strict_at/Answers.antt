use Rattle.lib_base.proofs.Prelude.{arith}
use Rattle.ask_meets.proofs.StrictLaws.{strict_is}
use Rattle.ask_meets.proofs.strict_at.Goals as goal

pub returns : goal.returns
returns c =
    strict_is c.args.d.now c.args.rows.now _ _ _ _ _ _ _ (omega arith) c.names_in.ensures c.add_rows-names.ensures c.mark_in.ensures (rw c.is_only.ensures at c.with_member.ensures)
