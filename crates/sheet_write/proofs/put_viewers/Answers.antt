-- Where nothing is said, no byte is written.
use Rattle.lib_base.proofs.Prelude.{sym, eq-eqb}
use Rattle.sheet_write.proofs.Laws.{none_fitted}
use Rattle.sheet_write.proofs.put_viewers.Goals as goal

pub returns-then-viewers-eq-UNSAID-clause-out_after : goal.returns-then-viewers-eq-UNSAID-clause-out_after
returns-then-viewers-eq-UNSAID-clause-out_after c =
    rw (eq-eqb c.args.viewers 256 c.if-viewers-eq-UNSAID.true) (sym (none_fitted c.args.out.now c.args.n))
