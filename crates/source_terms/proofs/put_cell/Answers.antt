-- Brackets where it is not the first cell.
use Rattle.lib_base.proofs.Prelude.{ne_eqb, arith}
use Rattle.source_terms.proofs.Writing.{wrote_on}
use Rattle.source_terms.proofs.put_cell.Goals as goal

pub returns-then-h-i : goal.returns-then-h-i
returns-then-h-i c =
    rw (ne_eqb c.args.h c.args.i (omega arith))
    (wrote_on c.write.ensures (wrote_on c.write-then-h-i.ensures (wrote_on c.write-then-h-i-2.ensures c.write-then-h-i-3.ensures)))
