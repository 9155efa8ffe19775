use Rattle.lib_base.proofs.Prelude.{le-ltb}
use Rattle.source_terms.proofs.Writing.{wrote_on}
use Rattle.source_terms.proofs.write_value.Goals as goal

pub returns-else-w-lt-NEGATIVE : goal.returns-else-w-lt-NEGATIVE
returns-else-w-lt-NEGATIVE c =
    rw (le-ltb c.args.w 2147483648 c.if-w-lt-NEGATIVE.false) (wrote_on c.write-else-w-lt-NEGATIVE.ensures c.write-else-w-lt-NEGATIVE-2.ensures)
