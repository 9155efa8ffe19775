use Rattle.check_reads.proofs.Chains.{chains_closed}
use Rattle.check_reads.proofs.close_rows.Goals as goal

pub returns : goal.returns
returns c = chains_closed c.requires c.close_all.ensures
