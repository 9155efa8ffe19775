-- The values are worked out in bytes that are 0, a stack of depth 0 among them.
use Rattle.lib_base.proofs.Prelude.{rules}
use Rattle.lib_word.specs.Word.{get, get_at}
use Rattle.run_mend.proofs.carry_over.Goals as goal

pub carry_on-requires-clause-depth_word_bound : goal.carry_on-requires-clause-depth_word_bound
unfolding get get_at
carry_on-requires-clause-depth_word_bound c = search rules
