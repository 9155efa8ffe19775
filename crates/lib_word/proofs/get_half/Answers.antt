-- The two bytes put together: the definition opened.
use Rattle.lib_word.specs.Halves.{get_half}
use Rattle.lib_word.proofs.get_half.Goals as goal

pub returns : goal.returns
unfolding get_half
returns c = c.from_be_bytes.ensures
