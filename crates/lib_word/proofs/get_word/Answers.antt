-- Word k is the word at byte 4k: the definition opened.
use Rattle.lib_word.specs.Word.{get}
use Rattle.lib_word.proofs.get_word.Goals as goal

pub returns : goal.returns
unfolding get
returns c = c.get_at.ensures
