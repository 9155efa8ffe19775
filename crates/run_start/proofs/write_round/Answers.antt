-- The words are cleared, then written, one after the other.
use Rattle.run_start.specs.Start.{image}
use Rattle.run_start.proofs.write_round.Goals as goal

pub returns : goal.returns
unfolding image
returns c =
    rw (← c.clear.ensures, ← c.put_word.ensures, ← c.put_word-2.ensures, ← c.put_word-3.ensures) c.put_store.ensures
