-- Two words written, one after the other: the definition opened.
use Rattle.run_queue.specs.Queue.{put_slot}
use Rattle.run_queue.proofs.put_slot.Goals as goal

pub returns : goal.returns
unfolding put_slot
returns c = cc (c.put_word.ensures, c.put_word-2.ensures)
