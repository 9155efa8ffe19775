-- The library's bytes of the turned word are those of the definition.
use Rattle.std.proofs.Common.{rules, ◌∙◌}
use Rattle.lib_word.specs.Word.{put}
use Rattle.lib_word.proofs.Swap.{turned_bytes}
use Rattle.lib_word.proofs.put_word.Goals as goal

pub returns : goal.returns
unfolding put
returns c = rw (c.to_le_bytes.ensures ∙ turned_bytes c.args.w c.swap_bytes.result (search rules) c.swap_bytes.ensures)
