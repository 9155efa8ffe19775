-- The library's bytes of a half are those of the definition.
use Rattle.std.proofs.Common.{rules, ◌∙◌}
use Rattle.lib_word.specs.Halves.{put_half}
use Rattle.lib_word.proofs.Swap.{half_bytes}
use Rattle.lib_word.proofs.put_half.Goals as goal

pub returns : goal.returns
unfolding put_half
returns c = rw (c.to_be_bytes.ensures ∙ half_bytes c.args.h (search rules))
