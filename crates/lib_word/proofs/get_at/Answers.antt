-- The library's turn is that of the definition.
use Rattle.std.proofs.Common.{rules, ◌∙◌}
use Rattle.lib_word.proofs.Swap.{turn_is}
use Rattle.lib_word.proofs.get_at.Goals as goal

pub returns : goal.returns
returns c = c.swap_bytes.ensures ∙ turn_is c.get_little.result (search rules) ∙ c.get_little.ensures
