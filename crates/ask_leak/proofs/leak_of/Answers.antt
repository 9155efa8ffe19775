use Rattle.lib_base.proofs.Pick.{code}
use Rattle.lib_base.proofs.Prelude.{◌∙◌}
use Rattle.ask_leak.specs.Leaking.{leak_for}
use Rattle.ask_leak.proofs.leak_of.Goals as goal

pub returns-then-player-gt-LAST_PLAYER : goal.returns-then-player-gt-LAST_PLAYER
unfolding leak_for
returns-then-player-gt-LAST_PLAYER c = search code depth 12

pub returns : goal.returns
unfolding leak_for
returns c = rw (c.leak_number.ensures ∙ c.leak_in.ensures) (search code depth 12)
