-- The loop keeps the players so far and their bits; each takes bytes of the text, so it ends.
use Rattle.lib_base.proofs.Prelude.{◌-◌, length}
use Rattle.source_declarations.proofs.Players.{PlayersTurn}
use Rattle.source_declarations.proofs.more_players.Given as goal

abbrev pub invariant-loop-place : goal.invariant-loop-place
invariant-loop-place l = PlayersTurn l.text l.at l.here l.bits

abbrev pub decreases-loop-place : goal.decreases-loop-place
decreases-loop-place l = length l.text - l.here
