-- A burst leaves no more steps than it was given, and one that commits has made room.
use Rattle.lib_base.proofs.Prelude.{arith}
use Rattle.run_burst.proofs.Glue.{left_at_most}
use Rattle.run_deliver.proofs.Room.{commit_room}
use Rattle.run_deliver.proofs.deliver_full.Goals as goal

pub overflow_sub-made : goal.overflow_sub-made
overflow_sub-made c = omega (arith, left_at_most _ _ _ c.burst_on-stop.ensures.round_after)

pub admit-requires : goal.admit-requires
admit-requires c =
    let room = commit_room _ _ _ c.requires.0 c.burst_on-stop.ensures.round_after c.if-answer-ne-COMMITTED.false in
    (c.burst_on-stop.ensures.round_sound.long, room, c.requires.1, c.requires.2, c.requires.3)
