-- Who may see, zeros, who may send, zeros.
use Rattle.lib_base.proofs.Prelude.{arith}
use Rattle.back_emit.proofs.WritingLaws.{room_as, wrote_as, wrote_long}
use Rattle.back_parts.proofs.PartLaws.{numbers_room, numbers_are, numbers_next, zeros_next, rights_wrote}
use Rattle.back_parts.proofs.write_rights.Goals as goal

pub write_numbers-requires : goal.write_numbers-requires
write_numbers-requires c = room_as (numbers_are c.args.draft.now 4256 c.args.behaviours (omega arith)) (numbers_room _ 4256 _ (omega arith) (omega arith))

pub zeros-requires : goal.zeros-requires
zeros-requires c =
    let w = wrote_as (numbers_are c.args.draft.now 4256 c.args.behaviours (omega arith)) c.write_numbers.ensures in
    (omega (arith, wrote_long w), omega (arith, numbers_next c.args.draft.now 4256 c.args.behaviours w), omega arith)

pub write_numbers-requires-2 : goal.write_numbers-requires-2
write_numbers-requires-2 c =
    let w = wrote_as (numbers_are c.args.draft.now 4256 c.args.behaviours (omega arith)) c.write_numbers.ensures in
    let z = zeros_next 264 (omega (arith, numbers_next c.args.draft.now 4256 c.args.behaviours w)) c.zeros.ensures in
    room_as (numbers_are c.args.draft.now 4320 c.args.events (omega arith)) (numbers_room _ 4320 _ (omega (arith, z)) (omega (arith, wrote_long w, wrote_long c.zeros.ensures)))

pub zeros-requires-2 : goal.zeros-requires-2
zeros-requires-2 c =
    let w = wrote_as (numbers_are c.args.draft.now 4256 c.args.behaviours (omega arith)) c.write_numbers.ensures in
    let z = zeros_next 264 (omega (arith, numbers_next c.args.draft.now 4256 c.args.behaviours w)) c.zeros.ensures in
    let v = wrote_as (numbers_are c.args.draft.now 4320 c.args.events (omega arith)) c.write_numbers-2.ensures in
    (omega (arith, wrote_long w, wrote_long c.zeros.ensures, wrote_long v), omega (arith, z, numbers_next c.args.draft.now 4320 c.args.events v), omega arith)

pub returns : goal.returns
returns c =
    let w = wrote_as (numbers_are c.args.draft.now 4256 c.args.behaviours (omega arith)) c.write_numbers.ensures in
    let v = wrote_as (numbers_are c.args.draft.now 4320 c.args.events (omega arith)) c.write_numbers-2.ensures in
    let r = rights_wrote _ _ _ c.requires.0 c.requires.1 w c.zeros.ensures v c.zeros-2.ensures in
    record { wrote = r.0; value = r.1 }
