-- Each case is its branch.
use Rattle.lib_base.proofs.Prelude.{sym}
use Rattle.back_emit.proofs.WritingLaws.{wrote_as, room_as}
use Rattle.back_table.proofs.TableLaws.{codes_alone, codes_events}
use Rattle.back_table.proofs.write_codes.Goals as goal

pub write_passive_code-requires-clause-room : goal.write_passive_code-requires-clause-room
write_passive_code-requires-clause-room c = room_as (sym (codes_alone _ _ _ c.if-events-eq0.true)) c.requires.room

pub write_events-requires-clause-room : goal.write_events-requires-clause-room
write_events-requires-clause-room c = room_as (sym (codes_events _ _ _ c.if-events-eq0.false)) c.requires.room

pub returns-then-events-eq0 : goal.returns-then-events-eq0
returns-then-events-eq0 c = wrote_as (sym (codes_alone _ _ _ c.if-events-eq0.true)) c.write_passive_code.ensures

pub returns-else-events-eq0 : goal.returns-else-events-eq0
returns-else-events-eq0 c = wrote_as (sym (codes_events _ _ _ c.if-events-eq0.false)) c.write_events.ensures
