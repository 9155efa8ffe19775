use Rattle.lib_base.proofs.Prelude.{ℕ, ◌%◌, ◌∙◌, ap}
use Rattle.back_emit.proofs.WritingLaws.{wrote_none, wrote_as, room_as}
use Rattle.back_emit.proofs.BranchLaws.{move_none, move_some}
use Rattle.back_emit.proofs.Emitter.later_move.Goals as goal

pub instr-requires : goal.instr-requires
instr-requires c = room_as (move_some _ _ _ (c.entry_kind.ensures ∙ ap (λ (v : ℕ). v % 4) c.entry_of.ensures) c.if-entry_kind-eq-LATER.true) c.requires.room

pub returns-then-entry_kind-eq-LATER : goal.returns-then-entry_kind-eq-LATER
returns-then-entry_kind-eq-LATER c = wrote_as (move_some _ _ _ (c.entry_kind.ensures ∙ ap (λ (v : ℕ). v % 4) c.entry_of.ensures) c.if-entry_kind-eq-LATER.true) c.instr.ensures

pub returns-else-entry_kind-eq-LATER : goal.returns-else-entry_kind-eq-LATER
returns-else-entry_kind-eq-LATER c = wrote_as (move_none _ _ _ (c.entry_kind.ensures ∙ ap (λ (v : ℕ). v % 4) c.entry_of.ensures) c.if-entry_kind-eq-LATER.false) (wrote_none _ _)
