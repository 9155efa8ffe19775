use Rattle.lib_base.proofs.Prelude.{ℕ, ◌%◌, ◌∙◌, ap}
use Rattle.back_emit.proofs.WritingLaws.{wrote_none, wrote_as, room_as}
use Rattle.back_emit.proofs.BranchLaws.{kind_none, kind_some}
use Rattle.back_emit.proofs.Emitter.turn_of_kind.Goals as goal

pub turn_code-requires-clause-room : goal.turn_code-requires-clause-room
turn_code-requires-clause-room c = room_as (kind_some _ _ _ (c.entry_kind.ensures ∙ ap (λ (v : ℕ). v % 4) c.entry_of.ensures) _ _ c.if-entry_kind-kind.true) c.requires.room

pub returns-then-entry_kind-kind : goal.returns-then-entry_kind-kind
returns-then-entry_kind-kind c = wrote_as (kind_some _ _ _ (c.entry_kind.ensures ∙ ap (λ (v : ℕ). v % 4) c.entry_of.ensures) _ _ c.if-entry_kind-kind.true) c.turn_code.ensures

pub returns-else-entry_kind-kind : goal.returns-else-entry_kind-kind
returns-else-entry_kind-kind c = wrote_as (kind_none _ _ _ (c.entry_kind.ensures ∙ ap (λ (v : ℕ). v % 4) c.entry_of.ensures) _ _ c.if-entry_kind-kind.false) (wrote_none _ _)
