-- With no step asked for there is nothing to judge. A table and a round that are not foreign are sound, and the frame
-- is that from the start; of others no step is made.
use Rattle.lib_base.proofs.Prelude.{◌∙◌, sym, rules}
use Rattle.run_step.proofs.Fits.{ours_sound}
use Rattle.run_frame.proofs.Laws.{none_asked, judged, foreign_frame}
use Rattle.run_frame.proofs.frame_at.Statement.{statement}
use Rattle.run_frame.proofs.frame_at.Tie as tie

frame_in_requires : tie.Need-frame_in-requires
frame_in_requires c κs = (
  ours_sound _ _ (sym c.is_ours.ensures.0 ∙ c.if-is_ours.true),
  search rules,
  search rules,
  c.if-steps-eq0.false,
)

returns_2 : tie.Need-returns-then-is_ours
returns_2 c =
    judged _ _ _ _ c.room_of-room.ensures.0 c.frame_in.ensures

returns_3 : tie.Need-returns
returns_3 c =
    foreign_frame _ _ _ _ c.room_of-room.ensures.0
    (sym c.is_ours.ensures.0 ∙ c.if-is_ours.false)
    c.if-steps-eq0.false c.refused_of.ensures

pub frame_at_spec : {M : Type 1} → statement M
frame_at_spec =
    tie.close
    (tie.spec (search rules)
    (λ c. none_asked _ _ _ c.if-steps-eq0.true c.frame_answer.ensures)
    (search rules) (search rules) frame_in_requires (search rules) (search rules) returns_2 (search rules)
    (search rules) returns_3)
