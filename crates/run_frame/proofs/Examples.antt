-- The answer of a frame as a number, by computation, as engine.h takes it apart: 5 steps made, 2 commits written, and
-- why it ended.
use Rattle.lib_base.proofs.Prelude.{◌≡◌, refl, [], ◌∷◌}
use Rattle.run_frame.specs.Frame.{frame_said}
use Rattle.run_frame.specs.Framed.{all_made, met_idle, met_refusal, no_room, room_for}

pub two_commits_of_five_steps : (frame_said 0 5 2 ≡ 8589934597) × (frame_said 3 5 2 ≡ 216172790703718405)
two_commits_of_five_steps = (refl, refl)

-- all made, idle, refused, no room
pub why : all_made ∷ met_idle ∷ met_refusal ∷ no_room ∷ [] ≡ 0 ∷ 1 ∷ 2 ∷ 3 ∷ []
why = refl

-- places of eight bytes, as many as 24 bits count
pub places : (room_for 7 ≡ 0) × (room_for 8 ≡ 1) × (room_for 17 ≡ 2) × (room_for 134217719 ≡ 16777214) × (room_for 134217728 ≡ 16777215)
unfolding room_for
places = (refl, refl, refl, refl, refl)
