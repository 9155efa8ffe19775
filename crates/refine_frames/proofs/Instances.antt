-- An instance of the hypothesis at its bound, a frame of 4,294,967,295 steps; what a frame's answer tells, by
-- computation: 5 steps made, 2 commits written, and no room for one more; and what is stated of a frame of five steps
-- with sixteen bytes lent, in numbers.
use Rattle.lib_base.proofs.Prelude.{ℕ, ◌≤◌, ◌≡◌, refl, List, length, arith}
use Rattle.run_frame.specs.Frame.{frame_on}
use Rattle.run_frame.specs.Framed.{room_for}
use Rattle.spec_model.specs.Model.{step}
use Rattle.refine_calls.specs.Refinement.{call_on}
use Rattle.refine_frames.specs.Frames.{steps_made, commits_written, ended_by, FrameSteps, EveryFrame}

longest_frame : EveryFrame → (t l b : List ℕ) → FrameSteps t l 4294967295 b (frame_on t l 4294967295 b).0 (frame_on t l 4294967295 b).1 (frame_on t l 4294967295 b).2
longest_frame h t l b = h t l 4294967295 b (omega arith)

told : (steps_made 216172790703718405 ≡ 5) × (commits_written 216172790703718405 ≡ 2) × (ended_by 216172790703718405 ≡ 3) × (commits_written 72057589742960640 ≡ 16777215)
told = (refl, refl, refl, refl)

module _ (t l b l' b' : List ℕ) (v : ℕ) (f : FrameSteps t l 5 b v l' b') where
  -- all made: five; refused or without room: four at the most, and the next step is refused by 14
  ends : (ended_by v ≤ 3) × (steps_made v ≤ 5) × (ended_by v ≡ 0 → steps_made v ≡ 5) × (ended_by v ≡ 2 → (steps_made v ≤ 4) × ((call_on t step l').0 ≡ 14)) × (ended_by v ≡ 3 → steps_made v ≤ 4)
  ends = (f.ended.one_of, f.most, f.ended.all, λ e. (omega (arith, (f.ended.refused e).0), (f.ended.refused e).1), λ e. omega (arith, (f.ended.full e).0))

  -- told idle exactly where the next step would be
  idle_told : (ended_by v ≡ 1 → (call_on t step l').0 ≡ 0) × ((call_on t step l').0 ≡ 0 → ended_by v ≡ 1)
  idle_told = (λ e. (f.ended.idle e).1, λ h. f.ended.idle_told (omega arith) h)

  -- two commits at the most, and two where there is no room for one more
  two_places : length b ≡ 16 → (commits_written v ≤ 2) × (ended_by v ≡ 3 → commits_written v ≡ 2)
  unfolding room_for
  two_places h = (rw h at f.room, λ e. rw h at (f.ended.full e).1)
