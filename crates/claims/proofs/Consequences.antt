-- What is no part of the record because it follows from what is one, each in a line: that a preview is turned down as
-- the arrival is, from the first need of its order; and that in a list of calls the answers of a frame or a delivery
-- follow those of the calls before it, from how lists of calls are answered.
use Rattle.lib_base.proofs.Prelude.{ℕ, ◌≡◌, ◌≢◌, ◌⊎◌, inr, inl, List, ◌++◌}
use Rattle.spec_model.specs.Model.{Call}
use Rattle.run_arrive.specs.Arrivals.{arrive_on}
use Rattle.run_preview.specs.Preview.{preview_on}
use Rattle.run_frame.specs.Frame.{frame_on}
use Rattle.refine_calls.specs.Refinement.{answers_on, round_after}
use Rattle.refine_frames.specs.Frames.{steps_made, step_calls}
use Rattle.refine_frames.proofs.FramesHold.{answers_append}
use Rattle.run_deliver.specs.Deliver.{deliver_on}
use Rattle.refine_deliver.specs.Deliveries.{delivery_calls}
use Rattle.claims.specs.Demand1.{Demand1}

-- the first of a list of needs fails
first_fails : (C : Type 0) (k r : ℕ) (X : Type 0) → ((C → ⊥) × (r ≡ k)) ⊎ (C × X) → (C → ⊥) → r ≡ k
first_fails C k r X (inl w) h = w.1
first_fails C k r X (inr w) h = absurd (h w.0)

preview_refused : Demand1 → (t l : List ℕ) (e i who : ℕ) → (arrive_on t l e who).0 ≢ 0 → preview_on t l e i who ≡ (arrive_on t l e who).0
preview_refused d t l e i who h =
    first_fails ((arrive_on t l e who).0 ≡ 0) (arrive_on t l e who).0 (preview_on t l e i who) _ (d.preview_order t l e i who) h

frame_answers : (t l : List ℕ) (cs : List Call) (asked : ℕ) (b : List ℕ)
    → answers_on t (cs ++ step_calls (steps_made (frame_on t (round_after t cs l) asked b).0)) l
    ≡ answers_on t cs l ++ answers_on t (step_calls (steps_made (frame_on t (round_after t cs l) asked b).0)) (round_after t cs l)
frame_answers t l cs asked b = answers_append t cs (step_calls (steps_made (frame_on t (round_after t cs l) asked b).0)) l

delivery_answers : (t l : List ℕ) (cs : List Call) (n e who : ℕ) (b : List ℕ)
    → answers_on t (cs ++ delivery_calls (deliver_on t (round_after t cs l) n e who b).0 e who) l
    ≡ answers_on t cs l ++ answers_on t (delivery_calls (deliver_on t (round_after t cs l) n e who b).0 e who) (round_after t cs l)
delivery_answers t l cs n e who b = answers_append t cs (delivery_calls (deliver_on t (round_after t cs l) n e who b).0 e who) l
