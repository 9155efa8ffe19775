-- An instance of the hypotheses at their bounds: the last entry of a round, 999,999, from player 7, with eight bytes
-- lent for a commit. It is the claim applied, so that one whose hypothesis was narrowed does not fit. And what is said
-- of a delivery, in numbers.
use Rattle.lib_base.proofs.Prelude.{ℕ, ◌≤◌, ◌<◌, ◌*◌, ◌/◌, ◌≡◌, true, List, map, length, arith}
use Rattle.lib_base.specs.Basics.{All}
use Rattle.spec_language.specs.Sheet.{Sheet}
use Rattle.spec_language.specs.Dependence.{events}
use Rattle.spec_language.specs.Rights.{may_send}
use Rattle.spec_model.specs.Model.{Turn, step}
use Rattle.spec_model.specs.Claims.{number, longest, program_after, engine_after}
use Rattle.back_compile.specs.Compiled.{program_of}
use Rattle.refine_calls.specs.Refinement.{call_on, answers_on, bytes_after}
use Rattle.refine_frames.specs.Frames.{ended_by, commits_written, step_calls, committing}
use Rattle.refine_lists.specs.Lists.{SheetTurn, Compiles, on_bytes, AllMean, fresh_round_on, Prepared}
use Rattle.refine_deliver.specs.Deliveries.{delivery_steps, DeliveryIs, TakesIn, AlwaysTakenIn}

last_entry : AlwaysTakenIn → (s ps t₀ l₀ : List ℕ) (x : Sheet) → Prepared s ps t₀ l₀ x → (xs : List SheetTurn) → All Compiles xs → (ts : List Turn) → AllMean xs ts
    → (e : ℕ) (commits : List ℕ) → e < events (program_after (program_of ps x) ts) → may_send (program_after (program_of ps x) ts) 7 e ≡ true
    → number (engine_after (program_of ps x) ts) ≡ 999999 → length commits ≡ 8
    → TakesIn (bytes_after (map on_bytes xs) (fresh_round_on s ps t₀ l₀)) (number (engine_after (program_of ps x) ts)) e 7 commits (longest (program_after (program_of ps x) ts) * 3 / 2)
last_entry h s ps t₀ l₀ x p xs a ts m e commits d w n b = h s ps t₀ l₀ x p xs a ts m e 7 commits d (omega arith) w (omega arith) (omega arith)

-- of entry 5, event 0 of the host: 2 is told under eight bytes lent, 3 where a step is refused by 14; one commit
module _ (t l b l' b' : List ℕ) (v : ℕ) (d : DeliveryIs t l 5 0 0 b v l' b') where
  outcomes : (ended_by v ≤ 3) × (ended_by v ≡ 0 → (l' ≡ l) × (b' ≡ b)) × (ended_by v ≡ 2 → length b ≤ 7) × (ended_by v ≡ 3 → (call_on t step l').0 ≡ 14)
  outcomes = (d.one_of, d.refused, λ e. omega (arith, (d.no_room e).0), d.broken)

  one_commit : ended_by v ≡ 1 → commits_written v ≤ 1
  one_commit e =
      let k : commits_written v ≡ length (committing (answers_on t (step_calls (delivery_steps v)) l)) = d.count (omega arith) in
      omega (arith, d.one)
