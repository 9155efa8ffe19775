-- A preview is turned down as the arrival is, then by 18 and 25, last by 14 where no step within 01's count finds the
-- copy idle. The copy's words are the round's, so the arrival's tests go alike on both; the steps by induction on how
-- many may be made, a step that is refused leaving the copy as it was.
use Rattle.lib_base.proofs.Prelude.{ℕ, ◌≤◌, ◌<◌, ◌+◌, suc, zero, ◌*◌, ◌≡◌, refl, ◌∙◌, sym, ap, true, false, ◌≢◌, ◌⊎◌}
use Rattle.lib_base.proofs.Prelude.{⊎_elim, inr, inl, List, [], ◌∷◌, length, take, replicate, length-take-le, eqb, ltb}
use Rattle.lib_base.proofs.Prelude.{leb, eqb-true, ltb-false, eqb-false, arith}
use Rattle.lib_base.proofs.Tools.{split}
use Rattle.lib_word.specs.Word.{get}
use Rattle.spec_language.specs.Refusals.{foreign, no_right, no_behaviour}
use Rattle.spec_language.specs.Rights.{may}
use Rattle.spec_model.specs.Model.{step}
use Rattle.format_layout.specs.Layout.{event_count, behaviour_count, senders_at, viewers_at, taken, waiting_count, running_flag}
use Rattle.format_layout.specs.Foreign.{table_fits, slots_fit, round_with, round_in, round_fits, ours}
use Rattle.run_arrive.specs.Arrivals.{queue_full, arrive_with, arrive_known, arrive_in, arrive_on}
use Rattle.run_step.specs.Machine.{step_on}
use Rattle.run_step.proofs.Still.{idle_stays, refused_stays}
use Rattle.run_preview.specs.Preview.{last_step, to_idle, in_hand, preview_steps, preview_answer, shown_in, preview_seen, preview_taken, preview_after, preview_copy, preview_on}
use Rattle.back_compile.specs.Statements.{FirstUnmet}
use Rattle.back_compile.proofs.Orders.{need_true, need_less}
use Rattle.refine_calls.specs.Refinement.{call_on, turn_on_bytes, bytes_after, round_after}
use Rattle.refine_calls.proofs.Previews.{taken_word}
use Rattle.claims.specs.Demand1.{hand_count, count_to_idle, PreviewEnds}

-- ---- the arrival answers on the copy as it does on the round

slots_copied : (l : List ℕ) (known n : ℕ) → n ≤ 64 → slots_fit (take 2048 l) known n ≡ slots_fit l known n
unfolding slots_fit
slots_copied l known zero h = refl
slots_copied l known (suc n) h = rw (taken_word l (9 + n * 2) (omega arith), slots_copied l known n (omega arith))

module _ (t l : List ℕ) where
  ours_copied : ltb (length l) 2048 ≡ false → ours t (take 2048 l) ≡ ours t l
  unfolding ours round_fits round_in round_with
  ours_copied h =
      let z : length (take 2048 l) ≡ 2048 = length-take-le 2048 l (ltb-false (length l) 2048 h) in
      rw (z, h, taken_word l 1 (omega arith), taken_word l 2 (omega arith), taken_word l 3 (omega arith), taken_word l 5 (omega arith), taken_word l 6 (omega arith))
      (split (ltb 64 (waiting_count l))
      (λ e. rw e)
      (λ e. rw (e, slots_copied l (event_count t) (waiting_count l) (ltb-false 64 (waiting_count l) e))))

  short_foreign : ltb (length l) 2048 ≡ true → ours t l ≡ false
  unfolding ours round_fits
  short_foreign h = split (table_fits t) (λ a. rw (a, h)) (λ a. rw a)

  module _ (e who : ℕ) where
    short_refused : ltb (length l) 2048 ≡ true → (arrive_on t l e who).0 ≡ foreign
    unfolding arrive_on
    short_refused h = rw (short_foreign h)

    arrival_copied : ltb (length l) 2048 ≡ false → (arrive_on t (take 2048 l) e who).0 ≡ (arrive_on t l e who).0
    unfolding arrive_on arrive_in arrive_known arrive_with
    arrival_copied h =
        rw (ours_copied h, taken_word l 0 (omega arith), taken_word l 1 (omega arith), taken_word l 2 (omega arith))
        (split (ours t l)
        (λ a. split (leb 8 who) (λ b. rw (a, b))
        (λ b. split (leb (event_count t) e) (λ c. rw (a, b, c))
        (λ c. split (may (senders_at t e) who)
        (λ d. split (queue_full (waiting_count l) (running_flag l)) (λ f. rw (a, b, c, d, f))
        (λ f. split (leb 1000000 (taken l)) (λ g. rw (a, b, c, d, f, g)) (λ g. rw (a, b, c, d, f, g))))
        (λ d. rw (a, b, c, d)))))
        (λ a. rw a))

-- ---- the steps on the copy

-- n steps made
abbrev stepped : List ℕ → List ℕ → ℕ → List ℕ
stepped t m n = round_after t (replicate n step) m

still : (t m : List ℕ) → (step_on t m).1 ≡ m → (n : ℕ) → stepped t m n ≡ m
unfolding round_after bytes_after turn_on_bytes call_on
still t m h zero = refl
still t m h (suc n) = ap (λ (x : List ℕ). stepped t x n) h ∙ still t m h n

-- none of k more steps is idle, and this one is not
none_more : (t m : List ℕ) (k : ℕ) → (step_on t m).0 ≢ 0 → ((n : ℕ) → n < k → (step_on t (stepped t (step_on t m).1 n)).0 ≢ 0)
    → (n : ℕ) → n < suc k → (step_on t (stepped t m n)).0 ≢ 0
unfolding round_after bytes_after turn_on_bytes call_on
none_more t m k a f zero h = a
none_more t m k a f (suc n) h = f n (omega arith)

module _ (t : List ℕ) (i : ℕ) where
  -- what a preview tells that may make as many steps on m as B says
  abbrev Told : (ℕ → Type 0) → List ℕ → ℕ → Type 0
  Told B m r =
      ((n : ℕ) × B n × ((step_on t (stepped t m n)).0 ≡ 0) × (r ≡ 4294967296 + get (stepped t m n) (136 + i)))
      ⊎ (((n : ℕ) → B n → (step_on t (stepped t m n)).0 ≢ 0) × (r ≡ foreign))

  abbrev ToldBelow : ℕ → List ℕ → ℕ → Type 0
  ToldBelow k = Told (λ n. n < k)

  -- this step is made, and more may be
  told_later : (k : ℕ) (m : List ℕ) (r : ℕ) → (step_on t m).0 ≢ 0 → ToldBelow k (step_on t m).1 r → ToldBelow (suc k) m r
  unfolding round_after bytes_after turn_on_bytes call_on
  told_later k m r a s =
      ⊎_elim (λ x. inl (suc x.0, omega (arith, x.1), x.2, x.3)) (λ y. inr (none_more t m k a y.0, y.1)) s

  -- the answer then
  unfoldable shown : ℕ → List ℕ → ℕ
  shown k m = shown_in (to_idle t k m) i

  module _ (k : ℕ) (m : List ℕ) where
    shown_idle : eqb (step_on t m).0 0 ≡ true → shown (suc k) m ≡ 4294967296 + get m (136 + i)
    unfolding shown to_idle last_step shown_in preview_answer
    shown_idle e = rw (e, e, idle_stays t m (eqb-true (step_on t m).0 0 e))

    shown_refused : eqb (step_on t m).0 0 ≡ false → eqb (step_on t m).0 14 ≡ true → shown (suc k) m ≡ foreign
    unfolding shown to_idle last_step shown_in preview_answer
    shown_refused e f = rw (e, f, e)

    shown_later : eqb (step_on t m).0 0 ≡ false → eqb (step_on t m).0 14 ≡ false → shown (suc k) m ≡ shown k (step_on t m).1
    unfolding shown to_idle last_step
    shown_later e f = rw (e, f)

  -- no step may be made
  told_none : (m : List ℕ) → ToldBelow 0 m (shown 0 m)
  unfolding shown to_idle shown_in preview_answer
  told_none m = inr (λ n h. absurd (omega arith), refl)

  told : (k : ℕ) (m : List ℕ) → ToldBelow k m (shown k m)
  unfolding round_after bytes_after
  told zero m = told_none m
  told (suc k) m =
      split (eqb (step_on t m).0 0)
      (λ e. inl (0, omega arith, eqb-true (step_on t m).0 0 e, shown_idle k m e))
      (λ e.
      let a = eqb-false (step_on t m).0 0 e in
      split (eqb (step_on t m).0 14)
      (λ f. let q = refused_stays t m (eqb-true (step_on t m).0 14 f) in inr (λ n h. rw (still t m q n) a, shown_refused k m e f))
      (λ f. rw (shown_later k m e f) (told_later k m (shown k (step_on t m).1) a (told k (step_on t m).1))))

-- ---- 01's count, and the order

hand_counted : (m : List ℕ) → in_hand (waiting_count m) (running_flag m) ≡ hand_count m
unfolding in_hand
hand_counted m = split (eqb (running_flag m) 0) (λ e. rw e (omega arith)) (λ e. rw e)

module _ (t m : List ℕ) (i who : ℕ) where
  counted : preview_steps t m ≡ count_to_idle t m
  unfolding preview_steps
  counted = rw (hand_counted m)

  -- what it tells once the arrival has left m
  abbrev Ends : ℕ → Type 0
  Ends = Told t i (λ n. n ≤ count_to_idle t m) m

  ends : (r : ℕ) → ToldBelow t i (preview_steps t m + 1) m r → Ends r
  ends r s =
      ⊎_elim (λ x. inl (x.0, omega (arith, x.1, counted), x.2, x.3)) (λ y. inr (λ n h. y.0 n (omega (arith, counted)), y.1)) s

  ends_order : FirstUnmet ((i < behaviour_count t, no_behaviour) ∷ (may (viewers_at t i) who ≡ true, no_right) ∷ []) Ends (preview_taken t m i who)
  unfolding preview_taken preview_seen shown
  ends_order =
      need_less i (behaviour_count t) (λ a. rw a)
      (λ a. need_true (may (viewers_at t i) who) (λ b. rw (a, b)) (λ b. rw (a, b) (ends (shown t i (preview_steps t m + 1) m) (told t i (preview_steps t m + 1) m))))

pub preview_order : (t l : List ℕ) (e i who : ℕ)
    → FirstUnmet
    (((arrive_on t l e who).0 ≡ 0, (arrive_on t l e who).0) ∷ (i < behaviour_count t, no_behaviour) ∷ (may (viewers_at t i) who ≡ true, no_right) ∷ [])
    (PreviewEnds t l e i who) (preview_on t l e i who)
unfolding preview_on preview_copy preview_after round_after bytes_after turn_on_bytes call_on
preview_order t l e i who =
    let r = arrive_on t (take 2048 l) e who in
    split (ltb (length l) 2048)
    (λ s. let a = short_refused t l e who s in inl (λ z. absurd (omega (arith, a, z)), rw s (sym a)))
    (λ s.
    let c = arrival_copied t l e who s in
    split (eqb r.0 0)
    (λ z. inr (sym c ∙ eqb-true r.0 0 z, rw (s, z) (ends_order t r.1 i who)))
    (λ z. inl (λ q. eqb-false r.0 0 z (c ∙ q), rw (s, z) c)))
