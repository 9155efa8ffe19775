-- Within how many steps a hand that is not empty has a commit: of events with at most `most` instructions, each of
-- which has twice its members of C and four more. A masked, outranked one unmasks within m + 1 steps, is preempted in
-- one, and what preempts it has at most `most`; in its copy-back it goes on to its end.
use Rattle.lib_base.proofs.Prelude.{ℕ, ◌≤◌, ◌<◌, ◌+◌, ◌-◌, suc, zero, ◌*◌, ◌/◌, ◌≡◌, refl, ◌∙◌, sym, subst, true, false}
use Rattle.lib_base.proofs.Prelude.{Bool, false≢true, ◌≢◌, by_cases, ◌⊎◌, ⊎_elim, List, eqb, leb, dec_lt, eqb-true}
use Rattle.lib_base.proofs.Prelude.{eqb-false, le-leb, leb-true, arith}
use Rattle.lib_base.proofs.Tools.{by_test, split}
use Rattle.format_layout.specs.Layout.{event_count, event_word, waiting_count, running_flag, running_word, running_event, position}
use Rattle.format_layout.specs.Foreign.{ours}
use Rattle.format_layout.specs.Bounds.{Bounds}
use Rattle.format_layout.proofs.BoundsLaws.{bounds, hand_bound}
use Rattle.format_layout.specs.Round.{CallResult}
use Rattle.run_arrive.specs.Arrivals.{queue_full}
use Rattle.run_queue.specs.Queue.{best}
use Rattle.run_board.specs.Masking.{is_copying_back, is_masked}
use Rattle.run_dispatch.specs.Dispatch.{preempt_at}
use Rattle.run_advance.specs.Advance.{advance_on}
use Rattle.run_step.specs.Machine.{step_on}
use Rattle.run_step.specs.Sound.{RoundSound, is_outranked}
use Rattle.run_burst.specs.Burst.{unmade, burst_on}
use Rattle.run_burst.specs.Commit.{is_commit}
use Rattle.run_step.proofs.Fits.{ours_sound}
use Rattle.run_burst.proofs.Glue.{left_at_most}
use Rattle.run_step.proofs.Steps.{step_calm, step_outranked}
use Rattle.run_deliver.proofs.Room.{Began, advance_cases, preempted, preempt_starts, Ends, first_refused, first_commits, first_made, made_one, ends_by, calm_ends}

-- ---- with more steps to make a burst ends where it did

ends_most : (t : List ℕ) (j k : ℕ) (l : List ℕ) → Ends (burst_on t j l) → j ≤ k → k - (burst_on t k l).1 ≤ j
unfolding burst_on
ends_most t zero k l z h = ⊎_elim (λ e. absurd (false≢true e)) (λ e. absurd (omega arith)) z
ends_most t (suc j) zero l z h = absurd (omega arith)
ends_most t (suc j) (suc k) l z h =
    let a = (step_on t l).0 in
    split (unmade a) (λ u. rw u (omega arith))
    (λ u. split (is_commit a) (λ c. rw (u, c) (omega arith))
    (λ c. rw (u, c) (omega (arith, ends_most t j k (step_on t l).1 (rw (u, c) at z) (omega arith), left_at_most t (step_on t l).1 k refl))))

-- ---- masking

copying : (len m c : ℕ) → len - m - 1 ≤ c → is_copying_back len m c ≡ true
unfolding is_copying_back
copying len m c h = by_test (λ (x : Bool). x ≡ true) (leb len m) (λ _. refl) (λ _. le-leb (len - m - 1) c h)

-- m < len
copying_from : (len m c : ℕ) → m < len → is_copying_back len m c ≡ true → len - m - 1 ≤ c
unfolding is_copying_back
copying_from len m c b h =
    split (leb len m) (λ e. absurd (omega (arith, leb-true len m e))) (λ e. leb-true (len - m - 1) c (rw e at h))

masked_copying : (len m c : ℕ) → is_copying_back len m c ≡ true → is_masked len m c ≡ true
unfolding is_masked
masked_copying len m c h = rw h

masked_front : (len m c : ℕ) → is_masked len m c ≡ true → is_copying_back len m c ≡ false → (0 < c) × (c ≤ m + 1)
unfolding is_masked
masked_front len m c h g =
    split (eqb c 0) (λ e. absurd (false≢true (rw (g, e) at h)))
    (λ e. let k : c - 1 ≤ m = leb-true (c - 1) m (rw (g, e) at h) in (omega (arith, eqb-false c 0 e), omega (arith, eqb-false c 0 e)))

module _ (t : List ℕ) (most : ℕ)
    (fit : (e : ℕ) → e < event_count t → (event_word t e 3 * 2 + 4 ≤ event_word t e 2) × (event_word t e 2 ≤ most)) where
  running_fit : (l : List ℕ) → RoundSound t l → running_flag l ≢ 0
      → (event_word t (running_event l) 3 * 2 + 4 ≤ event_word t (running_event l) 2) × (event_word t (running_event l) 2 ≤ most)
  running_fit l s f = fit (running_event l) (hand_bound (event_count t) (running_word l) (s.running_fits_law f)).0

  -- masked: the step is an instruction
  masked_step : (l : List ℕ) → RoundSound t l → running_flag l ≢ 0 → position l < event_word t (running_event l) 2
      → is_masked (event_word t (running_event l) 2) (event_word t (running_event l) 3) (position l) ≡ true → step_on t l ≡ advance_on t l
  masked_step l s f w m =
      split (is_outranked t l) (λ o. step_outranked t l s f w o ∙ rw m) (λ o. step_calm t l s f w o)

  -- in its copy-back it goes on to its end
  tail_ends : (k : ℕ) (l : List ℕ) → RoundSound t l → running_flag l ≢ 0 → position l < event_word t (running_event l) 2
      → event_word t (running_event l) 2 - event_word t (running_event l) 3 - 1 ≤ position l
      → event_word t (running_event l) 2 - position l ≤ k → Ends (burst_on t k l)
  tail_ends zero l s f w c m = absurd (omega arith)
  tail_ends (suc k) l s f w c m =
      let len = event_word t (running_event l) 2 in
      let n = event_word t (running_event l) 3 in
      advance_cases t l s (λ (o : CallResult). step_on t l ≡ o → Ends (burst_on t (suc k) l)) (first_refused t l k)
      (λ l' r e.
      let more = r.more in
      subst Ends (first_made t l k 1 l' made_one refl e)
      (tail_ends k l' r.sound (λ z. f (sym r.flag ∙ z)) (rw (r.word, r.at) more) (rw (r.word, r.at) (omega arith)) (rw (r.word, r.at) (omega arith))))
      (λ a l' g _ e. first_commits t l k a l' g e)
      (masked_step l s f w (masked_copying len n (position l) (copying len n (position l) c)))

  -- one that has just begun
  begun_ends : (k : ℕ) (l l' : List ℕ) → Began t l l' → most ≤ k → Ends (burst_on t k l')
  begun_ends k l l' b h =
      let short = running_fit l' b.sound b.flag in
      calm_ends t k l' b.sound b.flag b.calm (omega arith) (omega arith)

  -- outranked
  pressed_ends : (k : ℕ) (l : List ℕ) → RoundSound t l → running_flag l ≢ 0 → position l < event_word t (running_event l) 2 → is_outranked t l ≡ true
      → suc most ≤ k → (0 < position l → event_word t (running_event l) 3 + 2 - position l + suc most ≤ k) → Ends (burst_on t k l)
  pressed_ends zero l s f w o m b = absurd (omega arith)
  pressed_ends (suc k) l s f w o m b =
      let len = event_word t (running_event l) 2 in
      let n = event_word t (running_event l) 3 in
      let c = position l in
      let short = running_fit l s f in
      split (is_masked len n c)
      (λ x.
      split (is_copying_back len n c)
      (λ y. tail_ends (suc k) l s f w (copying_from len n c (omega arith) y) (omega arith))
      (λ y.
      let front = masked_front len n c x y in
      let b' = b front.0 in
      advance_cases t l s (λ (o : CallResult). step_on t l ≡ o → Ends (burst_on t (suc k) l)) (first_refused t l k)
      (λ l' r e.
      let more = r.more in
      subst Ends (first_made t l k 1 l' made_one refl e)
      (pressed_ends k l' r.sound (λ z. f (sym r.flag ∙ z)) (rw (r.word, r.at) more) (r.rank ∙ o) (omega arith) (λ _. rw (r.word, r.at) (omega arith))))
      (λ a l' g _ e. first_commits t l k a l' g e) (masked_step l s f w x)))
      (λ x.
      let q = best t l (waiting_count l) in
      let st = preempt_starts l q in
      let e : step_on t l ≡ ((preempt_at l q).0, (preempt_at l q).1) = step_outranked t l s f w o ∙ rw x in
      subst Ends (first_made t l k (preempt_at l q).0 (preempt_at l q).1 st.made st.none e)
      (begun_ends k l (preempt_at l q).1 (preempted t l s f w o) (omega arith)))

  resting_ends : (k : ℕ) (l : List ℕ) → RoundSound t l → running_flag l ≡ 0 → waiting_count l ≢ 0 → suc most ≤ k → Ends (burst_on t k l)
  resting_ends zero l s f n m = absurd (omega arith)
  resting_ends (suc k) l s f n m = ends_by t l k s (λ _ z. n z) (λ g _ _. absurd (g f)) (λ l' b. begun_ends k l l' b (omega arith))

  running_ends : (l : List ℕ) → RoundSound t l → running_flag l ≢ 0 → position l < event_word t (running_event l) 2 → Ends (burst_on t (most * 3 / 2) l)
  running_ends l s f w =
      let short = running_fit l s f in
      split (is_outranked t l) (λ o. pressed_ends (most * 3 / 2) l s f w o (omega arith) (λ some. omega arith))
      (λ o. calm_ends t (most * 3 / 2) l s f o (omega arith) (omega arith))

  -- 4 ≤ most: some event is declared
  within : (l : List ℕ) → 4 ≤ most → ours t l ≡ true → queue_full (waiting_count l) (running_flag l) ≡ true → Ends (burst_on t (most * 3 / 2) l)
  unfolding queue_full
  within l some h full =
      let s : RoundSound t l = ours_sound t l h in
      let b : Bounds t l = bounds t l h in
      split (eqb (running_flag l) 0)
      (λ z.
      let n : 64 ≤ waiting_count l = leb-true 64 (waiting_count l) (rw z at full) in
      resting_ends (most * 3 / 2) l s (eqb-true (running_flag l) 0 z) (λ e. absurd (omega arith)) (omega arith))
      (λ z. let f = eqb-false (running_flag l) 0 z in running_ends l s f (b.round.running_within f))

  pub few_steps : (l : List ℕ) → 4 ≤ most → ours t l ≡ true → queue_full (waiting_count l) (running_flag l) ≡ true → 8192 - (burst_on t 8192 l).1 ≤ most * 3 / 2
  few_steps l some h full =
      by_cases (dec_lt 8192 (most * 3 / 2)) (λ b. omega arith) (λ b. ends_most t (most * 3 / 2) 8192 l (within l some h full) (omega arith))
