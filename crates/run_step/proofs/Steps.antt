-- A step on a sound round is what the first case that fits does, it leaves a sound round, and whether the running one
-- is outranked then follows from the answer.
use Rattle.lib_base.proofs.Prelude.{ℕ, ◌≤◌, ◌<◌, ◌+◌, ◌-◌, ◌*◌, ◌%◌, ◌/◌, ◌≡◌, refl, ◌∙◌, sym, subst, true, false, Bool}
use Rattle.lib_base.proofs.Prelude.{false≢true, true≢false, ◌≢◌, List, eqb, ltb, leb, ne_eqb, eq-eqb, le-leb, leb-false}
use Rattle.lib_base.proofs.Prelude.{leb-true, arith}
use Rattle.lib_base.specs.Basics.{pick}
use Rattle.lib_base.proofs.Tools.{by_test, split}
use Rattle.lib_word.specs.Word.{get}
use Rattle.format_layout.specs.Layout.{event_count, event_word, waiting_count, running_flag, running_word, running_event, running_number, position, depth, mark_word, word_at}
use Rattle.format_layout.specs.Bounds.{TableBounds}
use Rattle.format_layout.proofs.BoundsLaws.{table_bounds, hand_bound}
use Rattle.format_layout.specs.Round.{CallResult, call_result}
use Rattle.run_queue.specs.Queue.{EventsKnown, best}
use Rattle.run_board.specs.Masking.{is_copying_back, is_masked}
use Rattle.run_instruction.specs.Allowed.{may_run}
use Rattle.run_instruction.specs.Instruction.{perform}
use Rattle.run_dispatch.specs.Dispatch.{start_at, preempt_at}
use Rattle.run_dispatch.specs.Said.{said}
use Rattle.run_advance.specs.Advance.{commit_said, count_instruction, execute_on, execute_at, advance_on, advance_left}
use Rattle.run_step.specs.Machine.{while_resting, step_with, step_in, step_on}
use Rattle.run_step.specs.Sound.{RoundSound, masked_now, is_outranked, is_preempted, outranked_after}
use Rattle.run_step.proofs.Rule.{runs, some_wait, best_outranks}
use Rattle.run_step.proofs.Fits.{sound_ours, sound_over}
use Rattle.run_step.proofs.Moves.{resting_calm, ran_sound, ran_outranked, committed_sound, committed_calm, started_sound, started_calm, preempted_sound, preempted_calm}

-- ---- which step it is

-- an event that has no instruction left is masked
over_masked : (len m c : ℕ) → len ≤ c → is_masked len m c ≡ true
unfolding is_masked is_copying_back
over_masked len m c h =
    split (leb len m) (λ e. rw e)
    (λ e. let g : len - m - 1 ≤ c = omega (arith, leb-false len m e) in rw (e, le-leb (len - m - 1) c g))

pub outranked_runs : (t l : List ℕ) → is_outranked t l ≡ true → running_flag l ≢ 0
outranked_runs t l o z = true≢false (sym o ∙ resting_calm t l z)

module _ (t l : List ℕ) (s : RoundSound t l) where
  abbrev len : ℕ
  len = event_word t (running_event l) 2

  -- what runs is one of the table's events
  pub known : running_flag l ≢ 0 → running_event l < event_count t
  known f = (hand_bound _ (running_word l) (s.running_fits_law f)).0

  pub table_fine : TableBounds t
  table_fine = table_bounds t s.table

  -- so is what waits, and the table has a record of each
  pub waiting_known_law : {n : ℕ} → n ≡ waiting_count l → EventsKnown l n
  waiting_known_law e i h = omega (arith, (hand_bound _ (word_at l i) (s.waiting_fit i (omega arith))).0, table_fine.few_events)

  pub step_rest : running_flag l ≡ 0 → step_on t l ≡ while_resting t l (waiting_count l)
  unfolding step_on step_in step_with
  step_rest f = rw (sound_ours t l s (λ g. absurd (g f)), eq-eqb (running_flag l) 0 f)

  pub step_over : running_flag l ≢ 0 → len ≤ position l → step_on t l ≡ (14, l)
  unfolding step_on
  step_over f w = rw (sound_over t l s f w)

  step_runs : running_flag l ≢ 0 → position l < len → step_on t l ≡ pick (is_preempted t l (is_outranked t l)) (preempt_at l (best t l (waiting_count l))) (advance_on t l)
  unfolding step_on
  step_runs f w = rw (sound_ours t l s (λ _. w)) (runs t l f)

  pub step_calm : running_flag l ≢ 0 → position l < len → is_outranked t l ≡ false → step_on t l ≡ advance_on t l
  unfolding is_preempted
  step_calm f w o = step_runs f w ∙ rw o

  pub step_outranked : running_flag l ≢ 0 → position l < len → is_outranked t l ≡ true
      → step_on t l ≡ pick (is_masked len (event_word t (running_event l) 3) (position l)) (advance_on t l) (preempt_at l (best t l (waiting_count l)))
  unfolding is_preempted masked_now
  step_outranked f w o =
      step_runs f w ∙ rw o (split (is_masked len (event_word t (running_event l) 3) (position l)) (λ m. rw m) (λ m. rw m))

  -- it gives way
  module _ (o : Bool) (is : is_outranked t l ≡ o) where
    way_outranked : is_preempted t l o ≡ true → o ≡ true
    unfolding is_preempted
    way_outranked g = split o (λ e. e) (λ e. absurd (false≢true (rw e at g)))

    -- something waits
    pub way_waits : is_preempted t l o ≡ true → waiting_count l ≢ 0
    way_waits g = let q : is_outranked t l ≡ true = is ∙ way_outranked g in some_wait t l (outranked_runs t l q) q

    way_left : is_preempted t l o ≡ true → position l < len
    unfolding is_preempted masked_now
    way_left g =
        let q : o ≡ true = way_outranked g in
        split (leb len (position l))
        (λ e. absurd (false≢true (rw (q, over_masked len (event_word t (running_event l) 3) (position l) (leb-true len (position l) e)) at g)))
        (λ e. leb-false len (position l) e)

    pub step_preempts : is_preempted t l o ≡ true → step_on t l ≡ preempt_at l (best t l (waiting_count l))
    step_preempts g = step_runs (outranked_runs t l (is ∙ way_outranked g)) (way_left g) ∙ rw (is, g)

    -- it does not
    pub step_advances : running_flag l ≢ 0 → is_preempted t l o ≡ false → step_on t l ≡ advance_left t l
    unfolding advance_left
    step_advances f g =
        split (leb len (position l)) (λ e. rw e (step_over f (leb-true len (position l) e)))
        (λ e. rw e (step_runs f (leb-false len (position l) e) ∙ rw (is, g)))

-- ---- what it leaves

other_kind : (o : Bool) (a : ℕ) → a % 16 ≢ 1 → a % 16 ≢ 14 → outranked_after o a ≡ false
unfolding outranked_after
other_kind o a h k =
    let g : a ≢ 1 = λ e. h (rw e) in
    let i : a ≢ 14 = λ e. k (rw e) in
    rw (ne_eqb a 1 g, ne_eqb a 14 i)

pub commit_kind : (n hand w : ℕ) → commit_said n hand w % 16 ≡ 3
unfolding commit_said said
commit_kind n hand w = by_test (λ (x : ℕ). x % 16 ≡ 3) (eqb w 0) (λ _. omega arith) (λ _. omega arith)

-- a sound round is left, and what the answer tells of it
abbrev pub Fine : List ℕ → Bool → CallResult → Type 0
Fine t o r = RoundSound t r.1 × (is_outranked t r.1 ≡ outranked_after o r.0)

module _ (t l : List ℕ) (s : RoundSound t l) (o : Bool) (is : is_outranked t l ≡ o) where
  refused_fine : Fine t o (14, l)
  unfolding outranked_after
  refused_fine = (s, is)

  advance_fine : Fine t o (advance_on t l)
  unfolding advance_on execute_at execute_on count_instruction outranked_after
  advance_fine =
      let k = event_word t (running_event l) 1 + position l in
      let a = get t (512 + k * 2) in
      let w = get t (513 + k * 2) in
      let c = position l in
      let mark = mark_word (perform l (a / 256) (a % 256) w (depth l)) in
      let kind = commit_kind (running_number l) (running_word l) mark in
      by_test (Fine t o) (may_run (a / 256) (a % 256) (depth l))
      (λ may. by_test (Fine t o) (ltb (c + 1) (event_word t (running_event l) 2))
      (λ _. (ran_sound t l s (a / 256) (a % 256) w may (c + 1), ran_outranked t l s (a / 256) (a % 256) w may (c + 1) ∙ is))
      (λ _. (
        committed_sound t l s (a / 256) (a % 256) w may,
        committed_calm t l s (a / 256) (a % 256) w may
            ∙ sym (other_kind o (commit_said (running_number l) (running_word l) mark) (omega (arith, kind)) (omega (arith, kind))),
      )))
      (λ _. refused_fine)

  pub left_fine : Fine t o (advance_left t l)
  unfolding advance_left
  left_fine = by_test (Fine t o) (leb (event_word t (running_event l) 2) (position l)) (λ _. refused_fine) (λ _. advance_fine)

  pub start_fine : 0 < waiting_count l → Fine t o (start_at l (best t l (waiting_count l)) (waiting_count l - 1))
  unfolding start_at said
  start_fine h = (
    started_sound t l s h,
    started_calm t l s h ∙ sym (other_kind o (start_at l (best t l (waiting_count l)) (waiting_count l - 1)).0 (omega arith) (omega arith)),
  )

  pub preempt_fine : o ≡ true → Fine t o (preempt_at l (best t l (waiting_count l)))
  unfolding preempt_at said
  preempt_fine y =
      let f = outranked_runs t l (is ∙ y) in
      let some : waiting_count l ≢ 0 = some_wait t l f (is ∙ y) in
      let h : 0 < waiting_count l = omega arith in (
        preempted_sound t l s h f,
        preempted_calm t l s h f (best_outranks t l f (is ∙ y))
            ∙ sym (other_kind o (preempt_at l (best t l (waiting_count l))).0 (omega arith) (omega arith)),
      )

  pub idle_fine : running_flag l ≡ 0 → Fine t o (0, l)
  unfolding outranked_after
  idle_fine f = (s, resting_calm t l f)

-- ---- the code's returns

module _ (t l : List ℕ) (o : Bool) (s : RoundSound t l) (is : is_outranked t l ≡ o) where
  abbrev Stepped : CallResult → Type 0
  Stepped r = (r ≡ step_on t l) × Fine t o r

  stepped : {r x : CallResult} → r ≡ x → step_on t l ≡ x → Fine t o x → Stepped r
  stepped e q f = (e ∙ sym q, subst (Fine t o) (sym e) f)

  module _ {w : Bool} (way : w ≡ is_preempted t l o) where
    pub preempts : {n b : ℕ} {r : CallResult} → w ≡ true → n ≡ get l 1 → b ≡ best t l n → r ≡ preempt_at l b → Stepped r
    preempts {n} {b} y count next e =
        let g : is_preempted t l o ≡ true = sym way ∙ y in
        stepped (rw (← count, ← next) e) (step_preempts t l s o is g) (preempt_fine t l s o is (way_outranked t l s o is g))

    pub advances : {f : ℕ} {r : CallResult} → w ≡ false → f ≡ get l 2 → f ≢ 0 → r ≡ advance_left t l → Stepped r
    advances {f} y flag h e = stepped e (step_advances t l s o is (λ z. h (flag ∙ z)) (sym way ∙ y)) (left_fine t l s o is)

  pub starts : {f n b : ℕ} {r : CallResult} → f ≡ get l 2 → f ≡ 0 → n ≡ get l 1 → 0 < n → b ≡ best t l n → r ≡ start_at l b (n - 1) → Stepped r
  unfolding while_resting
  starts {f} {n} {b} flag z count h next e =
      let some : get l 1 ≢ 0 = omega arith in
      stepped (rw (← count, ← next) e) (step_rest t l s (sym flag ∙ z) ∙ rw (ne_eqb (get l 1) 0 some)) (start_fine t l s o is (omega arith))

  pub idles : {f n : ℕ} → f ≡ get l 2 → f ≡ 0 → n ≡ get l 1 → n ≤ 0 → Stepped (call_result 0 l)
  unfolding while_resting
  idles {f} {n} flag z count h =
      let none : get l 1 ≡ 0 = omega arith in
      stepped refl (step_rest t l s (sym flag ∙ z) ∙ rw (eq-eqb (get l 1) 0 none)) (idle_fine t l s o is (sym flag ∙ z))
