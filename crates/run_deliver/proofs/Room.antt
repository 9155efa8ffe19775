-- Steps on a sound round: none changes the number taken in, one that commits leaves room in the hand, and of a hand
-- that is not empty one commits or is refused within as many steps as a delivery makes. An instruction brings the
-- running one nearer to its end; once one has started nothing outranks it.
use Rattle.lib_base.proofs.Prelude.{ℕ, ◌≤◌, ◌<◌, ◌+◌, ◌-◌, suc, zero, ◌*◌, ◌%◌, ◌/◌, ◌≡◌, refl, ◌∙◌, sym, subst, true}
use Rattle.lib_base.proofs.Prelude.{false, false≢true, ◌≢◌, by_cases, ◌⊎◌, inr, inl, List, length, eqb, ltb, dec_lt}
use Rattle.lib_base.proofs.Prelude.{ne_eqb, eqb-true, eq-eqb, eqb-false, ltb-true, le-leb, leb-true, arith}
use Rattle.lib_base.proofs.Tools.{by_test, split}
use Rattle.lib_word.specs.Word.{get, put}
use Rattle.lib_word.proofs.Laws.{long, long_put, length_put, get_put, get_same, get_other}
use Rattle.format_layout.specs.Layout.{event_word, taken, waiting_count, running_flag, running_word, running_event, running_number, position, depth, mark_word, number_at, word_at}
use Rattle.format_layout.specs.Foreign.{ours}
use Rattle.format_layout.specs.Bounds.{TableBounds, Bounds}
use Rattle.format_layout.proofs.BoundsLaws.{bounds, table_bounds, hand_bound}
use Rattle.format_layout.specs.Round.{CallResult}
use Rattle.run_queue.specs.Queue.{best, put_slot}
use Rattle.run_board.specs.Masking.{is_masked}
use Rattle.run_instruction.specs.Allowed.{may_run}
use Rattle.run_instruction.specs.Instruction.{perform}
use Rattle.run_dispatch.specs.Dispatch.{run_arrival, start_at, preempt_at}
use Rattle.run_dispatch.specs.Said.{said}
use Rattle.run_advance.specs.Advance.{commit_said, count_instruction, execute_on, execute_at, advance_on}
use Rattle.run_step.specs.Machine.{while_resting, step_on}
use Rattle.run_step.specs.Sound.{RoundSound, is_outranked}
use Rattle.run_burst.specs.Burst.{unmade, Burst, burst, burst_on}
use Rattle.run_burst.specs.Commit.{is_commit}
use Rattle.run_arrive.specs.Arrivals.{queue_full}
use Rattle.run_step.proofs.Fits.{ours_sound}
use Rattle.run_instruction.proofs.Performs.{Keeps, perform_keeps}
use Rattle.run_step.proofs.Moves.{ran_sound, ran_outranked, ran_position, ran_flag, ran_word, committed_sound, started_sound, started_calm, preempted_sound, preempted_calm}
use Rattle.run_step.proofs.Rule.{some_wait, best_outranks}
use Rattle.run_step.proofs.Steps.{step_rest, step_over, step_calm, step_outranked, commit_kind}

-- ---- one instruction

-- it is no last one, and leaves l'
pub record Ran (t l l' : List ℕ) : Type 0 where
  pub sound : RoundSound t l'
  pub flag : running_flag l' ≡ running_flag l
  pub word : running_word l' ≡ running_word l
  pub at : position l' ≡ position l + 1
  pub more : position l + 1 < event_word t (running_event l) 2
  pub rank : is_outranked t l' ≡ is_outranked t l
  pub kept : taken l' ≡ taken l

-- it commits, and leaves l'
pub record Done (t l l' : List ℕ) : Type 0 where
  pub sound : RoundSound t l'
  pub rests : running_flag l' ≡ 0
  pub waiting : waiting_count l' ≡ waiting_count l
  pub kept : taken l' ≡ taken l

commits : (a : ℕ) → a % 16 ≡ 3 → (is_commit a ≡ true) × (unmade a ≡ false)
unfolding unmade
commits a h =
    let x : a ≢ 0 = λ z. absurd (omega arith) in
    let y : a ≢ 14 = λ z. absurd (omega arith) in
    (eq-eqb (a % 16) 3 h, rw (ne_eqb a 0 x, ne_eqb a 14 y))

module _ (t l : List ℕ) (s : RoundSound t l) where
  pub advance_cases : (P : CallResult → Type 0) → P (14, l) → ((l' : List ℕ) → Ran t l l' → P (1, l'))
      → ((a : ℕ) (l' : List ℕ) → a % 16 ≡ 3 → Done t l l' → P (a, l')) → P (advance_on t l)
  unfolding advance_on execute_at execute_on count_instruction
  advance_cases P none one last =
      let k = event_word t (running_event l) 1 + position l in
      let x = get t (512 + k * 2) in
      let w = get t (513 + k * 2) in
      let c = position l in
      let m = perform l (x / 256) (x % 256) w (depth l) in
      let kept : Keeps l m = perform_keeps l (x / 256) (x % 256) w (depth l) in
      by_test P (may_run (x / 256) (x % 256) (depth l))
      (λ may. by_test P (ltb (c + 1) (event_word t (running_event l) 2))
      (λ e. one (put m 5 (c + 1)) record {
        sound = ran_sound t l s (x / 256) (x % 256) w may (c + 1);
        flag = ran_flag t l s (x / 256) (x % 256) w may (c + 1);
        word = ran_word t l s (x / 256) (x % 256) w may (c + 1);
        at = ran_position t l s (x / 256) (x % 256) w may (c + 1);
        more = ltb-true (c + 1) (event_word t (running_event l) 2) e;
        rank = ran_outranked t l s (x / 256) (x % 256) w may (c + 1);
        kept = get_other m 5 (c + 1) 0 (omega arith) ∙ kept.words 0 (omega arith) (omega arith) (omega arith);
      })
      (λ _. last (commit_said (running_number l) (running_word l) (mark_word m)) (put m 2 0)
      (commit_kind (running_number l) (running_word l) (mark_word m)) record {
        sound = committed_sound t l s (x / 256) (x % 256) w may;
        rests = get_same m 2 0 (omega (arith, kept.long, s.long));
        waiting = get_other m 2 0 1 (omega arith) ∙ kept.words 1 (omega arith) (omega arith) (omega arith);
        kept = get_other m 2 0 0 (omega arith) ∙ kept.words 0 (omega arith) (omega arith) (omega arith);
      }))
      (λ _. none)

-- ---- the next starts, or preempts

-- one that nothing outranks begins
pub record Began (t l l' : List ℕ) : Type 0 where
  pub sound : RoundSound t l'
  pub flag : running_flag l' ≢ 0
  pub calm : is_outranked t l' ≡ false
  pub kept : taken l' ≡ taken l

module _ (l : List ℕ) (n w : ℕ) (h : 2048 ≤ length l) where
  is_long : long l ≡ true
  unfolding long
  is_long = le-leb 2048 (length l) h

  run_flag : running_flag (run_arrival l n w) ≡ 1
  unfolding run_arrival
  run_flag = simp (get_put, long_put, is_long)

  run_taken : taken (run_arrival l n w) ≡ taken l
  unfolding run_arrival
  run_taken = simp (get_put, long_put, is_long)

slot_taken : (l : List ℕ) (b n w : ℕ) → taken (put_slot l b n w) ≡ taken l
unfolding put_slot
slot_taken l b n w = get_other (put l (8 + b * 2) n) (9 + b * 2) w 0 (omega arith) ∙ get_other l (8 + b * 2) n 0 (omega arith)

slot_length : (l : List ℕ) (b n w : ℕ) → length (put_slot l b n w) ≡ length l
unfolding put_slot
slot_length l b n w = simp length_put

one_not_none : (x : ℕ) → x ≡ 1 → x ≢ 0
one_not_none x e z = absurd (omega arith)

started : (t l : List ℕ) → RoundSound t l → 0 < waiting_count l → Began t l (start_at l (best t l (waiting_count l)) (waiting_count l - 1)).1
unfolding start_at
started t l s some =
    let n = waiting_count l in
    let b = best t l n in
    let a : List ℕ = put_slot l b (number_at l (n - 1)) (word_at l (n - 1)) in
    let m : List ℕ = put a 1 (n - 1) in
    let room : 2048 ≤ length m = rw (length_put a 1 (n - 1), slot_length l b (number_at l (n - 1)) (word_at l (n - 1))) s.long in
    record {
      sound = started_sound t l s some;
      flag = one_not_none (running_flag (run_arrival m (number_at l b) (word_at l b))) (run_flag m (number_at l b) (word_at l b) room);
      calm = started_calm t l s some;
      kept = run_taken m (number_at l b) (word_at l b) room ∙ get_other a 1 (n - 1) 0 (omega arith) ∙ slot_taken l b (number_at l (n - 1)) (word_at l (n - 1));
    }

pub preempted : (t l : List ℕ) → RoundSound t l → running_flag l ≢ 0 → position l < event_word t (running_event l) 2 → is_outranked t l ≡ true
    → Began t l (preempt_at l (best t l (waiting_count l))).1
unfolding preempt_at
preempted t l s f w o =
    let n = waiting_count l in
    let b = best t l n in
    let m : List ℕ = put_slot l b (running_number l) (running_word l) in
    let room : 2048 ≤ length m = rw (slot_length l b (running_number l) (running_word l)) s.long in
    let some : 0 < waiting_count l = omega (arith, some_wait t l f o) in
    record {
      sound = preempted_sound t l s some f;
      flag = one_not_none (running_flag (run_arrival m (number_at l b) (word_at l b))) (run_flag m (number_at l b) (word_at l b) room);
      calm = preempted_calm t l s some f (best_outranks t l f o);
      kept = run_taken m (number_at l b) (word_at l b) room ∙ slot_taken l b (running_number l) (running_word l);
    }

-- ---- any step

-- of a start or a preemption: neither idle nor refused nor a commit
pub record Starts (a : ℕ) : Type 0 where
  pub made : unmade a ≡ false
  pub none : is_commit a ≡ false

kind_starts : (a k : ℕ) → a % 16 ≡ k → k ≢ 0 → k ≢ 14 → k ≢ 3 → Starts a
unfolding unmade
kind_starts a k e x y z = record {
  made = let p : a ≢ 0 = λ q. x (sym e ∙ rw q) in let r : a ≢ 14 = λ q. y (sym e ∙ rw q) in rw (ne_eqb a 0 p, ne_eqb a 14 r);
  none = ne_eqb (a % 16) 3 (λ q. z (sym e ∙ q));
}

start_starts : (l : List ℕ) (b m : ℕ) → Starts (start_at l b m).0
unfolding start_at said
start_starts l b m = kind_starts (start_at l b m).0 2 (omega arith) (omega arith) (omega arith) (omega arith)

pub preempt_starts : (l : List ℕ) (b : ℕ) → Starts (preempt_at l b).0
unfolding preempt_at said
preempt_starts l b = kind_starts (preempt_at l b).0 4 (omega arith) (omega arith) (omega arith) (omega arith)

module _ (t l : List ℕ) (s : RoundSound t l) where
  -- idle, refused, one instruction, a commit of the running one, or a start
  step_cases : (P : CallResult → Type 0) → (running_flag l ≡ 0 → waiting_count l ≡ 0 → P (0, l)) → P (14, l)
      → (running_flag l ≢ 0 → (l' : List ℕ) → Ran t l l' → P (1, l'))
      → (running_flag l ≢ 0 → (a : ℕ) (l' : List ℕ) → a % 16 ≡ 3 → Done t l l' → P (a, l'))
      → ((a : ℕ) (l' : List ℕ) → Starts a → Began t l l' → P (a, l')) → P (step_on t l)
  unfolding while_resting
  step_cases P idle none one last begin =
      let n = waiting_count l in
      let e = running_event l in
      split (eqb (running_flag l) 0)
      (λ z.
      let f : running_flag l ≡ 0 = eqb-true (running_flag l) 0 z in
      subst P (sym (step_rest t l s f))
      (by_test P (eqb n 0) (λ y. idle f (eqb-true n 0 y))
      (λ y.
      let some : 0 < n = omega (arith, eqb-false n 0 y) in
      begin (start_at l (best t l n) (n - 1)).0 (start_at l (best t l n) (n - 1)).1 (start_starts l (best t l n) (n - 1)) (started t l s some))))
      (λ z.
      let f : running_flag l ≢ 0 = eqb-false (running_flag l) 0 z in
      by_cases (dec_lt (position l) (event_word t e 2))
      (λ w.
      split (is_outranked t l)
      (λ o.
      subst P (sym (step_outranked t l s f w o))
      (by_test P (is_masked (event_word t e 2) (event_word t e 3) (position l)) (λ _. advance_cases t l s P none (one f) (last f))
      (λ _. begin (preempt_at l (best t l n)).0 (preempt_at l (best t l n)).1 (preempt_starts l (best t l n)) (preempted t l s f w o))))
      (λ o. subst P (sym (step_calm t l s f w o)) (advance_cases t l s P none (one f) (last f))))
      (λ w. subst P (sym (step_over t l s f (omega arith))) none))

-- ---- a step keeps the number taken in, and one that commits leaves room

pub record Kept (t l : List ℕ) (o : CallResult) : Type 0 where
  pub sound : RoundSound t o.1
  pub kept : taken o.1 ≡ taken l
  pub room : is_commit o.0 ≡ true → (running_flag o.1 ≡ 0) × (waiting_count o.1 ≤ 63)

pub step_keeps : (t l : List ℕ) → RoundSound t l → Kept t l (step_on t l)
step_keeps t l s =
    step_cases t l s (Kept t l) (λ _ _. record { sound = s; kept = refl; room = λ e. absurd (false≢true e) })
    record { sound = s; kept = refl; room = λ e. absurd (false≢true e) }
    (λ _ l' r. record { sound = r.sound; kept = r.kept; room = λ e. absurd (false≢true e) })
    (λ f a l' k d. record { sound = d.sound; kept = d.kept; room = λ _. (d.rests, rw d.waiting (s.room f)) })
    (λ a l' k b. record { sound = b.sound; kept = b.kept; room = λ e. absurd (false≢true (sym k.none ∙ e)) })

-- ---- and so does a burst

pub record BurstKept (t l : List ℕ) (o : Burst) : Type 0 where
  pub sound : RoundSound t o.2
  pub kept : taken o.2 ≡ taken l
  pub room : is_commit o.0 ≡ true → (running_flag o.2 ≡ 0) × (waiting_count o.2 ≤ 63)

pub not_commit : (a : ℕ) → unmade a ≡ true → is_commit a ≡ false
unfolding unmade
not_commit a u =
    split (eqb a 0) (λ e. rw (eqb-true a 0 e)) (λ e. rw (eqb-true a 14 (rw e at u)))

pub burst_keeps : (t : List ℕ) (k : ℕ) (l : List ℕ) → RoundSound t l → BurstKept t l (burst_on t k l)
unfolding burst_on
burst_keeps t zero l s = record { sound = s; kept = refl; room = λ e. absurd (false≢true e) }
burst_keeps t (suc k) l s =
    let P : Burst → Type 0 = BurstKept t l in
    let a = (step_on t l).0 in
    let m = (step_on t l).1 in
    let h = step_keeps t l s in
    by_test P (unmade a) (λ u. record { sound = s; kept = refl; room = λ e. absurd (false≢true (sym (not_commit a u) ∙ e)) })
    (λ _. by_test P (is_commit a) (λ _. record { sound = h.sound; kept = h.kept; room = h.room })
    (λ _.
    let r = burst_keeps t k m h.sound in
    record { sound = r.sound; kept = r.kept ∙ h.kept; room = r.room }))

pub commit_room : (t l : List ℕ) (k : ℕ) {a k' : ℕ} {l' : List ℕ} → RoundSound t l → burst a k' l' ≡ burst_on t k l → a % 16 ≡ 3 → waiting_count l' < 64
commit_room t l k {a} {k'} {l'} s e h =
    let r : BurstKept t l (a, k', l') = subst (BurstKept t l) (sym e) (burst_keeps t k l s) in
    omega (arith, (r.room (eq-eqb (a % 16) 3 h)).1)

-- ---- within so many steps one commits or is refused

-- no event of the table has more than 4,096 instructions
code_short : (t l : List ℕ) → RoundSound t l → running_flag l ≢ 0 → event_word t (running_event l) 2 ≤ 4096
code_short t l s f =
    let b : TableBounds t = table_bounds t s.table in
    omega (arith, b.codes (running_event l) (hand_bound _ (running_word l) (s.running_fits_law f)).0)

-- a burst that ended so
abbrev pub Ends : Burst → Type 0
Ends o = (is_commit o.0 ≡ true) ⊎ (o.0 ≡ 14)

-- its first step is refused, commits, or is made and the rest goes on
pub first_refused : (t l : List ℕ) (k : ℕ) → step_on t l ≡ (14, l) → Ends (burst_on t (suc k) l)
unfolding burst_on unmade
first_refused t l k e = rw e (inr refl)

pub first_commits : (t l : List ℕ) (k a : ℕ) (l' : List ℕ) → a % 16 ≡ 3 → step_on t l ≡ (a, l') → Ends (burst_on t (suc k) l)
unfolding burst_on
first_commits t l k a l' h e = let c = commits a h in rw (e, c.1, c.0) (inl c.0)

pub first_made : (t l : List ℕ) (k a : ℕ) (l' : List ℕ) → unmade a ≡ false → is_commit a ≡ false → step_on t l ≡ (a, l') → burst_on t k l' ≡ burst_on t (suc k) l
unfolding burst_on
first_made t l k a l' u c e = rw (e, u, c)

pub made_one : unmade 1 ≡ false
unfolding unmade
made_one = refl

-- by what the first step does
module _ (t l : List ℕ) (k : ℕ) (s : RoundSound t l) where
  pub ends_by : (running_flag l ≡ 0 → waiting_count l ≡ 0 → ⊥) → (running_flag l ≢ 0 → (l' : List ℕ) → Ran t l l' → Ends (burst_on t k l'))
      → ((l' : List ℕ) → Began t l l' → Ends (burst_on t k l')) → Ends (burst_on t (suc k) l)
  ends_by some one begin =
      step_cases t l s (λ (o : CallResult). step_on t l ≡ o → Ends (burst_on t (suc k) l)) (λ f z _. absurd (some f z)) (first_refused t l k)
      (λ f l' r e. subst Ends (first_made t l k 1 l' made_one refl e) (one f l' r)) (λ _ a l' h _ e. first_commits t l k a l' h e)
      (λ a l' b r e. subst Ends (first_made t l k a l' b.made b.none e) (begin l' r)) refl

-- nothing outranks the running one
pub calm_ends : (t : List ℕ) (k : ℕ) (l : List ℕ) → RoundSound t l → running_flag l ≢ 0 → is_outranked t l ≡ false → 0 < k
    → event_word t (running_event l) 2 - position l ≤ k → Ends (burst_on t k l)
calm_ends t zero l s f o h m = absurd (omega arith)
calm_ends t (suc k) l s f o h m =
    by_cases (dec_lt (position l) (event_word t (running_event l) 2))
    (λ w.
    advance_cases t l s (λ (o : CallResult). step_on t l ≡ o → Ends (burst_on t (suc k) l)) (first_refused t l k)
    (λ l' r e.
    let more = r.more in
    subst Ends (first_made t l k 1 l' made_one refl e)
    (calm_ends t k l' r.sound (λ z. f (sym r.flag ∙ z)) (r.rank ∙ o) (omega arith) (rw (r.word, r.at) (omega arith))))
    (λ a l' g _ e. first_commits t l k a l' g e) (step_calm t l s f w o))
    (λ w. first_refused t l k (step_over t l s f (omega arith)))

-- one that has just begun
began_ends : (t l l' : List ℕ) (k : ℕ) → Began t l l' → 4096 ≤ k → Ends (burst_on t k l')
began_ends t l l' k b h =
    let short = code_short t l' b.sound b.flag in
    calm_ends t k l' b.sound b.flag b.calm (omega arith) (omega arith)

-- any that runs
running_ends : (t : List ℕ) (k : ℕ) (l : List ℕ) → RoundSound t l → running_flag l ≢ 0 → position l < event_word t (running_event l) 2
    → event_word t (running_event l) 2 - position l + 4096 ≤ k → Ends (burst_on t k l)
running_ends t zero l s f w m = absurd (omega arith)
running_ends t (suc k) l s f w m =
    ends_by t l k s (λ z _. f z)
    (λ _ l' r.
    let more = r.more in
    running_ends t k l' r.sound (λ z. f (sym r.flag ∙ z)) (rw (r.word, r.at) more) (rw (r.word, r.at) (omega arith)))
    (λ l' b. began_ends t l l' k b (omega arith))

-- nothing runs, and something waits
resting_ends : (t : List ℕ) (k : ℕ) (l : List ℕ) → RoundSound t l → running_flag l ≡ 0 → waiting_count l ≢ 0 → 4097 ≤ k → Ends (burst_on t k l)
resting_ends t zero l s f n m = absurd (omega arith)
resting_ends t (suc k) l s f n m =
    ends_by t l k s (λ _ z. n z) (λ g _ _. absurd (g f)) (λ l' b. began_ends t l l' k b (omega arith))

-- a full hand is not empty
pub full_ends : (t l : List ℕ) → ours t l ≡ true → queue_full (waiting_count l) (running_flag l) ≡ true → Ends (burst_on t 8192 l)
unfolding queue_full
full_ends t l h full =
    let s : RoundSound t l = ours_sound t l h in
    let b : Bounds t l = bounds t l h in
    split (eqb (running_flag l) 0)
    (λ z.
    let n : 64 ≤ waiting_count l = leb-true 64 (waiting_count l) (rw z at full) in
    resting_ends t 8192 l s (eqb-true (running_flag l) 0 z) (λ e. absurd (omega arith)) (omega arith))
    (λ z.
    let f = eqb-false (running_flag l) 0 z in
    let short = code_short t l s f in
    running_ends t 8192 l s f (b.round.running_within f) (omega arith))
