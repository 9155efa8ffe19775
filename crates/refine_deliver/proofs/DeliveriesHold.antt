-- A delivery is its steps and its arrival: a burst is the steps that it makes, by induction on them; after it the round
-- is ours again with room in the hand, so that the entry joins as an arrival does. Each branch of the definition says
-- how it ended.
use Rattle.lib_base.proofs.Prelude.{ℕ, ◌≤◌, ◌<◌, ◌+◌, ◌-◌, suc, zero, ◌≡◌, refl, ◌∙◌, sym, ap, true, false, false≢true}
use Rattle.lib_base.proofs.Prelude.{true≢false, ◌≢◌, ◌⊎◌, ⊎_elim, List, [], ◌∷◌, ◌++◌, append-nil, length, eqb, ltb}
use Rattle.lib_base.proofs.Prelude.{leb, ne_eqb, eqb-true, ltb-false, eqb-false, ltb-true, lt-leb, leb-false, arith}
use Rattle.lib_base.specs.Basics.{pick, All}
use Rattle.lib_base.proofs.Tools.{by_test, split}
use Rattle.spec_language.specs.Rights.{may}
use Rattle.spec_model.specs.Model.{arrive, step}
use Rattle.format_layout.specs.Layout.{event_count, senders_at, taken, waiting_count, running_flag}
use Rattle.format_layout.specs.Foreign.{ours}
use Rattle.format_layout.specs.Round.{CallResult}
use Rattle.run_arrive.specs.Arrivals.{queue_full, arrive_with, arrive_known, arrive_in, arrive_on}
use Rattle.run_answers.specs.Answers.{put_answer}
use Rattle.run_step.specs.Machine.{step_on}
use Rattle.run_step.specs.Sound.{RoundSound}
use Rattle.run_burst.specs.Burst.{unmade, Burst, burst_on}
use Rattle.run_burst.specs.Commit.{is_commit}
use Rattle.run_step.proofs.Fits.{ours_sound, sound_ours}
use Rattle.run_frame.specs.Frame.{frame_said}
use Rattle.run_deliver.specs.Deliver.{delivery_refusal, admitted, deliver_after, deliver_full, deliver_known, deliver_with, deliver_on}
use Rattle.run_deliver.specs.Delivery.{Delivery}
use Rattle.run_deliver.proofs.Room.{Ends, BurstKept, burst_keeps, full_ends, not_commit}
use Rattle.refine_calls.specs.Refinement.{call_on, answers_on, round_after, numbers_on, bytes_after, turn_on_bytes}
use Rattle.refine_frames.specs.Frames.{steps_made, commits_written, ended_by, step_calls, committing, put_all}
use Rattle.refine_frames.proofs.FramesHold.{round_append}
use Rattle.refine_deliver.specs.Deliveries.{delivery_steps, delivery_calls, DeliveryIs, EveryDelivery, DeliverInList}

-- ---- a burst of k steps is the r that it makes

record Went (t : List ℕ) (k : ℕ) (l : List ℕ) (o : Burst) : Type 0 where
  r : ℕ
  sum : r + o.1 ≡ k
  round : o.2 ≡ round_after t (step_calls r) l
  commits : committing (answers_on t (step_calls r) l) ≡ pick (is_commit o.0) (o.0 ∷ []) []
  made : All (λ a. (a ≢ 0) × (a ≢ 14)) (answers_on t (step_calls r) l)
  refused : o.0 ≡ 14 → (call_on t step o.2).0 ≡ 14

is_made : (a : ℕ) → unmade a ≡ false → (a ≢ 0) × (a ≢ 14)
unfolding unmade
is_made a u =
    split (eqb a 0) (λ e. absurd (true≢false (rw e at u))) (λ e. (eqb-false a 0 e, eqb-false a 14 (rw e at u)))

module _ (t : List ℕ) where
  none_went : (k : ℕ) (l : List ℕ) (a : ℕ) → is_commit a ≡ false → (a ≡ 14 → (step_on t l).0 ≡ 14) → Went t k l (a, k, l)
  unfolding answers_on round_after committing numbers_on bytes_after turn_on_bytes call_on
  none_went k l a h g = record {
    r = 0;
    sum = omega arith;
    round = refl;
    commits = rw h;
    made = tt;
    refused = g;
  }

  -- the last one commits
  last_went : (k : ℕ) (l : List ℕ) → unmade (step_on t l).0 ≡ false → is_commit (step_on t l).0 ≡ true → Went t (suc k) l ((step_on t l).0, k, (step_on t l).1)
  unfolding answers_on round_after committing numbers_on bytes_after turn_on_bytes call_on
  last_went k l u h = record {
    r = 1;
    sum = omega arith;
    round = refl;
    commits = rw h;
    made = (is_made (step_on t l).0 u, tt);
    refused = λ e. absurd (false≢true (sym (ap is_commit e) ∙ h));
  }

  more_went : (k : ℕ) (l : List ℕ) (o : Burst) → unmade (step_on t l).0 ≡ false → is_commit (step_on t l).0 ≡ false → Went t k (step_on t l).1 o → Went t (suc k) l o
  unfolding answers_on round_after committing numbers_on bytes_after turn_on_bytes call_on
  more_went k l o u h w = record {
    r = suc w.r;
    sum = omega (arith, w.sum);
    round = w.round;
    commits = rw h w.commits;
    made = (is_made (step_on t l).0 u, w.made);
    refused = w.refused;
  }

  went : (k : ℕ) (l : List ℕ) → Went t k l (burst_on t k l)
  unfolding burst_on
  went zero l = none_went 0 l 1 refl (λ e. absurd (omega arith))
  went (suc k) l =
      let P : Burst → Type 0 = Went t (suc k) l in
      let a = (step_on t l).0 in
      by_test P (unmade a) (λ u. none_went (suc k) l a (not_commit a u) (λ e. e))
      (λ u. by_test P (is_commit a) (λ h. last_went k l u h) (λ h. more_went k l (burst_on t k (step_on t l).1) u h (went k (step_on t l).1)))

-- ---- the refusals

-- none of them fits
pub record Allowed (k known senders number e who : ℕ) : Type 0 where
  pub in_place : k ≡ number
  pub player : who < 8
  pub declared : e < known
  pub right : may senders who ≡ true
  pub few : number < 1000000

pub allowed : (k known senders number e who : ℕ) → delivery_refusal k known senders number e who ≡ 0 → Allowed k known senders number e who
unfolding delivery_refusal
allowed k known senders number e who =
    let P : ℕ → Type 0 = λ r. r ≡ 0 → Allowed k known senders number e who in
    by_test P (ltb k number) (λ _ z. absurd (omega arith))
    (λ a. by_test P (ltb number k) (λ _ z. absurd (omega arith))
    (λ b. by_test P (leb 8 who) (λ _ z. absurd (omega arith))
    (λ c. by_test P (leb known e) (λ _ z. absurd (omega arith))
    (λ d. by_test P (may senders who)
    (λ r. by_test P (leb 1000000 number) (λ _ z. absurd (omega arith))
    (λ f _. record {
      in_place = omega (arith, ltb-false k number a, ltb-false number k b);
      player = leb-false 8 who c;
      declared = leb-false known e d;
      right = r;
      few = leb-false 1000000 number f;
    }))
    (λ _ z. absurd (omega arith))))))

pub refusal_small : (k known senders number e who : ℕ) → delivery_refusal k known senders number e who < 64
unfolding delivery_refusal
refusal_small k known senders number e who =
    let P : ℕ → Type 0 = λ r. r < 64 in
    by_test P (ltb k number) (λ _. omega arith)
    (λ _. by_test P (ltb number k) (λ _. omega arith)
    (λ _. by_test P (leb 8 who) (λ _. omega arith)
    (λ _. by_test P (leb known e) (λ _. omega arith)
    (λ _. by_test P (may senders who) (λ _. by_test P (leb 1000000 number) (λ _. omega arith) (λ _. omega arith)) (λ _. omega arith)))))

-- ---- the entry joins as an arrival does

arrives : (t l : List ℕ) (number e who : ℕ) → ours t l ≡ true → Allowed (taken l) (event_count t) (senders_at t e) number e who
    → queue_full (waiting_count l) (running_flag l) ≡ false → arrive_on t l e who ≡ (0, admitted l number e who)
unfolding arrive_on arrive_in arrive_known arrive_with admitted
arrives t l number e who h a q =
    rw (h, lt-leb 8 who a.player, lt-leb (event_count t) e a.declared, a.right, q, a.in_place, lt-leb 1000000 number a.few)

rests_free : (n f : ℕ) → f ≡ 0 → n ≤ 63 → queue_full n f ≡ false
unfolding queue_full
rests_free n f e h = rw e (lt-leb 64 n (omega arith))

-- ---- how a delivery ended, as the definition has it: r steps made, w commits written

record Ended (t l : List ℕ) (number e who : ℕ) (b : List ℕ) (why r w : ℕ) (l' b' : List ℕ) : Type 0 where
  some : 0 < why
  most : why ≤ 3
  few : r ≤ 8192
  no_room : why ≡ 2 → (length b < 8) × (l' ≡ l) × (b' ≡ b)
  broken : why ≡ 3 → (call_on t step l').0 ≡ 14
  taken_in : why ≡ 1 → (arrive_on t (round_after t (step_calls r) l) e who ≡ (0, l')) × (taken (round_after t (step_calls r) l) ≡ number)
  round : why ≢ 1 → l' ≡ round_after t (step_calls r) l
  made : All (λ a. (a ≢ 0) × (a ≢ 14)) (answers_on t (step_calls r) l)
  written : b' ≡ put_all b 0 (committing (answers_on t (step_calls r) l))
  count : w ≡ length (committing (answers_on t (step_calls r) l))
  one : w ≤ 1

one_arrival : (t l : List ℕ) (e who : ℕ) (l' : List ℕ) → arrive_on t l e who ≡ (0, l') → round_after t (arrive e who ∷ []) l ≡ l'
unfolding round_after bytes_after turn_on_bytes call_on
one_arrival t l e who l' h = ap (λ (o : CallResult). o.1) h

arrival_is : (t l : List ℕ) (e who : ℕ) (l' : List ℕ) → arrive_on t l e who ≡ (0, l') → (call_on t (arrive e who) l).0 ≡ 0
unfolding call_on
arrival_is t l e who l' h = ap (λ (o : CallResult). o.0) h

told : (why r w : ℕ) → why ≤ 3 → r ≤ 8192 → w ≤ 1
    → (ended_by (frame_said why r w) ≡ why) × (steps_made (frame_said why r w) ≡ r) × (commits_written (frame_said why r w) ≡ w)
told why r w a b c = (omega arith, omega arith, omega arith)

module _ (t l : List ℕ) (number e who : ℕ) (b : List ℕ) where
  -- a refusal
  refuses : (v : ℕ) → v < 64 → DeliveryIs t l number e who b v l b
  unfolding answers_on round_after committing put_all numbers_on bytes_after turn_on_bytes
  refuses v h =
      let z : ended_by v ≡ 0 = omega arith in
      let n : delivery_steps v ≡ 0 = rw z in
      record {
        one_of = rw z (omega arith);
        refused = λ _. (refl, refl);
        no_room = λ y. absurd (omega arith);
        broken = λ y. absurd (omega arith);
        taken_in = λ y. absurd (omega arith);
        round = rw z;
        made = rw n tt;
        written = rw n;
        count = λ y. absurd (y z);
        one = rw n (omega arith);
      }

  module _ (why r w : ℕ) (l' b' : List ℕ) (d : Ended t l number e who b why r w l' b') where
    abbrev v : ℕ
    v = frame_said why r w

    tells : (ended_by v ≡ why) × (steps_made v ≡ r) × (commits_written v ≡ w)
    tells = told why r w d.most d.few d.one

    not_none : eqb why 0 ≡ false
    not_none = ne_eqb why 0 (omega (arith, d.some))

    steps_are : delivery_steps v ≡ r
    steps_are = rw (tells.0, not_none) tells.1

    -- the calls, by whether it was taken in
    calls_in : why ≡ 1 → delivery_calls v e who ≡ step_calls r ++ (arrive e who ∷ [])
    calls_in h = rw (steps_are, tells.0, h)

    calls_out : why ≢ 1 → delivery_calls v e who ≡ step_calls r
    calls_out h = rw (steps_are, tells.0, ne_eqb why 1 h) (append-nil (step_calls r))

    round_is : l' ≡ round_after t (delivery_calls v e who) l
    round_is =
        split (eqb why 1)
        (λ q.
        let h = eqb-true why 1 q in
        rw (calls_in h) (sym (round_append t (step_calls r) (arrive e who ∷ []) l
        ∙ one_arrival t (round_after t (step_calls r) l) e who l' (d.taken_in h).0)))
        (λ q. let h = eqb-false why 1 q in rw (calls_out h) (d.round h))

    ends_as : DeliveryIs t l number e who b v l' b'
    ends_as = record {
      one_of = rw tells.0 d.most;
      refused = λ z. absurd (omega (arith, d.some, tells.0));
      no_room = λ z. d.no_room (sym tells.0 ∙ z);
      broken = λ z. d.broken (sym tells.0 ∙ z);
      taken_in = λ z.
          let h = sym tells.0 ∙ z in (
            rw steps_are (arrival_is t (round_after t (step_calls r) l) e who l' (d.taken_in h).0),
            rw steps_are (d.taken_in h).1,
          );
      round = round_is;
      made = rw steps_are d.made;
      written = rw steps_are d.written;
      count = λ _. rw steps_are (tells.2 ∙ d.count);
      one = rw (steps_are, ← d.count) d.one;
    }

-- ---- the branches

module _ (t l : List ℕ) (number e who : ℕ) (b : List ℕ) (h : ours t l ≡ true) (a : Allowed (taken l) (event_count t) (senders_at t e) number e who) where
  s : RoundSound t l
  s = ours_sound t l h

  abbrev P : Delivery → Type 0
  P o = DeliveryIs t l number e who b o.0 o.1 o.2

  joins_now : queue_full (waiting_count l) (running_flag l) ≡ false → P (frame_said 1 0 0, admitted l number e who, b)
  unfolding answers_on round_after committing put_all numbers_on bytes_after turn_on_bytes
  joins_now q =
      ends_as t l number e who b 1 0 0 (admitted l number e who) b record {
        some = omega arith;
        most = omega arith;
        few = omega arith;
        no_room = λ z. absurd (omega arith);
        broken = λ z. absurd (omega arith);
        taken_in = λ _. (arrives t l number e who h a q, a.in_place);
        round = λ z. absurd (z refl);
        made = tt;
        written = refl;
        count = refl;
        one = omega arith;
      }

  finds_none : length b < 8 → P (frame_said 2 0 0, l, b)
  unfolding answers_on round_after committing put_all numbers_on bytes_after turn_on_bytes
  finds_none n =
      ends_as t l number e who b 2 0 0 l b record {
        some = omega arith;
        most = omega arith;
        few = omega arith;
        no_room = λ _. (n, refl, refl);
        broken = λ z. absurd (omega arith);
        taken_in = λ z. absurd (omega arith);
        round = λ _. refl;
        made = tt;
        written = refl;
        count = refl;
        one = omega arith;
      }

  module _ (o : Burst) (w : Went t 8192 l o) (k : BurstKept t l o) (z : Ends o) where
    left : 8192 - o.1 ≡ w.r
    left = omega (arith, w.sum)

    after : round_after t (step_calls (8192 - o.1)) l ≡ o.2
    after = rw left (sym w.round)

    commits_in : is_commit o.0 ≡ true → committing (answers_on t (step_calls (8192 - o.1)) l) ≡ o.0 ∷ []
    commits_in c = rw left (w.commits ∙ rw c)

    commits_out : is_commit o.0 ≡ false → committing (answers_on t (step_calls (8192 - o.1)) l) ≡ []
    commits_out c = rw left (w.commits ∙ rw c)

    joins_then : is_commit o.0 ≡ true → arrive_on t (round_after t (step_calls (8192 - o.1)) l) e who ≡ (0, admitted o.2 number e who)
    joins_then c =
        let free = k.room c in
        let valid = sound_ours t o.2 k.sound (λ f. absurd (f free.0)) in
        rw after (arrives t o.2 number e who valid
        record { in_place = k.kept ∙ a.in_place; player = a.player; declared = a.declared; right = a.right; few = a.few }
        (rests_free (waiting_count o.2) (running_flag o.2) free.0 free.1))

    makes_room : is_commit o.0 ≡ true → P (frame_said 1 (8192 - o.1) 1, admitted o.2 number e who, put_answer b 0 o.0)
    unfolding put_all
    makes_room c =
        ends_as t l number e who b 1 (8192 - o.1) 1 (admitted o.2 number e who) (put_answer b 0 o.0) record {
          some = omega arith;
          most = omega arith;
          few = omega arith;
          no_room = λ z. absurd (omega arith);
          broken = λ z. absurd (omega arith);
          taken_in = λ _. (joins_then c, rw after (k.kept ∙ a.in_place));
          round = λ z. absurd (z refl);
          made = rw left w.made;
          written = rw (commits_in c);
          count = rw (commits_in c);
          one = omega arith;
        }

    breaks_off : is_commit o.0 ≡ false → P (frame_said 3 (8192 - o.1) 0, o.2, b)
    unfolding put_all
    breaks_off c =
        ends_as t l number e who b 3 (8192 - o.1) 0 o.2 b record {
          some = omega arith;
          most = omega arith;
          few = omega arith;
          no_room = λ z. absurd (omega arith);
          broken = λ _. ⊎_elim (λ y. absurd (true≢false (sym y ∙ c))) w.refused z;
          taken_in = λ z. absurd (omega arith);
          round = λ _. sym after;
          made = rw left w.made;
          written = rw (commits_out c);
          count = rw (commits_out c);
          one = omega arith;
        }

    after_burst : P (deliver_after o number e who b)
    unfolding deliver_after
    after_burst = by_test P (is_commit o.0) makes_room breaks_off

  known : P (deliver_known t l number e who b)
  unfolding deliver_known deliver_full
  known =
      by_test P (queue_full (waiting_count l) (running_flag l))
      (λ q. by_test P (ltb (length b) 8) (λ n. finds_none (ltb-true (length b) 8 n))
      (λ _. after_burst (burst_on t 8192 l) (went t 8192 l) (burst_keeps t 8192 l s) (full_ends t l h q)))
      joins_now

pub every_delivery : EveryDelivery
unfolding deliver_on deliver_with
every_delivery t l number e who b =
    let P : Delivery → Type 0 = λ o. DeliveryIs t l number e who b o.0 o.1 o.2 in
    let r = delivery_refusal (taken l) (event_count t) (senders_at t e) number e who in
    by_test P (ours t l)
    (λ h. by_test P (eqb r 0) (λ z. known t l number e who b h (allowed (taken l) (event_count t) (senders_at t e) number e who (eqb-true r 0 z)))
    (λ _. refuses t l number e who b r (refusal_small (taken l) (event_count t) (senders_at t e) number e who)))
    (λ _. refuses t l number e who b 14 (omega arith))

pub deliver_in_list : DeliverInList
deliver_in_list t l cs n e who b =
    let m = delivery_calls (deliver_on t (round_after t cs l) n e who b).0 e who in
    (every_delivery t (round_after t cs l) n e who b).round ∙ sym (round_append t cs m l)
