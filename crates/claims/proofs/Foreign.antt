-- A table and a round pass the code's tests just where they are not foreign by the papers' words: each test that passes
-- is a part of the record and the other way round, those over the hand by induction on how many.
use Rattle.lib_base.proofs.Prelude.{ℕ, ◌≤◌, ◌<◌, ◌+◌, suc, zero, ◌≡◌, refl, true, false, Bool, ◌≢◌, List, eqb, ltb}
use Rattle.lib_base.proofs.Prelude.{ne_eqb, eqb-true, lt-ltb, eqb-false, ltb-true, lt-leb, leb-false, arith}
use Rattle.lib_base.specs.Basics.{pick}
use Rattle.lib_base.proofs.Tools.{by_test, through, split}
use Rattle.format_layout.specs.Layout.{event_count, event_of, player_of, waiting_count, running_flag, running_word, running_event, event_at, word_at}
use Rattle.format_layout.specs.Foreign.{table_fits, hand_fits, ours}
use Rattle.format_layout.specs.Bounds.{TableBounds}
use Rattle.format_layout.proofs.BoundsLaws.{table_bounds, fit_table, hand_bound, bounds}
use Rattle.run_arrive.specs.Arrivals.{queue_full}
use Rattle.run_step.specs.Sound.{RoundSound}
use Rattle.run_step.proofs.Fits.{ours_sound, sound_ours}
use Rattle.run_mend.specs.Mending.{waiting_known, known_with, hand_known}
use Rattle.claims.specs.Demand1.{OurTable, EachInHand, hand_count, OurRound}

-- ---- the table

module _ (t : List ℕ) where
  pub our_table : table_fits t ≡ true → OurTable t
  our_table h =
      let b : TableBounds t = table_bounds t h in
      record { long = b.long; few_events = b.few_events; few_behaviours = b.few_behaviours; code_within = b.codes }

  pub table_fits_law : OurTable t → table_fits t ≡ true
  table_fits_law o = fit_table t (record { long = o.long; few_events = o.few_events; few_behaviours = o.few_behaviours; codes = o.code_within })

-- ---- the hand

module _ (l : List ℕ) where
  -- how many run
  abbrev running_count : ℕ
  running_count = pick (eqb (running_flag l) 0) 0 1

  resting : eqb (running_flag l) 0 ≡ true → hand_count l ≡ waiting_count l
  resting e = let z : running_count ≡ 0 = rw e in omega arith

  one_more : eqb (running_flag l) 0 ≡ false → hand_count l ≡ waiting_count l + 1
  one_more e = let z : running_count ≡ 1 = rw e in omega arith

  pub room_says : queue_full (waiting_count l) (running_flag l) ≡ false → hand_count l < 64
  unfolding queue_full
  room_says =
      split (eqb (running_flag l) 0)
      (λ e h. omega (arith, resting e, leb-false 64 (waiting_count l) (rw e at h)))
      (λ e h. omega (arith, one_more e, leb-false 63 (waiting_count l) (rw e at h)))

  pub room_is : hand_count l < 64 → queue_full (waiting_count l) (running_flag l) ≡ false
  unfolding queue_full
  room_is h =
      by_test (λ (x : Bool). x ≡ false) (eqb (running_flag l) 0)
      (λ e. lt-leb 64 (waiting_count l) (omega (arith, resting e)))
      (λ e. lt-leb 63 (waiting_count l) (omega (arith, one_more e)))

-- those that wait have events below `known`
waiting_says : (l : List ℕ) (known n : ℕ) → waiting_known l known n ≡ true → (i : ℕ) → i < n → event_at l i < known
unfolding waiting_known
waiting_says l known zero h i b = absurd (omega arith)
waiting_says l known (suc n) h i b =
    let p = through (ltb (event_at l n) known) (waiting_known l known n) h in
    split (eqb i n) (λ q. rw (eqb-true i n q) (ltb-true (event_at l n) known p.0)) (λ q. waiting_says l known n p.1 i (omega (arith, eqb-false i n q)))

waiting_is : (l : List ℕ) (known n : ℕ) → ((i : ℕ) → i < n → event_at l i < known) → waiting_known l known n ≡ true
unfolding waiting_known
waiting_is l known zero h = refl
waiting_is l known (suc n) h = rw (lt-ltb (event_at l n) known (h n (omega arith))) (waiting_is l known n (λ i b. h i (omega arith)))

module _ (t l : List ℕ) where
  -- every event in hand is one of the table's
  abbrev Declared : Type 0
  Declared = EachInHand (λ w. event_of w < event_count t) l

  pub declared_says : hand_known t l ≡ true → Declared
  unfolding hand_known known_with
  declared_says h =
      let known = event_count t in
      let p = through (waiting_known l known (waiting_count l)) (pick (eqb (running_flag l) 0) true (ltb (running_event l) known)) h in
      (waiting_says l known (waiting_count l) p.0, λ f. ltb-true (running_event l) known (rw (ne_eqb (running_flag l) 0 f) at p.1))

  pub declared_is : Declared → hand_known t l ≡ true
  unfolding hand_known known_with
  declared_is h =
      let known = event_count t in
      rw (waiting_is l known (waiting_count l) h.0)
      (by_test (λ (x : Bool). x ≡ true) (eqb (running_flag l) 0) (λ _. refl) (λ e. lt-ltb (running_event l) known (h.1 (eqb-false (running_flag l) 0 e))))

-- ---- the round

hand_fits_law : (known w : ℕ) → (event_of w < known) × (player_of w < 8) → hand_fits known w ≡ true
unfolding hand_fits
hand_fits_law known w h = rw (lt-leb known (event_of w) h.0) (lt-ltb (player_of w) 8 h.1)

module _ (t l : List ℕ) where
  few : waiting_count l ≤ 64 → (running_flag l ≢ 0 → waiting_count l ≤ 63) → hand_count l ≤ 64
  few a b =
      split (eqb (running_flag l) 0)
      (λ e. omega (arith, resting l e))
      (λ e. omega (arith, one_more l e, b (eqb-false (running_flag l) 0 e)))

  pub our_round : ours t l ≡ true → OurRound t l
  our_round h =
      let s : RoundSound t l = ours_sound t l h in
      let known = event_count t in
      record {
        table = our_table t s.table;
        long = s.long;
        few_in_hand = few s.few_waiting s.room;
        shallow = s.shallow;
        hand = (λ i b. hand_bound known (word_at l i) (s.waiting_fit i b), λ f. hand_bound known (running_word l) (s.running_fits_law f));
        running = (bounds t l h).round.running_within;
      }

  pub round_fits_law : OurRound t l → ours t l ≡ true
  round_fits_law o =
      let known = event_count t in
      sound_ours t l (record {
        table = table_fits_law t o.table;
        whole = o.table.long;
        long = o.long;
        few_waiting = omega (arith, o.few_in_hand);
        shallow = o.shallow;
        waiting_fit = λ i b. hand_fits_law known (word_at l i) (o.hand.0 i b);
        room = λ f. omega (arith, o.few_in_hand, one_more l (ne_eqb (running_flag l) 0 f));
        running_fits_law = λ f. hand_fits_law known (running_word l) (o.hand.1 f);
      }) o.running
