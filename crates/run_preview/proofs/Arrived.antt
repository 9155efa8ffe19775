-- An arrival that is taken in leaves a sound round: it is one of the table's events and one of eight players, and there
-- was room for it. By cases along the definition of an arrival.
use Rattle.lib_base.proofs.Prelude.{ℕ, ◌≤◌, ◌<◌, ◌+◌, ◌*◌, ◌≡◌, ◌∙◌, sym, ap, subst, true, false, ◌≢◌, List, length}
use Rattle.lib_base.proofs.Prelude.{eqb, leb, eqb-true, lt-ltb, eqb-false, lt-leb, leb-false, arith}
use Rattle.lib_base.proofs.Tools.{by_test, split}
use Rattle.lib_word.specs.Word.{get, put}
use Rattle.lib_word.proofs.Laws.{length_put, get_same, get_other}
use Rattle.spec_language.specs.Rights.{may}
use Rattle.format_layout.specs.Layout.{event_count, senders_at, event_of, player_of, taken, waiting_count, running_flag, word_at}
use Rattle.format_layout.specs.Foreign.{hand_word, hand_fits, ours}
use Rattle.format_layout.proofs.BoundsLaws.{table_bounds}
use Rattle.format_layout.specs.Round.{CallResult, call_result}
use Rattle.run_queue.specs.Queue.{put_slot}
use Rattle.run_arrive.specs.Arrivals.{admit, queue_full, arrive_with, arrive_known, arrive_in, arrive_on}
use Rattle.run_step.specs.Sound.{RoundSound}
use Rattle.run_step.proofs.Fits.{ours_sound}
use Rattle.run_step.proofs.Moves.{slot_length, slot_here, slot_there}

not_full : (n f : ℕ) → queue_full n f ≡ false → (n < 64) × (f ≢ 0 → n < 63)
unfolding queue_full
not_full n f h =
    split (eqb f 0) (λ e. (leb-false 64 n (rw e at h), λ g. absurd (g (eqb-true f 0 e))))
    (λ e. let k : n < 63 = leb-false 63 n (rw e at h) in (omega arith, λ _. k))

word_fits : (known e who : ℕ) → known ≤ 32 → e < known → who < 8 → hand_fits known (hand_word e who) ≡ true
unfolding hand_fits
word_fits known e who a b c =
    let x : event_of (hand_word e who) ≡ e = omega arith in
    let y : player_of (hand_word e who) ≡ who = omega arith in
    rw (x, y, lt-leb known e b, lt-ltb who 8 c)

module _ (t l : List ℕ) (s : RoundSound t l) (e who k : ℕ) (declared : e < event_count t) (one_of_lem : who < 8) (room : queue_full (waiting_count l) (running_flag l) ≡ false) where
  abbrev n : ℕ
  n = waiting_count l

  abbrev w : ℕ
  w = hand_word e who

  abbrev slotted : List ℕ
  slotted = put_slot l n k w

  abbrev counted : List ℕ
  counted = put slotted 0 (k + 1)

  small : n < 64
  small = (not_full n (running_flag l) room).0

  long_slotted : length slotted ≡ length l
  long_slotted = slot_length l n k w s.long small

  long_counted : length counted ≡ length l
  long_counted = length_put slotted 0 (k + 1) ∙ long_slotted

  count : waiting_count (put counted 1 (n + 1)) ≡ n + 1
  count = get_same counted 1 (n + 1) (omega (arith, long_counted, s.long))

  -- a word below the queue that is no count
  other : (j : ℕ) → j ≢ 0 → j ≢ 1 → j < 8 → get (put counted 1 (n + 1)) j ≡ get l j
  unfolding put_slot
  other j a b c =
      get_other counted 1 (n + 1) j b ∙ get_other slotted 0 (k + 1) j a
      ∙ get_other (put l (8 + n * 2) k) (9 + n * 2) w j (omega arith) ∙ get_other l (8 + n * 2) k j (omega arith)

  slots : (i : ℕ) → i < n + 1 → hand_fits (event_count t) (word_at (put counted 1 (n + 1)) i) ≡ true
  slots i h =
      let z : word_at (put counted 1 (n + 1)) i ≡ word_at slotted i =
      get_other counted 1 (n + 1) (9 + i * 2) (omega arith) ∙ get_other slotted 0 (k + 1) (9 + i * 2) (omega arith) in
      rw z
      (split (eqb i n)
      (λ q. rw (eqb-true i n q, slot_here l n k w s.long small) (word_fits (event_count t) e who (table_bounds t s.table).few_events declared one_of_lem))
      (λ q. let d = eqb-false i n q in rw (slot_there l n k w s.long small i d) (s.waiting_fit i (omega arith))))

  admit_sound : RoundSound t (admit l e who n k)
  unfolding admit
  admit_sound = record {
    table = s.table;
    whole = s.whole;
    long = rw (length_put counted 1 (n + 1), long_counted) s.long;
    few_waiting = rw count (omega (arith, small));
    shallow = rw (other 6 (omega arith) (omega arith) (omega arith)) s.shallow;
    waiting_fit = λ i h. slots i (rw count at h);
    room = λ f. rw count (let g = (not_full n (running_flag l) room).1 (rw (other 2 (omega arith) (omega arith) (omega arith)) at f) in omega arith);
    running_fits_law = λ f. rw (other 3 (omega arith) (omega arith) (omega arith)) (s.running_fits_law (rw (other 2 (omega arith) (omega arith) (omega arith)) at f));
  }

arrived : (t l : List ℕ) (e who : ℕ) → (arrive_on t l e who).0 ≡ 0 → RoundSound t (arrive_on t l e who).1
unfolding arrive_on arrive_in arrive_known arrive_with
arrived t l e who =
    let P : CallResult → Type 0 = λ o. o.0 ≡ 0 → RoundSound t o.1 in
    let n = waiting_count l in
    by_test P (ours t l)
    (λ h. by_test P (leb 8 who) (λ _ z. absurd (omega arith))
    (λ a. by_test P (leb (event_count t) e) (λ _ z. absurd (omega arith))
    (λ b. by_test P (may (senders_at t e) who)
    (λ _. by_test P (queue_full n (running_flag l)) (λ _ z. absurd (omega arith))
    (λ c. by_test P (leb 1000000 (taken l)) (λ _ z. absurd (omega arith))
    (λ _ _. admit_sound t l (ours_sound t l h) e who (taken l) (leb-false (event_count t) e b) (leb-false 8 who a) c)))
    (λ _ z. absurd (omega arith)))))
    (λ _ z. absurd (omega arith))

pub arrive_sound : (t l : List ℕ) (e who : ℕ) {a : ℕ} {m : List ℕ} → call_result a m ≡ arrive_on t l e who → a ≡ 0 → RoundSound t m
arrive_sound t l e who {a} {m} k z =
    subst (λ (o : CallResult). RoundSound t o.1) (sym k) (arrived t l e who (sym (ap (λ (o : CallResult). o.0) k) ∙ z))
