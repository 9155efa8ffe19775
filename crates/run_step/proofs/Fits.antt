-- What `ours` asks is `RoundSound`, and that the running one has instructions left. Each test that passes is a fact and
-- the other way round; the slots by induction on how many.
use Rattle.lib_base.proofs.Prelude.{ℕ, ◌≤◌, ◌<◌, suc, zero, ◌≡◌, refl, true, false, Bool, ◌≢◌, List, length, eqb, ltb}
use Rattle.lib_base.proofs.Prelude.{ne_eqb, eqb-true, le-ltb, lt-ltb, eqb-false, arith}
use Rattle.lib_base.specs.Basics.{pick}
use Rattle.lib_base.proofs.Tools.{by_test, past, through, split}
use Rattle.format_layout.specs.Layout.{event_count, event_word, waiting_count, running_flag, running_word, running_event, position, depth, word_at}
use Rattle.format_layout.specs.Foreign.{table_fits}
use Rattle.format_layout.specs.Foreign.{hand_fits, slots_fit, running_fits, round_with, round_in, round_fits, ours}
use Rattle.format_layout.specs.Bounds.{Bounds}
use Rattle.format_layout.proofs.BoundsLaws.{bounds}
use Rattle.run_step.specs.Sound.{RoundSound}

slots_fit_law : (l : List ℕ) (known n : ℕ) → slots_fit l known n ≡ true → (i : ℕ) → i < n → hand_fits known (word_at l i) ≡ true
unfolding slots_fit
slots_fit_law l known zero h i b = absurd (omega arith)
slots_fit_law l known (suc n) h i b =
    let p = through (hand_fits known (word_at l n)) (slots_fit l known n) h in
    split (eqb i n) (λ q. rw (eqb-true i n q) p.0) (λ q. slots_fit_law l known n p.1 i (omega (arith, eqb-false i n q)))

fit_slots : (l : List ℕ) (known n : ℕ) → ((i : ℕ) → i < n → hand_fits known (word_at l i) ≡ true) → slots_fit l known n ≡ true
unfolding slots_fit
fit_slots l known zero h = refl
fit_slots l known (suc n) h = rw (h n (omega arith)) (fit_slots l known n (λ i b. h i (omega arith)))

running_fit : (n f : ℕ) (fits : Bool) (c len : ℕ) → running_fits n f fits c len ≡ true → f ≢ 0 → fits ≡ true
unfolding running_fits
running_fit n f fits c len h g =
    let z : eqb f 0 ≡ false = ne_eqb f 0 g in
    let p = past (ltb 63 n) (pick fits (ltb c len) false) (rw z at h) in
    (through fits (ltb c len) p.1).0

fit_running : (n f : ℕ) (fits : Bool) (c len : ℕ) → (f ≢ 0 → n ≤ 63) → (f ≢ 0 → fits ≡ true) → (f ≢ 0 → c < len) → running_fits n f fits c len ≡ true
unfolding running_fits
fit_running n f fits c len a b d =
    by_test (λ (x : Bool). x ≡ true) (eqb f 0) (λ _. refl)
    (λ e. let g : f ≢ 0 = eqb-false f 0 e in rw (le-ltb 63 n (a g), b g, lt-ltb c len (d g)))

-- the running one has done all of its instructions, or more
over_running : (n f : ℕ) (fits : Bool) (c len : ℕ) → f ≢ 0 → n ≤ 63 → fits ≡ true → len ≤ c → running_fits n f fits c len ≡ false
unfolding running_fits
over_running n f fits c len g a b d = rw (ne_eqb f 0 g, le-ltb 63 n a, b, le-ltb c len d)

module _ (t l : List ℕ) where
  pub ours_sound : ours t l ≡ true → RoundSound t l
  unfolding ours round_fits round_in round_with
  ours_sound h =
      let b : Bounds t l = bounds t l h in
      let n = waiting_count l in
      let d = depth l in
      let known = event_count t in
      let runs = running_fits n (running_flag l) (hand_fits known (running_word l)) (position l) (event_word t (running_event l) 2) in
      let o = through (table_fits t) (round_fits t l) h in
      let p = past (ltb (length l) 2048) (pick (ltb 64 n) false (pick (ltb 64 d) false (pick runs (slots_fit l known n) false))) o.1 in
      let q = past (ltb 64 n) (pick (ltb 64 d) false (pick runs (slots_fit l known n) false)) p.1 in
      let r = past (ltb 64 d) (pick runs (slots_fit l known n) false) q.1 in
      let s = through runs (slots_fit l known n) r.1 in
      record {
        table = o.0;
        whole = b.table.long;
        long = b.round.long;
        few_waiting = b.round.few_waiting;
        shallow = b.round.shallow;
        waiting_fit = slots_fit_law l known n s.1;
        room = b.round.room;
        running_fits_law = running_fit n (running_flag l) (hand_fits known (running_word l)) (position l) (event_word t (running_event l) 2) s.0;
      }

  pub sound_ours : RoundSound t l → (running_flag l ≢ 0 → position l < event_word t (running_event l) 2) → ours t l ≡ true
  unfolding ours round_fits round_in round_with
  sound_ours s w =
      rw (
        s.table,
        le-ltb (length l) 2048 s.long,
        le-ltb 64 (waiting_count l) s.few_waiting,
        le-ltb 64 (depth l) s.shallow,
        fit_running (waiting_count l) (running_flag l) (hand_fits (event_count t) (running_word l)) (position l) (event_word t (running_event l) 2) s.room s.running_fits_law w,
      ) (fit_slots l (event_count t) (waiting_count l) s.waiting_fit)

  pub sound_over : RoundSound t l → running_flag l ≢ 0 → event_word t (running_event l) 2 ≤ position l → ours t l ≡ false
  unfolding ours round_fits round_in round_with
  sound_over s f w =
      rw (
        s.table,
        le-ltb (length l) 2048 s.long,
        le-ltb 64 (waiting_count l) s.few_waiting,
        le-ltb 64 (depth l) s.shallow,
        over_running (waiting_count l) (running_flag l) (hand_fits (event_count t) (running_word l)) (position l) (event_word t (running_event l) 2) f (s.room f) (s.running_fits_law f) w,
      )
