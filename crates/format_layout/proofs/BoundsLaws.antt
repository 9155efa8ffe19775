-- A table and a round that are not foreign are within their bounds, and a table within them is not foreign: each test
-- that passes is a bound; the checks over events and slots by induction on how many.
use Rattle.lib_base.proofs.Prelude.{ℕ, ◌≤◌, ◌<◌, ◌+◌, ◌-◌, suc, zero, ◌≡◌, refl, true, false, Bool, ◌≢◌, List, length}
use Rattle.lib_base.proofs.Prelude.{eqb, ltb, leb, ne_eqb, eqb-true, le-ltb, ltb-false, eqb-false, ltb-true, le-leb}
use Rattle.lib_base.proofs.Prelude.{leb-false, leb-true, arith}
use Rattle.lib_base.specs.Basics.{pick}
use Rattle.lib_base.proofs.Tools.{past, through, split}
use Rattle.format_layout.specs.Layout.{event_count, behaviour_count, event_word}
use Rattle.format_layout.specs.Foreign.{code_fits, codes_fit, table_with, table_fits}
use Rattle.format_layout.specs.Layout.{event_of, player_of, waiting_count, running_flag, running_word, running_event, position, depth, word_at, event_at}
use Rattle.format_layout.specs.Foreign.{hand_fits, slots_fit, running_fits, round_with, round_in, round_fits, ours}
use Rattle.format_layout.specs.Bounds.{TableBounds, RoundBounds, Bounds}

-- ---- the table

pub code_bound : (a n : ℕ) → code_fits a n ≡ true → a + n ≤ 4096
unfolding code_fits
code_bound a n e =
    let p = past (ltb 4096 a) (leb n (4096 - a)) e in
    let h : a ≤ 4096 = ltb-false 4096 a p.0 in
    let k : n ≤ 4096 - a = leb-true n (4096 - a) p.1 in
    omega arith

codes_bound : (t : List ℕ) (n : ℕ) → codes_fit t n ≡ true → (e : ℕ) → e < n → event_word t e 1 + event_word t e 2 ≤ 4096
unfolding codes_fit
codes_bound t zero h e b = absurd (omega arith)
codes_bound t (suc n) h e b =
    let p = through (code_fits (event_word t n 1) (event_word t n 2)) (codes_fit t n) h in
    split (eqb e n)
    (λ q. rw (eqb-true e n q) (code_bound (event_word t n 1) (event_word t n 2) p.0))
    (λ q. codes_bound t n p.1 e (omega (arith, eqb-false e n q)))

pub table_bounds : (t : List ℕ) → table_fits t ≡ true → TableBounds t
unfolding table_fits table_with
table_bounds t h =
    let n = event_count t in
    let b = behaviour_count t in
    let p = past (ltb (length t) 34816) (pick (ltb 32 n) false (pick (ltb 64 b) false (codes_fit t n))) h in
    let q = past (ltb 32 n) (pick (ltb 64 b) false (codes_fit t n)) p.1 in
    let r = past (ltb 64 b) (codes_fit t n) q.1 in
    record {
      long = ltb-false (length t) 34816 p.0;
      few_events = ltb-false 32 n q.0;
      few_behaviours = ltb-false 64 b r.0;
      codes = codes_bound t n r.1;
    }

-- and back

pub fit_code : (a n : ℕ) → a + n ≤ 4096 → code_fits a n ≡ true
unfolding code_fits
fit_code a n h = rw (le-ltb 4096 a (omega arith)) (le-leb n (4096 - a) (omega arith))

fit_codes : (t : List ℕ) (n : ℕ) → ((e : ℕ) → e < n → event_word t e 1 + event_word t e 2 ≤ 4096) → codes_fit t n ≡ true
unfolding codes_fit
fit_codes t zero h = refl
fit_codes t (suc n) h = rw (fit_code (event_word t n 1) (event_word t n 2) (h n (omega arith))) (fit_codes t n (λ e b. h e (omega arith)))

pub fit_table : (t : List ℕ) → TableBounds t → table_fits t ≡ true
unfolding table_fits table_with
fit_table t b =
    rw (
      le-ltb (length t) 34816 b.long,
      le-ltb 32 (event_count t) b.few_events,
      le-ltb 64 (behaviour_count t) b.few_behaviours,
    ) (fit_codes t (event_count t) b.codes)

-- ---- the round

-- a word that fits: its event is known, its player one of eight
pub hand_bound : (known w : ℕ) → hand_fits known w ≡ true → (event_of w < known) × (player_of w < 8)
unfolding hand_fits
hand_bound known w h =
    let p = past (leb known (event_of w)) (ltb (player_of w) 8) h in
    (leb-false known (event_of w) p.0, ltb-true (player_of w) 8 p.1)

slots_bound : (l : List ℕ) (known n : ℕ) → slots_fit l known n ≡ true → (i : ℕ) → i < n → event_at l i < known
unfolding slots_fit
slots_bound l known zero h i b = absurd (omega arith)
slots_bound l known (suc n) h i b =
    let p = through (hand_fits known (word_at l n)) (slots_fit l known n) h in
    split (eqb i n)
    (λ q. rw (eqb-true i n q) (hand_bound known (word_at l n) p.0).0)
    (λ q. slots_bound l known n p.1 i (omega (arith, eqb-false i n q)))

-- one runs
running_bound : (n f : ℕ) (fits : Bool) (c len : ℕ) → running_fits n f fits c len ≡ true → f ≢ 0 → (n ≤ 63) × (fits ≡ true) × (c < len)
unfolding running_fits
running_bound n f fits c len h g =
    let z : eqb f 0 ≡ false = ne_eqb f 0 g in
    let p = past (ltb 63 n) (pick fits (ltb c len) false) (rw z at h) in
    let q = through fits (ltb c len) p.1 in
    (ltb-false 63 n p.0, q.0, ltb-true c len q.1)

pub round_bounds : (t l : List ℕ) → round_fits t l ≡ true → RoundBounds t l
unfolding round_fits round_in round_with
round_bounds t l h =
    let n = waiting_count l in
    let d = depth l in
    let known = event_count t in
    let f = running_flag l in
    let fits = hand_fits known (running_word l) in
    let runs = running_fits n f fits (position l) (event_word t (running_event l) 2) in
    let p = past (ltb (length l) 2048) (pick (ltb 64 n) false (pick (ltb 64 d) false (pick runs (slots_fit l known n) false))) h in
    let q = past (ltb 64 n) (pick (ltb 64 d) false (pick runs (slots_fit l known n) false)) p.1 in
    let r = past (ltb 64 d) (pick runs (slots_fit l known n) false) q.1 in
    let s = through runs (slots_fit l known n) r.1 in
    let b = running_bound n f fits (position l) (event_word t (running_event l) 2) s.0 in
    record {
      long = ltb-false (length l) 2048 p.0;
      few_waiting = ltb-false 64 n q.0;
      shallow = ltb-false 64 d r.0;
      known = slots_bound l known n s.1;
      room = λ g. (b g).0;
      running_known = λ g. (hand_bound known (running_word l) (b g).1).0;
      running_within = λ g. (b g).2;
    }

pub bounds : (t l : List ℕ) → ours t l ≡ true → Bounds t l
unfolding ours
bounds t l h =
    let p = through (table_fits t) (round_fits t l) h in
    record { table = table_bounds t p.0; round = round_bounds t l p.1 }
