-- `is_ours` is `ours`: each branch follows the definition's test. The bounds are then `bounds`.
use Rattle.lib_base.proofs.Prelude.{ℕ, ◌≤◌, ◌<◌, ◌≡◌, ◌∙◌, sym, true, false, Bool, List, length, le-ltb, lt-ltb}
use Rattle.lib_base.proofs.Prelude.{not-true, not-false, rules}
use Rattle.format_layout.specs.Layout.{event_count, event_word, waiting_count, running_flag, running_word}
use Rattle.format_layout.specs.Layout.{running_event, position, depth}
use Rattle.format_layout.specs.Foreign.{table_fits, hand_fits, slots_fit, running_fits, round_with, round_in, round_fits, ours}
use Rattle.format_layout.specs.Bounds.{TableBounds, Bounds}
use Rattle.format_layout.proofs.BoundsLaws.{bounds}
use Rattle.run_validate.proofs.is_ours.Statement.{statement}
use Rattle.run_validate.proofs.is_ours.Tie as tie

told : (t l : List ℕ) {x : Bool} → x ≡ ours t l → (x ≡ ours t l) × (x ≡ true → Bounds t l)
told t l e = (e, λ h. bounds t l (sym e ∙ h))

-- what is said of the running one, n waiting and k events known
abbrev running_in : List ℕ → List ℕ → ℕ → ℕ → Bool
running_in t l k n =
    running_fits n (running_flag l) (hand_fits k (running_word l)) (position l) (event_word t (running_event l) 2)

bad_table : (t l : List ℕ) {x : Bool} → x ≡ table_fits t → x ≡ false → false ≡ ours t l
unfolding ours
bad_table t l e h = rw (← e, h)

short : (t l : List ℕ) {x : Bool} → x ≡ table_fits t → x ≡ true → length l < 2048 → false ≡ ours t l
unfolding ours round_fits
short t l e h k = rw (← e, h, lt-ltb (length l) 2048 k)

-- the tests that are passed
opened : (t l : List ℕ) {x y : Bool} → x ≡ table_fits t → x ≡ true → 2048 ≤ length l → y ≡ round_in t l
    → y ≡ ours t l
unfolding ours round_fits
opened t l e h k p = rw (← e, h, le-ltb (length l) 2048 k) p

many : (t l : List ℕ) {n : ℕ} → n ≡ waiting_count l → 64 < n → false ≡ round_in t l
unfolding round_in round_with
many t l {n} e h = rw (← e, lt-ltb 64 n h)

deep : (t l : List ℕ) {n d : ℕ} → n ≡ waiting_count l → n ≤ 64 → d ≡ depth l → 64 < d → false ≡ round_in t l
unfolding round_in round_with
deep t l {n} {d} e h f g = rw (← e, ← f, le-ltb 64 n h, lt-ltb 64 d g)

runs_badly : (t l : List ℕ) {k n d : ℕ} {x : Bool} → k ≡ event_count t → n ≡ waiting_count l → n ≤ 64 → d ≡ depth l
    → d ≤ 64 → x ≡ running_in t l k n → x ≡ false → false ≡ round_in t l
unfolding round_in round_with
runs_badly t l {k} {n} {d} j e h f g p q = rw (← j, ← e, ← f, le-ltb 64 n h, le-ltb 64 d g, ← p, q)

fits : (t l : List ℕ) {k n d : ℕ} {x y : Bool} → k ≡ event_count t → n ≡ waiting_count l → n ≤ 64 → d ≡ depth l
    → d ≤ 64 → x ≡ running_in t l k n → x ≡ true → y ≡ slots_fit l k n → y ≡ round_in t l
unfolding round_in round_with
fits t l {k} {n} {d} j e h f g p q r = rw (← j, ← e, ← f, le-ltb 64 n h, le-ltb 64 d g, ← p, q) r

-- where the table fits
module _ (c : tie.Else-not-table_fits) where
  abbrev entry : tie.Start
  entry = c.before.before.before.before

  table_bounds : TableBounds entry.args.table.now
  table_bounds = c.before.table_fits.ensures.1 c.if-not-table_fits.false

-- and the round is long enough: what is left is told of it
module _ (c : tie.Else-round-lt-BYTES) where
  abbrev t : List ℕ
  t = (entry c.before).args.table.now

  abbrev l : List ℕ
  l = (entry c.before).args.round.now

  inside : {x : Bool} → x ≡ round_in t l → (x ≡ ours t l) × (x ≡ true → Bounds t l)
  inside q =
      told _ _ (opened _ _ c.before.before.table_fits.ensures.0 c.before.if-not-table_fits.false
      c.if-round-lt-BYTES.false q)

returns_4 : tie.Need-returns-then-get_word-gt-STACK
returns_4 c =
    inside c.before.before.before.before.before (deep _ _ c.before.before.before.get_word-waiting.ensures
    c.before.before.if-waiting-gt-QUEUE.false c.before.get_word.ensures c.if-get_word-gt-STACK.true)

returns_5 : tie.Need-returns-then-not-running_fits
returns_5 c =
    let shallow = c.before.before in
    let long = shallow.before.before.before.before.before in
    inside long (runs_badly _ _ shallow.before.before.before.before.get_word-known.ensures
    shallow.before.before.before.get_word-waiting.ensures shallow.before.before.if-waiting-gt-QUEUE.false
    shallow.before.get_word.ensures shallow.if-get_word-gt-STACK.false c.before.running_fits.ensures
    c.if-not-running_fits.true)

returns_6 : tie.Need-returns
returns_6 c =
    let shallow = c.before.before.before in
    let long = shallow.before.before.before.before.before in
    inside long (fits _ _ shallow.before.before.before.before.get_word-known.ensures
    shallow.before.before.before.get_word-waiting.ensures shallow.before.before.if-waiting-gt-QUEUE.false
    shallow.before.get_word.ensures shallow.if-get_word-gt-STACK.false c.before.before.running_fits.ensures
    c.before.if-not-running_fits.false c.slots_fit.ensures)

pub is_ours_spec : {M : Type 1} → statement M
is_ours_spec =
    tie.close
    (tie.spec (search rules)
    (λ c. told _ _ (bad_table _ _ c.before.table_fits.ensures.0 c.if-not-table_fits.true))
    (λ c.
    told _ _ (short _ _ c.before.before.table_fits.ensures.0 c.before.if-not-table_fits.false
    c.if-round-lt-BYTES.true))
    (λ c κs. let h = table_bounds c.before in search rules)
    (search rules)
    (λ c. inside c.before.before.before (many _ _ c.before.get_word-waiting.ensures c.if-waiting-gt-QUEUE.true))
    (search rules) returns_4
    (λ c κs. let h = table_bounds c.before.before.before.before.before.before in search rules)
    returns_5 (search rules) (search rules) returns_6)
