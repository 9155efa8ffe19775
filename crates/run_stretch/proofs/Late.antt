-- A stretch whose depth's word is written at the end is the stretch that writes it at each instruction: by induction on
-- the instructions, each by `late_executed`.
use Rattle.lib_base.proofs.Prelude.{ℕ, ◌≤◌, ◌<◌, ◌+◌, ◌-◌, suc, zero, ◌*◌, ◌%◌, ◌/◌, ◌≡◌, refl, ◌∙◌, sym, ap, true}
use Rattle.lib_base.proofs.Prelude.{false, Bool, ◌≢◌, List, length, get_or, eqb, ltb, ne_eqb, eqb-true, le-ltb, lt-ltb}
use Rattle.lib_base.proofs.Prelude.{ltb-false, ltb-true, arith}
use Rattle.lib_base.specs.Basics.{pick}
use Rattle.lib_base.proofs.Tools.{split}
use Rattle.lib_word.specs.Word.{get, put}
use Rattle.lib_word.proofs.Laws.{length_put, get_same}
use Rattle.spec_language.specs.Refusals.{foreign}
use Rattle.format_layout.specs.Round.{CallResult, call_result}
use Rattle.run_instruction.specs.Allowed.{may_run}
use Rattle.run_instruction.specs.Instruction.{perform}
use Rattle.run_instruction.specs.Execution.{Left, left, none}
use Rattle.run_instruction.proofs.Performs.{perform_keeps}
use Rattle.run_instruction.proofs.Puts.{put_as_it_is}
use Rattle.run_instruction.proofs.Late.{late_executed, barred}
use Rattle.run_stretch.specs.Stretch.{stretch_on, stretch_at, stretch_from, RanTo, ran_to, executed_at, after_others, ran_from}

-- ---- one instruction on a round whose depth is d

module _ (t l : List ℕ) (d k : ℕ) (shallow : d ≤ 64) where
  abbrev word : ℕ
  word = get t (512 + k * 2)

  abbrev constant : ℕ
  constant = get t (513 + k * 2)

  abbrev pub May : Bool
  May = may_run (word / 256) (word % 256) d

  abbrev out : Left
  out = executed_at t l k d

  -- it may run: what it does but for the depth, which is one of a stack
  pub ran_late : May ≡ true → (perform (put l 6 d) (word / 256) (word % 256) constant d ≡ put out.1 6 out.0) × (out.0 ≤ 64)
  unfolding executed_at
  ran_late may = late_executed l d shallow word constant may

  -- it may not
  pub barred_late : May ≡ false → out ≡ (none, l)
  unfolding executed_at
  barred_late may = barred l word constant d may

  pub ran_length : May ≡ true → length out.1 ≡ length l
  ran_length may =
      sym (length_put out.1 6 out.0) ∙ sym (ap (λ (m : List ℕ). length m) (ran_late may).0)
      ∙ (perform_keeps (put l 6 d) (word / 256) (word % 256) constant d).long ∙ length_put l 6 d

  -- by what it answers
  pub goes : out.0 ≢ none → May ≡ true
  goes h = split May (λ e. e) (λ e. absurd (h (ap (λ (o : Left). o.0) (barred_late e))))

  pub stops : out.0 ≡ none → May ≡ false
  stops h = split May (λ e. absurd (omega (arith, h, (ran_late e).1))) (λ e. e)

  -- the same with the depth in its word
  module _ (long : 2048 ≤ length l) where
    depth_is : get (put l 6 d) 6 ≡ d
    depth_is = get_same l 6 d (omega arith)

    pub at_ran : May ≡ true → stretch_at t (put l 6 d) k ≡ (0, put out.1 6 out.0)
    unfolding stretch_at stretch_on
    at_ran may = rw (depth_is, may, (ran_late may).0)

    pub at_barred : May ≡ false → stretch_at t (put l 6 d) k ≡ (foreign, put l 6 d)
    unfolding stretch_at stretch_on
    at_barred may = rw (depth_is, may)

-- ---- n of them

-- the depth's word is written at the end
abbrev outcome : ℕ → RanTo → CallResult
outcome n r = (pick (ltb r.0 n) foreign 0, put r.2 6 r.1)

one_more : (i n : ℕ) → ltb (1 + i) (suc n) ≡ ltb i n
one_more i n =
    split (ltb i n) (λ e. rw e (lt-ltb (1 + i) (suc n) (omega (arith, ltb-true i n e))))
    (λ e. rw e (le-ltb (1 + i) (suc n) (omega (arith, ltb-false i n e))))

at_end_law : (t : List ℕ) (n k d : ℕ) (l : List ℕ) → 2048 ≤ length l → d ≤ 64 → stretch_from t k n (put l 6 d) ≡ outcome n (ran_from t k n d l)
unfolding stretch_from ran_from
at_end_law t zero k d l h s = refl
at_end_law t (suc n) k d l h s =
    let o = executed_at t l k d in
    split (May t l d k s)
    (λ may.
    let r = ran_late t l d k s may in
    let len = ran_length t l d k s may in
    let c : eqb o.0 none ≡ false = ne_eqb o.0 none (omega (arith, r.1)) in
    rw (at_ran t l d k s h may, c, one_more (ran_from t (k + 1) n o.0 o.1).0 n) (at_end_law t n (k + 1) o.0 o.1 (omega arith) r.1))
    (λ may. rw (at_barred t l d k s h may, barred_late t l d k s may, lt-ltb 0 (suc n) (omega arith)))

pub written_late : (t : List ℕ) (k n : ℕ) (l : List ℕ) {d i e : ℕ} {m : List ℕ} → ((i : ℕ) → get_or l i 0 < 256) → 2048 ≤ length l → d ≤ 64 → d ≡ get l 6
    → ran_to i e m ≡ ran_from t k n d l → call_result (pick (ltb i n) foreign 0) (put m 6 e) ≡ stretch_from t k n l
written_late t k n l {d} {i} {e} {m} bytes h s q r =
    let z : put l 6 d ≡ l = rw q (put_as_it_is l 6 bytes) in
    ap (λ (o : RanTo). outcome n o) r ∙ sym (at_end_law t n k d l h s) ∙ ap (λ (x : List ℕ). stretch_from t k n x) z

-- a stretch of one
pub of_one : (t l : List ℕ) (k : ℕ) → stretch_from t k 1 l ≡ stretch_at t l k
unfolding stretch_from
of_one t l k =
    split (eqb (stretch_at t l k).0 0)
    (λ e. rw e (ap (λ (x : ℕ). call_result x (stretch_at t l k).1) (sym (eqb-true (stretch_at t l k).0 0 e)))) (λ e. rw e)

-- ---- the loop: what is left, after those that ran, is the whole

none_before : (r : RanTo) → after_others 0 r ≡ r
none_before (i, d, l) = let z : 0 + i ≡ i = omega arith in rw z

one_before : (i : ℕ) (r : RanTo) → after_others i (after_others 1 r) ≡ after_others (i + 1) r
one_before i (j, d, l) = let z : i + (1 + j) ≡ i + 1 + j = omega arith in rw z

pub record Turn (t l₀ : List ℕ) (k n d₀ : ℕ) (l : List ℕ) (done deep : ℕ) : Type 0 where
  pub whole : after_others done (ran_from t (k + done) (n - done) deep l) ≡ ran_from t k n d₀ l₀
  pub as_long : length l ≡ length l₀
  pub shallow : deep ≤ 64
  pub within : done ≤ n

pub begin : {t l : List ℕ} {k n d : ℕ} → d ≤ 64 → Turn t l k n d l 0 d
begin {t} {l} {k} {n} {d} h =
    let y : k + 0 ≡ k = omega arith in
    let z : n - 0 ≡ n = omega arith in
    record { whole = rw (y, z) (none_before (ran_from t k n d l)); as_long = refl; shallow = h; within = omega arith }

module _ {t l₀ : List ℕ} {k n d₀ : ℕ} {l : List ℕ} {done deep : ℕ} (u : Turn t l₀ k n d₀ l done deep) where
  abbrev rest : ℕ
  rest = n - (done + 1)

  more : done < n → n - done ≡ suc rest
  more h = omega arith

  pub halt : {a : ℕ} {m : List ℕ} → done < n → left a m ≡ executed_at t l (k + done) deep → a ≡ none → ran_to done deep m ≡ ran_from t k n d₀ l₀
  unfolding ran_from
  halt {a} {m} h e b =
      let o : (executed_at t l (k + done) deep).0 ≡ none = sym (ap (λ (x : Left). x.0) e) ∙ b in
      let may = stops t l deep (k + done) u.shallow o in
      let q : m ≡ l = ap (λ (x : Left). x.1) (e ∙ barred_late t l deep (k + done) u.shallow may) in
      let z : done + 0 ≡ done = omega arith in
      rw q (rw (more h, o, z) at u.whole)

  pub turn : {a : ℕ} {m : List ℕ} → done < n → left a m ≡ executed_at t l (k + done) deep → a ≢ none → Turn t l₀ k n d₀ m (done + 1) a
  unfolding ran_from
  turn {a} {m} h e b =
      let o : (executed_at t l (k + done) deep).0 ≡ a = sym (ap (λ (x : Left). x.0) e) in
      let p : (executed_at t l (k + done) deep).1 ≡ m = sym (ap (λ (x : Left). x.1) e) in
      let may = goes t l deep (k + done) u.shallow (λ z. b (sym o ∙ z)) in
      let z : k + (done + 1) ≡ k + done + 1 = omega arith in
      record {
        whole = rw z (sym (one_before done (ran_from t (k + done + 1) rest a m)) ∙ (rw (more h, o, p, ne_eqb a none b) at u.whole));
        as_long = sym (ap (λ (x : List ℕ). length x) p) ∙ ran_length t l deep (k + done) u.shallow may ∙ u.as_long;
        shallow = omega (arith, o, (ran_late t l deep (k + done) u.shallow may).1);
        within = omega arith;
      }

  pub end : n ≤ done → ran_to done deep l ≡ ran_from t k n d₀ l₀
  unfolding ran_from
  end h =
      let y : n - done ≡ 0 = omega arith in
      let z : done + 0 ≡ done = omega arith in
      rw (y, z) at u.whole
