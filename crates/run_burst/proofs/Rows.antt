-- Instructions in a row, the depth by value and depth and position written at the end, are as many steps: none of them
-- is the last, and nothing outranks the running one. By induction on how many, each by `late_executed`.
use Rattle.lib_base.proofs.Prelude.{ℕ, ◌≤◌, ◌<◌, ◌+◌, ◌-◌, suc, zero, ◌*◌, ◌%◌, ◌/◌, ◌≡◌, refl, ◌∙◌, sym, subst, true}
use Rattle.lib_base.proofs.Prelude.{false, Bool, ◌≢◌, List, length, get_or, eqb, ne_eqb, lt-ltb, lt-leb, arith}
use Rattle.lib_base.proofs.Tools.{split}
use Rattle.lib_word.specs.Word.{get, put}
use Rattle.lib_word.proofs.Laws.{get_same, get_other}
use Rattle.format_layout.specs.Layout.{event_word, event_of, running_flag, running_word, running_event, position, depth}
use Rattle.run_instruction.specs.Allowed.{may_run}
use Rattle.run_instruction.specs.Instruction.{perform}
use Rattle.run_instruction.specs.Execution.{none}
use Rattle.run_instruction.proofs.Puts.{put_again, put_as_it_is}
use Rattle.run_instruction.proofs.Late.{frame}
use Rattle.run_stretch.specs.Stretch.{RanTo, ran_to, executed_at, ran_from}
use Rattle.run_stretch.proofs.Late.{May, ran_late, barred_late, ran_length}
use Rattle.run_advance.specs.Advance.{count_instruction, execute_on, execute_at, advance_on, advance_left}
use Rattle.run_step.specs.Machine.{step_on}
use Rattle.run_step.specs.Sound.{RoundSound, is_outranked, is_preempted}
use Rattle.run_step.proofs.Moves.{ran_sound, ran_outranked, ran_position, ran_flag, ran_word}
use Rattle.run_step.proofs.Steps.{known, table_fine, step_advances}
use Rattle.run_burst.specs.Burst.{unmade, burst_on}
use Rattle.run_burst.specs.Progress.{InstructionsRun}

-- m instructions from instruction c on may be made at once: none of them is the last, and nothing outranks the running
-- one, whose code begins at `start`
pub record Ready (t l : List ℕ) (start c m : ℕ) : Type 0 where
  pub sound : RoundSound t l
  pub calm : is_outranked t l ≡ false
  pub runs : running_flag l ≢ 0
  pub at : position l ≡ c
  pub begins : event_word t (running_event l) 1 ≡ start
  pub ends : c + m < event_word t (running_event l) 2

-- the words that say so
pub make_ready : {t l : List ℕ} {o : Bool} {f c e len start m : ℕ} → RoundSound t l → is_outranked t l ≡ o → o ≡ false → f ≡ get l 2 → f ≢ 0 → c ≡ get l 5
    → e ≡ event_of (get l 3) → len ≡ event_word t e 2 → start ≡ event_word t e 1 → c + m < len → Ready t l start c m
make_ready s o q a b d x y z w = record {
  sound = s;
  calm = o ∙ q;
  runs = λ h. b (a ∙ h);
  at = sym d;
  begins = rw (← x) (sym z);
  ends = rw (← x, ← y) w;
}

pub in_code : {t l : List ℕ} {start c m : ℕ} → Ready t l start c m → start + (c + m) < 4096
in_code {t} {l} r = omega (arith, (table_fine t l r.sound).codes (running_event l) (known t l r.sound r.runs), r.begins, r.ends)

pub none_ran : {t l : List ℕ} → RoundSound t l → InstructionsRun t l 0 l
none_ran s = record { same = λ k. let z : 0 + k ≡ k = omega arith in rw z; sound = s; rank = refl }

-- ---- one of them

calm_goes : (t l : List ℕ) → is_preempted t l false ≡ false
unfolding is_preempted
calm_goes t l = refl

module _ {t l : List ℕ} {start c m : ℕ} (r : Ready t l start c (suc m)) where
  abbrev word : ℕ
  word = get t (512 + (start + c) * 2)

  abbrev constant : ℕ
  constant = get t (513 + (start + c) * 2)

  abbrev after : List ℕ
  after = perform l (word / 256) (word % 256) constant (depth l)

  abbrev next : List ℕ
  next = put after 5 (c + 1)

  module _ (may : may_run (word / 256) (word % 256) (depth l) ≡ true) where
    step_ran : step_on t l ≡ (1, next)
    unfolding advance_left advance_on execute_at execute_on count_instruction
    step_ran =
        let len = event_word t (running_event l) 2 in
        step_advances t l r.sound false r.calm r.runs (calm_goes t l)
        ∙ rw (lt-leb len (position l) (omega (arith, r.at, r.ends)), r.begins, r.at, may, lt-ltb (c + 1) len (omega (arith, r.ends)))

    same_rank : is_outranked t next ≡ is_outranked t l
    same_rank = ran_outranked t l r.sound (word / 256) (word % 256) constant may (c + 1)

    same_word : running_word next ≡ running_word l
    same_word = ran_word t l r.sound (word / 256) (word % 256) constant may (c + 1)

    same_flag : running_flag next ≡ running_flag l
    same_flag = ran_flag t l r.sound (word / 256) (word % 256) constant may (c + 1)

    next_ready : Ready t next start (c + 1) m
    next_ready = record {
      sound = ran_sound t l r.sound (word / 256) (word % 256) constant may (c + 1);
      calm = same_rank ∙ r.calm;
      runs = λ z. r.runs (sym same_flag ∙ z);
      at = ran_position t l r.sound (word / 256) (word % 256) constant may (c + 1);
      begins = rw same_word r.begins;
      ends = let z : c + 1 + m ≡ c + suc m = omega arith in rw (z, same_word) r.ends;
    }

    one_ran : (step_on t l ≡ (1, next)) × Ready t next start (c + 1) m × (is_outranked t next ≡ is_outranked t l)
    one_ran = (step_ran, next_ready, same_rank)

burst_ran : (t l l' : List ℕ) (k : ℕ) → step_on t l ≡ (1, l') → burst_on t (suc k) l ≡ burst_on t k l'
unfolding burst_on unmade
burst_ran t l l' k e = rw e

-- and then others
then : {t l l' l'' : List ℕ} {i : ℕ} → step_on t l ≡ (1, l') → is_outranked t l' ≡ is_outranked t l → InstructionsRun t l' i l'' → InstructionsRun t l (1 + i) l''
then {t} {l} {l'} {l''} {i} e q g = record {
  same = λ k. let s : 1 + i + k ≡ suc (i + k) = omega arith in rw s (burst_ran t l l' (i + k) e ∙ g.same k);
  sound = g.sound;
  rank = g.rank ∙ q;
}

-- ---- in a row

-- the round with depth and position written
abbrev written : List ℕ → ℕ → ℕ → List ℕ
written l d c = put (put l 6 d) 5 c

module _ (l : List ℕ) (d c : ℕ) (long : 2048 ≤ length l) where
  depth_is : depth (written l d c) ≡ d
  depth_is = get_other (put l 6 d) 5 c 6 (omega arith) ∙ get_same l 6 d (omega arith)

  -- one instruction, and the position after it
  one_late : (t : List ℕ) (k : ℕ) (s : d ≤ 64) → May t l d k s ≡ true
      → put (perform (written l d c) (get t (512 + k * 2) / 256) (get t (512 + k * 2) % 256) (get t (513 + k * 2)) d) 5 (c + 1)
      ≡ written (executed_at t l k d).1 (executed_at t l k d).0 (c + 1)
  one_late t k s may =
      let a = get t (512 + k * 2) in
      let o = executed_at t l k d in
      rw (frame (put l 6 d) c (a / 256) (a % 256) (get t (513 + k * 2)) d, (ran_late t l d k s may).0) (put_again (put o.1 6 o.0) 5 c (c + 1))

row : (t : List ℕ) (m start c d : ℕ) (l : List ℕ) → 2048 ≤ length l → d ≤ 64 → Ready t (written l d c) start c m
    → InstructionsRun t (written l d c) (ran_from t (start + c) m d l).0
    (written (ran_from t (start + c) m d l).2 (ran_from t (start + c) m d l).1 (c + (ran_from t (start + c) m d l).0))
unfolding ran_from
row t zero start c d l h s r = let z : c + 0 ≡ c = omega arith in rw z (none_ran r.sound)
row t (suc m) start c d l h s r =
    let k = start + c in
    let o = executed_at t l k d in
    split (May t l d k s)
    (λ may.
    let q = ran_late t l d k s may in
    let e : eqb o.0 none ≡ false = ne_eqb o.0 none (omega (arith, q.1)) in
    let j = ran_from t (k + 1) m o.0 o.1 in
    let len = ran_length t l d k s may in
    let one = one_ran r (rw (depth_is l d c h) may) in
    let to = rw (depth_is l d c h, one_late l d c h t k s may) at one in
    let rest = row t m start (c + 1) o.0 o.1 (omega arith) q.1 to.1 in
    let y : start + (c + 1) ≡ k + 1 = omega arith in
    let z : c + (1 + j.0) ≡ c + 1 + j.0 = omega arith in
    rw (e, z) (then to.0 to.2 (rw y at rest)))
    (λ may. let z : c + 0 ≡ c = omega arith in rw (barred_late t l d k s may, z) (none_ran r.sound))

-- what a stretch leaves, with depth and position written
pub rows : (t l : List ℕ) {start c n d i e : ℕ} {m x y : List ℕ} → ((i : ℕ) → get_or l i 0 < 256) → Ready t l start c n → d ≡ get l 6 → c ≡ get l 5
    → ran_to i e m ≡ ran_from t (start + c) n d l → x ≡ put m 6 e → y ≡ put x 5 (c + i) → InstructionsRun t l i y
rows t l {start} {c} {n} {d} {i} {e} {m} {x} {y} bytes r p q f g h =
    let u : put l 6 d ≡ l = rw p (put_as_it_is l 6 bytes) in
    let v : written l d c ≡ l = rw (u, q) (put_as_it_is l 5 bytes) in
    let a : InstructionsRun t (written l d c) i (written m e (c + i)) =
    subst (λ (o : RanTo). InstructionsRun t (written l d c) o.0 (written o.2 o.1 (c + o.0))) (sym f)
    (row t n start c d l r.sound.long (omega (arith, p, r.sound.shallow)) (rw v r)) in
    rw (h, g) (rw v at a)
