-- The reads are the definition's, by `opened`; the instruction lies in the table, by `in_code`, and is a stretch of
-- one. Each return is one branch of `execute_on`.
use Rattle.lib_base.proofs.Prelude.{ℕ, ◌≤◌, ◌<◌, ◌+◌, ◌*◌, ◌%◌, ◌/◌, ◌≡◌, ◌∙◌, ap, ◌≢◌, List, le-ltb, lt-ltb, lt-leb}
use Rattle.lib_base.proofs.Prelude.{le-leb, rules, arith}
use Rattle.lib_base.proofs.Tools.{split}
use Rattle.lib_word.specs.Word.{get, put}
use Rattle.spec_language.specs.Refusals as refusals
use Rattle.spec_language.specs.Answers as kinds
use Rattle.format_layout.specs.Layout.{event_of, event_word, running_word, running_number, position, depth, mark_word}
use Rattle.format_layout.specs.Round.{CallResult, call_result}
use Rattle.run_instruction.specs.Allowed.{may_run}
use Rattle.run_instruction.specs.Instruction.{perform}
use Rattle.run_stretch.specs.Stretch.{stretch_on, stretch_at, stretch_from}
use Rattle.run_stretch.proofs.Late.{of_one}
use Rattle.run_advance.proofs.Laws.{in_code}
use Rattle.run_advance.specs.Advance.{commit_said, count_instruction, execute_on, execute_at, advance_on, advance_left}
use Rattle.run_advance.proofs.advance_on.Statement.{statement}
use Rattle.run_advance.proofs.advance_on.Tie as tie

opened : (t l : List ℕ) {hand n c e s len : ℕ} {r : CallResult} → hand ≡ running_word l → n ≡ running_number l
    → c ≡ position l → e ≡ event_of hand → s ≡ event_word t e 1 → len ≡ event_word t e 2
    → c < len → r ≡ execute_at t l (s + c) c hand n len → r ≡ advance_left t l
unfolding advance_left advance_on
opened t l {hand} {n} {c} {e} {s} {len} o p q d f g h z = rw (← o, ← p, ← q, ← d, ← f, ← g, lt-leb len c h) z

-- none is left
over : (t l : List ℕ) {hand c e len : ℕ} → hand ≡ running_word l → c ≡ position l → e ≡ event_of hand → len ≡ event_word t e 2 → len ≤ c
    → call_result refusals.foreign l ≡ advance_left t l
unfolding advance_left
over t l {hand} {c} {e} {len} o q d g h = rw (← o, ← q, ← d, ← g, le-leb len c h)

-- the instruction of first word a and constant w answered x and left m
module _ (l : List ℕ) (a w c hand n len : ℕ) {x : ℕ} {m : List ℕ} (e : call_result x m ≡ stretch_on l a w) where
  refused_on : x ≢ 0 → call_result refusals.foreign m ≡ execute_on l a w c hand n len
  unfolding stretch_on execute_on
  refused_on h =
      split (may_run (a / 256) (a % 256) (depth l))
      (λ g. absurd (h (ap (λ (r : CallResult). r.0) (rw g at e))))
      (λ g. let q : m ≡ l = ap (λ (r : CallResult). r.1) (rw g at e) in rw (g, q))

  performed_on : {r : CallResult} → x ≡ 0 → r ≡ count_instruction m c hand n len → r ≡ execute_on l a w c hand n len
  unfolding stretch_on execute_on
  performed_on h z =
      split (may_run (a / 256) (a % 256) (depth l))
      (λ g.
      let q : m ≡ perform l (a / 256) (a % 256) w (depth l) = ap (λ (r : CallResult). r.1) (rw g at e) in
      rw (g, ← q) z)
      (λ g. let q : x ≡ refusals.foreign = ap (λ (r : CallResult). r.0) (rw g at e) in absurd (omega arith))

-- instruction k of the table did
module _ (t l : List ℕ) (k c hand n len : ℕ) {x : ℕ} {m : List ℕ} (r₀ : call_result x m ≡ stretch_from t k 1 l) where
  e : call_result x m ≡ stretch_at t l k
  e = r₀ ∙ of_one t l k

  foreign : x ≢ 0 → call_result refusals.foreign m ≡ execute_at t l k c hand n len
  unfolding stretch_at execute_at
  foreign h = refused_on l (get t (512 + k * 2)) (get t (513 + k * 2)) c hand n len e h

  goes_on : {o : List ℕ} → x ≡ 0 → c + 1 < len → o ≡ put m 5 (c + 1)
      → call_result kinds.ran o ≡ execute_at t l k c hand n len
  unfolding stretch_at execute_at count_instruction
  goes_on h g r =
      performed_on l (get t (512 + k * 2)) (get t (513 + k * 2)) c hand n len e h (rw (lt-ltb (c + 1) len g, r))

  commits : {v y : ℕ} {o : List ℕ} → x ≡ 0 → len ≤ c + 1 → v ≡ mark_word m → o ≡ put m 2 0 → y ≡ commit_said n hand v
      → call_result y o ≡ execute_at t l k c hand n len
  unfolding stretch_at execute_at count_instruction
  commits h g r s f =
      performed_on l (get t (512 + k * 2)) (get t (513 + k * 2)) c hand n len e h
      (rw (le-ltb (c + 1) len g, ← r, f, s))

-- where all is read: the running event's word, its number, how far it is, where its code starts and how long that is
module _ (c : tie.After-event_word-length) where
  abbrev done : ℕ
  done = c.get_word-done.result

  abbrev start : ℕ
  start = c.event_word-start.result + done

  in_table : done < c.event_word-length.result → start < 4096
  in_table h =
      in_code _ _ c.requires.0 c.requires.3 c.get_word-word.ensures c.event_of-event.ensures
      c.event_word-start.ensures c.event_word-length.ensures h

  advances : {r : CallResult} → done < c.event_word-length.result
      → r ≡ execute_at c.args.table.now c.args.round.now start done
      c.get_word-word.result c.get_word-number.result c.event_word-length.result
      → r ≡ advance_left c.args.table.now c.args.round.now
  advances =
      opened _ _ c.get_word-word.ensures c.get_word-number.ensures c.get_word-done.ensures
      c.event_of-event.ensures c.event_word-start.ensures c.event_word-length.ensures

returns : tie.Need-returns-then-length-done
returns c =
    over _ _ c.get_word-word.ensures c.get_word-done.ensures c.event_of-event.ensures
    c.event_word-length.ensures c.if-length-done.true

returns_2 : tie.Need-returns-then-execute_from-ne0
returns_2 c =
    let left = c.before.before.before.before.before in
    advances left.before c.if-length-done.false (foreign _ _ _ _ _ _ _ c.execute_from.ensures c.if-execute_from-ne0.true)

returns_3 : tie.Need-returns-then-done-length
returns_3 c =
    let left = c.before.before.before.before.before.before.before.before.before.before in
    advances left.before c.if-length-done.false (goes_on _ _ _ _ _ _ _ c.execute_from.ensures
    c.if-execute_from-ne0.false c.if-done-length.true c.put_word.ensures)

returns_4 : tie.Need-returns
returns_4 c =
    let left = c.before.before.before.before.before.before.before.before.before.before.before.before in
    advances left.before c.if-length-done.false (commits _ _ _ _ _ _ _ c.execute_from.ensures
    c.if-execute_from-ne0.false c.if-done-length.false c.get_word-mark.ensures
    c.put_word-2.ensures c.commit_of.ensures)

pub advance_on_spec : {M : Type 1} → statement M
advance_on_spec =
    tie.close
    (tie.spec (search rules) (search rules) (search rules) (search rules) (search rules) (search rules) (search rules) returns
    (λ c. omega (arith, in_table c.before.before c.if-length-done.false))
    (search rules)
    (λ c κs. let h = in_table c.before.before c.if-length-done.false in let p = c.requires in omega (arith, p.0.long, p.1, p.2))
    (search rules) returns_2 (search rules) (search rules) (search rules) (search rules) returns_3
    (search rules) (search rules) (search rules) (search rules) returns_4)
