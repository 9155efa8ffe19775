-- Mend turns a table down for the passives' instructions just where one of them may not run: what an instruction leaves
-- on the stack is how deep its operation makes it, whatever the values. By its operation, and by induction on how many
-- instructions are left.
use Rattle.lib_base.proofs.Prelude.{ℕ, ◌≤◌, ◌+◌, ◌-◌, suc, zero, ◌*◌, ◌%◌, ◌/◌, ◌≡◌, refl, ◌∙◌, true, false, Bool, ◌&&◌}
use Rattle.lib_base.proofs.Prelude.{and-eq-true_iff, List, length, replicate, length-replicate, eqb, ltb, eqb-true}
use Rattle.lib_base.proofs.Prelude.{le-ltb, ltb-false, eqb-false, arith}
use Rattle.lib_base.specs.Basics.{pick}
use Rattle.lib_base.proofs.Tools.{by_test, split}
use Rattle.lib_word.specs.Word.{get_at, get, put}
use Rattle.lib_word.proofs.Laws.{length_put, get_same, get_other}
use Rattle.lib_signature.specs.Signature.{arity}
use Rattle.lib_signature.specs.Numbers.{not_fn, if_fn}
use Rattle.lib_arith.specs.Functions.{result_of, over}
use Rattle.spec_language.specs.Refusals.{foreign}
use Rattle.format_layout.specs.Layout.{passives_start, passives_length}
use Rattle.format_layout.specs.Foreign.{code_fits}
use Rattle.format_layout.proofs.BoundsLaws.{code_bound, fit_code}
use Rattle.run_instruction.specs.Stack.{push_on, pop_to, noted, apply_one, apply_two, apply_three, apply_on}
use Rattle.run_instruction.specs.Instruction.{transfer, perform}
use Rattle.run_instruction.proofs.Performs.{perform_keeps}
use Rattle.run_stretch.specs.Stretch.{stretch_on, stretch_at, stretch_from}
use Rattle.run_carry.specs.Carry.{filled_store, worked_out, carry_on}
use Rattle.run_carry.proofs.CarryLaws.{length_filled, filled_head}
use Rattle.claims.specs.Demand1.{may_run_at, depth_after, all_run, PassivesRun}

-- ---- how deep the stack is

module _ (l : List ℕ) (long : 2048 ≤ length l) where
  -- the stack of m has depth d
  abbrev Deep : ℕ → List ℕ → Type 0
  Deep d m = get m 6 ≡ d

  put_deep : (m : List ℕ) (d : ℕ) → length m ≡ length l → Deep d (put m 6 d)
  put_deep m d e = get_same m 6 d (omega arith)

  transfer_deep : (k j : ℕ) → 136 ≤ j → Deep (get l 6) (transfer l k j)
  unfolding transfer
  transfer_deep k j h = get_other l j (get l k) 6 (omega arith)

  push_deep : (d v : ℕ) → Deep (d + 1) (push_on l d v)
  unfolding push_on
  push_deep d v = put_deep (put l (328 + d) v) (d + 1) (length_put l (328 + d) v)

  pop_deep : (d k : ℕ) → Deep (d - 1) (pop_to l d k)
  unfolding pop_to
  pop_deep d k = put_deep (put l k (get l (327 + d))) (d - 1) (length_put l k (get l (327 + d)))

  noted_length : (m : Bool) → length (noted l m) ≡ length l
  unfolding noted
  noted_length m = by_test (λ (x : List ℕ). length x ≡ length l) m (λ e. length_put l 7 1) (λ e. refl)

  noted_deep : (m : Bool) → Deep (get l 6) (noted l m)
  unfolding noted
  noted_deep m = by_test (Deep (get l 6)) m (λ e. get_other l 7 1 6 (omega arith)) (λ e. refl)

  apply_deep : (f : ℕ) → Deep (get l 6 - (arity f - 1)) (apply_on l (get l 6) f)
  unfolding apply_on apply_one apply_two apply_three arity
  apply_deep f =
      let d = get l 6 in
      let x = get l (327 + d) in
      let y = get l (326 + d) in
      let z = get l (325 + d) in
      split (eqb f not_fn)
      (λ e. let z : d ≡ d - 0 = omega arith in rw e (get_other (noted l (over f x 0 0)) (327 + d) (result_of f x 0 0) 6 (omega arith) ∙ noted_deep (over f x 0 0) ∙ z))
      (λ e. split (eqb f if_fn)
      (λ g. rw (e, g) (put_deep (put (noted l (over f z y x)) (325 + d) (result_of f z y x)) (d - 2) (length_put (noted l (over f z y x)) (325 + d) (result_of f z y x) ∙ noted_length (over f z y x))))
      (λ g. rw (e, g) (put_deep (put (noted l (over f y x 0)) (326 + d) (result_of f y x 0)) (d - 1) (length_put (noted l (over f y x 0)) (326 + d) (result_of f y x 0) ∙ noted_length (over f y x 0)))))

  -- an operation that is none of those from 5 to 10 leaves it
  other_deep : (op s d : ℕ) → eqb op 5 ≡ false → eqb op 6 ≡ false → eqb op 7 ≡ false → eqb op 8 ≡ false → eqb op 9 ≡ false → eqb op 10 ≡ false → d ≡ depth_after op s d
  other_deep op s d e5 e6 e7 e8 e9 e10 =
      split (ltb op 5) (λ a. rw a)
      (λ a.
      let h5 = ltb-false op 5 a in
      let h8 : ltb op 8 ≡ false = le-ltb op 8 (omega (arith, eqb-false op 5 e5, eqb-false op 6 e6, eqb-false op 7 e7)) in
      let h11 : ltb op 11 ≡ false = le-ltb op 11 (omega (arith, ltb-false op 8 h8, eqb-false op 8 e8, eqb-false op 9 e9, eqb-false op 10 e10)) in
      rw (a, h8, e8, h11))

  perform_deep : (op s w : ℕ) → Deep (depth_after op s (get l 6)) (perform l op s w (get l 6))
  unfolding perform
  perform_deep op s w =
      let d = get l 6 in
      let P = Deep (depth_after op s d) in
      by_test P (eqb op 3) (λ e. rw (eqb-true op 3 e) (transfer_deep (136 + s) (200 + s) (omega arith)))
      (λ e3. by_test P (eqb op 4) (λ e. rw (eqb-true op 4 e) (transfer_deep (200 + s) (136 + s) (omega arith)))
      (λ e4. by_test P (eqb op 5) (λ e. rw (eqb-true op 5 e) (push_deep d w))
      (λ e5. by_test P (eqb op 6) (λ e. rw (eqb-true op 6 e) (push_deep d (get l (136 + s))))
      (λ e6. by_test P (eqb op 7) (λ e. rw (eqb-true op 7 e) (push_deep d (get l (200 + s))))
      (λ e7. by_test P (eqb op 8) (λ e. rw (eqb-true op 8 e) (apply_deep s))
      (λ e8. by_test P (eqb op 9) (λ e. rw (eqb-true op 9 e) (pop_deep d (200 + s)))
      (λ e9. by_test P (eqb op 10) (λ e. rw (eqb-true op 10 e) (pop_deep d (264 + s)))
      (λ e10. by_test P (eqb op 11) (λ e. rw (eqb-true op 11 e) (transfer_deep (264 + s) (200 + s) (omega arith)))
      (λ e11. other_deep op s d e5 e6 e7 e8 e9 e10)))))))))

-- ---- a stretch of instructions

pub stretch_answers : (t : List ℕ) (k n d : ℕ) (l : List ℕ) → 2048 ≤ length l → get l 6 ≡ d → (stretch_from t k n l).0 ≡ pick (all_run t k n d) 0 foreign
unfolding stretch_from stretch_at stretch_on all_run
stretch_answers t k zero d l long q = refl
stretch_answers t k (suc n) d l long q =
    let a = get t (512 + k * 2) in
    let w = get t (513 + k * 2) in
    let m = perform l (a / 256) (a % 256) w (get l 6) in
    split (may_run_at t k (get l 6))
    (λ e.
    let ih = stretch_answers t (k + 1) n (depth_after (a / 256) (a % 256) (get l 6)) m (omega (arith, (perform_keeps l (a / 256) (a % 256) w (get l 6)).long)) (perform_deep l long (a / 256) (a % 256) w) in
    rw (← q, e) ih)
    (λ e. rw (← q, e))

-- the tests of the passives' instructions
abbrev pub passives_pass : List ℕ → Bool
passives_pass t = code_fits (passives_start t) (passives_length t) && all_run t (passives_start t) (passives_length t) 0

pub passives_say : (t : List ℕ) → passives_pass t ≡ true → PassivesRun t
passives_say t h =
    let p = (and-eq-true_iff (code_fits (passives_start t) (passives_length t)) (all_run t (passives_start t) (passives_length t) 0)).0 h in
    (code_bound (passives_start t) (passives_length t) p.0, p.1)

pub passives_are : (t : List ℕ) → PassivesRun t → passives_pass t ≡ true
passives_are t h = rw (fit_code (passives_start t) (passives_length t) h.0) h.1

pub carry_answers : (old t l : List ℕ) → (carry_on old t l (replicate 2048 0)).0 ≡ pick (passives_pass t) 0 foreign
unfolding carry_on worked_out get get_at
carry_answers old t l =
    let m = filled_store old t l (replicate 2048 0) 64 in
    let k = passives_start t in
    let n = passives_length t in
    let long : 2048 ≤ length m = omega (arith, length_filled old t l (replicate 2048 0) 64, length-replicate {A = ℕ} 2048 0) in
    split (code_fits k n)
    (λ e. rw e (stretch_answers t k n 0 m long (filled_head old t l (replicate 2048 0) 64 6 (omega arith))))
    (λ e. rw e)
