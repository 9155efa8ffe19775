-- An instruction that may run leaves a stack of at most 64 and the round's length: by its operation.
use Rattle.lib_base.proofs.Prelude.{ℕ, ◌≤◌, ◌<◌, ◌+◌, ◌-◌, ◌≡◌, refl, ◌∙◌, true, List, length, eqb, eqb-true, arith}
use Rattle.lib_base.proofs.Tools.{by_test}
use Rattle.lib_word.specs.Word.{get, put}
use Rattle.lib_word.proofs.Laws.{length_put, get_same, get_other}
use Rattle.lib_signature.specs.Numbers.{not_fn, if_fn}
use Rattle.lib_arith.specs.Functions.{result_of, over}
use Rattle.run_instruction.specs.Stack.{push_on, pop_to, noted, apply_one, apply_two, apply_three, apply_on}
use Rattle.run_instruction.specs.Allowed.{may_run}
use Rattle.run_instruction.proofs.AllowedLaws.{push_room}
use Rattle.run_instruction.specs.Instruction.{transfer, perform}

-- a stack of at most 64
abbrev Shallow : List ℕ → Type 0
Shallow l = get l 6 ≤ 64

module _ (l : List ℕ) (long : 2048 ≤ length l) where
  -- the depth put last
  put_shallow : (m : List ℕ) (d : ℕ) → length m ≡ length l → d ≤ 64 → Shallow (put m 6 d)
  put_shallow m d e h = rw (get_same m 6 d (omega arith)) h

  transfer_shallow : (k j : ℕ) → 6 < j → Shallow l → Shallow (transfer l k j)
  unfolding transfer
  transfer_shallow k j b h = rw (get_other l j (get l k) 6 (omega arith)) h

  push_shallow : (d v : ℕ) → d < 64 → Shallow (push_on l d v)
  unfolding push_on
  push_shallow d v h = put_shallow (put l (328 + d) v) (d + 1) (length_put l (328 + d) v) (omega arith)

  pop_shallow : (d k : ℕ) → d ≤ 64 → Shallow (pop_to l d k)
  unfolding pop_to
  pop_shallow d k h = put_shallow (put l k (get l (327 + d))) (d - 1) (length_put l k (get l (327 + d))) (omega arith)

  noted_length : (m : _) → length (noted l m) ≡ length l
  unfolding noted
  noted_length m = by_test (λ (x : List ℕ). length x ≡ length l) m (λ e. length_put l 7 1) (λ e. refl)

  noted_depth : (m : _) → get (noted l m) 6 ≡ get l 6
  unfolding noted
  noted_depth m = by_test (λ (x : List ℕ). get x 6 ≡ get l 6) m (λ e. get_other l 7 1 6 (omega arith)) (λ e. refl)

  apply_shallow : (d f : ℕ) → d ≤ 64 → Shallow l → Shallow (apply_on l d f)
  unfolding apply_on apply_one apply_two apply_three
  apply_shallow d f b h =
      let x = get l (327 + d) in
      let y = get l (326 + d) in
      let z = get l (325 + d) in
      by_test Shallow (eqb f not_fn)
      (λ e. rw (get_other (noted l (over f x 0 0)) (327 + d) (result_of f x 0 0) 6 (omega arith), noted_depth (over f x 0 0)) h)
      (λ e.
      by_test Shallow (eqb f if_fn)
      (λ g.
      put_shallow (put (noted l (over f z y x)) (325 + d) (result_of f z y x)) (d - 2)
      (length_put (noted l (over f z y x)) (325 + d) (result_of f z y x) ∙ noted_length (over f z y x)) (omega arith))
      (λ g.
      put_shallow (put (noted l (over f y x 0)) (326 + d) (result_of f y x 0)) (d - 1)
      (length_put (noted l (over f y x 0)) (326 + d) (result_of f y x 0) ∙ noted_length (over f y x 0)) (omega arith)))

  pub perform_shallow : (op s w d : ℕ) → d ≤ 64 → Shallow l → may_run op s d ≡ true → Shallow (perform l op s w d)
  unfolding perform
  perform_shallow op s w d b h a =
      by_test Shallow (eqb op 3) (λ e. transfer_shallow (136 + s) (200 + s) (omega arith) h)
      (λ e3.
      by_test Shallow (eqb op 4) (λ e. transfer_shallow (200 + s) (136 + s) (omega arith) h)
      (λ e4.
      by_test Shallow (eqb op 5) (λ e. push_shallow d w (push_room op s d a (omega (arith, eqb-true op 5 e)) (omega (arith, eqb-true op 5 e))))
      (λ e5.
      by_test Shallow (eqb op 6) (λ e. push_shallow d (get l (136 + s)) (push_room op s d a (omega (arith, eqb-true op 6 e)) (omega (arith, eqb-true op 6 e))))
      (λ e6.
      by_test Shallow (eqb op 7) (λ e. push_shallow d (get l (200 + s)) (push_room op s d a (omega (arith, eqb-true op 7 e)) (omega (arith, eqb-true op 7 e))))
      (λ e7.
      by_test Shallow (eqb op 8) (λ e. apply_shallow d s b h)
      (λ e8.
      by_test Shallow (eqb op 9) (λ e. pop_shallow d (200 + s) b)
      (λ e9.
      by_test Shallow (eqb op 10) (λ e. pop_shallow d (264 + s) b)
      (λ e10. by_test Shallow (eqb op 11) (λ e. transfer_shallow (264 + s) (200 + s) (omega arith) h) (λ e11. h)))))))))
