-- An instruction writes to the store, to scratch, to places, to the stack, to its depth and to the mark, and to nothing
-- else of the round: by its operation.
use Rattle.lib_base.proofs.Prelude.{ℕ, ◌≤◌, ◌<◌, ◌+◌, ◌-◌, ◌≡◌, refl, ◌∙◌, Bool, ◌≢◌, List, length, eqb, arith}
use Rattle.lib_base.proofs.Tools.{by_test}
use Rattle.lib_word.specs.Word.{get, put}
use Rattle.lib_word.proofs.Laws.{length_put, get_other}
use Rattle.lib_signature.specs.Numbers.{not_fn, if_fn}
use Rattle.lib_arith.specs.Functions.{result_of, over}
use Rattle.run_instruction.specs.Stack.{push_on, pop_to, noted, apply_one, apply_two, apply_three, apply_on}
use Rattle.run_instruction.specs.Instruction.{transfer, perform}

-- m has l's length, and its words below the store but for depth and mark
pub record Keeps (l m : List ℕ) : Type 0 where
  pub long : length m ≡ length l
  pub words : (j : ℕ) → j < 136 → j ≢ 6 → j ≢ 7 → get m j ≡ get l j

same : (l : List ℕ) → Keeps l l
same l = record { long = refl; words = λ j a b c. refl }

-- one more write
put_keeps : (l m : List ℕ) (k w : ℕ) → Keeps l m → ((j : ℕ) → j < 136 → j ≢ 6 → j ≢ 7 → j ≢ k) → Keeps l (put m k w)
put_keeps l m k w h o = record {
  long = length_put m k w ∙ h.long;
  words = λ j a b c. get_other m k w j (o j a b c) ∙ h.words j a b c;
}

module _ (l : List ℕ) where
  transfer_keeps : (k j : ℕ) → 136 ≤ j → Keeps l (transfer l k j)
  unfolding transfer
  transfer_keeps k j h = put_keeps l l j (get l k) (same l) (λ i a b c. omega arith)

  push_keeps : (d v : ℕ) → Keeps l (push_on l d v)
  unfolding push_on
  push_keeps d v = put_keeps l (put l (328 + d) v) 6 (d + 1) (put_keeps l l (328 + d) v (same l) (λ i a b c. omega arith)) (λ i a b c. b)

  pop_keeps : (d k : ℕ) → 136 ≤ k → Keeps l (pop_to l d k)
  unfolding pop_to
  pop_keeps d k h =
      put_keeps l (put l k (get l (327 + d))) 6 (d - 1) (put_keeps l l k (get l (327 + d)) (same l) (λ i a b c. omega arith)) (λ i a b c. b)

  noted_keeps : (m : Bool) → Keeps l (noted l m)
  unfolding noted
  noted_keeps m = by_test (Keeps l) m (λ _. put_keeps l l 7 1 (same l) (λ i a b c. c)) (λ _. same l)

  apply_keeps : (d f : ℕ) → Keeps l (apply_on l d f)
  unfolding apply_on apply_one apply_two apply_three
  apply_keeps d f =
      let x = get l (327 + d) in
      let y = get l (326 + d) in
      let z = get l (325 + d) in
      by_test (Keeps l) (eqb f not_fn)
      (λ _. put_keeps l (noted l (over f x 0 0)) (327 + d) (result_of f x 0 0) (noted_keeps (over f x 0 0)) (λ i a b c. omega arith))
      (λ _.
      by_test (Keeps l) (eqb f if_fn)
      (λ _.
      put_keeps l (put (noted l (over f z y x)) (325 + d) (result_of f z y x)) 6 (d - 2)
      (put_keeps l (noted l (over f z y x)) (325 + d) (result_of f z y x) (noted_keeps (over f z y x)) (λ i a b c. omega arith)) (λ i a b c. b))
      (λ _.
      put_keeps l (put (noted l (over f y x 0)) (326 + d) (result_of f y x 0)) 6 (d - 1)
      (put_keeps l (noted l (over f y x 0)) (326 + d) (result_of f y x 0) (noted_keeps (over f y x 0)) (λ i a b c. omega arith)) (λ i a b c. b)))

  pub perform_keeps : (op s w d : ℕ) → Keeps l (perform l op s w d)
  unfolding perform
  perform_keeps op s w d =
      by_test (Keeps l) (eqb op 3) (λ _. transfer_keeps (136 + s) (200 + s) (omega arith))
      (λ _. by_test (Keeps l) (eqb op 4) (λ _. transfer_keeps (200 + s) (136 + s) (omega arith))
      (λ _. by_test (Keeps l) (eqb op 5) (λ _. push_keeps d w)
      (λ _. by_test (Keeps l) (eqb op 6) (λ _. push_keeps d (get l (136 + s)))
      (λ _. by_test (Keeps l) (eqb op 7) (λ _. push_keeps d (get l (200 + s)))
      (λ _. by_test (Keeps l) (eqb op 8) (λ _. apply_keeps d s)
      (λ _. by_test (Keeps l) (eqb op 9) (λ _. pop_keeps d (200 + s) (omega arith))
      (λ _. by_test (Keeps l) (eqb op 10) (λ _. pop_keeps d (264 + s) (omega arith))
      (λ _. by_test (Keeps l) (eqb op 11) (λ _. transfer_keeps (264 + s) (200 + s) (omega arith)) (λ _. same l)))))))))
