-- The depth's word may be written late: an instruction on a round whose depth is d does what `executed` does by value,
-- and the depth after it is then put. No instruction reads or writes the position. By the operation, from the laws of
-- words written one after the other.
use Rattle.lib_base.proofs.Prelude.{ℕ, ◌≤◌, ◌<◌, ◌+◌, ◌-◌, ◌%◌, ◌/◌, ◌≡◌, refl, true, false, Bool, List, eqb, ltb}
use Rattle.lib_base.proofs.Prelude.{eqb-true, le-ltb, lt-ltb, ltb-false, eqb-false, ltb-true, arith}
use Rattle.lib_base.proofs.Tools.{by_two, split}
use Rattle.lib_word.specs.Word.{get, put}
use Rattle.lib_word.proofs.Laws.{get_other}
use Rattle.lib_signature.specs.Signature.{arity}
use Rattle.lib_signature.specs.Numbers.{not_fn, if_fn}
use Rattle.lib_arith.specs.Functions.{result_of, over}
use Rattle.run_instruction.specs.Stack.{push_on, pop_to, noted, apply_one, apply_two, apply_three, apply_on}
use Rattle.run_instruction.specs.Allowed.{may_run}
use Rattle.run_instruction.specs.Instruction.{transfer, perform}
use Rattle.run_instruction.specs.Execution.{Left, none, pushed_on, popped_to, called, applied_one, applied_two, applied_three, applied_on, moved_word, operated, executed}
use Rattle.run_instruction.proofs.AllowedLaws.{operation_known, push_room, apply_fits, pop_one}
use Rattle.run_instruction.proofs.StackLaws.{arity_one, arity_two, arity_three}
use Rattle.run_instruction.proofs.Puts.{put_above, put_again}

-- ---- the depth by value

module _ (l : List ℕ) (d : ℕ) (shallow : d ≤ 64) where
  abbrev deep : List ℕ
  deep = put l 6 d

  -- what an outcome leaves in the round
  abbrev kept : Left → List ℕ
  kept o = put o.1 6 o.0

  reads : (k : ℕ) → 7 ≤ k → get deep k ≡ get l k
  reads k h = get_other l 6 d k (omega arith)

  writes : (k v : ℕ) → 7 ≤ k → put deep k v ≡ put (put l k v) 6 d
  writes k v h = put_above l 6 d k v (omega arith)

  rewrites : (k v e : ℕ) → 7 ≤ k → put (put deep k v) 6 e ≡ put (put l k v) 6 e
  rewrites k v e h = rw (writes k v h) (put_again (put l k v) 6 d e)

  moves : (k j : ℕ) → 7 ≤ k → 7 ≤ j → transfer deep k j ≡ put (transfer l k j) 6 d
  unfolding transfer
  moves k j h g = rw (reads k h) (writes j (get l k) g)

  notes : (m : Bool) → noted deep m ≡ put (noted l m) 6 d
  unfolding noted
  notes m = by_two (λ (x y : List ℕ). x ≡ put y 6 d) m (λ _. writes 7 1 (omega arith)) (λ _. refl)

  calls : (k v : ℕ) (m : Bool) → 7 ≤ k → put (noted deep m) k v ≡ put (put (noted l m) k v) 6 d
  calls k v m h = rw (notes m) (put_above (noted l m) 6 d k v (omega arith))

  recalls : (k v e : ℕ) (m : Bool) → 7 ≤ k → put (put (noted deep m) k v) 6 e ≡ put (put (noted l m) k v) 6 e
  recalls k v e m h = rw (calls k v m h) (put_again (put (noted l m) k v) 6 d e)

  -- an outcome by value is what is left in the round, and a depth of a stack
  abbrev Is : List ℕ → Left → Type 0
  Is m o = (m ≡ kept o) × (o.0 ≤ 64)

  late_push : (v : ℕ) → d < 64 → Is (push_on deep d v) (pushed_on l d v)
  unfolding push_on pushed_on
  late_push v h = rw (lt-ltb d 64 h) (rewrites (328 + d) v (d + 1) (omega arith), omega arith)

  late_pop : (k : ℕ) → 7 ≤ k → 0 < d → Is (pop_to deep d k) (popped_to l d k)
  unfolding pop_to popped_to
  late_pop k g h = rw (lt-ltb 0 d h, reads (327 + d) (omega arith)) (rewrites k (get l (327 + d)) (d - 1) g, omega arith)

  late_one : (f : ℕ) → 0 < d → Is (apply_one deep d f) (applied_one l d f)
  unfolding apply_one applied_one called
  late_one f h =
      let x = get l (327 + d) in
      rw (le-ltb d 1 h, reads (327 + d) (omega arith)) (calls (327 + d) (result_of f x 0 0) (over f x 0 0) (omega arith), shallow)

  late_two : (f : ℕ) → 1 < d → Is (apply_two deep d f) (applied_two l d f)
  unfolding apply_two applied_two called
  late_two f h =
      let x = get l (326 + d) in
      let y = get l (327 + d) in
      rw (le-ltb d 2 h, reads (326 + d) (omega arith), reads (327 + d) (omega arith)) (recalls (326 + d) (result_of f x y 0) (d - 1) (over f x y 0) (omega arith), omega arith)

  late_three : (f : ℕ) → 2 < d → Is (apply_three deep d f) (applied_three l d f)
  unfolding apply_three applied_three called
  late_three f h =
      let x = get l (325 + d) in
      let y = get l (326 + d) in
      let z = get l (327 + d) in
      rw (le-ltb d 3 h, reads (325 + d) (omega arith), reads (326 + d) (omega arith), reads (327 + d) (omega arith))
      (recalls (325 + d) (result_of f x y z) (d - 2) (over f x y z) (omega arith), omega arith)

  late_apply : (f : ℕ) → arity f ≤ d → Is (apply_on deep d f) (applied_on l d f)
  unfolding apply_on applied_on
  late_apply f h =
      split (eqb f not_fn) (λ e. rw e (late_one f (arity_one f d h)))
      (λ e. split (eqb f if_fn)
      (λ g. let q = eqb-true f if_fn g in rw (e, g) (late_three f (arity_three d (rw q at h))))
      (λ g. rw (e, g) (late_two f (arity_two f d h (eqb-false f not_fn e)))))

  module _ (s w : ℕ) where
    abbrev Late : ℕ → Type 0
    Late op = may_run op s d ≡ true → Is (perform deep op s w d) (operated l op s w d)

    late_still : (op : ℕ) → op < 5 → Late op
    unfolding perform operated moved_word
    late_still op h may =
        split (eqb op 0) (λ e. absurd (omega (arith, eqb-true op 0 e, operation_known op s d may)))
        (λ a. split (eqb op 1) (λ e. rw (eqb-true op 1 e) (refl, shallow))
        (λ b. split (eqb op 2) (λ e. rw (eqb-true op 2 e) (refl, shallow))
        (λ c. split (eqb op 3) (λ e. rw (eqb-true op 3 e) (moves (136 + s) (200 + s) (omega arith) (omega arith), shallow))
        (λ f.
        let q : op ≡ 4 = omega (arith, eqb-false op 0 a, eqb-false op 1 b, eqb-false op 2 c, eqb-false op 3 f) in
        rw q (moves (200 + s) (136 + s) (omega arith) (omega arith), shallow)))))

    late_pushes : (op : ℕ) → 5 ≤ op → op < 8 → Late op
    unfolding perform operated moved_word
    late_pushes op h b may =
        let r : d < 64 = push_room op s d may h b in
        split (eqb op 5) (λ e. rw (eqb-true op 5 e) (late_push w r))
        (λ a. split (eqb op 6) (λ e. rw (eqb-true op 6 e, reads (136 + s) (omega arith)) (late_push (get l (136 + s)) r))
        (λ c.
        let q : op ≡ 7 = omega (arith, eqb-false op 5 a, eqb-false op 6 c) in
        rw (q, reads (200 + s) (omega arith)) (late_push (get l (200 + s)) r)))

    late_pops : (op : ℕ) → 8 ≤ op → op < 12 → Late op
    unfolding perform operated moved_word
    late_pops op h b may =
        split (eqb op 8) (λ e. let q = eqb-true op 8 e in rw q (late_apply s (apply_fits s d (rw q at may)).1))
        (λ a. split (eqb op 9) (λ e. let q = eqb-true op 9 e in rw q (late_pop (200 + s) (omega arith) (pop_one op s d may (omega arith) (omega arith))))
        (λ c. split (eqb op 10) (λ e. let q = eqb-true op 10 e in rw q (late_pop (264 + s) (omega arith) (pop_one op s d may (omega arith) (omega arith))))
        (λ f.
        let q : op ≡ 11 = omega (arith, eqb-false op 8 a, eqb-false op 9 c, eqb-false op 10 f) in
        rw q (moves (264 + s) (200 + s) (omega arith) (omega arith), shallow))))

    late : (op : ℕ) → Late op
    late op may =
        split (ltb op 5) (λ e. late_still op (ltb-true op 5 e) may)
        (λ g. split (ltb op 8) (λ e. late_pushes op (ltb-false op 5 g) (ltb-true op 8 e) may)
        (λ e. late_pops op (ltb-false op 8 e) (operation_known op s d may).1 may))

  -- of an instruction's word
  pub late_executed : (a w : ℕ) → may_run (a / 256) (a % 256) d ≡ true
      → (perform deep (a / 256) (a % 256) w d ≡ put (executed l a w d).1 6 (executed l a w d).0) × ((executed l a w d).0 ≤ 64)
  unfolding executed
  late_executed a w may = rw may (late (a % 256) w (a / 256) may)

-- one that may not run
pub barred : (l : List ℕ) (a w d : ℕ) → may_run (a / 256) (a % 256) d ≡ false → executed l a w d ≡ (none, l)
unfolding executed
barred l a w d may = rw may

-- ---- the position

module _ (l : List ℕ) (c : ℕ) where
  abbrev at : List ℕ
  at = put l 5 c

  -- the same outcome, but for the position
  abbrev Frame : List ℕ → List ℕ → Type 0
  Frame x y = x ≡ put y 5 c

  sees : (k : ℕ) → 6 ≤ k → get at k ≡ get l k
  sees k h = get_other l 5 c k (omega arith)

  stands : (m : List ℕ) (k v : ℕ) → 6 ≤ k → put (put m 5 c) k v ≡ put (put m k v) 5 c
  stands m k v h = put_above m 5 c k v (omega arith)

  frame_transfer : (k j : ℕ) → 6 ≤ k → 6 ≤ j → Frame (transfer at k j) (transfer l k j)
  unfolding transfer
  frame_transfer k j h g = rw (sees k h) (stands l j (get l k) g)

  frame_push : (d v : ℕ) → Frame (push_on at d v) (push_on l d v)
  unfolding push_on
  frame_push d v = rw (stands l (328 + d) v (omega arith)) (stands (put l (328 + d) v) 6 (d + 1) (omega arith))

  frame_pop : (d k : ℕ) → 6 ≤ k → Frame (pop_to at d k) (pop_to l d k)
  unfolding pop_to
  frame_pop d k h =
      let v = get l (327 + d) in
      rw (sees (327 + d) (omega arith), stands l k v h) (stands (put l k v) 6 (d - 1) (omega arith))

  frame_noted : (m : Bool) → Frame (noted at m) (noted l m)
  unfolding noted
  frame_noted m = by_two Frame m (λ _. stands l 7 1 (omega arith)) (λ _. refl)

  frame_called : (k v : ℕ) (m : Bool) → 6 ≤ k → Frame (put (noted at m) k v) (put (noted l m) k v)
  frame_called k v m h = rw (frame_noted m) (stands (noted l m) k v h)

  frame_deep : (k v e : ℕ) (m : Bool) → 6 ≤ k → Frame (put (put (noted at m) k v) 6 e) (put (put (noted l m) k v) 6 e)
  frame_deep k v e m h = rw (frame_called k v m h) (stands (put (noted l m) k v) 6 e (omega arith))

  frame_apply : (d f : ℕ) → Frame (apply_on at d f) (apply_on l d f)
  unfolding apply_on apply_one apply_two apply_three
  frame_apply d f =
      let x = get l (327 + d) in
      let y = get l (326 + d) in
      let z = get l (325 + d) in
      rw (sees (327 + d) (omega arith), sees (326 + d) (omega arith), sees (325 + d) (omega arith))
      (by_two Frame (eqb f not_fn) (λ _. frame_called (327 + d) (result_of f x 0 0) (over f x 0 0) (omega arith))
      (λ _. by_two Frame (eqb f if_fn) (λ _. frame_deep (325 + d) (result_of f z y x) (d - 2) (over f z y x) (omega arith))
      (λ _. frame_deep (326 + d) (result_of f y x 0) (d - 1) (over f y x 0) (omega arith))))

  pub frame : (op s w d : ℕ) → perform at op s w d ≡ put (perform l op s w d) 5 c
  unfolding perform
  frame op s w d =
      rw (sees (136 + s) (omega arith), sees (200 + s) (omega arith))
      (by_two Frame (eqb op 3) (λ _. frame_transfer (136 + s) (200 + s) (omega arith) (omega arith))
      (λ _. by_two Frame (eqb op 4) (λ _. frame_transfer (200 + s) (136 + s) (omega arith) (omega arith))
      (λ _. by_two Frame (eqb op 5) (λ _. frame_push d w)
      (λ _. by_two Frame (eqb op 6) (λ _. frame_push d (get l (136 + s)))
      (λ _. by_two Frame (eqb op 7) (λ _. frame_push d (get l (200 + s)))
      (λ _. by_two Frame (eqb op 8) (λ _. frame_apply d s)
      (λ _. by_two Frame (eqb op 9) (λ _. frame_pop d (200 + s) (omega arith))
      (λ _. by_two Frame (eqb op 10) (λ _. frame_pop d (264 + s) (omega arith))
      (λ _. by_two Frame (eqb op 11) (λ _. frame_transfer (264 + s) (200 + s) (omega arith) (omega arith)) (λ _. refl))))))))))
