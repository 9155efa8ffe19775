-- One instruction on the round's bytes is the model's, wherever the abstract check of the code lets it pass: it is
-- allowed, the values in the bytes are then those that it leaves, and nothing else changes. Instruction by instruction.
use Rattle.lib_base.proofs.Prelude.{ℕ, ◌≤◌, ◌<◌, ◌+◌, ◌-◌, suc, zero, ◌*◌, ◌%◌, ◌/◌, ◌≡◌, refl, ◌∙◌, sym, ap, subst}
use Rattle.lib_base.proofs.Prelude.{true, false, Bool, ◌≢◌, some, none, List, ◌∷◌, length, get_or, drop, set, eqb}
use Rattle.lib_base.proofs.Prelude.{add-one, ne_eqb, le-ltb, lt-ltb, le-leb, arith}
use Rattle.lib_base.proofs.Tools.{split}
use Rattle.lib_word.specs.Word.{get, put, pile}
use Rattle.lib_word.proofs.Laws.{long, long_put, get_other, pile_out, pile_push}
use Rattle.lib_signature.specs.Signature.{arity, last}
use Rattle.lib_signature.specs.Numbers.{not_fn, if_fn}
use Rattle.lib_arith.specs.Functions.{result_of, over}
use Rattle.spec_language.specs.Code.{Instr, off, on, copy, restore, load, fetch, save, defer, move, push, apply}
use Rattle.spec_semantics.specs.Meaning.{at}
use Rattle.spec_execution.specs.Execution.{Values, held, held_at, top, on_arguments, applied, execute}
use Rattle.spec_execution.specs.Safe.{Filled, Ok, is_filled, Matches}
use Rattle.spec_execution.proofs.SafeLaws.{full_some}
use Rattle.format_image.specs.Image.{operation, constant}
use Rattle.run_instruction.specs.Stack.{push_on, pop_to, noted, apply_one, apply_two, apply_three, apply_on}
use Rattle.run_instruction.specs.Allowed.{applies, may_run}
use Rattle.run_instruction.specs.Instruction.{transfer, perform}
use Rattle.refine_calls.specs.Refinement.{Kept}
use Rattle.refine_calls.proofs.Slots.{kept_all, kept_put}
use Rattle.refine_calls.proofs.Values.{Holds, marked, value_at_law, store_holds, scratch_holds, deferred_holds, depth_holds, place_holds, top_holds, noted_holds}

-- ---- only values, the stack's depth and the mark change

pub record Framed (l m : List ℕ) : Type 0 where
  pub kept : Kept l m
  pub whole : long m ≡ long l
  pub same : (j : ℕ) → j < 136 → j / 2 ≢ 3 → get m j ≡ get l j

framed_all : (l : List ℕ) → Framed l l
framed_all l = record { kept = kept_all l; whole = refl; same = λ j b h. refl }

framed_put : {l : List ℕ} (m : List ℕ) (k w : ℕ) → 136 ≤ k → k < 512 → Framed l m → Framed l (put m k w)
framed_put m k w b c h = record {
  kept = kept_put m k w c h.kept;
  whole = long_put m k w ∙ h.whole;
  same = λ j a n. get_other m k w j (omega arith) ∙ h.same j a n;
}

framed_depth : {l : List ℕ} (m : List ℕ) (w : ℕ) → Framed l m → Framed l (put m 6 w)
framed_depth m w h = record {
  kept = kept_put m 6 w (omega arith) h.kept;
  whole = long_put m 6 w ∙ h.whole;
  same = λ j a n. get_other m 6 w j (omega arith) ∙ h.same j a n;
}

framed_noted : {l : List ℕ} (m : List ℕ) (b : Bool) → Framed l m → Framed l (noted m b)
unfolding noted
framed_noted m false h = h
framed_noted m true h = record {
  kept = kept_put m 7 1 (omega arith) h.kept;
  whole = long_put m 7 1 ∙ h.whole;
  same = λ j a n. get_other m 7 1 j (omega arith) ∙ h.same j a n;
}

-- a mark leaves length, depth and stack

noted_long : (l : List ℕ) (b : Bool) → long (noted l b) ≡ long l
unfolding noted
noted_long l false = refl
noted_long l true = long_put l 7 1

noted_depth : (l : List ℕ) (b : Bool) → get (noted l b) 6 ≡ get l 6
unfolding noted
noted_depth l false = refl
noted_depth l true = get_other l 7 1 6 (omega arith)

noted_pile : (l : List ℕ) (b : Bool) (k : ℕ) → pile (noted l b) 328 k ≡ pile l 328 k
unfolding noted
noted_pile l false k = refl
noted_pile l true k = pile_out l 7 1 328 k (omega arith)

-- ---- the stack's uppermost

top_pile : (l : List ℕ) (k : ℕ) → top (pile l 328 (k + 1)) ≡ get l (328 + k)
unfolding pile
top_pile l k = rw (add-one k)

drop_pile : (l : List ℕ) (k : ℕ) → drop 1 (pile l 328 (k + 1)) ≡ pile l 328 k
unfolding pile
drop_pile l k = rw (add-one k)

length_pile : (l : List ℕ) (a n : ℕ) → length (pile l a n) ≡ n
unfolding pile
length_pile l a zero = refl
length_pile l a (suc n) = ap suc (length_pile l a n)

-- the arguments on top of the stack, and what is below them
two_on_top : (l : List ℕ) (k : ℕ)
    → (at (pile l 328 (k + 2)) 0 ≡ get l (328 + (k + 1))) × (at (pile l 328 (k + 2)) 1 ≡ get l (328 + k)) × (drop 2 (pile l 328 (k + 2)) ≡ pile l 328 k)
unfolding pile
two_on_top l k =
    let z : k + 2 ≡ suc (suc k) = omega arith in
    rw (z, add-one k) (refl, refl, refl)

three_on_top : (l : List ℕ) (k : ℕ)
    → (at (pile l 328 (k + 3)) 0 ≡ get l (328 + (k + 2))) × (at (pile l 328 (k + 3)) 1 ≡ get l (328 + (k + 1))) × (at (pile l 328 (k + 3)) 2 ≡ get l (328 + k))
    × (drop 3 (pile l 328 (k + 3)) ≡ pile l 328 k)
unfolding pile
three_on_top l k =
    let z : k + 3 ≡ suc (suc (suc k)) = omega arith in
    let y : k + 2 ≡ suc (suc k) = omega arith in
    rw (z, y, add-one k) (refl, refl, refl, refl)

-- ---- what an instruction of operation op, slot s and constant w does: d are the values after it

pub record Does (n : ℕ) (l : List ℕ) (d : Values) (op s w : ℕ) : Type 0 where
  pub may : may_run op s (get l 6) ≡ true
  pub holds : Holds n (perform l op s w (get l 6)) d
  pub framed : Framed l (perform l op s w (get l 6))

abbrev with_stack : List ℕ → Values → Values
with_stack st d = record { store = d.store; scratch = d.scratch; stack = st; deferred = d.deferred; mark = d.mark }

abbrev with_scratch : ℕ → ℕ → List ℕ → Values → Values
with_scratch i v st d = record { store = d.store; scratch = set d.scratch i (some v); stack = st; deferred = d.deferred; mark = d.mark }

abbrev with_deferred : ℕ → ℕ → List ℕ → Values → Values
with_deferred i v st d = record { store = d.store; scratch = d.scratch; stack = st; deferred = set d.deferred i (some v); mark = d.mark }

module _ (n : ℕ) (few : n ≤ 64) (l : List ℕ) (d : Values) (g : long l ≡ true) (h : Holds n l d) where
  restack : (m : List ℕ) {x y : List ℕ} → x ≡ y → Holds n m (with_stack x d) → Holds n m (with_stack y d)
  restack m e k = subst (λ (st : List ℕ). Holds n m (with_stack st d)) e k

  -- the stack, as it stands in the bytes
  stack_is : (k : ℕ) → get l 6 ≡ k → d.stack ≡ pile l 328 k
  stack_is k e = sym h.stack ∙ ap (λ (x : ℕ). pile l 328 x) e

  push_does : (v : ℕ) → get l 6 < 64 → Holds n (push_on l (get l 6) v) (with_stack (v ∷ d.stack) d) × Framed l (push_on l (get l 6) v)
  unfolding push_on
  push_does v b = (
    restack _ (ap (λ (st : List ℕ). v ∷ st) h.stack) (top_holds n few l (get l 6) v d g b h),
    framed_depth _ (get l 6 + 1) (framed_put l (328 + get l 6) v (omega arith) (omega arith) (framed_all l)),
  )

  save_does : (i k : ℕ) → i < n → get l 6 ≡ k + 1
      → Holds n (pop_to l (get l 6) (200 + i)) (with_scratch i (top d.stack) (drop 1 d.stack) d) × Framed l (pop_to l (get l 6) (200 + i))
  unfolding pop_to
  save_does i k b e =
      let z : 327 + (k + 1) ≡ 328 + k = omega arith in
      let y : k + 1 - 1 ≡ k = omega arith in
      let c : k + 1 ≤ 64 = rw e at h.shallow in
      let m = put l (200 + i) (get l (328 + k)) in
      let s : pile m 328 k ≡ pile l 328 k = pile_out l (200 + i) (get l (328 + k)) 328 k (omega arith) in
      rw (e, z, y, stack_is (k + 1) e, top_pile l k, drop_pile l k, sym s) (
        depth_holds n few m k _ (long_put l (200 + i) (get l (328 + k)) ∙ g) (omega arith) (scratch_holds n few l i (get l (328 + k)) d g b h),
        framed_depth _ k (framed_put l (200 + i) (get l (328 + k)) (omega arith) (omega arith) (framed_all l)),
      )

  defer_does : (i k : ℕ) → i < n → get l 6 ≡ k + 1
      → Holds n (pop_to l (get l 6) (264 + i)) (with_deferred i (top d.stack) (drop 1 d.stack) d) × Framed l (pop_to l (get l 6) (264 + i))
  unfolding pop_to
  defer_does i k b e =
      let z : 327 + (k + 1) ≡ 328 + k = omega arith in
      let y : k + 1 - 1 ≡ k = omega arith in
      let c : k + 1 ≤ 64 = rw e at h.shallow in
      let m = put l (264 + i) (get l (328 + k)) in
      let s : pile m 328 k ≡ pile l 328 k = pile_out l (264 + i) (get l (328 + k)) 328 k (omega arith) in
      rw (e, z, y, stack_is (k + 1) e, top_pile l k, drop_pile l k, sym s) (
        depth_holds n few m k _ (long_put l (264 + i) (get l (328 + k)) ∙ g) (omega arith) (deferred_holds n few l i (get l (328 + k)) d g b h),
        framed_depth _ k (framed_put l (264 + i) (get l (328 + k)) (omega arith) (omega arith) (framed_all l)),
      )

  -- a function that leaves the stack st, and one more mark where b says so
  abbrev leaves : List ℕ → Bool → Values
  leaves st b = marked b (with_stack st d)

  -- w on top of the lowest k, the mark noted first
  put_result : (k v : ℕ) (b : Bool) → k < 64
      → Holds n (put (put (noted l b) (328 + k) v) 6 (k + 1)) (leaves (v ∷ pile l 328 k) b) × Framed l (put (put (noted l b) (328 + k) v) 6 (k + 1))
  put_result k v b c =
      let m : List ℕ = put (put (noted l b) (328 + k) v) 6 (k + 1) in (
        subst (λ (st : List ℕ). Holds n m (leaves (v ∷ st) b)) (noted_pile l b k)
            (top_holds n few (noted l b) k v (marked b d) (noted_long l b ∙ g) c (noted_holds n few l b d g h)),
        framed_depth _ (k + 1) (framed_put _ (328 + k) v (omega arith) (omega arith) (framed_noted l b (framed_all l))),
      )

  one_does : (f k : ℕ) → get l 6 ≡ k + 1
      → Holds n (apply_one l (get l 6) f) (leaves (result_of f (at d.stack 0) 0 0 ∷ drop 1 d.stack) (over f (at d.stack 0) 0 0)) × Framed l (apply_one l (get l 6) f)
  unfolding apply_one
  one_does f k e =
      let z : 327 + (k + 1) ≡ 328 + k = omega arith in
      let c : k + 1 ≤ 64 = rw e at h.shallow in
      let v = result_of f (get l (328 + k)) 0 0 in
      let b = over f (get l (328 + k)) 0 0 in
      let m = put (noted l b) (328 + k) v in
      let s : pile m 328 (get (noted l b) 6) ≡ v ∷ pile l 328 k =
      rw (noted_depth l b, e) (pile_push (noted l b) 328 k v (noted_long l b ∙ g) (omega arith) ∙ ap (λ (st : List ℕ). v ∷ st) (noted_pile l b k)) in
      rw (e, z, stack_is (k + 1) e, top_pile l k, drop_pile l k) (
        subst (λ (st : List ℕ). Holds n m (leaves st b)) s (place_holds n few (noted l b) k v (marked b d) (noted_long l b ∙ g) (omega arith) (noted_holds n few l b d g h)),
        framed_put _ (328 + k) v (omega arith) (omega arith) (framed_noted l b (framed_all l)),
      )

  two_does : (f k : ℕ) → get l 6 ≡ k + 2
      → Holds n (apply_two l (get l 6) f) (leaves (result_of f (at d.stack 1) (at d.stack 0) 0 ∷ drop 2 d.stack) (over f (at d.stack 1) (at d.stack 0) 0)) × Framed l (apply_two l (get l 6) f)
  unfolding apply_two
  two_does f k e =
      let z : 326 + (k + 2) ≡ 328 + k = omega arith in
      let y : 327 + (k + 2) ≡ 328 + (k + 1) = omega arith in
      let x : k + 2 - 1 ≡ k + 1 = omega arith in
      let c : k + 2 ≤ 64 = rw e at h.shallow in
      let t = two_on_top l k in
      rw (e, z, y, x, stack_is (k + 2) e, t.0, t.1, t.2) (put_result k _ _ (omega arith))

  three_does : (f k : ℕ) → get l 6 ≡ k + 3
      → Holds n (apply_three l (get l 6) f) (leaves (result_of f (at d.stack 2) (at d.stack 1) (at d.stack 0) ∷ drop 3 d.stack)
      (over f (at d.stack 2) (at d.stack 1) (at d.stack 0))) × Framed l (apply_three l (get l 6) f)
  unfolding apply_three
  three_does f k e =
      let z : 325 + (k + 3) ≡ 328 + k = omega arith in
      let y : 326 + (k + 3) ≡ 328 + (k + 1) = omega arith in
      let x : 327 + (k + 3) ≡ 328 + (k + 2) = omega arith in
      let u : k + 3 - 2 ≡ k + 1 = omega arith in
      let c : k + 3 ≤ 64 = rw e at h.shallow in
      let t = three_on_top l k in
      rw (e, z, y, x, u, stack_is (k + 3) e, t.0, t.1, t.2, t.3) (put_result k _ _ (omega arith))

  apply_does : (f : ℕ) → arity f ≤ get l 6
      → Holds n (apply_on l (get l 6) f) (leaves (applied f d.stack) (on_arguments (over f) f d.stack)) × Framed l (apply_on l (get l 6) f)
  unfolding apply_on arity
  apply_does f b =
      split (eqb f not_fn)
      (λ t. let c : 1 ≤ get l 6 = rw t at b in rw t (one_does f (get l 6 - 1) (omega arith)))
      (λ t. split (eqb f if_fn)
      (λ u. let c : 3 ≤ get l 6 = rw (t, u) at b in rw (t, u) (three_does f (get l 6 - 3) (omega arith)))
      (λ u. let c : 2 ≤ get l 6 = rw (t, u) at b in rw (t, u) (two_does f (get l 6 - 2) (omega arith))))

  -- a filled place, in the bytes
  held_scratch : (i : ℕ) → is_filled (get_or d.scratch i none) ≡ true → get l (200 + i) ≡ held_at d.scratch i
  held_scratch i e = let x = full_some (get_or d.scratch i none) e in h.scratch i x.0 x.1 ∙ sym (ap held x.1)

  held_deferred : (i : ℕ) → is_filled (get_or d.deferred i none) ≡ true → get l (264 + i) ≡ held_at d.deferred i
  held_deferred i e = let x = full_some (get_or d.deferred i none) e in h.deferred i x.0 x.1 ∙ sym (ap held x.1)

  module _ (a : Filled) (M : Matches d a) where
    below : (i : ℕ) → i < length a.scratch → i < n
    below i b = omega (arith, h.scratched, M.scratched)

    below_places : (i : ℕ) → i < length a.deferred → i < n
    below_places i b = omega (arith, h.placed, M.places)

    depth_is : get l 6 ≡ a.depth
    depth_is = sym (length_pile l 328 (get l 6)) ∙ ap (λ (x : List ℕ). length x) h.stack ∙ M.stacked

    copy_does : (i : ℕ) → Ok a (copy i) → Does n l (execute (copy i) d) 3 i 0
    unfolding may_run perform transfer execute
    copy_does i k =
        let b : i < n = below i k in
        record {
          may = rw (le-ltb 63 i (omega arith));
          holds = rw (value_at_law n few l d i b h) (scratch_holds n few l i (at d.store i) d g b h);
          framed = framed_put l (200 + i) (get l (136 + i)) (omega arith) (omega arith) (framed_all l);
        }

    restore_does : (i : ℕ) → Ok a (restore i) → Does n l (execute (restore i) d) 4 i 0
    unfolding may_run perform transfer execute
    restore_does i k =
        let b : i < n = below i k.0 in
        record {
          may = rw (le-ltb 63 i (omega arith));
          holds = rw (held_scratch i (M.in_scratch i ∙ k.1)) (store_holds n few l i (held_at d.scratch i) d g b h);
          framed = framed_put l (136 + i) (get l (200 + i)) (omega arith) (omega arith) (framed_all l);
        }

    move_does : (i : ℕ) → Ok a (move i) → Does n l (execute (move i) d) 11 i 0
    unfolding may_run perform transfer execute
    move_does i k =
        let b : i < n = below i k.0 in
        record {
          may = rw (le-ltb 63 i (omega arith));
          holds = rw (held_deferred i (M.in_places i ∙ k.2)) (scratch_holds n few l i (held_at d.deferred i) d g b h);
          framed = framed_put l (200 + i) (get l (264 + i)) (omega arith) (omega arith) (framed_all l);
        }

    load_does : (i : ℕ) → Ok a (load i) → Does n l (execute (load i) d) 6 i 0
    unfolding may_run perform execute
    load_does i k =
        let b : i < n = below i k.0 in
        let c : get l 6 < 64 = rw depth_is k.1 in
        let x = push_does (at d.store i) c in
        record {
          may = rw (le-ltb 63 i (omega arith)) (lt-ltb (get l 6) 64 c);
          holds = rw (value_at_law n few l d i b h) x.0;
          framed = rw (value_at_law n few l d i b h) x.1;
        }

    fetch_does : (i : ℕ) → Ok a (fetch i) → Does n l (execute (fetch i) d) 7 i 0
    unfolding may_run perform execute
    fetch_does i k =
        let b : i < n = below i k.0 in
        let c : get l 6 < 64 = rw depth_is k.2 in
        let e : get l (200 + i) ≡ held_at d.scratch i = held_scratch i (M.in_scratch i ∙ k.1) in
        let x = push_does (held_at d.scratch i) c in
        record {
          may = rw (le-ltb 63 i (omega arith)) (lt-ltb (get l 6) 64 c);
          holds = rw e x.0;
          framed = rw e x.1;
        }

    push_constant : (w : ℕ) → Ok a (push w) → Does n l (execute (push w) d) 5 0 w
    unfolding may_run perform execute
    push_constant w k =
        let c : get l 6 < 64 = rw depth_is k.1 in
        let x = push_does w c in
        record { may = lt-ltb (get l 6) 64 c; holds = x.0; framed = x.1 }

    save_top : (i : ℕ) → Ok a (save i) → Does n l (execute (save i) d) 9 i 0
    unfolding may_run perform execute
    save_top i k =
        let b : i < n = below i k.0 in
        let c : 1 ≤ get l 6 = rw depth_is k.1 in
        let x = save_does i (get l 6 - 1) b (omega arith) in
        record { may = rw (le-ltb 63 i (omega arith)) (lt-ltb 0 (get l 6) c); holds = x.0; framed = x.1 }

    defer_top : (i : ℕ) → Ok a (defer i) → Does n l (execute (defer i) d) 10 i 0
    unfolding may_run perform execute
    defer_top i k =
        let b : i < n = below_places i k.0 in
        let c : 1 ≤ get l 6 = rw depth_is k.1 in
        let x = defer_does i (get l 6 - 1) b (omega arith) in
        record { may = rw (le-ltb 63 i (omega arith)) (lt-ltb 0 (get l 6) c); holds = x.0; framed = x.1 }

    apply_top : (f : ℕ) → Ok a (apply f) → Does n l (execute (apply f) d) 8 f 0
    unfolding may_run applies arity perform execute
    apply_top f k =
        let c : arity f ≤ get l 6 = rw depth_is k.2 in
        let z : f ≢ 0 = omega (arith, k.0) in
        let x = apply_does f c in
        record {
          may = rw (le-ltb 63 f (omega (arith, k.1)), ne_eqb f 0 z, le-ltb last f k.1) (le-leb (arity f) (get l 6) c);
          holds = x.0;
          framed = x.1;
        }

    off_does : Does n l (execute off d) 1 0 0
    unfolding may_run perform execute
    off_does = record { may = refl; holds = h; framed = framed_all l }

    on_does : Does n l (execute on d) 2 0 0
    unfolding may_run perform execute
    on_does = record { may = refl; holds = h; framed = framed_all l }

    -- the two numbers in an instruction's first word
    split_word : (op s w : ℕ) {e : Values} → s < 256 → Does n l e op s w → Does n l e ((op * 256 + s) / 256) ((op * 256 + s) % 256) w
    split_word op s w b x =
        let q : (op * 256 + s) / 256 ≡ op = omega arith in
        let r : (op * 256 + s) % 256 ≡ s = omega arith in
        rw (q, r) x

    slot_byte : (i : ℕ) → i < length a.scratch → i < 256
    slot_byte i b = omega (arith, below i b)

    pub does : (i : Instr) → Ok a i → Does n l (execute i d) (operation i / 256) (operation i % 256) (constant i)
    does off k = off_does
    does on k = on_does
    does (copy i) k = split_word 3 i 0 (slot_byte i k) (copy_does i k)
    does (restore i) k = split_word 4 i 0 (slot_byte i k.0) (restore_does i k)
    does (load i) k = split_word 6 i 0 (slot_byte i k.0) (load_does i k)
    does (fetch i) k = split_word 7 i 0 (slot_byte i k.0) (fetch_does i k)
    does (save i) k = split_word 9 i 0 (slot_byte i k.0) (save_top i k)
    does (defer i) k = split_word 10 i 0 (omega (arith, below_places i k.0)) (defer_top i k)
    does (move i) k = split_word 11 i 0 (slot_byte i k.0) (move_does i k)
    does (push w) k = push_constant w k
    does (apply f) k = split_word 8 f 0 (omega (arith, k.1)) (apply_top f k)
