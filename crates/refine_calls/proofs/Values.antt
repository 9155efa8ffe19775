-- Store, scratch, stack, deferred values and mark in the round's bytes, and what each write leaves of them. Region by
-- region: a write is outside, or sets one value.
use Rattle.lib_base.proofs.Prelude.{ℕ, ◌≤◌, ◌<◌, ◌+◌, suc, zero, ◌/◌, ◌≡◌, refl, ◌∙◌, sym, ap, true, false, Bool, ◌||◌}
use Rattle.lib_base.proofs.Prelude.{false≢true, not, ◌≢◌, by_cases, Option, some, none, List, ◌∷◌, length, get_or}
use Rattle.lib_base.proofs.Prelude.{length-set, set, replicate, length-replicate, List·getD-eq-default, get_or-set_other}
use Rattle.lib_base.proofs.Prelude.{get_or-set_same, eqb, dec_lt, ℕ_discrete, leb-true, arith}
use Rattle.lib_word.specs.Word.{get, put, words, pile}
use Rattle.lib_word.proofs.Laws.{long, long_put, get_put, get_same, get_other, words_out, words_in, words_get, pile_out, pile_push}
use Rattle.spec_semantics.specs.Meaning.{at}
use Rattle.spec_execution.specs.Execution.{Values, emptied}
use Rattle.spec_execution.specs.Safe.{is_filled}
use Rattle.run_instruction.specs.Stack.{noted}
use Rattle.run_dispatch.specs.Dispatch.{run_arrival}

-- ---- values as far as filled, from word a on

abbrev pub Found : List ℕ → ℕ → List (Option ℕ) → Type 0
Found l a s = (i v : ℕ) → get_or s i none ≡ some v → get l (a + i) ≡ v

some_value : {v w : ℕ} → some v ≡ some w → v ≡ w
some_value e = cc

none_some : {v : ℕ} {C : Type 0} → none ≡ some v → C
none_some e = absurd (false≢true (ap is_filled e))

-- only a place that there is can be filled
pub filled_below : (s : List (Option ℕ)) (i v : ℕ) → get_or s i none ≡ some v → i < length s
filled_below s i v e =
    by_cases (dec_lt i (length s)) (λ h. h) (λ h. none_some (sym (List·getD-eq-default s none (omega arith)) ∙ e))

pub found_none : (l : List ℕ) (a n : ℕ) → Found l a (replicate n none)
found_none l a n = λ i v e. none_some (sym (empty n i) ∙ e)
  where
    empty : (n i : ℕ) → get_or (replicate {A = Option ℕ} n none) i none ≡ none
    empty zero i = refl
    empty (suc n) zero = refl
    empty (suc n) (suc i) = empty n i

pub found_out : (l : List ℕ) (k w a : ℕ) (s : List (Option ℕ)) → ((i : ℕ) → i < length s → a + i ≢ k) → Found l a s → Found (put l k w) a s
found_out l k w a s h f = λ i v e. get_other l k w (a + i) (h i (filled_below s i v e)) ∙ f i v e

pub found_in : (l : List ℕ) (i w a : ℕ) (s : List (Option ℕ)) → long l ≡ true → a + i < 512 → i < length s
    → Found l a s → Found (put l (a + i) w) a (set s i (some w))
unfolding long
found_in l i w a s g b h f = λ j v e.
    by_cases (ℕ_discrete j i)
    (λ q. rw q (get_same l (a + i) w (omega (arith, leb-true)) ∙ some_value (sym (get_or-set_same s i (some w) none h) ∙ rw q at e)))
    (λ q. get_other l (a + i) w (a + j) (omega arith) ∙ f j v (sym (get_or-set_other s i j (some w) none q) ∙ e))

-- ---- all of them, n behaviours

pub record Holds (n : ℕ) (l : List ℕ) (d : Values) : Type 0 where
  pub store : words l 136 n ≡ d.store
  pub stack : pile l 328 (get l 6) ≡ d.stack
  pub shallow : get l 6 ≤ 64
  pub scratched : length d.scratch ≡ n
  pub placed : length d.deferred ≡ n
  pub scratch : Found l 200 d.scratch
  pub deferred : Found l 264 d.deferred
  pub mark : not (eqb (get l 7) 0) ≡ d.mark

-- values with one more mark
abbrev pub marked : Bool → Values → Values
marked b d = record { store = d.store; scratch = d.scratch; stack = d.stack; deferred = d.deferred; mark = b || d.mark }

module _ (n : ℕ) (few : n ≤ 64) where
  pub value_at_law : (l : List ℕ) (d : Values) (i : ℕ) → i < n → Holds n l d → get l (136 + i) ≡ at d.store i
  value_at_law l d i b h = sym (words_get l 136 n i b) ∙ ap (λ (s : List ℕ). at s i) h.store

  -- a write to the head or the queue, but for the stack's depth and the mark
  pub head_holds : (l : List ℕ) (k w : ℕ) (d : Values) → k < 136 → k / 2 ≢ 3 → Holds n l d → Holds n (put l k w) d
  head_holds l k w d b c h =
      let z : get (put l k w) 6 ≡ get l 6 = get_other l k w 6 (omega arith) in
      record {
        store = words_out l k w 136 n (omega arith) ∙ h.store;
        stack = rw z (pile_out l k w 328 (get l 6) (omega arith) ∙ h.stack);
        shallow = rw z h.shallow;
        scratched = h.scratched;
        placed = h.placed;
        scratch = found_out l k w 200 d.scratch (omega arith) h.scratch;
        deferred = found_out l k w 264 d.deferred (omega arith) h.deferred;
        mark = ap (λ (x : ℕ). not (eqb x 0)) (get_other l k w 7 (omega arith)) ∙ h.mark;
      }

  pub store_holds : (l : List ℕ) (i w : ℕ) (d : Values) → long l ≡ true → i < n → Holds n l d
      → Holds n (put l (136 + i) w) (record { store = set d.store i w; scratch = d.scratch; stack = d.stack; deferred = d.deferred; mark = d.mark })
  store_holds l i w d g b h =
      let z : get (put l (136 + i) w) 6 ≡ get l 6 = get_other l (136 + i) w 6 (omega arith) in
      record {
        store = words_in l 136 n i w g (omega arith) b ∙ ap (λ (s : List ℕ). set s i w) h.store;
        stack = rw z (pile_out l (136 + i) w 328 (get l 6) (omega arith) ∙ h.stack);
        shallow = rw z h.shallow;
        scratched = h.scratched;
        placed = h.placed;
        scratch = found_out l (136 + i) w 200 d.scratch (omega arith) h.scratch;
        deferred = found_out l (136 + i) w 264 d.deferred (omega arith) h.deferred;
        mark = ap (λ (x : ℕ). not (eqb x 0)) (get_other l (136 + i) w 7 (omega arith)) ∙ h.mark;
      }

  pub scratch_holds : (l : List ℕ) (i w : ℕ) (d : Values) → long l ≡ true → i < n → Holds n l d
      → Holds n (put l (200 + i) w) (record { store = d.store; scratch = set d.scratch i (some w); stack = d.stack; deferred = d.deferred; mark = d.mark })
  scratch_holds l i w d g b h =
      let z : get (put l (200 + i) w) 6 ≡ get l 6 = get_other l (200 + i) w 6 (omega arith) in
      let m : length d.deferred ≡ n = h.placed in
      record {
        store = words_out l (200 + i) w 136 n (omega arith) ∙ h.store;
        stack = rw z (pile_out l (200 + i) w 328 (get l 6) (omega arith) ∙ h.stack);
        shallow = rw z h.shallow;
        scratched = length-set d.scratch i (some w) ∙ h.scratched;
        placed = h.placed;
        scratch = found_in l i w 200 d.scratch g (omega arith) (omega (arith, h.scratched)) h.scratch;
        deferred = found_out l (200 + i) w 264 d.deferred (omega arith) h.deferred;
        mark = ap (λ (x : ℕ). not (eqb x 0)) (get_other l (200 + i) w 7 (omega arith)) ∙ h.mark;
      }

  pub deferred_holds : (l : List ℕ) (i w : ℕ) (d : Values) → long l ≡ true → i < n → Holds n l d
      → Holds n (put l (264 + i) w) (record { store = d.store; scratch = d.scratch; stack = d.stack; deferred = set d.deferred i (some w); mark = d.mark })
  deferred_holds l i w d g b h =
      let z : get (put l (264 + i) w) 6 ≡ get l 6 = get_other l (264 + i) w 6 (omega arith) in
      let m : length d.scratch ≡ n = h.scratched in
      record {
        store = words_out l (264 + i) w 136 n (omega arith) ∙ h.store;
        stack = rw z (pile_out l (264 + i) w 328 (get l 6) (omega arith) ∙ h.stack);
        shallow = rw z h.shallow;
        scratched = h.scratched;
        placed = length-set d.deferred i (some w) ∙ h.placed;
        scratch = found_out l (264 + i) w 200 d.scratch (omega arith) h.scratch;
        deferred = found_in l i w 264 d.deferred g (omega arith) (omega (arith, h.placed)) h.deferred;
        mark = ap (λ (x : ℕ). not (eqb x 0)) (get_other l (264 + i) w 7 (omega arith)) ∙ h.mark;
      }

  -- the lowest k of the stack stay
  pub depth_holds : (l : List ℕ) (k : ℕ) (d : Values) → long l ≡ true → k ≤ 64 → Holds n l d
      → Holds n (put l 6 k) (record { store = d.store; scratch = d.scratch; stack = pile l 328 k; deferred = d.deferred; mark = d.mark })
  unfolding long
  depth_holds l k d g b h =
      let z : get (put l 6 k) 6 ≡ k = get_same l 6 k (omega (arith, leb-true)) in
      record {
        store = words_out l 6 k 136 n (omega arith) ∙ h.store;
        stack = rw z (pile_out l 6 k 328 k (omega arith));
        shallow = rw z b;
        scratched = h.scratched;
        placed = h.placed;
        scratch = found_out l 6 k 200 d.scratch (omega arith) h.scratch;
        deferred = found_out l 6 k 264 d.deferred (omega arith) h.deferred;
        mark = ap (λ (x : ℕ). not (eqb x 0)) (get_other l 6 k 7 (omega arith)) ∙ h.mark;
      }

  -- a write at place k of the stack, above which nothing is looked at
  pub place_holds : (l : List ℕ) (k w : ℕ) (d : Values) → long l ≡ true → k < 64 → Holds n l d
      → Holds n (put l (328 + k) w) (record { store = d.store; scratch = d.scratch; stack = pile (put l (328 + k) w) 328 (get l 6); deferred = d.deferred; mark = d.mark })
  place_holds l k w d g b h =
      let z : get (put l (328 + k) w) 6 ≡ get l 6 = get_other l (328 + k) w 6 (omega arith) in
      let s : length d.scratch ≡ n = h.scratched in
      let m : length d.deferred ≡ n = h.placed in
      record {
        store = words_out l (328 + k) w 136 n (omega arith) ∙ h.store;
        stack = rw z;
        shallow = rw z h.shallow;
        scratched = h.scratched;
        placed = h.placed;
        scratch = found_out l (328 + k) w 200 d.scratch (omega arith) h.scratch;
        deferred = found_out l (328 + k) w 264 d.deferred (omega arith) h.deferred;
        mark = ap (λ (x : ℕ). not (eqb x 0)) (get_other l (328 + k) w 7 (omega arith)) ∙ h.mark;
      }

  -- w on top of the lowest k
  pub top_holds : (l : List ℕ) (k w : ℕ) (d : Values) → long l ≡ true → k < 64 → Holds n l d
      → Holds n (put (put l (328 + k) w) 6 (k + 1)) (record { store = d.store; scratch = d.scratch; stack = w ∷ pile l 328 k; deferred = d.deferred; mark = d.mark })
  top_holds l k w d g b h =
      rw (pile_push l 328 k w g (omega arith)) at
      (depth_holds (put l (328 + k) w) (k + 1) _ (long_put l (328 + k) w ∙ g) (omega arith) (place_holds l k w d g b h))

  -- one more mark
  pub noted_holds : (l : List ℕ) (b : Bool) (d : Values) → long l ≡ true → Holds n l d → Holds n (noted l b) (marked b d)
  unfolding noted
  noted_holds l false d g h =
      record { store = h.store; stack = h.stack; shallow = h.shallow; scratched = h.scratched; placed = h.placed; scratch = h.scratch; deferred = h.deferred; mark = h.mark }
  noted_holds l true d g h =
      let z : get (put l 7 1) 6 ≡ get l 6 = get_other l 7 1 6 (omega arith) in
      record {
        store = words_out l 7 1 136 n (omega arith) ∙ h.store;
        stack = rw z (pile_out l 7 1 328 (get l 6) (omega arith) ∙ h.stack);
        shallow = rw z h.shallow;
        scratched = h.scratched;
        placed = h.placed;
        scratch = found_out l 7 1 200 d.scratch (omega arith) h.scratch;
        deferred = found_out l 7 1 264 d.deferred (omega arith) h.deferred;
        mark = simp (get_put, g);
      }

  -- an event starts: nothing is filled, and there is no mark
  pub start_holds : (l : List ℕ) (x e : ℕ) (s : List ℕ) → long l ≡ true → length s ≡ n → words l 136 n ≡ s → Holds n (run_arrival l x e) (emptied s)
  unfolding long run_arrival emptied pile
  start_holds l x e s g b h =
      let m = put (put (put (put l 2 1) 3 e) 4 x) 5 0 in
      let y : long m ≡ true = simp long_put g in
      let y' : long (put m 6 0) ≡ true = simp long_put g in
      let z : get (put (put m 6 0) 7 0) 6 ≡ 0 = get_other (put m 6 0) 7 0 6 (omega arith) ∙ get_same m 6 0 (omega (arith, leb-true)) in
      let q : get (put (put m 6 0) 7 0) 7 ≡ 0 = get_same (put m 6 0) 7 0 (omega (arith, leb-true)) in
      record {
        store = words_out _ 7 0 136 n (omega arith) ∙ words_out m 6 0 136 n (omega arith) ∙ words_out _ 5 0 136 n (omega arith) ∙ words_out _ 4 x 136 n (omega arith)
            ∙ words_out _ 3 e 136 n (omega arith) ∙ words_out l 2 1 136 n (omega arith) ∙ h;
        stack = rw z;
        shallow = rw z (omega arith);
        scratched = length-replicate (length s) none ∙ b;
        placed = length-replicate (length s) none ∙ b;
        scratch = found_none (put (put m 6 0) 7 0) 200 (length s);
        deferred = found_none (put (put m 6 0) 7 0) 264 (length s);
        mark = rw q;
      }
