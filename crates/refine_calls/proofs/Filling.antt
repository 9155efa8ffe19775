-- The bytes that a change is worked out in: each behaviour's value stands in store and scratch, nothing else is filled.
-- By induction on the behaviours.
use Rattle.lib_base.proofs.Prelude.{ℕ, ◌≤◌, ◌<◌, ◌+◌, suc, zero, ◌≡◌, refl, ◌∙◌, sym, ap, true, false, by_cases, Option}
use Rattle.lib_base.proofs.Prelude.{some, none, List, [], length, get_or, replicate, length-replicate, ext_get_or}
use Rattle.lib_base.proofs.Prelude.{ℕ_discrete, le-leb, arith}
use Rattle.lib_word.specs.Word.{get, put, words, pile}
use Rattle.lib_word.proofs.Laws.{long, length_put, get_other, get_same, words_get}
use Rattle.spec_language.specs.Order.{up_to}
use Rattle.spec_language.proofs.Laws.{length_up_to, get_d_up_to}
use Rattle.spec_execution.specs.Execution.{Values, held}
use Rattle.spec_execution.specs.Safe.{Filled, is_filled, Matches}
use Rattle.spec_model.proofs.Passives.{Loaded}
use Rattle.run_carry.specs.Carry.{value_for, fill_at, filled_store}
use Rattle.run_carry.proofs.CarryLaws.{length_filled, filled_head}
use Rattle.refine_calls.proofs.Values.{Found, found_none, filled_below, Holds}
use Rattle.refine_calls.proofs.Relation.{words_length}

-- the values with which n behaviours are worked out
abbrev pub begun : ℕ → (ℕ → ℕ) → Values
begun n f = record { store = up_to n f; scratch = up_to n (λ i. some (f i)); stack = []; deferred = replicate n none; mark = false }

-- all of scratch is filled, and no later place
abbrev pub ready : ℕ → Filled
ready n = record { scratch = replicate n true; deferred = replicate n false; depth = 0 }

full_some : (n : ℕ) (f : ℕ → ℕ) (i : ℕ) → is_filled (get_or (up_to n (λ j. some (f j))) i none) ≡ get_or (replicate n true) i false
unfolding up_to
full_some zero f i = refl
full_some (suc n) f zero = refl
full_some (suc n) f (suc i) = full_some n (λ j. f (suc j)) i

full_none : (n i : ℕ) → is_filled (get_or (replicate {A = Option ℕ} n none) i none) ≡ get_or (replicate n false) i false
full_none zero i = refl
full_none (suc n) zero = refl
full_none (suc n) (suc i) = full_none n i

pub ready_at : (n i : ℕ) → i < n → get_or (replicate n true) i false ≡ true
ready_at zero i h = absurd (omega arith)
ready_at (suc n) zero h = refl
ready_at (suc n) (suc i) h = ready_at n i (omega arith)

pub begun_matches : (n : ℕ) (f : ℕ → ℕ) → Matches (begun n f) (ready n)
begun_matches n f = record {
  stored = length_up_to n f ∙ sym (length-replicate n true);
  scratched = length_up_to n _ ∙ sym (length-replicate n true);
  places = length-replicate n none ∙ sym (length-replicate n false);
  stacked = refl;
  in_scratch = full_some n f;
  in_places = full_none n;
}

pub begun_loaded : (n : ℕ) (f : ℕ → ℕ) → Loaded n (up_to n f) (begun n f)
begun_loaded n f = record {
  stored = refl;
  scratched = length_up_to n _;
  places = length-replicate n none;
  empty = refl;
  copied = λ i h. ap held (get_d_up_to n (λ j. some (f j)) i none h) ∙ sym (get_d_up_to n f i 0 h);
}

-- ---- in the bytes

module _ (old t l m : List ℕ) (room : length m ≡ 2048) where
  abbrev value : ℕ → ℕ
  value = value_for old t l

  filled_room : (n : ℕ) → length (filled_store old t l m n) ≡ 2048
  filled_room n = length_filled old t l m n ∙ room

  fill_room : (n k v : ℕ) → length (put (filled_store old t l m n) k v) ≡ 2048
  fill_room n k v = length_put (filled_store old t l m n) k v ∙ filled_room n

  filled_store_law : (n i : ℕ) → i < n → n ≤ 64 → get (filled_store old t l m n) (136 + i) ≡ value i
  unfolding filled_store fill_at
  filled_store_law zero i h b = absurd (omega arith)
  filled_store_law (suc n) i h b =
      let w = value n in
      let x = filled_store old t l m n in
      get_other (put x (136 + n) w) (200 + n) w (136 + i) (omega arith)
      ∙ by_cases (ℕ_discrete i n)
      (λ e. rw e (get_same x (136 + n) w (omega (arith, filled_room n))))
      (λ e. get_other x (136 + n) w (136 + i) (omega arith) ∙ filled_store_law n i (omega arith) (omega arith))

  filled_scratch : (n i : ℕ) → i < n → n ≤ 64 → get (filled_store old t l m n) (200 + i) ≡ value i
  unfolding filled_store fill_at
  filled_scratch zero i h b = absurd (omega arith)
  filled_scratch (suc n) i h b =
      let w = value n in
      let x = filled_store old t l m n in
      by_cases (ℕ_discrete i n)
      (λ e. rw e (get_same (put x (136 + n) w) (200 + n) w (omega (arith, fill_room n (136 + n) w))))
      (λ e. get_other (put x (136 + n) w) (200 + n) w (200 + i) (omega arith) ∙ get_other x (136 + n) w (200 + i) (omega arith)
      ∙ filled_scratch n i (omega arith) (omega arith))

  pub filled_long : long (filled_store old t l m 64) ≡ true
  unfolding long
  filled_long = le-leb 2048 (length (filled_store old t l m 64)) (omega (arith, filled_room 64))

  module _ (blank : (k : ℕ) → k < 136 → get m k ≡ 0) (n : ℕ) (few : n ≤ 64) where
    head : (k : ℕ) → k < 136 → get (filled_store old t l m 64) k ≡ 0
    head k h = filled_head old t l m 64 k h ∙ blank k h

    found : Found (filled_store old t l m 64) 200 (up_to n (λ i. some (value i)))
    found i v e =
        let b : i < n = omega (arith, filled_below (up_to n (λ j. some (value j))) i v e, length_up_to n (λ (j : ℕ). some (value j))) in
        let q : some (value i) ≡ some v = sym (get_d_up_to n (λ j. some (value j)) i none b) ∙ e in
        filled_scratch 64 i (omega arith) (omega arith) ∙ cc q

    pub filled_holds : Holds n (filled_store old t l m 64) (begun n value)
    unfolding pile
    filled_holds =
        let z : get (filled_store old t l m 64) 6 ≡ 0 = head 6 (omega arith) in
        record {
          store = ext_get_or 0 (words (filled_store old t l m 64) 136 n) (up_to n value) (words_length _ 136 n ∙ sym (length_up_to n value)) (λ i b.
              let c : i < n = omega (arith, words_length (filled_store old t l m 64) 136 n) in
              words_get (filled_store old t l m 64) 136 n i c ∙ filled_store_law 64 i (omega arith) (omega arith) ∙ sym (get_d_up_to n value i 0 c));
          stack = rw z;
          shallow = rw z (omega arith);
          scratched = length_up_to n _;
          placed = length-replicate n none;
          scratch = found;
          deferred = found_none (filled_store old t l m 64) 264 n;
          mark = rw (head 7 (omega arith));
        }
