-- Runs of bytes of a kind: what is in them and beyond them by their length, and what a loop over one keeps.
use Rattle.lib_base.proofs.Prelude.{ℕ, ◌≤◌, ◌<◌, ◌+◌, suc, ◌≡◌, refl, ◌∙◌, ap, true, false, Bool, List, [], ◌∷◌, length}
use Rattle.lib_base.proofs.Prelude.{get_or, take, drop, length-drop, drop_of_length-le, drop-cons, drop-drop, add-one}
use Rattle.lib_base.proofs.Prelude.{arith}
use Rattle.lib_base.proofs.Tools.{split}
use Rattle.source_language.specs.Scanner.{run_of_kind, beyond_run}

module _ (kind : ℕ → Bool) where
  pub run_taken : (bs : List ℕ) → run_of_kind kind bs ≡ take (length (run_of_kind kind bs)) bs
  unfolding run_of_kind
  run_taken [] = refl
  run_taken (b ∷ bs) = split (kind b) (λ e. rw e (ap (λ (l : List ℕ). b ∷ l) (run_taken bs))) (λ e. rw e)

  pub run_beyond : (bs : List ℕ) → beyond_run kind bs ≡ drop (length (run_of_kind kind bs)) bs
  unfolding run_of_kind beyond_run
  run_beyond [] = refl
  run_beyond (b ∷ bs) = split (kind b) (λ e. rw e (run_beyond bs)) (λ e. rw e)

  pub run_short : (bs : List ℕ) → length (run_of_kind kind bs) ≤ length bs
  unfolding run_of_kind
  run_short [] = omega arith
  run_short (b ∷ bs) = split (kind b) (λ e. rw e (omega (arith, run_short bs))) (λ e. rw e (omega arith))

  pub run_goes : (b : ℕ) (bs : List ℕ) → kind b ≡ true → run_of_kind kind (b ∷ bs) ≡ b ∷ run_of_kind kind bs
  unfolding run_of_kind
  run_goes b bs e = rw e

  pub run_stops : (b : ℕ) (bs : List ℕ) → kind b ≡ false → run_of_kind kind (b ∷ bs) ≡ []
  unfolding run_of_kind
  run_stops b bs e = rw e

-- what a loop over a run keeps: so many bytes of it are passed, and the rest of it is what is left
pub record RunSoFar (kind : ℕ → Bool) (text : List ℕ) (at i : ℕ) : Type 0 where
  pub whole : at + length (run_of_kind kind (drop at text)) ≡ i + length (run_of_kind kind (drop i text))
  pub onward : at ≤ i
  pub inside : i ≤ length text

module _ (kind : ℕ → Bool) (text : List ℕ) where
  pub run_start : (at : ℕ) → at ≤ length text → RunSoFar kind text at at
  run_start at h = record { whole = refl; onward = omega arith; inside = h }

  -- the run at a place goes on, or ends there
  pub run_here : (i : ℕ) → i < length text → kind (get_or text i 0) ≡ true → run_of_kind kind (drop i text) ≡ get_or text i 0 ∷ run_of_kind kind (drop (suc i) text)
  run_here i h e = rw (drop-cons text i 0 h) (run_goes kind (get_or text i 0) (drop (suc i) text) e)

  pub run_ends : (i : ℕ) → i < length text → kind (get_or text i 0) ≡ false → run_of_kind kind (drop i text) ≡ []
  run_ends i h e = rw (drop-cons text i 0 h) (run_stops kind (get_or text i 0) (drop (suc i) text) e)

  pub run_out : (i : ℕ) → length text ≤ i → run_of_kind kind (drop i text) ≡ []
  unfolding run_of_kind
  run_out i h = rw (drop_of_length-le text h)

  -- where a run that begins at a place ends, within the text
  pub run_within : (at r : ℕ) → at ≤ length text → r ≡ at + length (run_of_kind kind (drop at text)) → (at ≤ r) × (r ≤ length text)
  run_within at r h e = omega (arith, run_short kind (drop at text), length-drop at text)

  pub run_past : (at r : ℕ) → r ≡ at + length (run_of_kind kind (drop at text)) → beyond_run kind (drop at text) ≡ drop r text
  run_past at r e = run_beyond kind (drop at text) ∙ drop-drop (length (run_of_kind kind (drop at text))) at text ∙ rw e

  module _ {at i : ℕ} (s : RunSoFar kind text at i) where
    pub run_turn : i < length text → kind (get_or text i 0) ≡ true → RunSoFar kind text at (i + 1)
    run_turn h e =
        record {
          whole = s.whole ∙ rw (run_here i h e, add-one i) (omega arith);
          onward = omega (arith, s.onward);
          inside = omega arith;
        }

    pub run_stop : i < length text → kind (get_or text i 0) ≡ false → i ≡ at + length (run_of_kind kind (drop at text))
    run_stop h e = let q = run_ends i h e in omega (arith, s.whole, ap length q)

    pub run_end : length text ≤ i → i ≡ at + length (run_of_kind kind (drop at text))
    run_end h = let q = run_out i h in omega (arith, s.whole, ap length q)
