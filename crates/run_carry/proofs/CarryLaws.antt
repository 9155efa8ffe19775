-- The filling leaves the length and the head's words: by induction over the behaviours, each write at a place of its
-- own.
use Rattle.lib_base.proofs.Prelude.{ℕ, ◌<◌, ◌+◌, suc, zero, ◌≡◌, refl, ◌∙◌, List, length, arith}
use Rattle.lib_word.specs.Word.{get, put}
use Rattle.lib_word.proofs.Laws.{length_put, get_other}
use Rattle.run_carry.specs.Carry.{value_for, fill_at, filled_store}

pub length_fill_at : (m : List ℕ) (i v : ℕ) → length (fill_at m i v) ≡ length m
unfolding fill_at
length_fill_at m i v = length_put (put m (136 + i) v) (200 + i) v ∙ length_put m (136 + i) v

pub fill_at_head : (m : List ℕ) (i v k : ℕ) → k < 136 → get (fill_at m i v) k ≡ get m k
unfolding fill_at
fill_at_head m i v k h = get_other (put m (136 + i) v) (200 + i) v k (omega arith) ∙ get_other m (136 + i) v k (omega arith)

module _ (old t l m : List ℕ) where
  pub length_filled : (n : ℕ) → length (filled_store old t l m n) ≡ length m
  unfolding filled_store
  length_filled zero = refl
  length_filled (suc n) = length_fill_at (filled_store old t l m n) n (value_for old t l n) ∙ length_filled n

  pub filled_head : (n k : ℕ) → k < 136 → get (filled_store old t l m n) k ≡ get m k
  unfolding filled_store
  filled_head zero k h = refl
  filled_head (suc n) k h = fill_at_head (filled_store old t l m n) n (value_for old t l n) k h ∙ filled_head n k h
