-- First cells noted in one walk over the fields: those before the place are right, and every number behind is its own
-- (`Heading`).
use Rattle.lib_base.proofs.Prelude.{ℕ, ◌≤◌, ◌<◌, ◌+◌, ◌-◌, suc, zero, ◌≡◌, ◌∙◌, ◌≢◌, by_cases, List, length, get_or}
use Rattle.lib_base.proofs.Prelude.{drop, eqb, ltb, dec_lt}
use Rattle.lib_base.proofs.Prelude.{ltb-false, arith}
use Rattle.lib_base.proofs.Tools.{split}
use Rattle.sheet_walk.specs.Fields.{after_field, cells_in_front}
use Rattle.source_walk.specs.Fields.{first_cell}
use Rattle.source_walk.specs.Heads.{OwnFrom, CellsNoted, HeadsOf}
use Rattle.source_walk.proofs.Places.{Seeking, seeking_on, seeking_finds, seeking_ends}

-- ---- all of them

pub record Heading (s : List ℕ) (first : ℕ) (heads : List ℕ) (at j left : ℕ) : Type 0 where
  pub own : OwnFrom heads j
  pub passed : (i : ℕ) → i < j → i < 256 → get_or heads i 0 ≡ first_cell (length s) 0 (drop first s) i
  pub rest : (i : ℕ) → j ≤ i → Seeking s first i at j left
  pub inside : at ≤ length s
  pub few : j ≤ 510

pub heading_on : {s : List ℕ} {first : ℕ} {a b : List ℕ} {at j left x y : ℕ} → Heading s first a at j left → 0 < left → at ≢ length s → j ≤ 255
    → x ≡ cells_in_front (drop at s) → x ≤ 255 → CellsNoted a b j x → drop y s ≡ after_field (drop at s) → y ≤ length s → Heading s first b y (j + x) (left - 1)
heading_on {s} {first} {a} {b} {at} {j} {left} {x} {y} u h n f e r c d l = record {
  own = record { long = c.as_long ∙ u.own.long; own = λ i g m. c.behind i g ∙ u.own.own i (omega arith) m };
  passed = λ i g m. by_cases (dec_lt i j)
      (λ p. c.before i p ∙ u.passed i p m)
      (λ p. c.cells i (omega arith) g m ∙ seeking_finds (u.rest i (omega arith)) h n e g);
  rest = λ i g. seeking_on (u.rest i (omega arith)) h n e g d l;
  inside = l;
  few = omega arith;
}

pub heading_ends : {s : List ℕ} {first : ℕ} {heads : List ℕ} {at j left : ℕ} → Heading s first heads at j left → at ≡ length s → HeadsOf s first heads
heading_ends {s} {first} {heads} {at} {j} {left} u h = record {
  each = λ i l. by_cases (dec_lt i j) (λ p. u.passed i p l) (λ p. u.own.own i (omega arith) l ∙ seeking_ends (u.rest i (omega arith)) h);
}

-- ---- a first cell is no later than the cell

first_below : (k j : ℕ) (b : List ℕ) (i : ℕ) → j ≤ i → first_cell k j b i ≤ i
unfolding first_cell
first_below zero j b i h = omega arith
first_below (suc k) j b i h =
    split (eqb (length b) 0)
    (λ e. rw e (omega arith))
    (λ e. split (ltb i (j + cells_in_front b))
    (λ d. rw (e, d) h)
    (λ d. rw (e, d) (first_below k (j + cells_in_front b) (after_field b) i (ltb-false i (j + cells_in_front b) d))))

pub head_below : {s : List ℕ} {first : ℕ} {heads : List ℕ} → HeadsOf s first heads → (i : ℕ) → i < 256 → get_or heads i 0 ≤ i
head_below {s} {first} {heads} u i h = rw (u.each i h) (first_below (length s) 0 (drop first s) i (omega arith))
