-- Who is placed, each after its needs, does not reach itself: along the order (crate spec_semantics).
use Rattle.lib_base.proofs.Prelude.{ℕ, zero, suc, ◌≤◌, ◌<◌, ◌-◌, ◌^◌, not, eqb, ◌≡◌, refl, ◌∙◌, sym, ap, subst, true, false, Bool, true≢false, ◌⊎◌}
use Rattle.lib_base.proofs.Prelude.{⊎_elim, inr, inl, List, length, get_or, arith}
use Rattle.lib_base.proofs.Tools.{by_test, split}
use Rattle.std.specs.Prelude.{Option, None}
use Rattle.std.specs.Int.{w64, bit_not, bit_at}
use Rattle.std.proofs.lemmas.Nat.Bits.{bit_at_not, bit_at-lt}
use Rattle.lib_bits.specs.Bits.{bit}
use Rattle.lib_bits.proofs.BitLaws.{bit_none}
use Rattle.spec_language.specs.Dependence.{Reach, one, more}
use Rattle.spec_language.specs.Order.{order, up_to}
use Rattle.spec_language.proofs.Laws.{get_d_up_to}
use Rattle.spec_semantics.proofs.OrderLaws.{mark_all, order_ordered, along}
use Rattle.draft_form.specs.Draft.{draft_length}
use Rattle.check_graph.specs.First.{FirstOf}
use Rattle.check_graph.proofs.First.{first_alike}
use Rattle.check_graph.specs.Matrix.{cell, cell_below, closed}
use Rattle.check_graph.specs.Placing.{placed, order_on, is_marked}
use Rattle.check_graph.specs.Sets.{bytes_of, marks_of}
use Rattle.check_graph.proofs.Closure.{below_says, below_is, closed_decides, closed_same}
use Rattle.check_graph.proofs.OrderIs.{order_same, order_marks}
use Rattle.check_graph.proofs.SetLaws.{length_bytes, length_marks, marked_is}
use Rattle.check_faults.specs.Checks.{matrix_on, closed_on, RowsAre, PlacedOn, LeftClosed, left_round, RoundOn, RowsInside}
use Rattle.check_faults.proofs.RowLaws.{length_matrix_on, rows_cells}

first_step : {dep : ℕ → ℕ → Bool} {a c : ℕ} → Reach dep a c → (b : ℕ) × (dep a b ≡ true) × ((b ≡ c) ⊎ Reach dep b c)
first_step {c = c} (one d) = (c, d, inl refl)
first_step {dep} {c = c} (more r d) =
    let w = first_step r in
    (w.0, w.1, inr (⊎_elim (λ e. one (subst (λ (x : ℕ). dep x c ≡ true) (sym e) d)) (λ s. more s d) w.2))

-- what does not reach itself wherever its needs do not
not_round : {dep : ℕ → ℕ → Bool} {i : ℕ} → ((j : ℕ) → dep i j ≡ true → Reach dep j j → ⊥) → Reach dep i i → ⊥
not_round {dep} {i} h r =
    let w = first_step r in
    ⊎_elim (λ e. h w.0 w.1 (subst (λ (x : ℕ). Reach dep x x) (sym e) r)) (λ s. h w.0 w.1 (more s w.1)) w.2

module _ (rows : List ℕ) (n : ℕ) (few : n ≤ 64) (count s : ℕ) (out out' : List ℕ)
    (q : placed count (marks_of s) out' ≡ order_on (bytes_of rows) n n (marks_of 0) 0 out) where
  abbrev dep : ℕ → ℕ → Bool
  dep = cell_below n (bytes_of rows)

  within : (a b : ℕ) → dep a b ≡ true → (a < n) × (b < n)
  within a b h = let v = below_says n (bytes_of rows) a b h in (v.0, v.1)

  none : List Bool
  none = up_to n (λ i. is_marked (marks_of 0) i)

  none_yet : (x : ℕ) → x < n → get_or none x false ≡ false
  unfolding none
  none_yet x h = get_d_up_to n (λ i. is_marked (marks_of 0) i) x false h ∙ marked_is 0 x (omega arith) ∙ bit_none x

  cells : (i j : ℕ) → i < n → j < n → cell (bytes_of rows) i j ≡ dep i j
  cells i j h k =
      split (cell (bytes_of rows) i j) (λ t. t ∙ sym (below_is n (bytes_of rows) i j h k t))
      (λ t. t ∙ split (dep i j) (λ u. absurd (true≢false (sym (below_says n (bytes_of rows) i j u).2 ∙ t))) (λ u. sym u))

  -- in the end, who is in the set is marked
  in_set : (j : ℕ) → j < n → bit s j ≡ get_or (mark_all (order n dep n none) none) j false
  unfolding none
  in_set j h =
      sym (marked_is s j (omega arith)) ∙ order_marks (bytes_of rows) (marks_of 0) out n (length_marks 0) few count (marks_of s) out' q j h
      ∙ ap (λ (o : List ℕ). get_or (mark_all o (up_to n (λ i. is_marked (marks_of 0) i))) j false)
      (order_same n (λ i j. cell (bytes_of rows) i j) dep cells n (up_to n (λ i. is_marked (marks_of 0) i)))

  not_reached : (i : ℕ) → i < n → bit s i ≡ true → Reach dep i i → ⊥
  not_reached i b h =
      along n dep within (λ x. Reach dep x x → ⊥) (λ x c k. not_round k) (order n dep n none) none (order_ordered n dep within n none)
      (λ x c t. absurd (true≢false (sym t ∙ none_yet x c))) i b (sym (in_set i b) ∙ h)

  pub placed_on : PlacedOn rows n s
  placed_on = record {
    none_round = λ i b h. split (cell (closed (bytes_of rows) n) i i)
        (λ t. absurd (not_reached i b h ((closed_decides (bytes_of rows) n (length_bytes rows) few i i b b).0 t))) (λ t. t);
  }

-- who is not in a set
pub bit_of_not : (s i : ℕ) → s < 2 ^ 64 → i < 64 → bit (bit_not w64 s) i ≡ not (bit s i)
unfolding bit
bit_of_not s i h b = ap (λ (x : ℕ). eqb x 1) (bit_at_not w64 s i h b) ∙ digit (bit_at s i) (bit_at-lt s i)
  where
    digit : (x : ℕ) → x < 2 → eqb (1 - x) 1 ≡ not (eqb x 1)
    digit zero h = refl
    digit (suc zero) h = refl
    digit (suc (suc x)) h = absurd (omega arith)

pub left_first : (s n : ℕ) (o : Option ℕ) → s < 2 ^ 64 → n ≤ 64 → FirstOf (bit (bit_not w64 s)) n o → FirstOf (λ i. not (bit s i)) n o
left_first s n o h few w = first_alike _ _ n (λ i b. bit_of_not s i h (omega arith)) o w

-- none is left: all are in the set
pub none_left : (s n : ℕ) → FirstOf (λ i. not (bit s i)) n None → (i : ℕ) → i < n → bit s i ≡ true
none_left s n w i b = split (bit s i) (λ t. t) (λ t. absurd (true≢false (sym (ap not t) ∙ w i b)))

-- by the rows as by the matrix
pub rows_closed : (d : List ℕ) → length d ≡ draft_length → (e n : ℕ) → n ≤ 64 → RowsInside d e n → {rows : List ℕ} → RowsAre d e n rows → (i : ℕ) → i < n
    → cell (closed (bytes_of rows) n) i i ≡ cell (closed_on d e n) i i
unfolding closed_on
rows_closed d l e n few inside {rows} w i h =
    closed_same (bytes_of rows) (matrix_on d e n) n (length_bytes rows) (length_matrix_on d e n) few
    (rows_cells d l e n few inside w) i i h h

-- who is placed does not reach itself, of another the closed rows tell it
pub round_told : (d : List ℕ) (e n : ℕ) {set : ℕ} {rows after : List ℕ} → length d ≡ draft_length → n ≤ 64 → RowsInside d e n → RowsAre d e n rows → PlacedOn rows n set
    → LeftClosed rows set n after → RoundOn d e n set after
unfolding left_round
round_told d e n {set} {rows} {after} l few inside w p k = record {
  told = λ b h. by_test (λ x. x ≡ cell (closed_on d e n) b b) (bit set b)
      (λ t. sym (p.none_round b h t) ∙ rows_closed d l e n few inside w b h)
      (λ t. k.reached b h t ∙ rows_closed d l e n few inside w b h);
}
