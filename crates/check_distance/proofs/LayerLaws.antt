-- What the loops over the levels keep: each level is that of `layer`, by the bits of the rows.
use Rattle.lib_base.proofs.Prelude.{ℕ, ◌≤◌, ◌<◌, ◌+◌, ◌-◌, suc, zero, ◌^◌, ◌≡◌, refl, ◌∙◌, sym, ap, true, false, Bool}
use Rattle.lib_base.proofs.Prelude.{◌||◌, ◌&&◌, not, or-false, and-false, and-true, ◌≢◌, by_cases, List, length, get_or}
use Rattle.lib_base.proofs.Prelude.{set, get_or-set_other, get_or-set_same, eqb, sub-zero, add-one, dec_lt}
use Rattle.lib_base.proofs.Prelude.{ne_eqb, eqb-true, eq-eqb, eqb-false, arith}
use lib.Bits.{bit_and, and_le_l}
use borrow.Author.Count.{below_none, below_more}
use Rattle.lib_base.proofs.Tools.{split}
use Rattle.lib_bits.specs.Bits.{bit}
use Rattle.lib_bits.proofs.BitLaws.{bit_of_and, bit_none}
use Rattle.std.specs.Prelude.{Option}
use Rattle.check_graph.specs.Any.{any_below}
use Rattle.check_graph.specs.First.{FirstOf}
use Rattle.check_graph.proofs.First.{first_alike}
use Rattle.check_graph.specs.Matrix.{cell}
use Rattle.check_graph.specs.Sets.{RowsBelow, bytes_of}
use Rattle.check_graph.proofs.Any.{any_none, any_never, any_same, any_short}
use Rattle.check_graph.proofs.SetLaws.{bits_none, cell_bytes_law}
use Rattle.check_distance.specs.Layers.{layer, least_from, steps_back, walks_on, Leading, Layered, Back}

-- ---- what two sets share

abbrev both : ℕ → ℕ → ℕ → Bool
both a b h = bit a h && bit b h

pub share_is : (a b : ℕ) → a < 2 ^ 64 → not (eqb (bit_and a b) 0) ≡ any_below 64 (both a b)
share_is a b l =
    split (eqb (bit_and a b) 0)
    (λ t. rw t (sym (any_none 64 (both a b) (λ h c. sym (bit_of_and a b h) ∙ ap (λ (x : ℕ). bit x h) (eqb-true (bit_and a b) 0 t) ∙ bit_none h))))
    (λ t. rw t (split (any_below 64 (both a b)) (λ u. sym u)
    (λ u. absurd (eqb-false (bit_and a b) 0 t
    (bits_none 64 (bit_and a b) (omega (arith, and_le_l a b)) (λ h c. bit_of_and a b h ∙ any_never 64 (both a b) u h c))))))

-- ---- those that lead to a set

pub record Led (m : List ℕ) (n set found j : ℕ) : Type 0 where
  pub row : (x : ℕ) → x < j → bit found x ≡ any_below n (walks_on m set x)
  pub none : (x : ℕ) → j ≤ x → bit found x ≡ false

pub led_start : (m : List ℕ) (n set : ℕ) → Led m n set 0 0
led_start m n set = record { row = below_none _; none = λ x h. bit_none x }

module _ (rows : List ℕ) (n : ℕ) (few : n ≤ 64) where
  abbrev m : List ℕ
  m = bytes_of rows

  pub onward_is : (set j h : ℕ) → j < n → h < n → both (get_or rows j 0) set h ≡ walks_on m set j h
  unfolding walks_on
  onward_is set j h a b = ap (λ (x : Bool). x && bit set h) (sym (cell_bytes_law rows j h (omega arith) (omega arith)))

  pub first_onward : (set j : ℕ) (o : Option ℕ) → j < n → FirstOf (both (get_or rows j 0) set) n o → FirstOf (walks_on m set j) n o
  first_onward set j o a w = first_alike _ _ n (λ h b. onward_is set j h a b) o w

  module _ (low : RowsBelow rows n) where
    pub shares : (set j : ℕ) → j < n → any_below 64 (both (get_or rows j 0) set) ≡ any_below n (walks_on m set j)
    shares set j a =
        any_short n 64 (both (get_or rows j 0) set) few (λ h b. rw (low.none_past j h a b))
        ∙ any_same n (both (get_or rows j 0) set) (walks_on m set j) (λ h b. onward_is set j h a b)

    pub led_turn : {set found found' j : ℕ} → Led m n set found j → j < n
        → ((x : ℕ) → bit found' x ≡ bit found x || (any_below 64 (both (get_or rows j 0) set) && eqb x j)) → Led m n set found' (j + 1)
    led_turn {set} {found} {found'} {j} w h e = record {
      row = below_more _ _ (λ x b. e x ∙ others x (omega arith) ∙ w.row x b)
          (e j ∙ rw (w.none j (omega arith), eq-eqb j j refl) (and-true (any_below 64 (both (get_or rows j 0) set)) ∙ shares set j h));
      none = λ x b. e x ∙ others x (omega arith) ∙ w.none x (omega arith);
    }
      where
        others : (x : ℕ) → x ≢ j → bit found x || (any_below 64 (both (get_or rows j 0) set) && eqb x j) ≡ bit found x
        others x d = rw (ne_eqb x j d, and-false (any_below 64 (both (get_or rows j 0) set))) (or-false (bit found x))

-- ---- steps back

module _ (m : List ℕ) (n i : ℕ) where
  abbrev dep : ℕ → ℕ → Bool
  dep = λ a b. cell m a b

  abbrev home : ℕ → Bool
  home k = layer dep n k i i

  -- whether k + 1 steps lead from j to i
  layer_next : {s : List ℕ} {k : ℕ} → Layered m n i s k → (j : ℕ) → any_below n (walks_on m (get_or s k 0) j) ≡ layer dep n (k + 1) i j
  unfolding layer walks_on
  layer_next {s} {k} w j =
      rw (add-one k)
      (any_same n (walks_on m (get_or s k 0) j) (λ x. dep j x && layer dep n k i x) (λ x c. ap (λ y. dep j x && y) (w.walks k x (omega arith) c)))

  -- the first level, and the next
  first_layer : (s : List ℕ) (v : ℕ) → 0 < length s → ((x : ℕ) → bit v x ≡ bit 0 x || eqb x i) → Layered m n i (set s 0 v) 0
  unfolding layer
  first_layer s v l e = record {
    walks = λ q j h b. let z : q ≡ 0 = omega arith in
        rw (z, get_or-set_same s 0 v 0 l) (e j ∙ rw (bit_none j) (swap j));
  }
    where
      swap : (j : ℕ) → eqb j i ≡ eqb i j
      swap j = split (eqb i j) (λ t. eq-eqb j i (sym (eqb-true i j t)) ∙ sym t) (λ t. ne_eqb j i (λ q. eqb-false i j t (sym q)) ∙ sym t)

  more_layers : {s : List ℕ} {k v : ℕ} → k + 1 < length s → Layered m n i s k → Leading m n (get_or s k 0) v → Layered m n i (set s (k + 1) v) (k + 1)
  more_layers {s} {k} {v} l w f = record {
    walks = λ q j h b. by_cases (dec_lt k q)
        (λ p. let z : q ≡ k + 1 = omega arith in rw (z, get_or-set_same s (k + 1) v 0 l) (f.row j b ∙ layer_next w j))
        (λ p. let d : q ≢ k + 1 = omega arith in rw (get_or-set_other s (k + 1) q v 0 d) (w.walks q j (omega arith) b));
  }

  pub record Trying (s : List ℕ) (k : ℕ) : Type 0 where
    pub walks : Layered m n i s k
    pub whole : least_from home (n - k) (k + 1) ≡ least_from home n 1

  pub trying_start : (s : List ℕ) (v : ℕ) → length s ≡ 65 → ((x : ℕ) → bit v x ≡ bit 0 x || eqb x i) → Trying (set s 0 v) 0
  trying_start s v l e = record { walks = first_layer s v (omega arith) e; whole = rw sub-zero }

  pub trying_turn : {s : List ℕ} {k v : ℕ} → Trying s k → length s ≡ 65 → n ≤ 64 → k < n → false ≡ any_below n (walks_on m (get_or s k 0) i) → Leading m n (get_or s k 0) v → Trying (set s (k + 1) v) (k + 1)
  unfolding least_from
  trying_turn {s} {k} {v} w l few b t f =
      let e : home (k + 1) ≡ false = sym (layer_next w.walks i) ∙ sym t in
      let c : n - k ≡ suc (n - (k + 1)) = omega arith in
      let step : least_from home (suc (n - (k + 1))) (k + 1) ≡ least_from home (n - (k + 1)) (suc (k + 1)) = rw (e, least_from) in
      record {
        walks = more_layers (omega arith) w.walks f;
        whole = rw (add-one (k + 1)) (sym step ∙ (rw c at w.whole));
      }

  pub trying_stop : {s : List ℕ} {k : ℕ} → Trying s k → k < n → true ≡ any_below n (walks_on m (get_or s k 0) i) → Back m n i (k + 1) s
  unfolding least_from steps_back
  trying_stop {s} {k} w b t =
      let e : home (k + 1) ≡ true = sym (layer_next w.walks i) ∙ sym t in
      let c : n - k ≡ suc (n - (k + 1)) = omega arith in
      let step : least_from home (suc (n - (k + 1))) (k + 1) ≡ k + 1 = rw (e, least_from) in
      let z : k + 1 - 1 ≡ k = omega arith in
      record { steps = sym step ∙ (rw c at w.whole); few = omega arith; layers = rw z w.walks }

  pub trying_end : {s : List ℕ} {k : ℕ} → Trying s k → k ≡ n → steps_back dep n i ≡ n + 1
  unfolding least_from steps_back
  trying_end {s} {k} w z =
      let c : n - k ≡ 0 = omega arith in
      sym (rw z at (rw c at w.whole))

  -- where a level is empty all that follow are
  none_later : (k : ℕ) → ((j : ℕ) → j < n → layer dep n k i j ≡ false) → (x : ℕ) → k ≤ x → (j : ℕ) → j < n → layer dep n x i j ≡ false
  unfolding layer
  none_later k e zero h j b = let z : k ≡ 0 = omega arith in rw z at (e j b)
  none_later k e (suc x) h j b =
      by_cases (dec_lt x k)
      (λ s. let z : k ≡ suc x = omega arith in rw z at (e j b))
      (λ s. any_none n (λ y. dep j y && layer dep n x i y) (λ y c. rw (none_later k e x (omega arith) y c) (and-false (dep j y))))

  least_none : (f : ℕ → Bool) (k a : ℕ) → ((x : ℕ) → a ≤ x → f x ≡ false) → least_from f k a ≡ a + k
  unfolding least_from
  least_none f zero a e = omega arith
  least_none f (suc k) a e = rw (e a (omega arith), least_from) (least_none f k (suc a) (λ x b. e x (omega arith)) ∙ omega arith)

  pub trying_none : {s : List ℕ} {k : ℕ} → Trying s k → i < n → k < n → get_or s k 0 ≡ 0 → steps_back dep n i ≡ n + 1
  unfolding steps_back
  trying_none {s} {k} w b l h =
      let e : (j : ℕ) → j < n → layer dep n k i j ≡ false = λ j c. sym (w.walks.walks k j (omega arith) c) ∙ rw h (bit_none j) in
      let later : (x : ℕ) → k + 1 ≤ x → home x ≡ false = λ x c. none_later k e x (omega arith) i b in
      let z : k + 1 + (n - k) ≡ n + 1 = omega arith in
      sym w.whole ∙ least_none home (n - k) (k + 1) later ∙ z
