-- The closed matrix decides `Reach`: passing through k adds exactly the pairs (i, j) with i to k and k to j, so what is
-- marked is reached, and the marks are closed under every node that is passed.
use Rattle.lib_base.proofs.Prelude.{ℕ, ◌≤◌, ◌<◌, ◌+◌, suc, zero, ◌*◌, ◌≡◌, refl, ◌∙◌, sym, ap, subst, true, false, Bool}
use Rattle.lib_base.proofs.Prelude.{◌||◌, false≢true, ◌&&◌, not, and-eq-true_iff, or-false, or-true, ◌≢◌, by_cases, ◌⊎◌}
use Rattle.lib_base.proofs.Prelude.{⊎_elim, inr, inl, List, length, get_or, length-set, set, get_or-set_other}
use Rattle.lib_base.proofs.Prelude.{get_or-set_same, eqb, ltb, dec_lt, lt-ltb, ltb-true, arith}
use Rattle.lib_base.proofs.Tools.{by_test, or_either, split}
use Rattle.spec_language.specs.Dependence.{Reach, one, more}
use Rattle.check_graph.specs.Matrix.{cell, cell_below, close_cell, close_row, close_through, close_rows, close_by, closed}

-- ---- Booleans

pub absorb : (b c : Bool) → c || (b && c) ≡ c
absorb true true = refl
absorb true false = refl
absorb false true = refl
absorb false false = refl

-- ---- lengths

pub length_close_cell : (m : List ℕ) (i k j : ℕ) → length (close_cell m i k j) ≡ length m
unfolding close_cell
length_close_cell m i k j = by_test (λ (x : List ℕ). length x ≡ length m) (eqb (get_or m (k * 64 + j) 0) 0) (λ e. refl) (λ e. length-set m (i * 64 + j) 1)

pub length_close_row : (m : List ℕ) (i k c : ℕ) → length (close_row m i k c) ≡ length m
unfolding close_row
length_close_row m i k zero = refl
length_close_row m i k (suc c) = length_close_cell (close_row m i k c) i k c ∙ length_close_row m i k c

pub length_close_through : (m : List ℕ) (i k n : ℕ) → length (close_through m i k n) ≡ length m
unfolding close_through
length_close_through m i k n = by_test (λ (x : List ℕ). length x ≡ length m) (eqb (get_or m (i * 64 + k) 0) 0) (λ e. refl) (λ e. length_close_row m i k n)

pub length_close_rows : (m : List ℕ) (k n r : ℕ) → length (close_rows m k n r) ≡ length m
unfolding close_rows
length_close_rows m k n zero = refl
length_close_rows m k n (suc r) = length_close_through (close_rows m k n r) r k n ∙ length_close_rows m k n r

pub length_close_by : (m : List ℕ) (n k : ℕ) → length (close_by m n k) ≡ length m
unfolding close_by
length_close_by m n zero = refl
length_close_by m n (suc k) = length_close_rows (close_by m n k) k n n ∙ length_close_by m n k

-- ---- one cell is set

set_same : (m : List ℕ) (i j : ℕ) → length m ≡ 4096 → i < 64 → j < 64 → cell (set m (i * 64 + j) 1) i j ≡ true
set_same m i j l p q = rw (get_or-set_same m (i * 64 + j) 1 0 (omega arith))

set_other : (m : List ℕ) (i j a b : ℕ) → j < 64 → b < 64 → (a ≡ i → b ≡ j → ⊥) → cell (set m (i * 64 + j) 1) a b ≡ cell m a b
set_other m i j a b p q h =
    let d : a * 64 + b ≢ i * 64 + j = λ e. h (omega arith) (omega arith) in
    rw (get_or-set_other m (i * 64 + j) (a * 64 + b) 1 0 d)

-- ---- row i takes in row k

row_other : (m : List ℕ) (i k c a b : ℕ) → c ≤ 64 → b < 64 → (a ≡ i → b < c → ⊥) → cell (close_row m i k c) a b ≡ cell m a b
unfolding close_row close_cell
row_other m i k zero a b p q h = refl
row_other m i k (suc c) a b p q h =
    let w = close_row m i k c in
    let before : cell w a b ≡ cell m a b = row_other m i k c a b (omega arith) q (λ e x. h e (omega arith)) in
    by_test (λ x. cell x a b ≡ cell m a b) (eqb (get_or w (k * 64 + c) 0) 0) (λ e. before)
    (λ e. set_other w i c a b (omega arith) q (λ x y. h x (omega arith)) ∙ before)

row_in : (m : List ℕ) (i k c b : ℕ) → length m ≡ 4096 → i < 64 → c ≤ 64 → b < c → cell (close_row m i k c) i b ≡ cell m i b || cell m k b
unfolding close_row close_cell
row_in m i k zero b l o p q = absurd (omega arith)
row_in m i k (suc c) b l o p q =
    let w = close_row m i k c in
    let long : length w ≡ 4096 = length_close_row m i k c ∙ l in
    let here : cell w k c ≡ cell m k c = row_other m i k c k c (omega arith) (omega arith) (λ x y. omega arith) in
    let mine : cell w i c ≡ cell m i c = row_other m i k c i c (omega arith) (omega arith) (λ x y. omega arith) in
    by_cases (dec_lt b c)
    (λ s. by_test (λ x. cell x i b ≡ cell m i b || cell m k b) (eqb (get_or w (k * 64 + c) 0) 0) (λ e. row_in m i k c b l o (omega arith) s)
    (λ e. set_other w i c i b (omega arith) (omega arith) (λ x y. omega arith) ∙ row_in m i k c b l o (omega arith) s))
    (λ s. let f : c ≡ b = omega arith in subst (λ z. cell (close_cell w i k c) i z ≡ cell m i z || cell m k z) f
    (by_test (λ x. cell x i c ≡ cell m i c || cell m k c) (eqb (get_or w (k * 64 + c) 0) 0)
    (λ e. let z : cell m k c ≡ false = sym here ∙ ap not e in rw z (mine ∙ sym (or-false (cell m i c))))
    (λ e. let z : cell m k c ≡ true = sym here ∙ ap not e in rw z (set_same w i c long o (omega arith) ∙ sym (or-true (cell m i c))))))

-- ---- it does so only where i depends on k

through_other : (m : List ℕ) (i k n a b : ℕ) → n ≤ 64 → b < 64 → a ≢ i → cell (close_through m i k n) a b ≡ cell m a b
unfolding close_through
through_other m i k n a b p q h =
    by_test (λ x. cell x a b ≡ cell m a b) (eqb (get_or m (i * 64 + k) 0) 0) (λ e. refl) (λ e. row_other m i k n a b p q (λ x y. h x))

through_in : (m : List ℕ) (i k n b : ℕ) → length m ≡ 4096 → i < 64 → n ≤ 64 → b < n
    → cell (close_through m i k n) i b ≡ cell m i b || (cell m i k && cell m k b)
unfolding close_through
through_in m i k n b l o p q =
    by_test (λ x. cell x i b ≡ cell m i b || (cell m i k && cell m k b)) (eqb (get_or m (i * 64 + k) 0) 0)
    (λ e. let z : cell m i k ≡ false = ap not e in rw z (sym (or-false (cell m i b))))
    (λ e. let z : cell m i k ≡ true = ap not e in rw z (row_in m i k n b l o p q))

-- ---- a pass through k: row k and column k stay as they were

rows_left : (m : List ℕ) (k n r a b : ℕ) → n ≤ 64 → b < 64 → r ≤ a → cell (close_rows m k n r) a b ≡ cell m a b
unfolding close_rows
rows_left m k n zero a b p q h = refl
rows_left m k n (suc r) a b p q h = through_other (close_rows m k n r) r k n a b p q (omega arith) ∙ rows_left m k n r a b p q (omega arith)

rows_done : (m : List ℕ) (k n r a b : ℕ) → length m ≡ 4096 → n ≤ 64 → k < n → r ≤ n → a < r → b < n
    → cell (close_rows m k n r) a b ≡ cell m a b || (cell m a k && cell m k b)
unfolding close_rows
rows_done m k n zero a b l p kn rn ar bn = absurd (omega arith)
rows_done m k n (suc r) a b l p kn rn ar bn =
    let w = close_rows m k n r in
    let long : length w ≡ 4096 = length_close_rows m k n r ∙ l in
    let row : cell w k b ≡ cell m k b =
    by_cases (dec_lt k r) (λ s. rows_done m k n r k b l p kn (omega arith) s bn ∙ absorb (cell m k k) (cell m k b))
    (λ s. rows_left m k n r k b p (omega arith) (omega arith)) in
    let column : cell w r k ≡ cell m r k = rows_left m k n r r k p (omega arith) (omega arith) in
    let own : cell w r b ≡ cell m r b = rows_left m k n r r b p (omega arith) (omega arith) in
    by_cases (dec_lt a r)
    (λ s. through_other w r k n a b p (omega arith) (omega arith) ∙ rows_done m k n r a b l p kn (omega arith) s bn)
    (λ s. let f : r ≡ a = omega arith in subst (λ z. cell (close_through w r k n) z b ≡ cell m z b || (cell m z k && cell m k b)) f
    (through_in w r k n b long (omega arith) p bn ∙ cc))

-- the exact effect of a pass
pub pass_is : (m : List ℕ) (k n : ℕ) → length m ≡ 4096 → n ≤ 64 → k < n → (i j : ℕ) → i < n → j < n
    → cell (close_rows m k n n) i j ≡ cell m i j || (cell m i k && cell m k j)
pass_is m k n l p kn i j a b = rows_done m k n n i j l p kn (omega arith) a b

-- ---- dependence among the first n

pub below_says : (n : ℕ) (m : List ℕ) (i j : ℕ) → cell_below n m i j ≡ true → (i < n) × (j < n) × (cell m i j ≡ true)
below_says n m i j =
    by_test (λ x. x ≡ true → (i < n) × (j < n) × (cell m i j ≡ true)) (ltb i n)
    (λ p. by_test (λ x. x ≡ true → (i < n) × (j < n) × (cell m i j ≡ true)) (ltb j n) (λ q e. (ltb-true i n p, ltb-true j n q, e)) (λ q e. absurd (false≢true e)))
    (λ p e. absurd (false≢true e))

pub below_is : (n : ℕ) (m : List ℕ) (i j : ℕ) → i < n → j < n → cell m i j ≡ true → cell_below n m i j ≡ true
below_is n m i j p q e = rw (lt-ltb i n p, lt-ltb j n q) e

pub reach_then : {dep : ℕ → ℕ → Bool} {a b c : ℕ} → Reach dep a b → Reach dep b c → Reach dep a c
reach_then r (one d) = more r d
reach_then r (more s d) = more (reach_then r s) d

-- more dependence, more is reached
pub reach_map : {dep dep' : ℕ → ℕ → Bool} → ((i j : ℕ) → dep i j ≡ true → dep' i j ≡ true) → {a b : ℕ} → Reach dep a b → Reach dep' a b
reach_map f (one d) = one (f _ _ d)
reach_map f (more r d) = more (reach_map f r) (f _ _ d)

-- a chain among the first n starts and ends there
pub reach_within : (n : ℕ) (m : List ℕ) {i j : ℕ} → Reach (cell_below n m) i j → (i < n) × (j < n)
reach_within n m {i} {j} (one d) = let b = below_says n m i j d in (b.0, b.1)
reach_within n m {i} {j} (more {b = h} r d) = ((reach_within n m r).0, (below_says n m h j d).1)

-- ---- after each pass: what is marked is reached, no mark is lost, the marks are closed under the nodes passed

module _ (m : List ℕ) (n : ℕ) (l : length m ≡ 4096) (small : n ≤ 64) where
  record Good (w : List ℕ) (k : ℕ) : Type 0 where
    sound : (i j : ℕ) → i < n → j < n → cell w i j ≡ true → Reach (cell_below n m) i j
    grown : (i j : ℕ) → i < n → j < n → cell m i j ≡ true → cell w i j ≡ true
    tight : (i h j : ℕ) → i < n → h < k → j < n → cell w i h ≡ true → cell w h j ≡ true → cell w i j ≡ true

  module _ (w v : List ℕ) (k : ℕ) (kn : k < n) (g : Good w k)
      (is : (i j : ℕ) → i < n → j < n → cell v i j ≡ cell w i j || (cell w i k && cell w k j)) where
    down : (i j : ℕ) → i < n → j < n → cell v i j ≡ true → (cell w i j ≡ true) ⊎ ((cell w i k ≡ true) × (cell w k j ≡ true))
    down i j a b e =
        ⊎_elim inl (λ f. inr ((and-eq-true_iff (cell w i k) (cell w k j)).0 f))
        (or_either (cell w i j) (cell w i k && cell w k j) (sym (is i j a b) ∙ e))

    up : (i j : ℕ) → i < n → j < n → cell w i j ≡ true → cell v i j ≡ true
    up i j a b e = is i j a b ∙ rw e

    join : (i j : ℕ) → i < n → j < n → cell w i k ≡ true → cell w k j ≡ true → cell v i j ≡ true
    join i j a b e f = is i j a b ∙ rw (e, f) (or-true (cell w i j))

    -- through an earlier node
    through : (i h j : ℕ) → i < n → h < k → j < n → cell v i h ≡ true → cell v h j ≡ true → cell v i j ≡ true
    through i h j a b c e f =
        ⊎_elim
        (λ x. ⊎_elim (λ y. up i j a c (g.tight i h j a b c x y)) (λ y. join i j a c (g.tight i h k a b kn x y.0) y.1) (down h j (omega arith) c f))
        (λ x. ⊎_elim (λ y. join i j a c x.0 (g.tight k h j kn b c x.1 y)) (λ y. join i j a c x.0 y.1) (down h j (omega arith) c f))
        (down i h a (omega arith) e)

    good_pass : Good v (suc k)
    good_pass = record {
      sound = λ i j a b e. ⊎_elim (g.sound i j a b) (λ x. reach_then (g.sound i k a kn x.0) (g.sound k j kn b x.1)) (down i j a b e);
      grown = λ i j a b e. up i j a b (g.grown i j a b e);
      tight = λ i h j a b c e f. by_cases (dec_lt h k) (λ s. through i h j a s c e f)
          (λ s. let q : h ≡ k = omega arith in
          join i j a c (⊎_elim (λ x. x) (λ x. x.0) (down i k a kn (rw q at e))) (⊎_elim (λ x. x) (λ x. x.1) (down k j kn c (rw q at f))));
    }

  good : (k : ℕ) → k ≤ n → Good (close_by m n k) k
  unfolding close_by
  good zero kn = record {
    sound = λ i j a b e. one (below_is n m i j a b e);
    grown = λ i j a b e. e;
    tight = λ i h j a b c e f. absurd (omega arith);
  }
  good (suc k) kn =
      let w = close_by m n k in
      let long : length w ≡ 4096 = length_close_by m n k ∙ l in
      good_pass w (close_rows w k n n) k (omega arith) (good k (omega arith)) (pass_is w k n long small (omega arith))

  marked : {i j : ℕ} → Reach (cell_below n m) i j → (i < n) × (j < n) × (cell (closed m n) i j ≡ true)
  unfolding closed
  marked {i} {j} (one d) = let b = below_says n m i j d in (b.0, b.1, (good n (omega arith)).grown i j b.0 b.1 b.2)
  marked {i} {j} (more {b = h} r d) =
      let g = good n (omega arith) in
      let b = below_says n m h j d in
      let x = marked r in
      (x.0, b.1, g.tight i h j x.0 b.0 b.1 x.2 (g.grown h j b.0 b.1 b.2))

  reached : (i j : ℕ) → i < n → j < n → cell (closed m n) i j ≡ true → Reach (cell_below n m) i j
  unfolding closed
  reached = (good n (omega arith)).sound

-- the closed matrix decides what is reached among the first n
pub closed_decides : (m : List ℕ) (n : ℕ) → length m ≡ 4096 → n ≤ 64 → (i j : ℕ) → i < n → j < n
    → ((cell (closed m n) i j ≡ true → Reach (cell_below n m) i j) × (Reach (cell_below n m) i j → cell (closed m n) i j ≡ true))
closed_decides m n l small i j a b = (reached m n l small i j a b, λ r. (marked m n l small r).2)

-- two matrices that are alike among the first n
pub closed_same : (m w : List ℕ) (n : ℕ) → length m ≡ 4096 → length w ≡ 4096 → n ≤ 64 → ((i j : ℕ) → i < n → j < n → cell m i j ≡ cell w i j)
    → (i j : ℕ) → i < n → j < n → cell (closed m n) i j ≡ cell (closed w n) i j
closed_same m w n l k small e i j a b =
    split (cell (closed m n) i j)
    (λ t. t ∙ sym (over m w l k e t))
    (λ t. t ∙ sym (split (cell (closed w n) i j) (λ u. absurd (false≢true (sym t ∙ over w m k l (λ x y c d. sym (e x y c d)) u))) (λ u. u)))
  where
    over : (m w : List ℕ) → length m ≡ 4096 → length w ≡ 4096 → ((i j : ℕ) → i < n → j < n → cell m i j ≡ cell w i j) → cell (closed m n) i j ≡ true
        → cell (closed w n) i j ≡ true
    over m w l k e t =
        (closed_decides w n k small i j a b).1
        (reach_map (λ x y h. let v = below_says n m x y h in below_is n w x y v.0 v.1 (sym (e x y v.0 v.1) ∙ v.2)) ((closed_decides m n l small i j a b).0 t))
