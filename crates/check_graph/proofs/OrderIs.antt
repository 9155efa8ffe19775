-- Placing on bytes gives language's `order`: the marks as bytes and as Booleans agree at each step, so each test, and
-- each choice, is the same.
use Rattle.lib_base.proofs.Prelude.{ℕ, ◌≤◌, ◌<◌, ◌+◌, suc, zero, ◌*◌, ◌≡◌, refl, ◌∙◌, sym, ap, subst, true, false, Bool}
use Rattle.lib_base.proofs.Prelude.{false≢true, true≢false, ◌&&◌, not, Option, some, none, List, [], ◌∷◌, ◌++◌}
use Rattle.lib_base.proofs.Prelude.{append_assoc, length, get_or, take, drop, length-set, set, List·getD-append}
use Rattle.lib_base.proofs.Prelude.{take-append-drop, get_or-set_other, get_or-set_same, take-suc-set, take-append_seam}
use Rattle.lib_base.proofs.Prelude.{eqb, ltb, eqb-true, le-ltb, lt-ltb, eqb-false, arith}
use native.Mathlib.Nat.{zero-add}
use lib.Seq.{drop-set-lt}
use Rattle.lib_base.specs.Basics.{pick, All}
use Rattle.lib_base.proofs.Tools.{split, by_elim, by_option, all_at}
use Rattle.spec_language.specs.Order.{met, find, order, up_to}
use Rattle.spec_language.proofs.Laws.{length_up_to, get_d_up_to, up_to_same}
use Rattle.spec_semantics.proofs.OrderLaws.{mark_all}
use Rattle.check_graph.specs.Matrix.{cell}
use Rattle.check_graph.specs.Placing.{lacks_need, met_on, ready_on, find_on, Placed, placed, order_on, is_marked, ordered, OrderWritten}

-- ---- branches

branch_same : {A : Type 0} (b c : Bool) (f : A) {x y : A} → b ≡ c → x ≡ y → ◌≡◌ {A = A} (elim b [ true ↦ f | false ↦ x ]) (elim c [ true ↦ f | false ↦ y ])
branch_same true true f e p = refl
branch_same true false f e p = cc
branch_same false true f e p = cc
branch_same false false f e p = p

option_same : {A B : Type 0} (o p : Option A) (x : B) {f g : A → B} → o ≡ p → ((a : A) → f a ≡ g a)
    → ◌≡◌ {A = B} (elim o [ none ↦ x | some a ↦ f a ]) (elim p [ none ↦ x | some a ↦ g a ])
option_same none none x e h = refl
option_same none (some b) x e h = cc
option_same (some a) none x e h = cc
option_same (some a) (some b) x {g} e h = let q : a ≡ b = cc in h a ∙ ap g q

lacks_test : (a b : Bool) → pick a false b ≡ not a && not (not b)
lacks_test true b = refl
lacks_test false true = refl
lacks_test false false = refl

ready_test : (a b : Bool) → pick a b false ≡ not (not a) && b
ready_test true b = refl
ready_test false b = refl

-- ---- the order looks at dependence among the first n only

module _ (n : ℕ) (dep dep' : ℕ → ℕ → Bool) (same : (i j : ℕ) → i < n → j < n → dep i j ≡ dep' i j) where
  met_same : (i k : ℕ) (m : List Bool) → i < n → k ≤ n → met n dep i k m ≡ met n dep' i k m
  unfolding met
  met_same i zero m a b = refl
  met_same i (suc k) m a b =
      branch_same (dep i k && not (get_or m k false)) (dep' i k && not (get_or m k false)) false (ap (λ x. x && not (get_or m k false)) (same i k a (omega arith)))
      (met_same i k m a (omega arith))

  find_same : (k i : ℕ) (m : List Bool) → i + k ≤ n → find n dep k i m ≡ find n dep' k i m
  unfolding find
  find_same zero i m h = refl
  find_same (suc k) i m h =
      branch_same (not (get_or m i false) && met n dep i n m) (not (get_or m i false) && met n dep' i n m) (some i)
      (ap (λ x. not (get_or m i false) && x) (met_same i n m (omega arith) (omega arith)))
      (find_same k (suc i) m (omega arith))

  pub order_same : (k : ℕ) (m : List Bool) → order n dep k m ≡ order n dep' k m
  unfolding order
  order_same zero m = refl
  order_same (suc k) m =
      option_same (find n dep n 0 m) (find n dep' n 0 m) [] (find_same n 0 m (omega arith)) (λ a. ap (λ l. a ∷ l) (order_same k (set m a true)))

-- ---- who is placed is below n

module _ (n : ℕ) (dep : ℕ → ℕ → Bool) where
  abbrev Within : ℕ → Option ℕ → Type 0
  Within e none = Unit {0}
  Within e (some x) = x < e

  find_within : (k i : ℕ) (m : List Bool) → Within (i + k) (find n dep k i m)
  unfolding find
  find_within zero i m = tt
  find_within (suc k) i m =
      by_elim (Within (i + suc k)) (not (get_or m i false) && met n dep i n m) (λ e. let h : i < i + suc k = omega arith in h)
      (λ e. let h : i + suc k ≡ suc i + k = omega arith in rw h (find_within k (suc i) m))

  pub order_bounds : (k : ℕ) (m : List Bool) → All (λ x. x < n) (order n dep k m)
  unfolding order
  order_bounds zero m = tt
  order_bounds (suc k) m =
      by_option (λ o. All (λ x. x < n) o) (find n dep n 0 m) (λ e. tt)
      (λ x e. (omega (arith, rw e at (find_within n 0 m)), order_bounds k (set m x true)))

  pub order_length : (k : ℕ) (m : List Bool) → length (order n dep k m) ≤ k
  unfolding order
  order_length zero m = omega arith
  order_length (suc k) m =
      by_option (λ (o : List ℕ). length o ≤ suc k) (find n dep n 0 m) (λ e. omega arith) (λ x e. omega (arith, order_length k (set m x true)))

-- ---- bytes and Booleans

module _ (m : List ℕ) (n : ℕ) (small : n ≤ 64) where
  abbrev dep : ℕ → ℕ → Bool
  dep = λ i j. cell m i j

  record Agree (marks : List ℕ) (bs : List Bool) : Type 0 where
    long : length marks ≡ 64
    size : length bs ≡ n
    same : (j : ℕ) → j < n → get_or bs j false ≡ is_marked marks j

  agree_first : (marks : List ℕ) → length marks ≡ 64 → Agree marks (up_to n (λ i. is_marked marks i))
  agree_first marks l = record { long = l; size = length_up_to n (λ i. is_marked marks i); same = λ j h. get_d_up_to n (λ i. is_marked marks i) j false h }

  agree_set : (marks : List ℕ) (bs : List Bool) (x : ℕ) → Agree marks bs → x < n → Agree (set marks x 1) (set bs x true)
  agree_set marks bs x g h = record {
    long = rw length-set g.long;
    size = rw length-set g.size;
    same = λ j b. split (eqb j x)
        (λ e. let q : j ≡ x = eqb-true j x e in rw (q, get_or-set_same bs x true false (omega arith), get_or-set_same marks x 1 0 (omega arith)))
        (λ e. rw (get_or-set_other bs x j true false (eqb-false j x e), get_or-set_other marks x j 1 0 (eqb-false j x e)) (g.same j b));
  }

  met_is : (marks : List ℕ) (bs : List Bool) → Agree marks bs → (i k : ℕ) → k ≤ n → met_on m marks i k ≡ met n dep i k bs
  unfolding met_on met lacks_need
  met_is marks bs g i zero h = refl
  met_is marks bs g i (suc k) h =
      branch_same (lacks_need m marks i k) (cell m i k && not (get_or bs k false)) false
      (lacks_test (eqb (get_or m (i * 64 + k) 0) 0) (eqb (get_or marks k 0) 0) ∙ ap (λ x. cell m i k && not x) (sym (g.same k (omega arith))))
      (met_is marks bs g i k (omega arith))

  ready_is : (marks : List ℕ) (bs : List Bool) → Agree marks bs → (i : ℕ) → i < n → ready_on m marks n i ≡ not (get_or bs i false) && met n dep i n bs
  unfolding ready_on
  ready_is marks bs g i h =
      rw (g.same i h, ← met_is marks bs g i n (omega arith)) (ready_test (eqb (get_or marks i 0) 0) (met_on m marks i n))

  -- r is the number found among those below e, and e if there is none
  abbrev Found : ℕ → ℕ → Option ℕ → Type 0
  Found e r none = r ≡ e
  Found e r (some x) = (r ≡ x) × (x < e)

  found_on : (e i r : ℕ) (o : Option ℕ) (b c : Bool) → b ≡ c → i < e → Found e r o → Found e (elim b [ true ↦ i | false ↦ r ]) (elim c [ true ↦ some i | false ↦ o ])
  found_on e i r o true true q h f = (refl, h)
  found_on e i r o true false q h f = absurd (true≢false q)
  found_on e i r o false true q h f = absurd (false≢true q)
  found_on e i r o false false q h f = f

  find_is : (marks : List ℕ) (bs : List Bool) → Agree marks bs → (k i : ℕ) → i + k ≤ n → Found (i + k) (find_on m marks n k i) (find n dep k i bs)
  unfolding find_on find
  find_is marks bs g zero i h = omega arith
  find_is marks bs g (suc k) i h =
      let e : suc i + k ≡ i + suc k = omega arith in
      found_on (i + suc k) i (find_on m marks n k (suc i)) (find n dep k (suc i) bs) (ready_on m marks n i) (not (get_or bs i false) && met n dep i n bs)
      (ready_is marks bs g i (omega arith)) (omega arith)
      (rw e at (find_is marks bs g k (suc i) (omega arith)))

  -- written from c on: o, and then what was there
  abbrev WrittenAt : ℕ → List ℕ → List ℕ → Placed → Type 0
  WrittenAt c out o (count, marks, bytes) = (count ≡ c + length o) × (bytes ≡ take c out ++ (o ++ drop (c + length o) out))

  written_none : (c : ℕ) (marks out : List ℕ) → WrittenAt c out [] (placed c marks out)
  written_none c marks out = let z : c + 0 ≡ c = omega arith in (omega arith, rw z (sym (take-append-drop c out)))

  written_more : (c x : ℕ) (out o : List ℕ) (r : Placed) → c < length out → WrittenAt (suc c) (set out c x) o r → WrittenAt c out (x ∷ o) r
  written_more c x out o (count, marks, bytes) h w =
      let e : suc c + length o ≡ c + suc (length o) = omega arith in
      let d : c < c + suc (length o) = omega arith in
      (omega arith, w.1 ∙ rw (e, take-suc-set out c x h, drop-set-lt (c + suc (length o)) out c x d) (append_assoc (take c out) (x ∷ []) (o ++ drop (c + suc (length o)) out)))

  place_on : (c : ℕ) (marks out : List ℕ) (f : ℕ) (o : Option ℕ) (go : ℕ → Placed) (rest : ℕ → List ℕ) → c < length out → Found n f o
      → ((x : ℕ) → x < n → WrittenAt (suc c) (set out c x) (rest x) (go x))
      → WrittenAt c out (elim o [ none ↦ [] | some x ↦ x ∷ rest x ]) (elim (ltb f n) [ true ↦ go f | false ↦ placed c marks out ])
  place_on c marks out f none go rest h d k =
      subst (λ (b : Bool). WrittenAt c out [] (elim b [ true ↦ go f | false ↦ placed c marks out ])) (sym (le-ltb f n (omega arith))) (written_none c marks out)
  place_on c marks out f (some x) go rest h d k =
      let q : x ≡ f = sym d.0 in
      subst (λ (b : Bool). WrittenAt c out (x ∷ rest x) (elim b [ true ↦ go f | false ↦ placed c marks out ])) (sym (lt-ltb f n (omega arith)))
      (subst (λ (z : ℕ). WrittenAt c out (x ∷ rest x) (go z)) q (written_more c x out (rest x) (go x) h (k x d.1)))

  orders : (k : ℕ) (marks : List ℕ) (bs : List Bool) (c : ℕ) (out : List ℕ) → Agree marks bs → c + k ≤ length out
      → WrittenAt c out (order n dep k bs) (order_on m n k marks c out)
  unfolding order order_on
  orders zero marks bs c out g h = written_none c marks out
  orders (suc k) marks bs c out g h =
      place_on c marks out (find_on m marks n n 0) (find n dep n 0 bs) (λ x. order_on m n k (set marks x 1) (suc c) (set out c x)) (λ x. order n dep k (set bs x true))
      (omega arith) (rw zero-add at (find_is marks bs g n 0 (omega arith)))
      (λ x b. orders k (set marks x 1) (set bs x true) (suc c) (set out c x) (agree_set marks bs x g b) (rw length-set (omega arith)))

  -- the marks after it are the order's members, marked
  abbrev AgreeAt : List Bool → Placed → Type 0
  AgreeAt bs (count, marks, bytes) = Agree marks bs

  marks_on : (c : ℕ) (marks out : List ℕ) (bs : List Bool) (f : ℕ) (o : Option ℕ) (go : ℕ → Placed) (rest : ℕ → List ℕ) → Found n f o → Agree marks bs
      → ((x : ℕ) → x < n → AgreeAt (mark_all (rest x) (set bs x true)) (go x))
      → AgreeAt (mark_all (elim o [ none ↦ [] | some x ↦ x ∷ rest x ]) bs) (elim (ltb f n) [ true ↦ go f | false ↦ placed c marks out ])
  marks_on c marks out bs f none go rest d g k =
      subst (λ (b : Bool). AgreeAt bs (elim b [ true ↦ go f | false ↦ placed c marks out ])) (sym (le-ltb f n (omega arith))) g
  marks_on c marks out bs f (some x) go rest d g k =
      let q : x ≡ f = sym d.0 in
      subst (λ (b : Bool). AgreeAt (mark_all (rest x) (set bs x true)) (elim b [ true ↦ go f | false ↦ placed c marks out ])) (sym (lt-ltb f n (omega arith)))
      (subst (λ (z : ℕ). AgreeAt (mark_all (rest x) (set bs x true)) (go z)) q (k x d.1))

  marks_after : (k : ℕ) (marks : List ℕ) (bs : List Bool) (c : ℕ) (out : List ℕ) → Agree marks bs → AgreeAt (mark_all (order n dep k bs) bs) (order_on m n k marks c out)
  unfolding order order_on
  marks_after zero marks bs c out g = g
  marks_after (suc k) marks bs c out g =
      marks_on c marks out bs (find_on m marks n n 0) (find n dep n 0 bs) (λ x. order_on m n k (set marks x 1) (suc c) (set out c x)) (λ x. order n dep k (set bs x true))
      (rw zero-add at (find_is marks bs g n 0 (omega arith))) g
      (λ x b. marks_after k (set marks x 1) (set bs x true) (suc c) (set out c x) (agree_set marks bs x g b))

pub order_marks : (m marks out : List ℕ) (n : ℕ) → length marks ≡ 64 → n ≤ 64 → (count : ℕ) (marks' out' : List ℕ) → placed count marks' out' ≡ order_on m n n marks 0 out
    → (j : ℕ) → j < n → is_marked marks' j ≡ get_or (mark_all (ordered m n marks) (up_to n (λ i. is_marked marks i))) j false
order_marks m marks out n l small count marks' out' e j h =
    let bs = up_to n (λ i. is_marked marks i) in
    let g : AgreeAt m n small (mark_all (ordered m n marks) bs) (placed count marks' out') =
    subst (AgreeAt m n small (mark_all (ordered m n marks) bs)) (sym e) (marks_after m n small n marks bs 0 out (agree_first m n small marks l)) in
    sym (g.same j h)

from_start : (out o : List ℕ) (m : List ℕ) (n : ℕ) (small : n ≤ 64) (r : Placed) → WrittenAt m n small 0 out o r → OrderWritten o out r
from_start out o m n small (count, marks, bytes) w = (rw zero-add at w.0, rw zero-add at w.1)

-- the bytes written are the order of the first n, and the count is its length
pub order_is : (m marks out : List ℕ) (n : ℕ) → length marks ≡ 64 → length out ≡ 64 → n ≤ 64 → OrderWritten (ordered m n marks) out (order_on m n n marks 0 out)
order_is m marks out n l o small =
    from_start out (ordered m n marks) m n small (order_on m n n marks 0 out)
    (orders m n small n marks (up_to n (λ i. is_marked marks i)) 0 out (agree_first m n small marks l) (omega arith))

-- the same, from what `arrange` ensures
pub order_written : (m marks out : List ℕ) (n : ℕ) → length marks ≡ 64 → length out ≡ 64 → n ≤ 64 → (count : ℕ) (marks' out' : List ℕ)
    → placed count marks' out' ≡ order_on m n n marks 0 out → OrderWritten (ordered m n marks) out (placed count marks' out')
order_written m marks out n l o small count marks' out' e = subst (OrderWritten (ordered m n marks) out) (sym e) (order_is m marks out n l o small)

module _ (o out : List ℕ) (count : ℕ) (marks' out' : List ℕ) (w : OrderWritten o out (placed count marks' out')) where
  pub written_take : take count out' ≡ o
  written_take = rw (w.0, w.1) (take-append_seam o (drop (length o) out))

  pub written_at : (k : ℕ) → k < length o → get_or out' k 0 ≡ get_or o k 0
  written_at k h = rw w.1 (List·getD-append o (drop (length o) out) 0 k h)

-- the order by any dependence and any marks that agree with the bytes among the first n
pub ordered_same : (m marks : List ℕ) (n : ℕ) (dep : ℕ → ℕ → Bool) (f : ℕ → Bool) → ((i j : ℕ) → i < n → j < n → cell m i j ≡ dep i j)
    → ((i : ℕ) → i < n → is_marked marks i ≡ f i) → ordered m n marks ≡ order n dep n (up_to n f)
ordered_same m marks n dep f h k =
    order_same n (λ i j. cell m i j) dep h n (up_to n (λ i. is_marked marks i)) ∙ ap (order n dep n) (up_to_same n (λ i. is_marked marks i) f k)

-- what a caller of `arrange` needs for its bounds: at most n are placed, each below n
module _ (m marks out : List ℕ) (n : ℕ) (l : length marks ≡ 64) (o : length out ≡ 64) (small : n ≤ 64) (count : ℕ) (marks' out' : List ℕ)
    (e : placed count marks' out' ≡ order_on m n n marks 0 out) where
  pub order_count_law : count ≤ n
  order_count_law =
      omega (arith, (order_written m marks out n l o small count marks' out' e).0, order_length n (λ i j. cell m i j) n (up_to n (λ i. is_marked marks i)))

  pub order_member : (k : ℕ) → k < count → get_or out' k 0 < n
  order_member k h =
      let w = order_written m marks out n l o small count marks' out' e in
      let b : k < length (ordered m n marks) = omega (arith, w.0) in
      rw (written_at (ordered m n marks) out count marks' out' w k b)
      (all_at (λ x. x < n) (ordered m n marks) k 0 (order_bounds n (λ i j. cell m i j) n (up_to n (λ i. is_marked marks i))) b)
