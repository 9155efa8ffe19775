-- A run of stores, and what it leaves as it was: by induction on the run.
use Rattle.lib_base.proofs.Prelude.{ℕ, ◌≤◌, ◌+◌, suc, zero, ◌≡◌, refl, ◌∙◌, List, [], ◌∷◌, ◌++◌, length, get_or, take}
use Rattle.lib_base.proofs.Prelude.{drop, set, length-append, get_or-set_other, length-take-le, sets, take-set-le, arith}
use native.Mathlib.Nat.{add-suc, add-zero, zero-add, suc-add}
use lib.Seq.{take-nil, sets-eq, take_at}

pub sets_append : (l : List ℕ) (i : ℕ) (xs ys : List ℕ) → sets l i (xs ++ ys) ≡ sets (sets l i xs) (i + length xs) ys
sets_append l i [] ys = rw add-zero
sets_append l i (x ∷ xs) ys = sets_append (set l i x) (suc i) xs ys ∙ rw (add-suc, suc-add)

pub get_d_sets : (l : List ℕ) (i : ℕ) (xs : List ℕ) (j : ℕ) → i + length xs ≤ j → get_or (sets l i xs) j 0 ≡ get_or l j 0
get_d_sets l i [] j h = refl
get_d_sets l i (x ∷ xs) j h = get_d_sets (set l i x) (suc i) xs j (omega arith) ∙ get_or-set_other l i j x 0 (omega arith)

pub take_sets : (n : ℕ) (l : List ℕ) (i : ℕ) (xs : List ℕ) → n ≤ i → take n (sets l i xs) ≡ take n l
take_sets n l i [] h = refl
take_sets n l i (x ∷ xs) h = take_sets n (set l i x) (suc i) xs (omega arith) ∙ take-set-le n l i x h

pub take_sets_all : (l : List ℕ) (i : ℕ) (xs : List ℕ) → i + length xs ≤ length l → take (i + length xs) (sets l i xs) ≡ take i l ++ xs
take_sets_all l i xs h =
    let e : length (take i l) ≡ i = length-take-le i l (omega arith) in
    let q : length (take i l ++ xs) ≡ i + length xs = length-append (take i l) xs ∙ rw e in
    rw (sets-eq xs l i h) (take_at (take i l ++ xs) (drop (i + length xs) l) (i + length xs) q)

pub take_drop : (m a : ℕ) (l : List ℕ) → take m (drop a l) ≡ drop a (take (a + m) l)
take_drop m zero l = rw zero-add
take_drop m (suc a) [] = rw (suc-add a m) (take-nil m)
take_drop m (suc a) (x ∷ l) = rw (suc-add a m) (take_drop m a l)
