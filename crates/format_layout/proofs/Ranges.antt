-- A range with one number more, and the library's test over it: what a definition that counts down says.
use Rattle.lib_base.proofs.Prelude.{ℕ, ◌+◌, ◌≡◌, refl, List, [], ◌∷◌, ◌++◌, Bool, ◌&&◌, and-true, arith}
use Rattle.std.specs.List.{list_all, range_with_len}
use Rattle.std.proofs.lemmas.List.{map-id}
use Rattle.std.proofs.lemmas.List.Folds.{list_all-append}
use Rattle.std.proofs.lemmas.List.FromFn.{map-range_with_len_more}

range_more : (n : ℕ) → range_with_len 0 (n + 1) ≡ range_with_len 0 n ++ n ∷ []
range_more n =
    rw (map-id (range_with_len 0 (n + 1)), map-id (range_with_len 0 n)) at
    (map-range_with_len_more (λ (x : ℕ). x) 0 n n (omega arith))

pub all_range_more : (p : ℕ → Bool) (n : ℕ) → list_all p (range_with_len 0 (n + 1)) ≡ (list_all p (range_with_len 0 n) && p n)
all_range_more p n = rw (range_more n, list_all-append p (range_with_len 0 n) (n ∷ []), and-true (p n))
