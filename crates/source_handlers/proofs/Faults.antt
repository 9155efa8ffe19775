-- The first fault of names over the parts of a list, from left to right.
use Rattle.lib_base.proofs.Prelude.{◌≡◌, refl, List, ◌∷◌, ◌++◌, []}
use Rattle.source_language.specs.Faults.{OrFault, fault, fine, and_then}
use Rattle.source_coding.specs.FaultWords.{fault_in}
use Rattle.std.specs.Option.{option_or}

-- both are worked out, and put together
pub both_faults : {A B C : Type 0} (g : A → B → C) (a : OrFault A) (b : OrFault B)
    → fault_in (and_then a (λ x. and_then b (λ y. fine (g x y)))) ≡ option_or (fault_in a) (fault_in b)
both_faults g (fault k p) b = refl
both_faults g (fine x) (fault k p) = refl
both_faults g (fine x) (fine y) = refl

-- what is worked out last is put behind
pub last_behind : {B : Type 0} (a : OrFault B) (b : OrFault (List B)) (d : OrFault B)
    → and_then a (λ x. and_then (and_then b (λ ys. and_then d (λ y. fine (ys ++ (y ∷ []))))) (λ ys. fine (x ∷ ys)))
    ≡ and_then (and_then a (λ x. and_then b (λ ys. fine (x ∷ ys)))) (λ ys. and_then d (λ y. fine (ys ++ (y ∷ []))))
last_behind (fault k p) b d = refl
last_behind (fine x) (fault k p) d = refl
last_behind (fine x) (fine ys) (fault k p) = refl
last_behind (fine x) (fine ys) (fine y) = refl
