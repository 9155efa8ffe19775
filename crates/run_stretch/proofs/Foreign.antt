-- A stretch that answers not 0 answers 14.
use Rattle.lib_base.proofs.Prelude.{ℕ, suc, zero, ◌+◌, ◌*◌, ◌/◌, ◌%◌, ◌≡◌, ◌≢◌, refl, List, eqb}
use Rattle.lib_base.proofs.Tools.{by_test}
use Rattle.lib_word.specs.Word.{get}
use Rattle.spec_language.specs.Refusals.{foreign}
use Rattle.format_layout.specs.Layout.{depth}
use Rattle.format_layout.specs.Round.{CallResult}
use Rattle.run_instruction.specs.Allowed.{may_run}
use Rattle.run_stretch.specs.Stretch.{stretch_on, stretch_at, stretch_from}

abbrev Foreign : CallResult → Type 0
Foreign r = r.0 ≢ 0 → r.0 ≡ foreign

one_foreign : (l : List ℕ) (a w : ℕ) → Foreign (stretch_on l a w)
unfolding stretch_on
one_foreign l a w = by_test Foreign (may_run (a / 256) (a % 256) (depth l)) (λ _ n. absurd (n refl)) (λ _ _. refl)

pub foreign_stretch : (t : List ℕ) (k n : ℕ) (l : List ℕ) → (stretch_from t k n l).0 ≢ 0 → (stretch_from t k n l).0 ≡ foreign
unfolding stretch_from stretch_at
foreign_stretch t k zero l = λ n. absurd (n refl)
foreign_stretch t k (suc n) l =
    by_test Foreign (eqb (stretch_at t l k).0 0) (λ _. foreign_stretch t (k + 1) n (stretch_at t l k).1)
    (λ _. one_foreign l (get t (512 + k * 2)) (get t (513 + k * 2)))
