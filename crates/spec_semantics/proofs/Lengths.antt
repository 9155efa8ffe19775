-- The meaning keeps the store's length, a value for each behaviour: each turn only sets a value. By induction on the
-- turns.
use Rattle.lib_base.proofs.Prelude.{ℕ, ◌≡◌, refl, ◌∙◌, List, [], ◌∷◌, length, length-set}
use Rattle.spec_language.specs.Syntax.{Program}
use Rattle.spec_language.specs.Dependence.{Response, follows, takes, defers, keeps, size, no_event, response}
use Rattle.spec_language.specs.Order.{phase_one}
use Rattle.spec_language.proofs.Laws.{length_up_to}
use Rattle.spec_semantics.specs.Meaning.{first_step, in_turn, first_phase, starts, fresh}
use Rattle.spec_semantics.specs.Event.{later_phase, event, again_step}

pub length_first : (i : ℕ) (r : Response) (s : List ℕ) → length (first_step i r s) ≡ length s
length_first i (follows x) s = length-set s i _
length_first i (takes x) s = length-set s i _
length_first i (defers x) s = refl
length_first i keeps s = refl

length_again : (i : ℕ) (r : Response) (s : List ℕ) → length (again_step i r s) ≡ length s
length_again i (follows x) s = length-set s i _
length_again i (takes x) s = refl
length_again i (defers x) s = refl
length_again i keeps s = refl

module _ (p : Program) where
  pub length_turns : (e : ℕ) (g : ℕ → Response → List ℕ → List ℕ) → ((i : ℕ) (r : Response) (s : List ℕ) → length (g i r s) ≡ length s)
      → (is : List ℕ) (s : List ℕ) → length (in_turn p e g is s) ≡ length s
  unfolding in_turn
  length_turns e g h [] s = refl
  length_turns e g h (i ∷ is) s = length_turns e g h is (g i (response p e i) s) ∙ h i (response p e i) s

  pub length_event : (e : ℕ) (s : List ℕ) → length (event p e s) ≡ size p
  unfolding event later_phase
  length_event e s = length_turns e again_step length_again (phase_one p e) (later_phase p e (first_phase p e s)) ∙ length_up_to (size p) _

  pub length_starts : length (starts p) ≡ size p
  unfolding starts
  length_starts = length_up_to (size p) _

  pub length_fresh : length (fresh p) ≡ size p
  unfolding fresh first_phase
  length_fresh = length_turns (no_event p) first_step length_first (phase_one p (no_event p)) (starts p) ∙ length_starts
