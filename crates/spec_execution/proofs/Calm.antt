-- Which parts of an event's code neither mask nor write the store: all but the offs, the ons and the copies back. Part
-- by part.
use Rattle.lib_base.proofs.Prelude.{ℕ, suc, zero, ◌≡◌, refl, ◌∙◌, true, false, Bool, List, [], ◌∷◌, ◌++◌, flat_map}
use Rattle.lib_base.proofs.Prelude.{flatten, take}
use Rattle.lib_base.specs.Basics.{pick, All}
use Rattle.lib_base.proofs.Tools.{all_join}
use Rattle.spec_language.specs.Syntax.{Expr, con, name, app1, app2, app3, Program}
use Rattle.spec_language.specs.Dependence.{Response, follows, takes, defers, keeps, size, response}
use Rattle.spec_language.specs.Order.{up_to, phase_one}
use Rattle.spec_language.specs.Code.{Instr, off, on, copy, restore, load, fetch, save, defer, move, push, apply}
use Rattle.spec_language.specs.Code.{postfix, of_c, first_code, later_code, move_code, again_code, in_c, by_number, in_order, first_part, second_part}
use Rattle.spec_execution.specs.Execution.{Values, execute, times}
use Rattle.spec_execution.specs.Runs.{execute_all}
use Rattle.spec_execution.proofs.Lengths.{mid}

-- neither off nor on; leaves the store alone; both
abbrev pub Plain : Instr → Type 0
Plain i = (is : List Instr) → (times off (i ∷ is) ≡ times off is) × (times on (i ∷ is) ≡ times on is)

abbrev pub Still : Instr → Type 0
Still i = (d : Values) → (execute i d).store ≡ d.store

abbrev pub Calm : Instr → Type 0
Calm i = Plain i × Still i

module _ (P : Instr → Type 0) where
  pub all_parts : (n : ℕ) (f : ℕ → List Instr) → ((i : ℕ) → All P (f i)) → All P (flatten (up_to n f))
  unfolding up_to flatten
  all_parts zero f h = tt
  all_parts (suc n) f h = all_join P (f 0) (flatten (up_to n (λ i. f (suc i)))) (h 0) (all_parts n (λ i. f (suc i)) (λ i. h (suc i)))

  all_turns : (p : Program) (e : ℕ) (f : ℕ → Response → List Instr) → ((i : ℕ) (r : Response) → All P (f i r)) → (is : List ℕ) → All P (in_order p e f is)
  unfolding in_order flat_map
  all_turns p e f h [] = tt
  all_turns p e f h (i ∷ is) = all_join P (f i (response p e i)) (in_order p e f is) (h i (response p e i)) (all_turns p e f h is)

  pub all_take : (c : ℕ) (is : List Instr) → All P is → All P (take c is)
  all_take zero is h = tt
  all_take (suc c) [] h = tt
  all_take (suc c) (i ∷ is) h = (h.0, all_take c is h.1)

-- ---- the instructions one by one

calm_copy : (i : ℕ) → Calm (copy i)
unfolding execute times
calm_copy i = (λ is. (refl, refl), λ d. refl)

calm_name : (b : Bool) (i : ℕ) → Calm (pick b (fetch i) (load i))
unfolding execute times
calm_name true i = (λ is. (refl, refl), λ d. refl)
calm_name false i = (λ is. (refl, refl), λ d. refl)

calm_push : (w : ℕ) → Calm (push w)
unfolding execute times
calm_push w = (λ is. (refl, refl), λ d. refl)

calm_apply : (f : ℕ) → Calm (apply f)
unfolding execute times
calm_apply f = (λ is. (refl, refl), λ d. refl)

calm_save : (i : ℕ) → Calm (save i)
unfolding execute times
calm_save i = (λ is. (refl, refl), λ d. refl)

calm_defer : (i : ℕ) → Calm (defer i)
unfolding execute times
calm_defer i = (λ is. (refl, refl), λ d. refl)

calm_move : (i : ℕ) → Calm (move i)
unfolding execute times
calm_move i = (λ is. (refl, refl), λ d. refl)

pub still_off : Still off
unfolding execute
still_off d = refl

pub still_on : Still on
unfolding execute
still_on d = refl

-- ---- the parts

module _ (c : ℕ → Bool) where
  calm_postfix : (x : Expr) → All Calm (postfix c x)
  unfolding postfix
  calm_postfix (con w) = (calm_push w, tt)
  calm_postfix (name i) = (calm_name (c i) i, tt)
  calm_postfix (app1 f a) = all_join Calm (postfix c a) (apply f ∷ []) (calm_postfix a) (calm_apply f, tt)
  calm_postfix (app2 f a b) =
      all_join Calm (postfix c a) (postfix c b ++ (apply f ∷ [])) (calm_postfix a) (all_join Calm (postfix c b) (apply f ∷ []) (calm_postfix b) (calm_apply f, tt))
  calm_postfix (app3 f a b d) =
      all_join Calm (postfix c a) (postfix c b ++ (postfix c d ++ (apply f ∷ []))) (calm_postfix a)
      (all_join Calm (postfix c b) (postfix c d ++ (apply f ∷ [])) (calm_postfix b) (all_join Calm (postfix c d) (apply f ∷ []) (calm_postfix d) (calm_apply f, tt)))

  calm_first : (i : ℕ) (r : Response) → All Calm (first_code c i r)
  calm_first i (follows x) = all_join Calm (postfix c x) (save i ∷ []) (calm_postfix x) (calm_save i, tt)
  calm_first i (takes x) = all_join Calm (postfix c x) (save i ∷ []) (calm_postfix x) (calm_save i, tt)
  calm_first i (defers x) = tt
  calm_first i keeps = tt

  calm_later : (i : ℕ) (r : Response) → All Calm (later_code c i r)
  calm_later i (follows x) = tt
  calm_later i (takes x) = tt
  calm_later i (defers x) = all_join Calm (postfix c x) (defer i ∷ []) (calm_postfix x) (calm_defer i, tt)
  calm_later i keeps = tt

  calm_again : (i : ℕ) (r : Response) → All Calm (again_code c i r)
  calm_again i (follows x) = all_join Calm (postfix c x) (save i ∷ []) (calm_postfix x) (calm_save i, tt)
  calm_again i (takes x) = tt
  calm_again i (defers x) = tt
  calm_again i keeps = tt

calm_moves : (i : ℕ) (r : Response) → All Calm (move_code i r)
calm_moves i (follows x) = tt
calm_moves i (takes x) = tt
calm_moves i (defers x) = (calm_move i, tt)
calm_moves i keeps = tt

pub all_of_c : (P : Instr → Type 0) (f : ℕ → Instr) → ((i : ℕ) → P (f i)) → (i : ℕ) (r : Response) → All P (of_c f i r)
all_of_c P f h i (follows x) = (h i, tt)
all_of_c P f h i (takes x) = (h i, tt)
all_of_c P f h i (defers x) = (h i, tt)
all_of_c P f h i keeps = tt

module _ (p : Program) (e : ℕ) where
  pub calm_copies : All Calm (by_number p e (of_c copy))
  calm_copies = all_parts Calm (size p) _ (λ i. all_of_c Calm copy calm_copy i (response p e i))

  pub calm_mid : All Calm (mid p e)
  unfolding first_part second_part
  calm_mid =
      let c = in_c p e in
      all_join Calm (first_part p e) (second_part p e)
      (all_join Calm (in_order p e (first_code c) (phase_one p e)) (by_number p e (later_code c)) (all_turns Calm p e (first_code c) (calm_first c) (phase_one p e))
      (all_parts Calm (size p) _ (λ i. calm_later c i (response p e i))))
      (all_join Calm (by_number p e move_code) (in_order p e (again_code c) (phase_one p e)) (all_parts Calm (size p) _ (λ i. calm_moves i (response p e i)))
      (all_turns Calm p e (again_code c) (calm_again c) (phase_one p e)))

  pub plain_restores : All Plain (by_number p e (of_c restore))
  unfolding times
  plain_restores = all_parts Plain (size p) _ (λ i. all_of_c Plain restore (λ j is. (refl, refl)) i (response p e i))

-- what is still leaves the store alone
pub still_runs : (is : List Instr) → All Still is → (d : Values) → (execute_all is d).store ≡ d.store
unfolding execute_all
still_runs [] h d = refl
still_runs (i ∷ is) h d = still_runs is h.1 (execute i d) ∙ h.0 d
