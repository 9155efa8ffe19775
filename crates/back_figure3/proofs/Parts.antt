-- The assignments that 01's order of each phase gives, and that their instructions are the two parts of an event's
-- code: list by list.
use Rattle.lib_base.proofs.Prelude.{ℕ, ◌+◌, suc, zero, ◌≡◌, refl, sym, Bool, List, [], ◌∷◌, ◌++◌, append_assoc}
use Rattle.lib_base.proofs.Prelude.{append-nil, flat_map, flatten, arith}
use Rattle.spec_language.specs.Syntax.{Program}
use Rattle.spec_language.specs.Dependence.{Response, follows, takes, defers, keeps, size, response}
use Rattle.spec_language.specs.Order.{up_to, phase_one}
use Rattle.spec_language.specs.Code.{Instr, in_c, first_code, later_code, move_code, again_code, by_number, in_order, first_part, second_part}
use Rattle.back_figure3.specs.Figure3.{Assign, follow, update, postpone, bring, assign_code, instructions_of}

-- ---- what each behaviour gives

abbrev pub turn_of : ℕ → Response → List Assign
turn_of i (follows x) = follow i x ∷ []
turn_of i (takes x) = update i x ∷ []
turn_of i (defers x) = []
turn_of i keeps = []

abbrev pub later_of : ℕ → Response → List Assign
later_of i (follows x) = []
later_of i (takes x) = []
later_of i (defers x) = postpone i x ∷ []
later_of i keeps = []

abbrev pub move_of : ℕ → Response → List Assign
move_of i (follows x) = []
move_of i (takes x) = []
move_of i (defers x) = bring i ∷ []
move_of i keeps = []

abbrev pub again_of : ℕ → Response → List Assign
again_of i (follows x) = follow i x ∷ []
again_of i (takes x) = []
again_of i (defers x) = []
again_of i keeps = []

-- k numbers from s on
unfoldable pub from : ℕ → ℕ → List ℕ
from s zero = []
from s (suc k) = s ∷ from (suc s) k

module _ (p : Program) (e : ℕ) where
  -- f of each of these behaviours
  unfoldable pub along : (ℕ → Response → List Assign) → List ℕ → List Assign
  along f = flat_map (λ i. f i (response p e i))

  abbrev pub first_of : List Assign
  first_of = along turn_of (phase_one p e) ++ along later_of (from 0 (size p))

  abbrev pub second_of : List Assign
  second_of = along move_of (from 0 (size p)) ++ along again_of (phase_one p e)

-- ---- their instructions

module _ (c : ℕ → Bool) where
  both : (A bs : List Assign) → instructions_of c (A ++ bs) ≡ instructions_of c A ++ instructions_of c bs
  unfolding instructions_of flat_map
  both [] bs = refl
  both (a ∷ A) bs = rw (both A bs) (sym (append_assoc (assign_code c a) (instructions_of c A) (instructions_of c bs)))

  only : (a : Assign) → assign_code c a ≡ instructions_of c (a ∷ [])
  unfolding instructions_of flat_map
  only a = sym (append-nil (assign_code c a))

  nothing : [] ≡ instructions_of c []
  unfolding instructions_of flat_map
  nothing = refl

  turn_gives : (i : ℕ) (r : Response) → first_code c i r ≡ instructions_of c (turn_of i r)
  turn_gives i (follows x) = only (follow i x)
  turn_gives i (takes x) = only (update i x)
  turn_gives i (defers x) = nothing
  turn_gives i keeps = nothing

  later_gives : (i : ℕ) (r : Response) → later_code c i r ≡ instructions_of c (later_of i r)
  later_gives i (follows x) = nothing
  later_gives i (takes x) = nothing
  later_gives i (defers x) = only (postpone i x)
  later_gives i keeps = nothing

  move_gives : (i : ℕ) (r : Response) → move_code i r ≡ instructions_of c (move_of i r)
  move_gives i (follows x) = nothing
  move_gives i (takes x) = nothing
  move_gives i (defers x) = only (bring i)
  move_gives i keeps = nothing

  again_gives : (i : ℕ) (r : Response) → again_code c i r ≡ instructions_of c (again_of i r)
  again_gives i (follows x) = only (follow i x)
  again_gives i (takes x) = nothing
  again_gives i (defers x) = nothing
  again_gives i keeps = nothing

  module _ (p : Program) (e : ℕ) (f : ℕ → Response → List Instr) (g : ℕ → Response → List Assign) (gives : (i : ℕ) (r : Response) → f i r ≡ instructions_of c (g i r)) where
    in_order_law : (is : List ℕ) → in_order p e f is ≡ instructions_of c (along p e g is)
    unfolding in_order flat_map along
    in_order_law [] = nothing
    in_order_law (i ∷ is) = rw (both (g i (response p e i)) (along p e g is), gives i (response p e i), in_order_law is)

    from_on : (k s : ℕ) (h : ℕ → List Instr) → ((i : ℕ) → h i ≡ f (s + i) (response p e (s + i))) → flatten (up_to k h) ≡ instructions_of c (along p e g (from s k))
    unfolding flatten up_to from along flat_map
    from_on zero s h q = nothing
    from_on (suc k) s h q =
        let z : s + 0 ≡ s = omega arith in
        rw (
          both (g s (response p e s)) (along p e g (from (suc s) k)),
          rw z at (q 0),
          gives s (response p e s),
          from_on k (suc s) (λ i. h (suc i)) (λ i. let y : suc s + i ≡ s + suc i = omega arith in rw y (q (suc i))),
        )

    by_number_law : by_number p e f ≡ instructions_of c (along p e g (from 0 (size p)))
    by_number_law = from_on (size p) 0 (λ i. f i (response p e i)) (λ i. let z : 0 + i ≡ i = omega arith in rw z)

module _ (p : Program) (e : ℕ) where
  abbrev c : ℕ → Bool
  c = in_c p e

  pub first_code_law : first_part p e ≡ instructions_of c (first_of p e)
  unfolding first_part
  first_code_law =
      rw (
        both c (along p e turn_of (phase_one p e)) (along p e later_of (from 0 (size p))),
        in_order_law c p e (first_code c) turn_of (turn_gives c) (phase_one p e),
        by_number_law c p e (later_code c) later_of (later_gives c),
      )

  pub second_code : second_part p e ≡ instructions_of c (second_of p e)
  unfolding second_part
  second_code =
      rw (
        both c (along p e move_of (from 0 (size p))) (along p e again_of (phase_one p e)),
        by_number_law c p e move_code move_of (move_gives c),
        in_order_law c p e (again_code c) again_of (again_gives c) (phase_one p e),
      )
