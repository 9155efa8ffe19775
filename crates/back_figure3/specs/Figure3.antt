-- Figure 3 of 003, "Compilation of P-FRP", as document 01 has it: the two phases of an event's handler as lists of
-- assignments, rule by rule, and the handler around them. 003 has for each behaviour x a scratch variable xt and beside
-- it _xt, the old value. 01 has scratch for each of C, and a place of its own for a later handler's value. So an
-- immediate handler's own name means what its scratch still holds (003: d[x := _xt]), a later handler assigns its place
-- (003: _xt), and an immediate one has nothing to do in phase two (003: _xt := xt).
use Rattle.std.specs.Prelude.{ℕ, ◌+◌, Bool, true, false, not, ◌&&◌, ◌≡◌, eqb, ltb, length}
use mathlib.Core.List.{List, [], ◌∷◌, ◌++◌, flat_map}
use Rattle.lib_base.specs.Basics.{pick, All}
use Rattle.spec_language.specs.Syntax.{Expr, Program}
use Rattle.spec_language.specs.Dependence.{Response, follows, takes, defers, keeps, size, response, mentions, Reach}
use Rattle.spec_language.specs.Code.{Instr, save, defer, move, postfix, in_c, members, copy_part, first_part, second_part, restore_part, code}

-- an assignment of a phase: xt := d of a passive; xt := d of an immediate handler; _xt := d of a later one; xt := _xt
pub data Assign : Type 0 where
  follow update postpone : ℕ → Expr → Assign
  bring : ℕ → Assign

-- FV(d): name j stands in it; an immediate handler's own name is its old value, and does not count
abbrev pub free_name : ℕ → Assign → Bool
free_name j (follow i x) = mentions j x
free_name j (update i x) = mentions j x && not (eqb i j)
free_name j (postpone i x) = mentions j x
free_name j (bring i) = false

-- it assigns the scratch of j; a place is no name's
abbrev pub assigned : ℕ → Assign → Bool
assigned j (follow i x) = eqb i j
assigned j (update i x) = eqb i j
assigned j (postpone i x) = false
assigned j (bring i) = eqb i j

-- (x := d) < A: "d does not depend on x or any variable updated in A"
abbrev pub DependsNot : Assign → List Assign → Type 0
DependsNot a A = (j : ℕ) → free_name j a ≡ true → All (λ b. assigned j b ≡ false) (a ∷ A)

-- a part P of a program: which behaviours are in it; all; P without i, so that P is {x = b} ⊎ (P without x)
abbrev pub every_behaviour : Program → ℕ → Bool
every_behaviour p j = ltb j (size p)

abbrev pub without : ℕ → (ℕ → Bool) → ℕ → Bool
without i P j = pick (eqb i j) false (P j)

-- ⟨P⟩¹ = A: A is the first phase of the event's handler
pub data FirstPhaseRule (p : Program) (e : ℕ) : (ℕ → Bool) → List Assign → Type 0 where
  none₁ : {P : ℕ → Bool} → ((j : ℕ) → P j ≡ false) → FirstPhaseRule p e P []
  passive₁ : {P : ℕ → Bool} (i : ℕ) {d : Expr} {A : List Assign} → P i ≡ true → response p e i ≡ follows d → FirstPhaseRule p e (without i P) A
      → DependsNot (follow i d) A → FirstPhaseRule p e P (follow i d ∷ A)
  immediate₁ : {P : ℕ → Bool} (i : ℕ) {d : Expr} {A : List Assign} → P i ≡ true → response p e i ≡ takes d → FirstPhaseRule p e (without i P) A
      → DependsNot (update i d) A → FirstPhaseRule p e P (update i d ∷ A)
  later₁ : {P : ℕ → Bool} (i : ℕ) {d : Expr} {A : List Assign} → P i ≡ true → response p e i ≡ defers d → FirstPhaseRule p e (without i P) A
      → DependsNot (postpone i d) A → FirstPhaseRule p e P (postpone i d ∷ A)
  unhandled₁ : {P : ℕ → Bool} (i : ℕ) {A : List Assign} → P i ≡ true → response p e i ≡ keeps → FirstPhaseRule p e (without i P) A → FirstPhaseRule p e P A

-- ⟨P⟩² = A: A is the second phase
pub data SecondPhaseRule (p : Program) (e : ℕ) : (ℕ → Bool) → List Assign → Type 0 where
  none₂ : {P : ℕ → Bool} → ((j : ℕ) → P j ≡ false) → SecondPhaseRule p e P []
  passive₂ : {P : ℕ → Bool} (i : ℕ) {d : Expr} {A : List Assign} → P i ≡ true → response p e i ≡ follows d → SecondPhaseRule p e (without i P) A
      → DependsNot (follow i d) A → SecondPhaseRule p e P (follow i d ∷ A)
  immediate₂ : {P : ℕ → Bool} (i : ℕ) {d : Expr} {A : List Assign} → P i ≡ true → response p e i ≡ takes d → SecondPhaseRule p e (without i P) A
      → SecondPhaseRule p e P A
  later₂ : {P : ℕ → Bool} (i : ℕ) {d : Expr} {A : List Assign} → P i ≡ true → response p e i ≡ defers d → SecondPhaseRule p e (without i P) A
      → SecondPhaseRule p e P (bring i ∷ A)
  unhandled₂ : {P : ℕ → Bool} (i : ℕ) {A : List Assign} → P i ≡ true → response p e i ≡ keeps → SecondPhaseRule p e (without i P) A → SecondPhaseRule p e P A

-- in phase two only passives have needs: passive i depends on every name j in it
abbrev pub follow_needs : ℕ → Response → Bool
follow_needs j (follows x) = mentions j x
follow_needs j (takes x) = false
follow_needs j (defers x) = false
follow_needs j keeps = false

-- no passive is reached from itself through passives
abbrev pub PassivesAcyclic : Program → ℕ → Type 0
PassivesAcyclic p e = (i : ℕ) → Reach (λ a b. follow_needs b (response p e a)) i i → ⊥

-- the instructions of an assignment, c saying which names mean scratch
abbrev pub assign_code : (ℕ → Bool) → Assign → List Instr
assign_code c (follow i d) = postfix c d ++ (save i ∷ [])
assign_code c (update i d) = postfix c d ++ (save i ∷ [])
assign_code c (postpone i d) = postfix c d ++ (defer i ∷ [])
assign_code c (bring i) = move i ∷ []

unfoldable pub instructions_of : (ℕ → Bool) → List Assign → List Instr
instructions_of c = flat_map (assign_code c)

-- ⟦P⟧ = Q for one event: its code is the copy's, phase one's, phase two's and the copy-back's in a row; the phases are
-- those of the rules, and phase one begins behind off, the copies and on
pub record HandlerCode (p : Program) (e : ℕ) : Type 0 where
  pub first : List Assign
  pub second : List Assign
  pub phase_one_law : FirstPhaseRule p e (every_behaviour p) first
  pub phase_two : SecondPhaseRule p e (every_behaviour p) second
  pub first_gives : first_part p e ≡ instructions_of (in_c p e) first
  pub second_gives : second_part p e ≡ instructions_of (in_c p e) second
  -- by definition of `code`
  pub in_a_row : code p e ≡ copy_part p e ++ (first_part p e ++ (second_part p e ++ restore_part p e))
  pub begins : length (copy_part p e) ≡ 2 + members p e
