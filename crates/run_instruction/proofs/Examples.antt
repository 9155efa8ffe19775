-- Worked examples, by computation: the instructions that may run, each limit with one that passes and one that does
-- not. 01 "Foreign: .. for a step that would run one, an instruction not of this paper, with a slot above 63, or taking
-- from an empty or adding to a full stack."
use Rattle.lib_base.proofs.Prelude.{ℕ, ◌≡◌, refl, true, false, Bool, List, [], ◌∷◌, map}
use Rattle.lib_signature.specs.Signature.{arity}
use Rattle.run_instruction.specs.Allowed.{applies, may_run}

-- an operation, its slot or function, and how many are on the stack
abbrev pub Case : Type 0
Case = Bool × (ℕ × ℕ × ℕ)

abbrev pub Told : List Case → Type 0
Told l = map (λ (c : Case). may_run c.1.0 c.1.1 c.1.2) l ≡ map (λ (c : Case). c.0) l

-- operations 1 to 11: off, on, copy, restore; push, load, fetch; an application; save, defer; move
pub operations : Told ((false, (0, 0, 1)) ∷ (true, (1, 0, 0)) ∷ (true, (2, 0, 0)) ∷ (true, (3, 0, 0)) ∷ (true, (4, 0, 0)) ∷ (true, (11, 0, 0)) ∷ (false, (12, 0, 1)) ∷ [])
unfolding may_run
operations = refl

pub slots : Told ((true, (3, 63, 0)) ∷ (false, (3, 64, 0)) ∷ (true, (11, 63, 0)) ∷ (false, (11, 64, 0)) ∷ (true, (9, 63, 1)) ∷ (false, (9, 64, 1)) ∷ [])
unfolding may_run
slots = refl

-- "adding to a full stack"
pub full_stack : Told ((true, (5, 0, 63)) ∷ (false, (5, 0, 64)) ∷ (true, (6, 0, 63)) ∷ (false, (6, 0, 64)) ∷ (true, (7, 0, 63)) ∷ (false, (7, 0, 64)) ∷ [])
unfolding may_run
full_stack = refl

-- "taking from an empty": a store takes one
pub empty_stack : Told ((true, (9, 0, 1)) ∷ (false, (9, 0, 0)) ∷ (true, (10, 0, 1)) ∷ (false, (10, 0, 0)) ∷ [])
unfolding may_run
empty_stack = refl

-- `!` takes one, `if` three, the other functions of 1 to 14 two
pub applications : Told ((true, (8, 3, 1)) ∷ (false, (8, 3, 0)) ∷ (true, (8, 14, 3)) ∷ (false, (8, 14, 2)) ∷ (true, (8, 1, 2)) ∷ (false, (8, 1, 1)) ∷ (true, (8, 13, 2)) ∷ (false, (8, 13, 1)) ∷ (false, (8, 0, 64)) ∷ (false, (8, 15, 64)) ∷ [])
unfolding may_run applies arity
applications = refl
