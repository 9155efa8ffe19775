-- Which turns of the model engine turns on bytes are, and when the two agree: what proofs go by.
use Rattle.std.specs.Prelude.{ℕ, ◌≤◌, ◌≡◌, List, [], ◌∷◌, map, length}
use Rattle.spec_language.specs.Syntax.{Program}
use Rattle.spec_language.specs.Valid.{Accepted}
use Rattle.spec_model.specs.Model.{Turn, call, change, State, run_turns, replies}
use Rattle.format_image.specs.Table.{passives_code, table_of}
use Rattle.refine_calls.specs.Refinement.{coded_reply, ByteTurn, calls, mends, Bytes, numbers_on, bytes_after, Kept, ViewIn}

pub record TableFor (q : Program) (u : List ℕ) : Type 0 where
  pub accepted : Accepted q
  pub short : length (passives_code q) ≤ 4096
  pub lent : List ℕ
  pub room : 34816 ≤ length lent
  pub left : u ≡ table_of q lent

abbrev pub IsTurn : ByteTurn → Turn → Type 0
IsTurn (calls c) (call d) = c ≡ d
IsTurn (calls c) (change q) = ⊥
IsTurn (mends u) (call d) = ⊥
IsTurn (mends u) (change q) = TableFor q u

abbrev pub AreTurns : List ByteTurn → List Turn → Type 0
AreTurns [] [] = Unit {0}
AreTurns [] (t ∷ ts) = ⊥
AreTurns (x ∷ xs) [] = ⊥
AreTurns (x ∷ xs) (t ∷ ts) = IsTurn x t × AreTurns xs ts

-- turns from the bytes b and a state s: the numbers are the model engine's replies, the round then agrees with it, and
-- of the round's bytes lent, l₀, only the round's have changed
pub record Agreement (l₀ : List ℕ) (b : Bytes) (xs : List ByteTurn) (s : State) (ts : List Turn) : Type 0 where
  pub answered : numbers_on xs b ≡ map coded_reply (replies ts s)
  pub viewed : ViewIn (bytes_after xs b).round (run_turns ts s)
  pub kept : Kept l₀ (bytes_after xs b).round
