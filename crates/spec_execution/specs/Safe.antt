-- An abstract check of instructions: which places are filled and how deep the stack is, no values. A list that passes
-- reads filled places alone, stays within the stack, and leaves it empty.
use Rattle.std.specs.Prelude.{ℕ, ◌+◌, ◌-◌, ◌≤◌, ◌<◌, ◌^◌, Bool, true, false, ◌≡◌, List, [], ◌∷◌, length, get_or, set, replicate}
use Rattle.std.proofs.Math.Option.{Option, none, some}
use Rattle.lib_signature.specs.Signature.{arity, last}
use Rattle.spec_language.specs.Code.{Instr, off, on, copy, restore, load, fetch, save, defer, move, push, apply}
use Rattle.spec_execution.specs.Execution.{Values}

-- which places of scratch and of the deferred values are filled, and the stack's depth
pub record Filled : Type 0 where
  pub scratch : List Bool
  pub deferred : List Bool
  pub depth : ℕ

-- an event starts with nothing filled
unfoldable pub start : ℕ → Filled
start n = record { scratch = replicate n false; deferred = replicate n false; depth = 0 }

-- what an instruction needs
abbrev pub Ok : Filled → Instr → Type 0
Ok a off = Unit {0}
Ok a on = Unit {0}
Ok a (copy i) = i < length a.scratch
Ok a (restore i) = (i < length a.scratch) × (get_or a.scratch i false ≡ true)
Ok a (load i) = (i < length a.scratch) × (a.depth < 64)
Ok a (fetch i) = (i < length a.scratch) × (get_or a.scratch i false ≡ true) × (a.depth < 64)
Ok a (save i) = (i < length a.scratch) × (1 ≤ a.depth)
Ok a (defer i) = (i < length a.deferred) × (1 ≤ a.depth)
Ok a (move i) = (i < length a.scratch) × (i < length a.deferred) × (get_or a.deferred i false ≡ true)
Ok a (push w) = (w < 2 ^ 32) × (a.depth < 64)
Ok a (apply f) = (1 ≤ f) × (f ≤ last) × (arity f ≤ a.depth)

-- what it leaves
abbrev pub with_depth : ℕ → Filled → Filled
with_depth n a = record { scratch = a.scratch; deferred = a.deferred; depth = n }

unfoldable pub filled_next : Filled → Instr → Filled
filled_next a off = a
filled_next a on = a
filled_next a (copy i) = record { scratch = set a.scratch i true; deferred = a.deferred; depth = a.depth }
filled_next a (restore i) = a
filled_next a (load i) = with_depth (a.depth + 1) a
filled_next a (fetch i) = with_depth (a.depth + 1) a
filled_next a (save i) = record { scratch = set a.scratch i true; deferred = a.deferred; depth = a.depth - 1 }
filled_next a (defer i) = record { scratch = a.scratch; deferred = set a.deferred i true; depth = a.depth - 1 }
filled_next a (move i) = record { scratch = set a.scratch i true; deferred = a.deferred; depth = a.depth }
filled_next a (push w) = with_depth (a.depth + 1) a
filled_next a (apply f) = with_depth (a.depth - arity f + 1) a

unfoldable pub filled_after : Filled → List Instr → Filled
filled_after a [] = a
filled_after a (i ∷ is) = filled_after (filled_next a i) is

-- each instruction has what it needs, and the stack is empty in the end
abbrev pub Safe : Filled → List Instr → Type 0
Safe a [] = a.depth ≡ 0
Safe a (i ∷ is) = Ok a i × Safe (filled_next a i) is

-- ---- values that are filled exactly so

abbrev pub is_filled : Option ℕ → Bool
is_filled none = false
is_filled (some v) = true

pub record Matches (d : Values) (a : Filled) : Type 0 where
  pub stored : length d.store ≡ length a.scratch
  pub scratched : length d.scratch ≡ length a.scratch
  pub places : length d.deferred ≡ length a.deferred
  pub stacked : length d.stack ≡ a.depth
  pub in_scratch : (i : ℕ) → is_filled (get_or d.scratch i none) ≡ get_or a.scratch i false
  pub in_places : (i : ℕ) → is_filled (get_or d.deferred i none) ≡ get_or a.deferred i false
