-- What a hint promises, bounds alone; and when it is right.
use Rattle.std.specs.Prelude.{Option, None, Some, ℕ, ◌+◌, ◌≤◌, ◌≡◌, List, length}
use Rattle.lib_base.specs.Basics.{All}
use Rattle.source_hint.specs.declared.Declaration.{Declaration}
use Rattle.source_hint.specs.declared.Hint.{Hint}

-- a declaration ends within a text of so many bytes, and has few cells
abbrev pub SeenWithin : ℕ → Option Declaration → Type 0
SeenWithin long (Some d) = (d.cells ≤ 16) × (d.next ≤ long)
SeenWithin long None = Unit {0}

-- as many parameters and behaviours as there may be, and numbers of cells
pub record HintUsable (hint : Hint) (starts : List ℕ) : Type 0 where
  pub few_parameters : hint.params ≤ 8
  pub few_names : hint.count ≤ hint.params + 64
  pub all_firsts : length starts ≡ 65
  pub low : All (λ i. i ≤ 64) starts

-- names, parameters and first cells that are these
pub record HintRight (names : List ℕ) (params : ℕ) (firsts declared : List ℕ) (parameters : ℕ) (starts : List ℕ) : Type 0 where
  pub same_names : names ≡ declared
  pub same_parameters : params ≡ parameters
  pub same_firsts : firsts ≡ starts
