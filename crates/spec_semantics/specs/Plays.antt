-- Events one by one, undivided, by Figure 1's rules. 01 demand 3: "the board equals what demand 2's rules give for the
-- committed events".
use Rattle.std.specs.Prelude.{ℕ, ◌<◌, ◌≡◌, List, [], ◌∷◌, length}
use Rattle.spec_language.specs.Syntax.{Program}
use Rattle.spec_language.specs.Dependence.{size}
use Rattle.spec_semantics.specs.Rules.{Runs, Shows}
use Rattle.spec_semantics.specs.Meaning.{at, with_store}

-- from the store s the events lead to the last store
pub data Plays (p : Program) : List ℕ → List ℕ → List ℕ → Type 0 where
  done : {s : List ℕ} → Plays p [] s s
  next : {e : ℕ} {es s first s' last : List ℕ} → Runs (with_store p s) e first (with_store p s') → length s' ≡ size p
      → ((i : ℕ) → i < size p → Shows (with_store p s') i (at s' i)) → Plays p es s' last → Plays p (e ∷ es) s last
