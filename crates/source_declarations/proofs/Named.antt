-- How a declaration begins, whatever it declares: room for one more, a name, and one that is new. An equation for each
-- way that goes.
use Rattle.std.specs.Prelude.{Err}
use Rattle.source_coding.specs.declared.faults.Fault.{Fault}
use Rattle.lib_base.proofs.Prelude.{ℕ, ◌≤◌, ◌<◌, ◌≡◌, true, false, List, leb, lt-leb, le-leb}
use Rattle.lib_base.specs.Basics.{pick}
use Rattle.source_language.specs.Tokens.{SheetToken}
use Rattle.source_language.specs.Faults.{outside, too_many_fault, declared_twice_fault}
use Rattle.source_language.specs.Limits.{among}
use Rattle.source_language.specs.Reader.{Phrased, bad, place_at, name_due}
use Rattle.source_coding.specs.Places.{tokens_from, name_at}
use Rattle.source_due.specs.Due.{found, NameTold}
use Rattle.source_due.proofs.Passes.{name_fails}

-- after i others of at most `top`, of which ns are the names: the word stands at p, and ts follow it
abbrev pub new_named : {A : Type 0} → ℕ → ℕ → List (List ℕ) → (List ℕ → List SheetToken → Phrased A) → ℕ → List SheetToken → Phrased A
new_named top i ns f p ts = pick (leb top i) (bad too_many_fault p) (name_due (λ q s us. pick (among s ns) (bad declared_twice_fault q) (f s us)) ts)

module _ {A : Type 0} (top i : ℕ) (ns : List (List ℕ)) (f : List ℕ → List SheetToken → Phrased A) (p : ℕ) (text : List ℕ) (at : ℕ) where
  abbrev declared : Phrased A
  declared = new_named top i ns f p (tokens_from text at)

  pub new_crowded : top ≤ i → declared ≡ bad too_many_fault p
  new_crowded h = rw (le-leb top i h)

  pub new_unnamed : (w : Fault) → i < top → NameTold text at (Err w) → declared ≡ bad outside (place_at (tokens_from text at))
  new_unnamed w h g = rw (lt-leb top i h) (name_fails text at (λ q s us. pick (among s ns) (bad declared_twice_fault q) (f s us)) w g)

  pub new_twice : (q v next : ℕ) → i < top → NameTold text at (found q v next) → among (name_at text q) ns ≡ true → declared ≡ bad declared_twice_fault q
  new_twice q v next h e g = rw (lt-leb top i h, e, g)

  pub new_named_law : (q v next : ℕ) → i < top → NameTold text at (found q v next) → among (name_at text q) ns ≡ false → declared ≡ f (name_at text q) (tokens_from text next)
  new_named_law q v next h e g = rw (lt-leb top i h, e, g)
