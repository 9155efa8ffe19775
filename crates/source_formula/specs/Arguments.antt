-- What reading a formula needs, and what the arguments of an `if` promise, one after another.
use Rattle.std.specs.Prelude.{Ok, Err, ℕ, ◌*◌, ◌-◌, ◌≤◌, ◌<◌, ◌≡◌, List, length}
use Rattle.lib_base.specs.Basics.{All}
use Rattle.source_language.specs.Meaning.{NameMeaning}
use Rattle.source_language.specs.Reader.{past_sign, phrase_within}
use Rattle.source_coding.specs.Places.{tokens_from}
use Rattle.source_field.specs.Formula.{Read, PartRead}
use Rattle.source_field.specs.Fields.{under_by}
use Rattle.source_field.specs.declared.Cursor.{Cursor}
use Rattle.source_coding.specs.declared.faults.Fault.{Fault}
use Rattle.source_field.specs.declared.Formula.{Formula}

-- the same, and a buffer whose places two bytes can say
abbrev pub FormulaReadable : List ℕ → Cursor → List ℕ → List ℕ → List ℕ → Type 0
FormulaReadable text c places meanings out =
    (length text ≤ 65536) × (c.at ≤ length text) × (c.end ≤ c.at * 16) × (c.sorted ≤ length places) × All (λ m. m < 8320) meanings × (length out ≤ 65535)

-- a further argument can be read after r
abbrev pub ArgumentRoom : ℕ → Read → Type 0
ArgumentRoom long (Err w) = Unit {0}
ArgumentRoom long (Ok f) = (f.next ≤ long) × (f.end ≤ f.next * 16)

-- a sign that is due, and a formula with less room, after others that were read
pub record ArgumentRead (text : List ℕ) (find : List ℕ → NameMeaning) (c sign room : ℕ) (o p : List ℕ) (f : Formula) (q : Read) : Type 0 where
  pub part : Read
  pub is : q ≡ under_by f.depth f.stray part
  pub reads : PartRead text find c (room - 1) f.next f.end o p part (past_sign sign (phrase_within (room - 1) 6) (tokens_from text f.next))

-- after a fault there is none
pub record NoArgument (o p : List ℕ) (w : Fault) (q : Read) : Type 0 where
  pub is : q ≡ Err w
  pub kept : length p ≡ length o

abbrev pub ArgumentCases : List ℕ → (List ℕ → NameMeaning) → ℕ → ℕ → ℕ → List ℕ → List ℕ → Read → Read → Type 0
ArgumentCases text find c sign room o p (Err w) q = NoArgument o p w q
ArgumentCases text find c sign room o p (Ok f) q = ArgumentRead text find c sign room o p f q

pub record ArgumentAfter (text : List ℕ) (find : List ℕ → NameMeaning) (c sign room : ℕ) (o p : List ℕ) (r q : Read) : Type 0 where
  pub told : ArgumentCases text find c sign room o p r q
