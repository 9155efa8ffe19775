-- What is due at a place of a text, in terms of the tokens from there on: found, with the place behind it, or a fault.
use Rattle.std.specs.Prelude.{Result, Ok, Err, ℕ, ◌≤◌, ◌<◌, ◌≡◌, ◌≢◌, List, ◌∷◌, []}
use Rattle.source_language.specs.Tokens.{SheetToken, number, name, sign}
use Rattle.source_language.specs.Text.{TextConstant}
use Rattle.source_language.specs.Faults.{Kind, outside}
use Rattle.source_language.specs.Limits.{ConstantFits}
use Rattle.source_language.specs.Meaning.{constant_word}
use Rattle.source_language.specs.Reader.{Phrased, bad, got, place_at, sign_at, number_due, value_of}
use Rattle.source_coding.specs.FaultWords.{fault_of}
use Rattle.source_coding.specs.declared.faults.Fault.{Fault}
use Rattle.source_coding.specs.Places.{tokens_from, name_at}
use Rattle.source_due.specs.declared.Found.{Found}

-- what is due, or a fault
abbrev pub Due : Type 0
Due = Result Found Fault

abbrev pub found : ℕ → ℕ → ℕ → Due
found p v next = Ok (record { place = p; number = v; next = next })

-- what was read is at fault, and this is the fault
pub record FaultTold {A : Type 0} (x : Phrased A) (w : Fault) : Type 0 where
  pub kind : Kind
  pub place : ℕ
  pub turned : x ≡ bad kind place
  pub told : w ≡ fault_of kind place

abbrev pub SignTold : List ℕ → ℕ → ℕ → Due → Type 0
SignTold text at c (Ok d) = tokens_from text at ≡ sign d.place c ∷ tokens_from text d.next
SignTold text at c (Err w) = (sign_at (tokens_from text at) ≢ c) × (w ≡ fault_of outside (place_at (tokens_from text at)))

-- no name stands first
abbrev pub NoName : List SheetToken → Type 0
NoName [] = Unit {0}
NoName (number p n ∷ ts) = Unit {0}
NoName (name p s ∷ ts) = ⊥
NoName (sign p c ∷ ts) = Unit {0}

abbrev pub NameTold : List ℕ → ℕ → Due → Type 0
NameTold text at (Ok d) = tokens_from text at ≡ name d.place (name_at text d.place) ∷ tokens_from text d.next
NameTold text at (Err w) = NoName (tokens_from text at) × (w ≡ fault_of outside (place_at (tokens_from text at)))

abbrev pub NumberTold : List ℕ → ℕ → ℕ → Due → Type 0
NumberTold text at top (Ok d) = (tokens_from text at ≡ number d.place d.number ∷ tokens_from text d.next) × (d.number ≤ top)
NumberTold text at top (Err w) = FaultTold (number_due top (λ p n us. got n us) (tokens_from text at)) w

-- a constant, by its word
pub record ConstantFound (text : List ℕ) (at word next : ℕ) : Type 0 where
  pub constant : TextConstant
  pub read : value_of (tokens_from text at) ≡ got constant (tokens_from text next)
  pub written : word ≡ constant_word constant
  pub fits : ConstantFits constant

abbrev pub ValueTold : List ℕ → ℕ → Due → Type 0
ValueTold text at (Ok d) = ConstantFound text at d.number d.next
ValueTold text at (Err w) = FaultTold (value_of (tokens_from text at)) w

-- what is found takes some bytes of a text of so many, and its number is a word
abbrev pub DueWithin : ℕ → ℕ → Due → Type 0
DueWithin long at (Ok d) = (at ≤ d.place) × (d.place < d.next) × (d.next ≤ long) × (d.number < 4294967296)
DueWithin long at (Err w) = Unit {0}
