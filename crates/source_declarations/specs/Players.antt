-- What the readers of players promise: who may send or see, as one number.
use Rattle.std.specs.Prelude.{Result, Ok, Err, ℕ, ◌≤◌, ◌≡◌, List}
use Rattle.std.proofs.Math.Option.{Option, none, some}
use Rattle.source_language.specs.Reader.{Phrased, bad, got, then_phrase}
use Rattle.source_language.specs.Meaning.{bits_below}
use Rattle.source_coding.specs.declared.faults.Fault.{Fault}
use Rattle.source_coding.specs.FaultWords.{fault_of}
use Rattle.source_coding.specs.Places.{tokens_from}
use Rattle.source_declarations.specs.declared.Given.{Given}

-- who may send or see, or a fault
abbrev pub Rights : Type 0
Rights = Result Given Fault

abbrev pub given : ℕ → ℕ → Rights
given to bits = Ok (record { next = to; bits = bits })

-- the bits of the players that are said; 256 where nothing is said
abbrev pub rights_number : Option (List ℕ) → ℕ
rights_number none = 256
rights_number (some ns) = bits_below 8 ns

-- the players that were read are said
abbrev pub players_said : Phrased (List ℕ) → Phrased (Option (List ℕ))
players_said x = then_phrase x (λ ns us. got (some ns) us)

-- the answer r is what the reader finds in the text
abbrev pub RightsRead : List ℕ → Rights → Phrased (Option (List ℕ)) → Type 0
RightsRead text (Err w) (bad k p) = w ≡ fault_of k p
RightsRead text (Err w) (got m us) = ⊥
RightsRead text (Ok r) (bad k p) = ⊥
RightsRead text (Ok r) (got m us) = (us ≡ tokens_from text r.next) × (r.bits ≡ rights_number m)

-- a reading from place `at` on stays within a text of so many bytes
abbrev pub RightsWithin : ℕ → ℕ → Rights → Type 0
RightsWithin long at (Err w) = Unit {0}
RightsWithin long at (Ok r) = (at ≤ r.next) × (r.next ≤ long) × (r.bits ≤ 256)
