-- What the reading of a part of a text promises, whatever the part is: the fault that the reader finds, or the place
-- behind it, its size, the first fault of its names, and its bytes where there is none and they fit.
use Rattle.std.specs.Prelude.{Option, Result, Ok, Err, ℕ, ◌+◌, ◌*◌, ◌≤◌, ◌≡◌, List, ◌++◌, length, take}
use Rattle.source_language.specs.Tokens.{SheetToken}
use Rattle.source_language.specs.Faults.{OrFault, fine}
use Rattle.source_language.specs.Reader.{Phrased, bad, got}
use Rattle.source_coding.specs.FaultWords.{fault_of, fault_in}
use Rattle.source_coding.specs.declared.faults.Fault.{Fault}
use Rattle.source_coding.specs.Places.{tokens_from}
use Rattle.source_due.specs.Due.{Due}
use Rattle.source_handlers.specs.declared.Part.{Part}

-- a part, or a fault
abbrev pub PartDue : Type 0
PartDue = Result Part Fault

abbrev pub part : ℕ → ℕ → Option Fault → PartDue
part to end w = Ok (record { next = to; end = end; stray = w })

-- how a part of a text becomes bytes: what it means, the bytes of that, and how many they are whatever it means
pub record Coding (A B : Type 0) : Type 0 where
  pub resolved : A → OrFault B
  pub encoded : B → List ℕ
  pub sized : A → ℕ

-- a part x was read, and its bytes written from place n on: o became p
pub record PartWritten {A B : Type 0} (k : Coding A B) (text : List ℕ) (n : ℕ) (o p : List ℕ) (to end : ℕ) (w : Option Fault) (x : A) (us : List SheetToken) : Type 0 where
  pub onward : us ≡ tokens_from text to
  pub size : end ≡ n + k.sized x
  pub names : w ≡ fault_in (k.resolved x)
  pub bytes : (y : B) → k.resolved x ≡ fine y → end ≤ length o → take end p ≡ take n o ++ k.encoded y

-- the answer is what the reader finds
abbrev pub PartAgrees : {A B : Type 0} → Coding A B → List ℕ → ℕ → List ℕ → List ℕ → PartDue → Phrased A → Type 0
PartAgrees k text n o p (Err w) (bad j q) = w ≡ fault_of j q
PartAgrees k text n o p (Err w) (got x us) = ⊥
PartAgrees k text n o p (Ok y) (bad j q) = ⊥
PartAgrees k text n o p (Ok y) (got x us) = PartWritten k text n o p y.next y.end y.stray x us

-- a part from place `at` on stays within a text of so many bytes, and a byte of text gives at most sixteen
abbrev pub PartWithin : ℕ → ℕ → ℕ → PartDue → Type 0
PartWithin long at n (Err w) = Unit {0}
PartWithin long at n (Ok y) = (at ≤ y.next) × (y.next ≤ long) × (n ≤ y.end) × (y.end + at * 16 ≤ n + y.next * 16)

-- the same of a part that gives no bytes: its place, number and what it is agree as P says
abbrev pub DueRead : {A : Type 0} → (ℕ → ℕ → A → Type 0) → List ℕ → Due → Phrased A → Type 0
DueRead P text (Err w) (bad j q) = w ≡ fault_of j q
DueRead P text (Err w) (got x us) = ⊥
DueRead P text (Ok d) (bad j q) = ⊥
DueRead P text (Ok d) (got x us) = (us ≡ tokens_from text d.next) × P d.place d.number x
