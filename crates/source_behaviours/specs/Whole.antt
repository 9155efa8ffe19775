-- What the reading of a whole text promises: the fault of the first pass that the reader finds (`read_text`), or the
-- sheet's bytes, and where the names stand that it declares.
use Rattle.std.specs.Prelude.{Option, Result, Ok, Err, ℕ, ◌+◌, ◌*◌, ◌≤◌, ◌<◌, ◌≡◌, List, map, length, take}
use Rattle.lib_base.specs.Basics.{All}
use Rattle.spec_language.specs.Sheet.{Entry}
use Rattle.spec_language.specs.Reading.{sheet}
use Rattle.spec_language.specs.Grammar.{encode}
use Rattle.source_language.specs.Text.{Parameter, TextEvent, TextBehaviour, Text, text}
use Rattle.source_language.specs.Faults.{OrFault, fault, fine}
use Rattle.source_language.specs.Meaning.{NameMeaning, meaning_of_name, entries_of, signal_of}
use Rattle.source_coding.specs.FaultWords.{fault_of, fault_in}
use Rattle.source_coding.specs.declared.faults.Fault.{Fault}
use Rattle.source_coding.specs.Places.{meaning_in}
use Rattle.source_coding.specs.Sizes.{text_size}
use Rattle.source_behaviours.specs.declared.Reading.{Reading}

-- what a text says, or a fault
abbrev pub ReadingDue : Type 0
ReadingDue = Result Reading Fault

abbrev pub read_so : ℕ → ℕ → ℕ → Option Fault → ReadingDue
read_so end params count w = Ok (record { end = end; params = params; count = count; stray = w })

-- what a text declares: the places of its names, the first of them parameters', and the numbers of the behaviours'
-- first cells
pub record NamesUsable (places : List ℕ) (params : ℕ) (firsts : List ℕ) : Type 0 where
  pub few_parameters : params ≤ 8
  pub few_names : length places ≤ params + 64
  pub all_firsts : length firsts ≡ 65
  pub low : All (λ i. i ≤ 64) firsts

-- what names are looked up in: their places, the first of them in order, and their meanings, each below 65 times 128
pub record LookupUsable (places : List ℕ) (sorted : ℕ) (meanings : List ℕ) : Type 0 where
  pub some_sorted : sorted ≤ length places
  pub low : All (λ m. m < 8320) meanings

-- a text was read, in which names are found so: what is written into o, which becomes p, and the names and first cells
-- that it declares
pub record TextWritten (bytes : List ℕ) (find : List ℕ → NameMeaning) (o p names starts : List ℕ) (end params count : ℕ) (w : Option Fault) (ps : List Parameter) (es : List TextEvent) (bs : List TextBehaviour) : Type 0 where
  pub size : end ≡ text_size (text ps es bs)
  pub fault : w ≡ fault_in (entries_of es find bs)
  pub written : (xs : List Entry) → entries_of es find bs ≡ fine xs → end ≤ length o → take end p ≡ encode (sheet (map signal_of es) xs)
  pub counted : count ≤ 72
  pub usable : NamesUsable (take count names) params starts
  pub known : (s : List ℕ) → meaning_in bytes (take count names) params starts s ≡ meaning_of_name 0 ps bs s

-- the answer r is what the reader finds
abbrev pub TextRead : List ℕ → (List ℕ → NameMeaning) → List ℕ → List ℕ → List ℕ → List ℕ → ReadingDue → OrFault Text → Type 0
TextRead bytes find o p names starts (Err w) (fault k at) = w ≡ fault_of k at
TextRead bytes find o p names starts (Err w) (fine x) = ⊥
TextRead bytes find o p names starts (Ok y) (fault k at) = ⊥
TextRead bytes find o p names starts (Ok y) (fine (text ps es bs)) = TextWritten bytes find o p names starts y.end y.params y.count y.stray ps es bs

-- the end is bounded by the text's length
abbrev pub EndWithin : ℕ → ReadingDue → Type 0
EndWithin long (Err w) = Unit {0}
EndWithin long (Ok y) = y.end ≤ long * 16
