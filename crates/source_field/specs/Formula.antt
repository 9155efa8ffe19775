-- What a formula's reading in the code promises: what the definition's functions read (`phrase_within` and its parts),
-- and the bytes of its field, where every name is known and they fit.
use Rattle.std.specs.Prelude.{Option, Result, Ok, Err, ℕ, ◌+◌, ◌*◌, ◌≤◌, ◌<◌, ◌≡◌, List, ◌++◌, length, take}
use Rattle.lib_base.specs.Basics.{All}
use Rattle.spec_language.specs.Sheet.{Term}
use Rattle.spec_language.specs.Grammar.{encode_expr}
use Rattle.source_language.specs.Tokens.{SheetToken}
use Rattle.source_language.specs.Text.{Phrase}
use Rattle.source_language.specs.Faults.{fine}
use Rattle.source_language.specs.Limits.{phrase_nesting}
use Rattle.source_language.specs.Meaning.{NameMeaning, term_of}
use Rattle.source_language.specs.Reader.{Phrased, bad, got}
use Rattle.source_coding.specs.FaultWords.{fault_of, fault_in}
use Rattle.source_coding.specs.declared.faults.Fault.{Fault}
use Rattle.source_coding.specs.Places.{tokens_from}
use Rattle.source_coding.specs.Sizes.{phrase_size}
use Rattle.source_field.specs.declared.Cursor.{Cursor}
use Rattle.source_field.specs.declared.Formula.{Formula}

-- a formula, or a fault
abbrev pub Read : Type 0
Read = Result Formula Fault

abbrev pub formula_done : ℕ → ℕ → ℕ → Option Fault → Read
formula_done to depth end w = Ok (record { next = to; depth = depth; end = end; stray = w })

-- a place of a text, and one of the buffer for what follows; names in order and meanings that numbers can say
abbrev pub Readable : List ℕ → Cursor → List ℕ → List ℕ → Type 0
Readable text c places meanings =
    (length text ≤ 65536) × ((c.at ≤ length text) × ((c.end ≤ c.at * 16) × ((c.sorted ≤ length places) × All (λ m. m < 8320) meanings)))

-- the formula e is read up to a place, where names mean what `find` says, in a handler of a row of c cells: its size,
-- from n on, is counted whatever its names mean; w is their first fault, and without one its bytes stand in p where o
-- was, if they fit
pub record FormulaWritten (text : List ℕ) (find : List ℕ → NameMeaning) (c n : ℕ) (o p : List ℕ) (to depth end : ℕ) (w : Option Fault) (e : Phrase) (us : List SheetToken) : Type 0 where
  pub onward : us ≡ tokens_from text to
  pub nests : depth ≡ phrase_nesting e
  pub size : end ≡ n + phrase_size e
  pub names : w ≡ fault_in (term_of find c e)
  pub bytes : (t : Term) → term_of find c e ≡ fine t → end ≤ length o → take end p ≡ take n o ++ encode_expr t

-- the code's answer, with the bytes p, is what the definition reads
abbrev pub FormulaRead : List ℕ → (List ℕ → NameMeaning) → ℕ → ℕ → List ℕ → List ℕ → Read → Phrased Phrase → Type 0
FormulaRead text find c n o p (Err w) (bad k q) = w ≡ fault_of k q
FormulaRead text find c n o p (Err w) (got e us) = ⊥
FormulaRead text find c n o p (Ok f) (bad k q) = ⊥
FormulaRead text find c n o p (Ok f) (got e us) = FormulaWritten text find c n o p f.next f.depth f.end f.stray e us

-- a reading from a place on goes on within a text of so many bytes, and nests at most as deep as there is room; a byte
-- of the text gives at most 16 of the field
abbrev pub FormulaWithin : ℕ → ℕ → ℕ → ℕ → Read → Type 0
FormulaWithin long room at n (Err w) = Unit {0}
FormulaWithin long room at n (Ok f) =
    (at < f.next) × (f.next ≤ long) × (0 < f.depth) × (f.depth ≤ room) × (n ≤ f.end) × (f.end + at * 16 ≤ n + f.next * 16)

-- fewer tokens are left behind it
abbrev pub FewerLeft : List ℕ → ℕ → Read → Type 0
FewerLeft text at (Err w) = Unit {0}
FewerLeft text at (Ok f) = length (tokens_from text f.next) < length (tokens_from text at)

-- a part of a formula is read so: all of this, and the buffer is as long as before
pub record PartRead (text : List ℕ) (find : List ℕ → NameMeaning) (c room at n : ℕ) (o p : List ℕ) (r : Read) (g : Phrased Phrase) : Type 0 where
  pub reads : FormulaRead text find c n o p r g
  pub within : FormulaWithin (length text) room at n r
  pub fewer : FewerLeft text at r
  pub kept : length p ≡ length o
