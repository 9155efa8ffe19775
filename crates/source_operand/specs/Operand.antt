-- What a name in a formula comes to: its meaning as the code holds it, and its field or its fault.
use Rattle.std.specs.Prelude.{None, Some, Result, Ok, Err, ℕ, ◌+◌, ◌≤◌, ◌<◌, ◌≡◌, ◌≢◌, List, ◌∷◌, length, []}
use Rattle.spec_language.specs.Sheet.{Term}
use Rattle.spec_language.specs.Grammar.{field, encode_expr}
use Rattle.sheet_write.specs.Writes.{fitted}
use Rattle.source_language.specs.Tokens.{SheetToken, number, name, sign, bracket, unbracket}
use Rattle.source_language.specs.Text.{Phrase}
use Rattle.source_language.specs.Faults.{outside, OrFault, fault, fine}
use Rattle.source_language.specs.Limits.{largest}
use Rattle.source_language.specs.Meaning.{NameMeaning, nothing, a_parameter, a_behaviour, a_row}
use Rattle.source_language.specs.Reader.{Phrased, bad, got, sign_at, past_sign, number_due, read_constant, cell_of}
use Rattle.source_coding.specs.declared.faults.Fault.{Fault}
use Rattle.source_coding.specs.FaultWords.{fault_of}
use Rattle.source_coding.specs.Places.{tokens_from}
use Rattle.source_tokens.specs.Token.{PassedOver}
use Rattle.source_field.specs.Formula.{Read, formula_done}
use Rattle.source_due.specs.Due.{Due, FaultTold}
use Rattle.source_operand.specs.declared.Meaning.{Meaning}
use Rattle.source_operand.specs.declared.Meaning.TheVariants.{Nothing, Parameter, Behaviour, Row}
use Rattle.source_operand.specs.declared.Leaf.{Leaf}

-- a name's field, or its fault
abbrev pub LeafDue : Type 0
LeafDue = Result Leaf Fault

-- a name's meaning, and that its numbers are bytes
abbrev pub meant_by : Meaning → NameMeaning
meant_by Nothing = nothing
meant_by (Parameter i) = a_parameter i
meant_by (Behaviour i) = a_behaviour i
meant_by (Row i n) = a_row i n

abbrev pub MeaningWithin : Meaning → Type 0
MeaningWithin Nothing = Unit {0}
MeaningWithin (Parameter i) = i < 128
MeaningWithin (Behaviour i) = i < 128
MeaningWithin (Row i n) = (i < 128) × (n ≤ 64)

-- it is that of the expression x
abbrev pub LeafAs : LeafDue → OrFault Term → Type 0
LeafAs (Ok l) (fault k p) = ⊥
LeafAs (Ok l) (fine x) = (encode_expr x ≡ field l.tag (l.number ∷ [])) × (l.number < 256)
LeafAs (Err w) (fault k p) = w ≡ fault_of k p
LeafAs (Err w) (fine x) = ⊥

abbrev pub LeafWithin : LeafDue → Type 0
LeafWithin (Ok l) = l.number < 256
LeafWithin (Err w) = Unit {0}

-- such a field is read up to a place, and written where it fits
abbrev pub leaf_done : ℕ → ℕ → LeafDue → Read
leaf_done to n (Ok l) = formula_done to 1 (n + 4) None
leaf_done to n (Err w) = formula_done to 1 (n + 4) (Some w)

abbrev pub leaf_placed : ℕ → LeafDue → List ℕ → List ℕ
leaf_placed n (Ok l) o = fitted o n (field l.tag (l.number ∷ []))
leaf_placed n (Err w) o = o

-- a cell's number and the `]` after it
abbrev pub cell_number : List SheetToken → Phrased ℕ
cell_number ts = number_due largest (λ r n us. past_sign unbracket (λ vs. got n vs) us) ts

abbrev pub CellDue : List ℕ → ℕ → Due → Type 0
CellDue text at (Ok d) =
    (cell_number (tokens_from text at) ≡ got d.number (tokens_from text d.next)) × (length (tokens_from text d.next) < length (tokens_from text at))
CellDue text at (Err w) = FaultTold (cell_number (tokens_from text at)) w

-- a `[` and the place behind it; else no `[` stands first
abbrev pub BracketTold : List ℕ → ℕ → Due → Type 0
BracketTold text at (Ok d) = tokens_from text at ≡ sign d.place bracket ∷ tokens_from text d.next
BracketTold text at (Err w) = sign_at (tokens_from text at) ≢ bracket

-- no more tokens are left than from a place on
abbrev pub NoMoreLeft : List ℕ → ℕ → Read → Type 0
NoMoreLeft text at (Err w) = Unit {0}
NoMoreLeft text at (Ok f) = length (tokens_from text f.next) ≤ length (tokens_from text at)

-- a constant, a name or a cell, where one is due; `!` and `if` are none
abbrev pub plain_of : List SheetToken → Phrased Phrase
plain_of [] = bad outside 0
plain_of (number p n ∷ ts) = read_constant (number p n ∷ ts)
plain_of (name p s ∷ ts) = cell_of p s ts
plain_of (sign p c ∷ ts) = read_constant (sign p c ∷ ts)

-- a reading's place is in a text of so many bytes
abbrev pub PlaceWithin : ℕ → Read → Type 0
PlaceWithin long (Err w) = Unit {0}
PlaceWithin long (Ok f) = f.next ≤ long

-- the same reading, up to the token behind it
abbrev pub SettledRead : List ℕ → Read → Read → Type 0
SettledRead text (Err w) q = q ≡ Err w
SettledRead text (Ok f) q = (next : ℕ) × (q ≡ formula_done next f.depth f.end f.stray) × PassedOver text f.next next
