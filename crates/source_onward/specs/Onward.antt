-- How a formula goes on: the brackets before its first operand, what follows an operand, and the `)` of an `if`, each
-- in terms of the definition's functions (`from_operand`, `after_operand`, `past_sign`).
use Rattle.std.specs.Prelude.{Result, Ok, Err, ℕ, suc, ◌+◌, ◌-◌, ◌≤◌, ◌<◌, Bool, false, ◌≡◌, ◌≢◌, List, ◌∷◌, length, get_or, ltb, leb, eqb}
use Rattle.lib_base.specs.Basics.{pick}
use Rattle.lib_signature.specs.Signature.{level}
use Rattle.lib_signature.specs.Numbers.{not_fn, if_fn}
use Rattle.source_language.specs.Tokens.{SheetToken, sign, opening, closing, end_sign}
use Rattle.source_language.specs.Scanner.{begins, first_in_text}
use Rattle.source_language.specs.Text.{Phrase, operation}
use Rattle.source_language.specs.Faults.{outside, too_deep}
use Rattle.source_language.specs.Limits.{phrase_nesting}
use Rattle.source_language.specs.Reader.{Phrased, got, then_phrase, place_at, sign_at, past_sign, after_operand, from_operand}
use Rattle.source_coding.specs.declared.faults.Fault.{Fault}
use Rattle.source_coding.specs.FaultWords.{fault_of}
use Rattle.source_coding.specs.Places.{tokens_from}
use Rattle.source_tokens.specs.Token.{TokenBegins, PassedOver}
use Rattle.source_tokens.specs.declared.Token.{Token}
use Rattle.source_tokens.specs.declared.Token.TheVariants.{Number, Name, Sign}
use Rattle.source_due.specs.Due.{FaultTold}
use Rattle.source_field.specs.Formula.{Read}
use Rattle.source_field.specs.declared.Formula.{Formula}
use Rattle.source_onward.specs.declared.Onward.{Onward}
use Rattle.source_onward.specs.declared.Onward.TheVariants.{Ended, Closed, Operator}

-- what follows an operand, or a fault
abbrev pub OnwardDue : Type 0
OnwardDue = Result Onward Fault

-- ---- the sign at a place, 0 for another token

-- a token's place, its sign, and the place behind it
abbrev pub StandsFor : Token → ℕ → ℕ → ℕ → Type 0
StandsFor (Number p v next) q c to = (q ≡ p) × (c ≡ 0) × (to ≡ next)
StandsFor (Name p next) q c to = (q ≡ p) × (c ≡ 0) × (to ≡ next)
StandsFor (Sign p d next) q c to = (q ≡ p) × (c ≡ d) × (to ≡ next)

-- a token's sign, its place and the place behind it, as the definition's functions tell them
pub record SignStands (text : List ℕ) (at p c next : ℕ) : Type 0 where
  pub sign_is : sign_at (tokens_from text at) ≡ c
  pub place_is : place_at (tokens_from text at) ≡ p
  pub some : 0 < length (tokens_from text at)
  pub within : p ≤ length text
  pub behind : next ≤ length text
  pub onward : 0 < c → c < end_sign → tokens_from text at ≡ sign p c ∷ tokens_from text next
  pub further : 0 < c → c < end_sign → (at < next) × (next ≤ length text)

-- a sign that begins with this byte, which is above `(`, is this one, whatever follows; or 0
pub record LoneMark (b c : ℕ) : Type 0 where
  pub beyond : (c ≡ 0 → ⊥) → 40 < b
  pub alone : (c ≡ 0 → ⊥) → (p : ℕ) (bs : List ℕ) → first_in_text p b bs ≡ begins (sign p c) bs

-- a token that begins with `!`
abbrev pub NotBegins : List ℕ → ℕ → Type 0
NotBegins text at = TokenBegins text at × (get_or text at 0 ≡ 33)

-- a token that begins with `i`
abbrev pub IfBegins : List ℕ → ℕ → Type 0
IfBegins text at = TokenBegins text at × (get_or text at 0 ≡ 105)

-- the sign at a place as far as an operand begins by it, with `!` or `if`: 0 stands for any other
pub record SignBefore (text : List ℕ) (at p c next : ℕ) : Type 0 where
  pub not_is : sign_at (tokens_from text at) ≡ not_fn → c ≡ not_fn
  pub if_is : sign_at (tokens_from text at) ≡ if_fn → c ≡ if_fn
  pub within : p ≤ length text
  pub onward : 0 < c → c < end_sign → tokens_from text at ≡ sign p c ∷ tokens_from text next
  pub further : 0 < c → c < end_sign → (at < next) × (next ≤ length text)

-- the sign at a place as far as a formula goes on by it: 0 stands for any that is no operator and no `)`
pub record SignAhead (text : List ℕ) (at p c next : ℕ) : Type 0 where
  pub level_is_law : level (sign_at (tokens_from text at)) ≡ level c
  pub closing_is : sign_at (tokens_from text at) ≡ closing → c ≡ closing
  pub place_is : place_at (tokens_from text at) ≡ p
  pub some : 0 < length (tokens_from text at)
  pub within : p ≤ length text
  pub onward : 0 < c → c < end_sign → tokens_from text at ≡ sign p c ∷ tokens_from text next
  pub further : 0 < c → c < end_sign → (at < next) × (next ≤ length text)

-- a token is passed
abbrev pub TokenPassed : List ℕ → ℕ → ℕ → Type 0
TokenPassed text at next = (at < next) × (next ≤ length text) × (length (tokens_from text next) < length (tokens_from text at))

-- ---- the brackets before the first operand

-- so many open from a place on, and at `first` none does
pub record BracketsOpened (text : List ℕ) (at first opened : ℕ) : Type 0 where
  pub from : at ≤ first
  pub within : first ≤ length text
  pub few : opened + at ≤ first
  pub counted : length (tokens_from text first) + opened ≡ length (tokens_from text at)
  pub some : 0 < length (tokens_from text first)
  pub other : sign_at (tokens_from text first) ≢ opening
  pub begun : PassedOver text first first
  pub whole : (next : ℕ → List SheetToken → Phrased Phrase) (room l m : ℕ)
      → from_operand next room l (m + opened) 0 (tokens_from text at) ≡ from_operand next room l m opened (tokens_from text first)

-- ---- what follows an operand

-- an operator of level t goes on with a formula of level l: inside brackets every operator does
unfoldable pub joins_in : ℕ → ℕ → ℕ → Bool
joins_in t l opened = pick (eqb t 0) false (pick (eqb opened 0) (leb t l) (leb t 6))

-- by the sign's place, its number and the place behind it, after an operand that nests so deep
unfoldable pub onward_of : ℕ → ℕ → ℕ → ℕ → ℕ → ℕ → ℕ → OnwardDue
onward_of p c next l opened depth room =
    pick (joins_in (level c) l opened)
    (pick (ltb depth room) (Ok (Operator c (level c - 1) next)) (Err (fault_of too_deep p)))
    (pick (eqb opened 0) (Ok Ended) (pick (eqb c closing) (Ok (Closed next)) (Err (fault_of outside p))))

-- it says how `after_operand` goes on
abbrev pub OnwardRead : List ℕ → ℕ → ℕ → ℕ → ℕ → ℕ → OnwardDue → Type 0
OnwardRead text at l opened depth room (Ok Ended) =
    (next : ℕ → List SheetToken → Phrased Phrase) (m : ℕ) (a : Phrase) → after_operand next room l (suc m) opened a (tokens_from text at) ≡ got a (tokens_from text at)
OnwardRead text at l opened depth room (Ok (Closed to)) =
    ((next : ℕ → List SheetToken → Phrased Phrase) (m : ℕ) (a : Phrase) → after_operand next room l (suc m) opened a (tokens_from text at) ≡ after_operand next room l m (opened - 1) a (tokens_from text to))
    × (0 < opened) × TokenPassed text at to
OnwardRead text at l opened depth room (Ok (Operator f t to)) =
    ((next : ℕ → List SheetToken → Phrased Phrase) (m : ℕ) (a : Phrase) → phrase_nesting a ≡ depth
    → after_operand next room l (suc m) opened a (tokens_from text at) ≡ then_phrase (next t (tokens_from text to)) (λ b us. after_operand next room l m opened (operation f a b) us))
    × (t < 6) × (depth < room) × TokenPassed text at to
OnwardRead text at l opened depth room (Err w) =
    (next : ℕ → List SheetToken → Phrased Phrase) (m : ℕ) (a : Phrase) → phrase_nesting a ≡ depth → FaultTold (after_operand next room l (suc m) opened a (tokens_from text at)) w

-- ---- the `)` of an `if`

abbrev pub ReadInside : ℕ → Read → Type 0
ReadInside long (Err w) = Unit {0}
ReadInside long (Ok f) = f.next ≤ long

abbrev pub ClosedBehind : List ℕ → Formula → Read → Type 0
ClosedBehind text f (Err v) = (e : Phrase) → FaultTold (past_sign closing (λ us. got e us) (tokens_from text f.next)) v
ClosedBehind text f (Ok g) =
    ((e : Phrase) → past_sign closing (λ us. got e us) (tokens_from text f.next) ≡ got e (tokens_from text g.next))
    × (g.depth ≡ f.depth) × (g.end ≡ f.end) × (g.stray ≡ f.stray) × TokenPassed text f.next g.next

abbrev pub EndedRead : List ℕ → Read → Read → Type 0
EndedRead text (Err w) q = q ≡ Err w
EndedRead text (Ok f) q = ClosedBehind text f q
