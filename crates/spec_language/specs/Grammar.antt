-- The grammar as an encoding of sheets, and the limits that one field can show, of a sheet and of the program that it
-- means. 01 "The sheet"; 02, M-103, M-107, M-110.
use Rattle.std.specs.Prelude.{ℕ, suc, ◌/◌, ◌%◌, ◌≤◌, ◌<◌, ◌^◌, ◌≡◌, ◌≢◌, List, [], ◌∷◌, ◌++◌, length}
use Rattle.std.proofs.Math.Option.{Option, none, some}
use Rattle.lib_base.specs.Basics.{All}
use Rattle.lib_signature.specs.Signature.{last, arity}
use Rattle.spec_language.specs.Syntax.{Phase, immediate, later}
use Rattle.spec_language.specs.Sheet.{Term, literal, variable, param, apply1, apply2, apply3, Clause, clause}
use Rattle.spec_language.specs.Sheet.{Item, formula, state, row, Signal, Entry, Sheet, cell_count}

-- ---- bytes

-- "A field is a one-byte tag, a two-byte length and that many bytes of value."
abbrev pub field : ℕ → List ℕ → List ℕ
field t v = t ∷ (length v / 256) ∷ (length v % 256) ∷ v

-- a 32-bit word, big-endian
abbrev pub word : ℕ → List ℕ
word w = (w / 16777216) ∷ (w / 65536 % 256) ∷ (w / 256 % 256) ∷ (w % 256) ∷ []

-- 10 constant, 11 name, 12 application, 13 parameter, hexadecimal
unfoldable pub encode_expr : Term → List ℕ
encode_expr (literal w) = field 16 (word w)
encode_expr (variable i) = field 17 (i ∷ [])
encode_expr (param n) = field 19 (n ∷ [])
encode_expr (apply1 f a) = field 18 (f ∷ encode_expr a)
encode_expr (apply2 f a b) = field 18 (f ∷ (encode_expr a ++ encode_expr b))
encode_expr (apply3 f a b c) = field 18 (f ∷ (encode_expr a ++ (encode_expr b ++ encode_expr c)))

abbrev pub encode_phase : Phase → ℕ
encode_phase immediate = 0
encode_phase later = 1

abbrev pub encode_handler : Clause → List ℕ
encode_handler (clause e φ x) = field 5 (e ∷ encode_phase φ ∷ encode_expr x)

unfoldable pub encode_handlers : List Clause → List ℕ
encode_handlers [] = []
encode_handlers (h ∷ hs) = encode_handler h ++ encode_handlers hs

-- 02 passive, 03 active, 06 a row
abbrev pub tag_of : Item → ℕ
tag_of (formula x) = 2
tag_of (state s hs) = 3
tag_of (row c s hs) = 6

-- M-110: "A new field 06 in place of 03 begins with a one-byte cell count of 2 to 16 (else 8), then goes on as an
-- active."
abbrev pub encode_item : Item → List ℕ
encode_item (formula x) = encode_expr x
encode_item (state s hs) = field 4 (word s) ++ encode_handlers hs
encode_item (row c s hs) = c ∷ (field 4 (word s) ++ encode_handlers hs)

-- M-107: "A behaviour may end with a field 08 of length 1"
abbrev pub encode_viewer : Option ℕ → List ℕ
encode_viewer none = []
encode_viewer (some m) = field 8 (m ∷ [])

abbrev pub encode_behaviour : Entry → List ℕ
encode_behaviour x = field (tag_of x.item) (encode_item x.item ++ encode_viewer x.viewer)

unfoldable pub encode_behaviours : List Entry → List ℕ
encode_behaviours [] = []
encode_behaviours (b ∷ bs) = encode_behaviour b ++ encode_behaviours bs

-- M-107: "An event field may have length 2, its second byte saying who may send it"
abbrev pub encode_sender : Option ℕ → List ℕ
encode_sender none = []
encode_sender (some m) = m ∷ []

abbrev pub encode_event : Signal → List ℕ
encode_event x = field 1 (x.priority ∷ encode_sender x.sender)

unfoldable pub encode_events : List Signal → List ℕ
encode_events [] = []
encode_events (r ∷ rs) = encode_event r ++ encode_events rs

-- "Events come first", then behaviours
unfoldable pub encode : Sheet → List ℕ
encode s = encode_events s.signals ++ encode_behaviours s.entries

-- ---- limits

-- a function and how many arguments it needs: `!` one, `if` three, the others two
pub data Arity : ℕ → ℕ → Type 0 where
  unary : Arity 3 1
  ternary : Arity 14 3
  binary : {f : ℕ} → 0 < f → f ≤ last → arity f ≡ 2 → Arity f 2

-- "A constant or name has nesting 1, an application one more than its deepest argument", a parameter being a constant:
-- an expression of nesting at most the first number, each function with the arguments that it needs, each constant a
-- word, each name a byte, each parameter one of 0 to 7
pub data TermFits : ℕ → Term → Type 0 where
  t_literal : {k w : ℕ} → w < 2 ^ 32 → TermFits (suc k) (literal w)
  t_variable : {k i : ℕ} → i < 256 → TermFits (suc k) (variable i)
  t_param : {k n : ℕ} → n < 8 → TermFits (suc k) (param n)
  t_apply1 : {k f : ℕ} {a : Term} → Arity f 1 → TermFits k a → TermFits (suc k) (apply1 f a)
  t_apply2 : {k f : ℕ} {a b : Term} → Arity f 2 → TermFits k a → TermFits k b → TermFits (suc k) (apply2 f a b)
  t_apply3 : {k f : ℕ} {a b c : Term} → Arity f 3 → TermFits k a → TermFits k b → TermFits k c → TermFits (suc k) (apply3 f a b c)

-- no handler for event e among these
abbrev pub NoClauseFor : ℕ → List Clause → Type 0
NoClauseFor e [] = Unit {0}
NoClauseFor e (clause f φ x ∷ hs) = (e ≢ f) × NoClauseFor e hs

-- each handler's event is one of n declared, none has two handlers, and each expression is nested at most 16 deep
abbrev pub ClausesFit : ℕ → List Clause → Type 0
ClausesFit n [] = Unit {0}
ClausesFit n (clause e φ x ∷ hs) = (e < n) × TermFits 16 x × NoClauseFor e hs × ClausesFit n hs

abbrev pub ItemFits : ℕ → Item → Type 0
ItemFits n (formula x) = TermFits 16 x
ItemFits n (state s hs) = (s < 2 ^ 32) × ClausesFit n hs
ItemFits n (row c s hs) = (2 ≤ c) × (c ≤ 16) × (s < 2 ^ 32) × ClausesFit n hs

-- who may send or see is a byte, where there is one
abbrev pub ByteFits : Option ℕ → Type 0
ByteFits none = Unit {0}
ByteFits (some m) = m < 256

abbrev pub SignalFits : Signal → Type 0
SignalFits x = (x.priority ≤ 15) × ByteFits x.sender

abbrev pub EntryFits : ℕ → Entry → Type 0
EntryFits n x = ItemFits n x.item × ByteFits x.viewer

-- at most 32 events of priority 0 to 15 and 64 behaviours (M-110: a row's cells "counted toward the 64"), each within
-- its limits, in up to 8,192 bytes as sent. 02, M-106: a sheet of no bytes "shall mean a sheet with no events and no
-- behaviours"
pub record SheetFits (s : Sheet) : Type 0 where
  pub few_events : length s.signals ≤ 32
  pub few_behaviours : cell_count s.entries ≤ 64
  pub scale : All SignalFits s.signals
  pub each : All (EntryFits (length s.signals)) s.entries
  pub few_bytes : length (encode s) ≤ 8192

-- ---- the same limits of a program, which has no bytes: "3 counts the bytes as sent and not those of the filling"
