-- A sheet back as text: docs/SHEETS.md "Back to text". The text that a sheet is described by, its tokens with minimal
-- brackets, and their bytes, one space between tokens where one is needed.
use Rattle.std.specs.Prelude.{ℕ, zero, suc, ◌+◌, ◌-◌, ◌/◌, ◌%◌, ◌^◌, Bool, not, ◌&&◌, ◌||◌, List, [], ◌∷◌, ◌++◌, ltb, leb, eqb}
use Rattle.std.proofs.Math.Option.{Option, none, some}
use Rattle.lib_base.specs.Basics.{pick}
use Rattle.lib_signature.specs.Signature.{level}
use Rattle.spec_language.specs.Syntax.{Phase, immediate, later}
use Rattle.spec_language.specs.Sheet.{Term, literal, variable, param, apply1, apply2, apply3, Clause, clause, Item}
use Rattle.spec_language.specs.Sheet.{formula, state, Signal, Entry, Sheet, cells, params_of_entries}
use Rattle.spec_language.specs.Sheet as S
use Rattle.source_language.specs.Tokens.{SheetToken, number, name, sign, opening, closing, comma, colon, equals}
use Rattle.source_language.specs.Tokens.{bracket, unbracket, rank_word, from_word, by_word, nobody_word, later_word}
use Rattle.source_language.specs.Tokens.{seen_word, on_word, param_word, event_keyword, passive_word, active_word}
use Rattle.source_language.specs.Tokens.{row_word, end_sign, Spelling, spelled, marks, reserved, sign_of, in_word}
use Rattle.source_language.specs.Text.{TextConstant, plus, minus, Phrase, constant, named, cell, negation, operation}
use Rattle.source_language.specs.Text.{choice, Reaction, on, Body, passive, active, row, Parameter, parameter}
use Rattle.source_language.specs.Text.{TextEvent, event, TextBehaviour, behaviour, Text, text}

-- ---- names and numbers

-- the shortest decimal digits of n; the first number bounds them
unfoldable pub digits_of : ℕ → ℕ → List ℕ
digits_of zero n = (48 + n) ∷ []
digits_of (suc k) n = pick (ltb n 10) ((48 + n) ∷ []) (digits_of k (n / 10) ++ ((48 + n % 10) ∷ []))

abbrev pub digits : ℕ → List ℕ
digits n = digits_of n n

-- "names e0, b0 (a row: that of its first cell), p0"
abbrev pub event_name : ℕ → List ℕ
event_name i = 101 ∷ digits i

abbrev pub behaviour_name : ℕ → List ℕ
behaviour_name i = 98 ∷ digits i

abbrev pub parameter_name : ℕ → List ℕ
parameter_name i = 112 ∷ digits i

-- ---- the text of a sheet

abbrev pub described_constant : ℕ → TextConstant
described_constant w = pick (ltb w 2147483648) (plus w) (minus (4294967296 - w))

-- behaviour i among entries of which the first has number j: a name, or a row's cell
unfoldable pub cell_named : ℕ → List Entry → ℕ → Phrase
cell_named j [] i = named 0 (behaviour_name i)
cell_named j (x ∷ xs) i =
    pick (eqb i j) (named 0 (behaviour_name j))
    (pick (ltb i (j + cells x.item)) (cell 0 (behaviour_name j) 0 (i - j))
    (cell_named (j + cells x.item) xs i))

module _ (xs : List Entry) where
  unfoldable pub phrase_of : Term → Phrase
  phrase_of (literal w) = constant (described_constant w)
  phrase_of (variable i) = cell_named 0 xs i
  phrase_of (param n) = named 0 (parameter_name n)
  phrase_of (apply1 f a) = negation (phrase_of a)
  phrase_of (apply2 f a b) = operation f (phrase_of a) (phrase_of b)
  phrase_of (apply3 f a b c) = choice (phrase_of a) (phrase_of b) (phrase_of c)

  unfoldable pub described_reactions : List Clause → List Reaction
  described_reactions [] = []
  described_reactions (clause e φ x ∷ cs) = on (event_name e) φ (phrase_of x) ∷ described_reactions cs

  abbrev pub described_body : Item → Body
  described_body (formula x) = passive (phrase_of x)
  described_body (state s cs) = active (described_constant s) (described_reactions cs)
  described_body (S.row c s cs) = row c (described_constant s) (described_reactions cs)

-- the players from n on whose bits a byte has, of so many
unfoldable pub players_from : ℕ → ℕ → ℕ → List ℕ
players_from zero n m = []
players_from (suc k) n m = pick (eqb (m / 2 ^ n % 2) 1) (n ∷ []) [] ++ players_from k (suc n) m

abbrev pub players_in : Option ℕ → Option (List ℕ)
players_in none = none
players_in (some m) = some (players_from 8 0 m)

-- among all entries, those left, of which the first has number j
unfoldable pub described_behaviours : List Entry → ℕ → List Entry → List TextBehaviour
described_behaviours all j [] = []
described_behaviours all j (x ∷ xs) =
    behaviour (behaviour_name j) (described_body all x.item) (players_in x.viewer) ∷ described_behaviours all (j + cells x.item) xs

unfoldable pub described_events : ℕ → List Signal → List TextEvent
described_events i [] = []
described_events i (x ∷ xs) = event (event_name i) x.priority (players_in x.sender) ∷ described_events (suc i) xs

-- "`param` lines up to the highest parameter used": so many parameters from i on, without defaults
unfoldable pub parameters_from : ℕ → ℕ → List Parameter
parameters_from zero i = []
parameters_from (suc k) i = parameter (parameter_name i) none ∷ parameters_from k (suc i)

abbrev pub text_of : Sheet → Text
text_of s = text (parameters_from (params_of_entries s.entries) 0) (described_events 0 s.signals) (described_behaviours s.entries 0 s.entries)

-- ---- its tokens, before those that follow; places are not told

abbrev pub mark : ℕ → List SheetToken → List SheetToken
mark c ts = sign 0 c ∷ ts

-- "minimal brackets": none where the operator is tight enough
abbrev pub unless : Bool → ℕ → List SheetToken → List SheetToken
unless b c ts = pick b ts (mark c ts)

abbrev pub value_tokens : TextConstant → List SheetToken → List SheetToken
value_tokens (plus n) ts = number 0 n ∷ ts
value_tokens (minus n) ts = mark 5 (number 0 n ∷ ts)

-- a formula where level l is due
unfoldable pub phrase_tokens : ℕ → Phrase → List SheetToken → List SheetToken
phrase_tokens l (constant c) ts = value_tokens c ts
phrase_tokens l (named p s) ts = name 0 s ∷ ts
phrase_tokens l (cell p s q n) ts = name 0 s ∷ mark bracket (number 0 n ∷ mark unbracket ts)
phrase_tokens l (negation a) ts = mark 3 (phrase_tokens 0 a ts)
phrase_tokens l (operation f a b) ts =
    unless (leb (level f) l) opening
    (phrase_tokens (level f) a (mark f (phrase_tokens (level f - 1) b (unless (leb (level f) l) closing ts))))
phrase_tokens l (choice a b c) ts =
    mark 14 (mark opening (phrase_tokens 6 a (mark comma (phrase_tokens 6 b (mark comma (phrase_tokens 6 c (mark closing ts)))))))

unfoldable pub number_tokens : List ℕ → List SheetToken → List SheetToken
number_tokens [] ts = ts
number_tokens (n ∷ ns) ts = number 0 n ∷ number_tokens ns ts

abbrev pub player_tokens : List ℕ → List SheetToken → List SheetToken
player_tokens [] ts = mark nobody_word ts
player_tokens (n ∷ ns) ts = number 0 n ∷ number_tokens ns ts

abbrev pub from_tokens : Option (List ℕ) → List SheetToken → List SheetToken
from_tokens none ts = ts
from_tokens (some ns) ts = mark from_word (player_tokens ns ts)

abbrev pub seen_tokens : Option (List ℕ) → List SheetToken → List SheetToken
seen_tokens none ts = ts
seen_tokens (some ns) ts = mark seen_word (mark by_word (player_tokens ns ts))

unfoldable pub parameter_tokens : List Parameter → List SheetToken → List SheetToken
parameter_tokens [] ts = ts
parameter_tokens (parameter s none ∷ ps) ts = mark param_word (name 0 s ∷ parameter_tokens ps ts)
parameter_tokens (parameter s (some c) ∷ ps) ts = mark param_word (name 0 s ∷ mark equals (value_tokens c (parameter_tokens ps ts)))

unfoldable pub event_tokens : List TextEvent → List SheetToken → List SheetToken
event_tokens [] ts = ts
event_tokens (event s n m ∷ es) ts = mark event_keyword (name 0 s ∷ mark rank_word (number 0 n ∷ from_tokens m (event_tokens es ts)))

abbrev pub phase_tokens : Phase → List SheetToken → List SheetToken
phase_tokens immediate ts = mark colon ts
phase_tokens later ts = mark later_word (mark colon ts)

unfoldable pub reaction_tokens : List Reaction → List SheetToken → List SheetToken
reaction_tokens [] ts = ts
reaction_tokens (on s φ e ∷ hs) ts = mark on_word (name 0 s ∷ phase_tokens φ (phrase_tokens 6 e (reaction_tokens hs ts)))

abbrev pub behaviour_token : TextBehaviour → List SheetToken → List SheetToken
behaviour_token (behaviour s (passive e) m) ts = mark passive_word (name 0 s ∷ mark equals (phrase_tokens 6 e (seen_tokens m ts)))
behaviour_token (behaviour s (active c hs) m) ts = mark active_word (name 0 s ∷ mark equals (value_tokens c (seen_tokens m (reaction_tokens hs ts))))
behaviour_token (behaviour s (row n c hs) m) ts =
    mark row_word (name 0 s ∷ mark bracket (number 0 n ∷ mark unbracket (mark equals (value_tokens c (seen_tokens m (reaction_tokens hs ts))))))

unfoldable pub behaviour_tokens : List TextBehaviour → List SheetToken → List SheetToken
behaviour_tokens [] ts = ts
behaviour_tokens (b ∷ bs) ts = behaviour_token b (behaviour_tokens bs ts)

abbrev pub text_tokens : Text → List SheetToken
text_tokens (text ps es bs) = parameter_tokens ps (event_tokens es (behaviour_tokens bs (mark end_sign [])))

-- ---- their bytes

unfoldable pub spelled_as : ℕ → List Spelling → List ℕ
spelled_as c [] = []
spelled_as c (spelled s n ∷ rows) = pick (eqb c n) s (spelled_as c rows)

abbrev pub spell : SheetToken → List ℕ
spell (number p n) = digits n
spell (name p s) = s
spell (sign p c) = spelled_as c marks ++ spelled_as c reserved

unfoldable pub last_of : List ℕ → ℕ
last_of [] = 0
last_of (b ∷ []) = b
last_of (b ∷ c ∷ bs) = last_of (c ∷ bs)

abbrev pub first_byte : List ℕ → ℕ
first_byte [] = 0
first_byte (b ∷ bs) = b

-- two bytes that would be read as one token, or as part of one
unfoldable pub run_together : ℕ → ℕ → Bool
run_together a b = (in_word a && in_word b) || not (eqb (sign_of (a ∷ b ∷ []) marks) 0)

-- "one space between tokens where one is needed"
abbrev pub space_between : SheetToken → SheetToken → List ℕ
space_between t u = pick (run_together (last_of (spell t)) (first_byte (spell u))) (32 ∷ []) []

-- "one declaration a line, handlers below theirs, two spaces in": what stands before the second of two tokens
abbrev pub gap : SheetToken → SheetToken → List ℕ
gap t (number p n) = space_between t (number p n)
gap t (name p s) = space_between t (name p s)
gap t (sign p c) = pick (leb param_word c) (10 ∷ []) (pick (eqb c on_word) (10 ∷ 32 ∷ 32 ∷ []) (space_between t (sign p c)))

-- what follows a token
unfoldable pub rendered : SheetToken → List SheetToken → List ℕ
rendered t [] = []
rendered t (u ∷ us) = gap t u ++ (spell u ++ rendered u us)

unfoldable pub render : List SheetToken → List ℕ
render [] = []
render (t ∷ ts) = spell t ++ rendered t ts

unfoldable pub described : Sheet → List ℕ
described s = render (text_tokens (text_of s))
