-- The reader of a sheet's text as functions on lists of tokens: what is read, with the tokens after it, or the first
-- fault, in the order of docs/SHEETS.md "Faults".
use Rattle.std.specs.Prelude.{ℕ, zero, suc, ◌+◌, ◌-◌, Bool, ◌&&◌, ◌||◌, List, [], ◌∷◌, length, ltb, leb, eqb}
use Rattle.std.proofs.Math.Option.{Option, none, some}
use Rattle.lib_base.specs.Basics.{pick}
use Rattle.lib_signature.specs.Signature.{level}
use Rattle.lib_signature.specs.Numbers.{not_fn, if_fn, subtract_fn}
use Rattle.spec_language.specs.Syntax.{Phase, immediate, later}
use Rattle.source_language.specs.Tokens.{SheetToken, number, name, sign, opening, closing, comma, colon, equals, bracket, unbracket, rank_word, from_word, by_word, nobody_word, later_word, seen_word, on_word, param_word, event_keyword, passive_word, row_word, end_sign}
use Rattle.source_language.specs.Text.{TextConstant, plus, minus, Phrase, constant, named, cell, negation, operation, choice, Reaction, on, Body, passive, active, row, Parameter, parameter, TextEvent, event, TextBehaviour, behaviour, Text, text}
use Rattle.source_language.specs.Faults.{Kind, outside, too_large, off_scale, too_many_fault, declared_twice_fault, second_handler_fault, too_deep, unknown_name, OrFault, fault, fine}
use Rattle.source_language.specs.Limits.{among, largest, phrase_nesting, after_all, with_parameter, with_event, with_reaction, NamesTaken, taken, with_behaviour}
use Rattle.source_language.specs.Scanner.{scan_text}

pub data Phrased (A : Type 0) : Type 0 where
  bad : Kind → ℕ → Phrased A
  got : A → List SheetToken → Phrased A

abbrev pub then_phrase : {A B : Type 0} → Phrased A → (A → List SheetToken → Phrased B) → Phrased B
then_phrase (bad k p) f = bad k p
then_phrase (got x ts) f = f x ts

-- ---- a token, and the first of several

abbrev pub token_place : SheetToken → ℕ
token_place (number p n) = p
token_place (name p s) = p
token_place (sign p c) = p

-- a sign's number; 0 for another token
abbrev pub sign_in : SheetToken → ℕ
sign_in (number p n) = 0
sign_in (name p s) = 0
sign_in (sign p c) = c

abbrev pub place_at : List SheetToken → ℕ
place_at [] = 0
place_at (t ∷ ts) = token_place t

abbrev pub sign_at : List SheetToken → ℕ
sign_at [] = 0
sign_at (t ∷ ts) = sign_in t

abbrev pub tokens_after : List SheetToken → List SheetToken
tokens_after [] = []
tokens_after (t ∷ ts) = ts

-- ---- what is due: a sign, a name, a number up to a bound

unfoldable pub past_sign : {A : Type 0} → ℕ → (List SheetToken → Phrased A) → List SheetToken → Phrased A
past_sign c f ts = pick (eqb (sign_at ts) c) (f (tokens_after ts)) (bad outside (place_at ts))

abbrev pub name_due : {A : Type 0} → (ℕ → List ℕ → List SheetToken → Phrased A) → List SheetToken → Phrased A
name_due f [] = bad outside 0
name_due f (number p n ∷ ts) = bad outside p
name_due f (name p s ∷ ts) = f p s ts
name_due f (sign p c ∷ ts) = bad outside p

abbrev pub number_due : {A : Type 0} → ℕ → (ℕ → ℕ → List SheetToken → Phrased A) → List SheetToken → Phrased A
number_due top f [] = bad outside 0
number_due top f (number p n ∷ ts) = pick (ltb top n) (bad too_large p) (f p n ts)
number_due top f (name p s ∷ ts) = bad outside p
number_due top f (sign p c ∷ ts) = bad outside p

unfoldable pub value_of : List SheetToken → Phrased TextConstant
value_of ts =
    pick (eqb (sign_at ts) 5) (number_due (suc largest) (λ p n us. got (minus n) us) (tokens_after ts))
    (number_due largest (λ p n us. got (plus n) us) ts)

-- ---- formulas

-- How deep a formula may nest is `room`: 16, less the functions around it. At fault is the first sign with which it
-- must nest deeper: `!` or `if` where their arguments have no room, an operator where the operand before it fills it.

abbrev pub operator_within : ℕ → ℕ → Bool
operator_within l c = ltb 0 (level c) && leb (level c) l

-- the operator after the operand a, its right operand, and on: that nests less deep, and has a tighter level
abbrev pub with_operator : (ℕ → List SheetToken → Phrased Phrase) → ℕ → (Phrase → List SheetToken → Phrased Phrase) → Phrase → List SheetToken → Phrased Phrase
with_operator next room go a ts =
    pick (ltb (phrase_nesting a) room)
    (then_phrase (next (level (sign_at ts) - 1) (tokens_after ts)) (λ b us. go (operation (sign_at ts) a b) us))
    (bad too_deep (place_at ts))

-- after the operand a of a formula of level l, inside so many brackets of its own, in which every operator goes on; the
-- first number bounds the tokens. `next` reads a formula of a level that nests less deep
unfoldable pub after_operand : (ℕ → List SheetToken → Phrased Phrase) → ℕ → ℕ → ℕ → ℕ → Phrase → List SheetToken → Phrased Phrase
after_operand next room l zero zero a ts = got a ts
after_operand next room l zero (suc k) a ts = bad outside (place_at ts)
after_operand next room l (suc m) zero a ts =
    pick (operator_within l (sign_at ts)) (with_operator next room (after_operand next room l m zero) a ts) (got a ts)
after_operand next room l (suc m) (suc k) a ts =
    pick (operator_within 6 (sign_at ts)) (with_operator next room (after_operand next room l m (suc k)) a ts)
    (past_sign closing (after_operand next room l m k a) ts)

-- a name, or a row's cell
unfoldable pub cell_of : ℕ → List ℕ → List SheetToken → Phrased Phrase
cell_of p s ts =
    pick (eqb (sign_at ts) bracket)
    (number_due largest (λ r n us. past_sign unbracket (λ vs. got (cell p s (place_at ts) n) vs) us) (tokens_after ts))
    (got (named p s) ts)

unfoldable pub read_constant : List SheetToken → Phrased Phrase
read_constant ts = then_phrase (value_of ts) (λ c us. got (constant c) us)

unfoldable pub read_negation : (List SheetToken → Phrased Phrase) → List SheetToken → Phrased Phrase
read_negation operand ts = then_phrase (operand ts) (λ a us. got (negation a) us)

unfoldable pub read_choice : (List SheetToken → Phrased Phrase) → List SheetToken → Phrased Phrase
read_choice all ts =
    past_sign opening (λ us. then_phrase (all us) (λ a vs.
    past_sign comma (λ ws. then_phrase (all ws) (λ b xs.
    past_sign comma (λ ys. then_phrase (all ys) (λ c zs.
    past_sign closing (λ end. got (choice a b c) end) zs)) xs)) vs)) ts

-- `!` and `if` have arguments, which nest less deep
abbrev pub with_arguments : ℕ → ℕ → Phrased Phrase → Phrased Phrase
with_arguments room p x = pick (ltb 1 room) x (bad too_deep p)

-- what an operand is but for brackets around it: `!`, a negative constant, `if`, a number, a name, a cell
unfoldable pub signed_of : (ℕ → List SheetToken → Phrased Phrase) → ℕ → ℕ → ℕ → List SheetToken → Phrased Phrase
signed_of next room p c ts =
    pick (eqb c not_fn) (with_arguments room p (read_negation (next 0) ts))
    (pick (eqb c subtract_fn) (read_constant (sign p c ∷ ts))
    (pick (eqb c if_fn) (with_arguments room p (read_choice (next 6) ts))
    (bad outside p)))

abbrev pub read_primary : (ℕ → List SheetToken → Phrased Phrase) → ℕ → List SheetToken → Phrased Phrase
read_primary next room [] = bad outside 0
read_primary next room (number p n ∷ ts) = read_constant (number p n ∷ ts)
read_primary next room (name p s ∷ ts) = cell_of p s ts
read_primary next room (sign p c ∷ ts) = signed_of next room p c ts

-- the brackets that open here, after so many before them, the first operand, and on; the first number bounds the tokens
unfoldable pub from_operand : (ℕ → List SheetToken → Phrased Phrase) → ℕ → ℕ → ℕ → ℕ → List SheetToken → Phrased Phrase
from_operand next room l zero k ts = bad outside (place_at ts)
from_operand next room l (suc m) k ts =
    pick (eqb (sign_at ts) opening) (from_operand next room l m (suc k) (tokens_after ts))
    (then_phrase (read_primary next room ts) (λ a us. after_operand next room l m k a us))

-- a formula of level l that nests at most so deep
unfoldable pub phrase_within : ℕ → ℕ → List SheetToken → Phrased Phrase
phrase_within zero l ts = bad too_deep (place_at ts)
phrase_within (suc room) l ts = from_operand (phrase_within room) (suc room) l (length ts) zero ts

abbrev pub formula_of : List SheetToken → Phrased Phrase
formula_of ts = phrase_within 16 6 ts

-- ---- players

unfoldable pub more_players : List SheetToken → Phrased (List ℕ)
more_players [] = got [] []
more_players (number p n ∷ ts) =
    pick (ltb largest n) (bad too_large p)
    (pick (ltb 7 n) (bad off_scale p)
    (then_phrase (more_players ts) (λ ns us. got (n ∷ ns) us)))
more_players (name p s ∷ ts) = got [] (name p s ∷ ts)
more_players (sign p c ∷ ts) = got [] (sign p c ∷ ts)

abbrev pub players_of : List SheetToken → Phrased (List ℕ)
players_of [] = bad outside 0
players_of (number p n ∷ ts) = more_players (number p n ∷ ts)
players_of (name p s ∷ ts) = bad outside p
players_of (sign p c ∷ ts) = pick (eqb c nobody_word) (got [] ts) (bad outside p)

unfoldable pub from_of : List SheetToken → Phrased (Option (List ℕ))
from_of ts = pick (eqb (sign_at ts) from_word) (then_phrase (players_of (tokens_after ts)) (λ ns us. got (some ns) us)) (got none ts)

unfoldable pub seen_of : List SheetToken → Phrased (Option (List ℕ))
seen_of ts = pick (eqb (sign_at ts) seen_word) (past_sign by_word (λ us. then_phrase (players_of us) (λ ns vs. got (some ns) vs)) (tokens_after ts)) (got none ts)

-- ---- declarations. Each follows its first word, which the loop has seen

-- as many as begin, each read in the state that those before it leave; the number bounds them
module _ {A S : Type 0} (starts : ℕ → Bool) (one : S → List SheetToken → Phrased A) (next : S → A → S) where
  unfoldable pub many_of : ℕ → S → List SheetToken → Phrased (List A)
  many_of zero s ts = got [] ts
  many_of (suc k) s ts =
      pick (starts (sign_at ts))
      (then_phrase (one s ts) (λ x us. then_phrase (many_of k (next s x) us) (λ xs vs. got (x ∷ xs) vs)))
      (got [] ts)

unfoldable pub default_of : List ℕ → List SheetToken → Phrased Parameter
default_of s ts =
    pick (eqb (sign_at ts) equals) (then_phrase (value_of (tokens_after ts)) (λ c us. got (parameter s (some c)) us)) (got (parameter s none) ts)

unfoldable pub parameter_of : List (List ℕ) → List SheetToken → Phrased Parameter
parameter_of ns ts =
    pick (leb 8 (length ns)) (bad too_many_fault (place_at ts))
    (name_due (λ p s us. pick (among s ns) (bad declared_twice_fault p) (default_of s us)) (tokens_after ts))

unfoldable pub event_declared : List (List ℕ) → List SheetToken → Phrased TextEvent
event_declared ns ts =
    pick (leb 32 (length ns)) (bad too_many_fault (place_at ts))
    (name_due (λ p s us.
    pick (among s ns) (bad declared_twice_fault p)
    (past_sign rank_word (number_due largest (λ q n vs.
    pick (ltb 15 n) (bad off_scale q)
    (then_phrase (from_of vs) (λ m ws. got (event s n m) ws)))) us)) (tokens_after ts))

abbrev pub body_declared : List ℕ → Phase → List SheetToken → Phrased Reaction
body_declared s φ ts = past_sign colon (λ us. then_phrase (formula_of us) (λ e vs. got (on s φ e) vs)) ts

unfoldable pub reaction_of : List (List ℕ) → List (List ℕ) → List SheetToken → Phrased Reaction
reaction_of es ns ts =
    name_due (λ p s us.
    pick (among s ns) (bad second_handler_fault p)
    (pick (among s es)
    (pick (eqb (sign_at us) later_word) (body_declared s later (tokens_after us)) (body_declared s immediate us))
    (bad unknown_name p))) (tokens_after ts)

abbrev pub read_reactions : List (List ℕ) → List SheetToken → Phrased (List Reaction)
read_reactions es ts = many_of (λ c. eqb c on_word) (reaction_of es) with_reaction (length ts) [] ts

unfoldable pub passive_declared : List ℕ → List SheetToken → Phrased TextBehaviour
passive_declared s ts = past_sign equals (λ us. then_phrase (formula_of us) (λ e vs. then_phrase (seen_of vs) (λ m ws. got (behaviour s (passive e) m) ws))) ts

unfoldable pub state_of : List (List ℕ) → List ℕ → (TextConstant → List Reaction → Body) → List SheetToken → Phrased TextBehaviour
state_of es s make ts =
    past_sign equals (λ us.
    then_phrase (value_of us) (λ c vs.
    then_phrase (seen_of vs) (λ m ws.
    then_phrase (read_reactions es ws) (λ hs xs. got (behaviour s (make c hs) m) xs)))) ts

-- a row whose first cell is behaviour i
unfoldable pub row_declared : List (List ℕ) → ℕ → List ℕ → List SheetToken → Phrased TextBehaviour
row_declared es i s ts =
    past_sign bracket (number_due largest (λ p n us.
    pick (ltb n 2 || ltb 16 n) (bad off_scale p)
    (pick (ltb 64 (i + n)) (bad too_many_fault p)
    (past_sign unbracket (state_of es s (row n)) us)))) ts

abbrev pub kind_declared : List (List ℕ) → ℕ → ℕ → List ℕ → List SheetToken → Phrased TextBehaviour
kind_declared es i word s ts =
    pick (eqb word passive_word) (passive_declared s ts) (pick (eqb word row_word) (row_declared es i s ts) (state_of es s active ts))

unfoldable pub behaviour_declared : List (List ℕ) → NamesTaken → List SheetToken → Phrased TextBehaviour
behaviour_declared es (taken ns i) ts =
    pick (leb 64 i) (bad too_many_fault (place_at ts))
    (name_due (λ p s us. pick (among s ns) (bad declared_twice_fault p) (kind_declared es i (sign_at ts) s us)) (tokens_after ts))

-- a word that begins a behaviour
unfoldable pub behaviour_begins : ℕ → Bool
behaviour_begins c = leb passive_word c && leb c row_word

-- ---- the whole

-- the text ends here
abbrev pub text_ends : Text → List SheetToken → OrFault Text
text_ends x [] = fault outside 0
text_ends x (t ∷ []) = pick (eqb (sign_in t) end_sign) (fine x) (fault outside (token_place t))
text_ends x (t ∷ u ∷ ts) = fault outside (token_place t)

abbrev pub ending : Phrased Text → OrFault Text
ending (bad k p) = fault k p
ending (got x ts) = text_ends x ts

unfoldable pub declarations_of : List SheetToken → Phrased Text
declarations_of ts =
    then_phrase (many_of (λ c. eqb c param_word) parameter_of with_parameter (length ts) [] ts) (λ ps us.
    then_phrase (many_of (λ c. eqb c event_keyword) event_declared with_event (length us) [] us) (λ es vs.
    then_phrase (many_of behaviour_begins (behaviour_declared (after_all with_event [] es)) with_behaviour (length vs) (taken (after_all with_parameter [] ps) 0) vs) (λ bs ws.
    got (text ps es bs) ws)))

abbrev pub read_text_tokens : List SheetToken → OrFault Text
read_text_tokens ts = ending (declarations_of ts)

unfoldable pub read_text : List ℕ → OrFault Text
read_text bytes = read_text_tokens (scan_text bytes)
