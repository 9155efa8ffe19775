-- The limits that the first pass holds a text to, whatever its names mean: docs/SHEETS.md "Faults". Each declaration is
-- judged after those before it.
use Rattle.std.specs.Prelude.{ℕ, suc, ◌+◌, ◌≤◌, ◌<◌, max, Bool, true, false, ◌≡◌, List, [], ◌∷◌, length}
use Rattle.std.proofs.Math.Option.{Option, none, some}
use Rattle.lib_base.specs.Basics.{pick, All}
use Rattle.source_language.specs.Tokens.{same}
use Rattle.source_language.specs.Text.{TextConstant, plus, minus, Phrase, constant, named, cell, negation}
use Rattle.source_language.specs.Text.{operation, choice, Reaction, on, Body, passive, active, row, Parameter}
use Rattle.source_language.specs.Text.{parameter, TextEvent, event, TextBehaviour, behaviour, Text, text}

-- s is among these names
unfoldable pub among : List ℕ → List (List ℕ) → Bool
among s [] = false
among s (t ∷ ts) = pick (same s t) true (among s ts)

-- "a number over 2,147,483,647 (2,147,483,648 after a `-` that makes a constant)"
abbrev pub largest : ℕ
largest = 2147483647

abbrev pub ConstantFits : TextConstant → Type 0
ConstantFits (plus n) = n ≤ largest
ConstantFits (minus n) = n ≤ suc largest

-- 01: "A constant or name has nesting 1, an application one more than its deepest argument"
unfoldable pub phrase_nesting : Phrase → ℕ
phrase_nesting (constant c) = 1
phrase_nesting (named p s) = 1
phrase_nesting (cell p s q n) = 1
phrase_nesting (negation a) = suc (phrase_nesting a)
phrase_nesting (operation f a b) = suc (max (phrase_nesting a) (phrase_nesting b))
phrase_nesting (choice a b c) = suc (max (max (phrase_nesting a) (phrase_nesting b)) (phrase_nesting c))

unfoldable pub NumbersFit : Phrase → Type 0
NumbersFit (constant c) = ConstantFits c
NumbersFit (named p s) = Unit {0}
NumbersFit (cell p s q n) = n ≤ largest
NumbersFit (negation a) = NumbersFit a
NumbersFit (operation f a b) = NumbersFit a × NumbersFit b
NumbersFit (choice a b c) = NumbersFit a × NumbersFit b × NumbersFit c

-- "an expression at nesting 17"
pub record PhraseFits (e : Phrase) : Type 0 where
  pub numbers : NumbersFit e
  pub nested : phrase_nesting e ≤ 16

-- "a player over 7"
abbrev pub PlayersFit : Option (List ℕ) → Type 0
PlayersFit none = Unit {0}
PlayersFit (some ns) = All (λ n. n ≤ 7) ns

abbrev pub DefaultFits : Option TextConstant → Type 0
DefaultFits none = Unit {0}
DefaultFits (some c) = ConstantFits c

-- members of a list, each judged in the state that those before it leave, and the state after all
abbrev pub FitInTurn : {A S : Type 0} → (S → A → Type 0) → (S → A → S) → S → List A → Type 0
FitInTurn Fits next s [] = Unit {0}
FitInTurn Fits next s (x ∷ xs) = Fits s x × FitInTurn Fits next (next s x) xs

unfoldable pub after_all : {A S : Type 0} → (S → A → S) → S → List A → S
after_all next s [] = s
after_all next s (x ∷ xs) = after_all next (next s x) xs

-- "a ninth parameter", "a name declared twice": ns are the parameters before
abbrev pub ParameterFits : List (List ℕ) → Parameter → Type 0
ParameterFits ns (parameter s d) = (length ns < 8) × (among s ns ≡ false) × DefaultFits d

abbrev pub with_parameter : List (List ℕ) → Parameter → List (List ℕ)
with_parameter ns (parameter s d) = s ∷ ns

-- "33rd event", "a rank over 15"; "events have their own" names
abbrev pub EventFits : List (List ℕ) → TextEvent → Type 0
EventFits ns (event s n m) = (length ns < 32) × (among s ns ≡ false) × (n ≤ 15) × PlayersFit m

abbrev pub with_event : List (List ℕ) → TextEvent → List (List ℕ)
with_event ns (event s n m) = s ∷ ns

-- "a second handler for an event in one behaviour", "an event that is not declared": es are declared, ns have handlers
abbrev pub ReactionFits : List (List ℕ) → List (List ℕ) → Reaction → Type 0
ReactionFits es ns (on s φ e) = (among s ns ≡ false) × (among s es ≡ true) × PhraseFits e

abbrev pub with_reaction : List (List ℕ) → Reaction → List (List ℕ)
with_reaction ns (on s φ e) = s ∷ ns

abbrev pub ReactionsFit : List (List ℕ) → List Reaction → Type 0
ReactionsFit es = FitInTurn (ReactionFits es) with_reaction []

-- a row takes as many numbers as it has cells; "a cell count not 2 to 16"
abbrev pub body_cells : Body → ℕ
body_cells (passive e) = 1
body_cells (active c hs) = 1
body_cells (row n c hs) = n

abbrev pub BodyFits : List (List ℕ) → Body → Type 0
BodyFits es (passive e) = PhraseFits e
BodyFits es (active c hs) = ConstantFits c × ReactionsFit es hs
BodyFits es (row n c hs) = (2 ≤ n) × (n ≤ 16) × ConstantFits c × ReactionsFit es hs

-- "65th behaviour"; "parameters and behaviours share one set of names": the names taken, and how many behaviours stand
-- before
pub data NamesTaken : Type 0 where
  taken : List (List ℕ) → ℕ → NamesTaken

abbrev pub TextBehaviourFits : List (List ℕ) → NamesTaken → TextBehaviour → Type 0
TextBehaviourFits es (taken ns i) (behaviour s b m) = (i + body_cells b ≤ 64) × (among s ns ≡ false) × BodyFits es b × PlayersFit m

abbrev pub with_behaviour : NamesTaken → TextBehaviour → NamesTaken
with_behaviour (taken ns i) (behaviour s b m) = taken (s ∷ ns) (i + body_cells b)

abbrev pub TextFits : Text → Type 0
TextFits (text ps es bs) =
    FitInTurn ParameterFits with_parameter [] ps
    × FitInTurn EventFits with_event [] es
    × FitInTurn (TextBehaviourFits (after_all with_event [] es)) with_behaviour (taken (after_all with_parameter [] ps) 0) bs
