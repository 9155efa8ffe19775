-- A text with other names: f gives the new names of parameters and behaviours, h those of events, and g the new places,
-- since a longer name moves what follows it. docs/SHEETS.md "Meaning".
use Rattle.std.specs.Prelude.{ℕ, ◌≡◌, List, [], ◌∷◌, map}
use Rattle.source_language.specs.Text.{Phrase, constant, named, cell, negation, operation, choice, Reaction, on}
use Rattle.source_language.specs.Text.{Body, passive, active, row, Parameter, parameter, TextEvent, event}
use Rattle.source_language.specs.Text.{TextBehaviour, behaviour, Text, text}

-- different names stay different
abbrev pub KeepsApart : (List ℕ → List ℕ) → Type 0
KeepsApart f = (s t : List ℕ) → f s ≡ f t → s ≡ t

module _ (f h : List ℕ → List ℕ) (g : ℕ → ℕ) where
  unfoldable pub phrase_as : Phrase → Phrase
  phrase_as (constant c) = constant c
  phrase_as (named p s) = named (g p) (f s)
  phrase_as (cell p s q n) = cell (g p) (f s) (g q) n
  phrase_as (negation a) = negation (phrase_as a)
  phrase_as (operation k a b) = operation k (phrase_as a) (phrase_as b)
  phrase_as (choice a b c) = choice (phrase_as a) (phrase_as b) (phrase_as c)

  unfoldable pub reactions_as : List Reaction → List Reaction
  reactions_as [] = []
  reactions_as (on s φ e ∷ hs) = on (h s) φ (phrase_as e) ∷ reactions_as hs

  abbrev pub body_as : Body → Body
  body_as (passive e) = passive (phrase_as e)
  body_as (active c hs) = active c (reactions_as hs)
  body_as (row n c hs) = row n c (reactions_as hs)

  abbrev pub parameter_as : Parameter → Parameter
  parameter_as (parameter s d) = parameter (f s) d

  abbrev pub event_as : TextEvent → TextEvent
  event_as (event s n m) = event (h s) n m

  abbrev pub behaviour_as : TextBehaviour → TextBehaviour
  behaviour_as (behaviour s b m) = behaviour (f s) (body_as b) m

  abbrev pub text_as : Text → Text
  text_as (text ps es bs) = text (map parameter_as ps) (map event_as es) (map behaviour_as bs)
