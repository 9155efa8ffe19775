-- How many bytes what a text says takes in a sheet, whatever its names mean.
use Rattle.std.specs.Prelude.{ℕ, ◌+◌, List, [], ◌∷◌}
use Rattle.std.proofs.Math.Option.{Option, none, some}
use Rattle.source_language.specs.Text.{Phrase, constant, named, cell, negation, operation, choice, Reaction, on, Body}
use Rattle.source_language.specs.Text.{passive, active, row, TextEvent, event, TextBehaviour, behaviour, Text, text}

unfoldable pub phrase_size : Phrase → ℕ
phrase_size (constant c) = 7
phrase_size (named p s) = 4
phrase_size (cell p s q n) = 4
phrase_size (negation a) = 4 + phrase_size a
phrase_size (operation f a b) = 4 + (phrase_size a + phrase_size b)
phrase_size (choice a b c) = 4 + (phrase_size a + (phrase_size b + phrase_size c))

unfoldable pub reactions_size : List Reaction → ℕ
reactions_size [] = 0
reactions_size (on s φ e ∷ hs) = (5 + phrase_size e) + reactions_size hs

abbrev pub body_size : Body → ℕ
body_size (passive e) = phrase_size e
body_size (active c hs) = 7 + reactions_size hs
body_size (row n c hs) = 8 + reactions_size hs

-- who may see a behaviour is a field, who may send an event one byte
abbrev pub viewer_size : Option (List ℕ) → ℕ
viewer_size none = 0
viewer_size (some ns) = 4

abbrev pub sender_size : Option (List ℕ) → ℕ
sender_size none = 0
sender_size (some ns) = 1

unfoldable pub behaviours_size : List TextBehaviour → ℕ
behaviours_size [] = 0
behaviours_size (behaviour s b m ∷ bs) = (3 + (body_size b + viewer_size m)) + behaviours_size bs

unfoldable pub events_size : List TextEvent → ℕ
events_size [] = 0
events_size (event s n m ∷ es) = (4 + sender_size m) + events_size es

abbrev pub text_size : Text → ℕ
text_size (text ps es bs) = events_size es + behaviours_size bs
