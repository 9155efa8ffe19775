-- A sheet as its text says it, names not yet resolved: what the grammar (Grammar.antt) finds in a text. Names are their
-- bytes; what the second pass may turn down has its place, the number of bytes before it.
use Rattle.std.specs.Prelude.{ℕ, List}
use Rattle.std.proofs.Math.Option.{Option}
use Rattle.spec_language.specs.Syntax.{Phase}

-- NUMBER, and "-" NUMBER, "a negative constant"
pub data TextConstant : Type 0 where
  plus minus : ℕ → TextConstant

-- a formula: a constant; a name; a row's cell, with the places of its name and of its `[`; `!`; a two-sided operator by
-- 01's function number; if(a,b,c)
pub data Phrase : Type 0 where
  constant : TextConstant → Phrase
  named : ℕ → List ℕ → Phrase
  cell : ℕ → List ℕ → ℕ → ℕ → Phrase
  negation : Phrase → Phrase
  operation : ℕ → Phrase → Phrase → Phrase
  choice : Phrase → Phrase → Phrase → Phrase

-- a handler: its event's name, phase, formula
pub data Reaction : Type 0 where
  on : List ℕ → Phase → Phrase → Reaction

-- a passive has a formula, an active a start value and handlers, a row its count before them
pub data Body : Type 0 where
  passive : Phrase → Body
  active : TextConstant → List Reaction → Body
  row : ℕ → TextConstant → List Reaction → Body

-- declarations by name: a parameter with its default; an event with its rank and who may send it; a behaviour with who
-- may see it. Players where they are said, none of them for `nobody`
pub data Parameter : Type 0 where
  parameter : List ℕ → Option TextConstant → Parameter

pub data TextEvent : Type 0 where
  event : List ℕ → ℕ → Option (List ℕ) → TextEvent

pub data TextBehaviour : Type 0 where
  behaviour : List ℕ → Body → Option (List ℕ) → TextBehaviour

pub data Text : Type 0 where
  text : List Parameter → List TextEvent → List TextBehaviour → Text
