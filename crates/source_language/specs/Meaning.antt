-- The sheet that a text means, or the first fault of its second pass: docs/SHEETS.md "Meaning", "Faults".
use Rattle.std.specs.Prelude.{ℕ, zero, suc, ◌+◌, ◌-◌, ◌%◌, ◌^◌, Bool, true, false, ◌&&◌, List, [], ◌∷◌, map, eqb, ltb}
use Rattle.std.proofs.Math.Option.{Option, none, some}
use Rattle.lib_base.specs.Basics.{pick}
use Rattle.spec_language.specs.Sheet.{Term, literal, variable, param, apply1, apply2, apply3, Clause, clause, Item, formula, state, row, Signal, Entry, Sheet}
use Rattle.spec_language.specs.Reading.{entry, signal, sheet}
use Rattle.source_language.specs.Tokens.{same}
use Rattle.source_language.specs.Text.{TextConstant, plus, minus, Phrase, constant, named, cell, negation}
use Rattle.source_language.specs.Text.{operation, choice, Reaction, on, Body, passive, active, Parameter}
use Rattle.source_language.specs.Text.{parameter, TextEvent, event, TextBehaviour, behaviour, Text, text}
use Rattle.source_language.specs.Text as T
use Rattle.source_language.specs.Faults.{unknown_name, no_such_cell_fault, OrFault, fault, fine, and_then}
use Rattle.source_language.specs.Limits.{body_cells}

-- a constant is a 32-bit word
abbrev pub constant_word : TextConstant → ℕ
constant_word (plus n) = n
constant_word (minus n) = (4294967296 - n) % 4294967296

-- "No `from` or `seen by`: the byte is missing; else it has the bits of the players named, `nobody` none."
unfoldable pub among_players : ℕ → List ℕ → Bool
among_players n [] = false
among_players n (m ∷ ms) = pick (eqb n m) true (among_players n ms)

unfoldable pub bits_below : ℕ → List ℕ → ℕ
bits_below zero ms = 0
bits_below (suc n) ms = bits_below n ms + pick (among_players n ms) (2 ^ n) 0

abbrev pub rights_of : Option (List ℕ) → Option ℕ
rights_of none = none
rights_of (some ms) = some (bits_below 8 ms)

-- ---- "parameters, events and behaviours are numbered from 0 as they are declared, a row taking as many numbers as it
-- has cells"

-- what a name stands for: nothing, a parameter, a behaviour, or a row by its first cell and its count
pub data NameMeaning : Type 0 where
  nothing : NameMeaning
  a_parameter a_behaviour : ℕ → NameMeaning
  a_row : ℕ → ℕ → NameMeaning

abbrev pub found_as : ℕ → Body → NameMeaning
found_as i (passive e) = a_behaviour i
found_as i (active c hs) = a_behaviour i
found_as i (T.row n c hs) = a_row i n

-- among behaviours, of which the first has number i
unfoldable pub behaviour_named : ℕ → List TextBehaviour → List ℕ → NameMeaning
behaviour_named i [] s = nothing
behaviour_named i (behaviour t b m ∷ bs) s = pick (same s t) (found_as i b) (behaviour_named (i + body_cells b) bs s)

-- among parameters, of which the first has number i, and then among behaviours
unfoldable pub meaning_of_name : ℕ → List Parameter → List TextBehaviour → List ℕ → NameMeaning
meaning_of_name i [] bs s = behaviour_named 0 bs s
meaning_of_name i (parameter t d ∷ ps) bs s = pick (same s t) (a_parameter i) (meaning_of_name (suc i) ps bs s)

-- the event of this name
unfoldable pub event_named : List TextEvent → List ℕ → ℕ
event_named [] s = 0
event_named (event t n m ∷ es) s = pick (same s t) 0 (suc (event_named es s))

-- ---- formulas. "NAME, a parameter or a behaviour, of a row its first cell"

abbrev pub name_term : ℕ → NameMeaning → OrFault Term
name_term p nothing = fault unknown_name p
name_term p (a_parameter i) = fine (param i)
name_term p (a_behaviour i) = fine (variable i)
name_term p (a_row i n) = fine (variable i)

-- "a row's cell counted from 0"; in a handler of a row of c cells "cell 0 of such a row cannot be said"; c is 0
-- elsewhere
abbrev pub cell_term : ℕ → ℕ → ℕ → ℕ → NameMeaning → OrFault Term
cell_term c p q k nothing = fault unknown_name p
cell_term c p q k (a_parameter i) = fault no_such_cell_fault q
cell_term c p q k (a_behaviour i) = fault no_such_cell_fault q
cell_term c p q k (a_row i n) = pick (ltb k n) (pick (eqb k 0 && eqb n c) (fault no_such_cell_fault q) (fine (variable (i + k)))) (fault no_such_cell_fault q)

-- a formula's expression, where names are found so, in a handler of a row of c cells
module _ (find : List ℕ → NameMeaning) (c : ℕ) where
  unfoldable pub term_of : Phrase → OrFault Term
  term_of (constant x) = fine (literal (constant_word x))
  term_of (named p s) = name_term p (find s)
  term_of (cell p s q k) = cell_term c p q k (find s)
  term_of (negation a) = and_then (term_of a) (λ x. fine (apply1 3 x))
  term_of (operation f a b) = and_then (term_of a) (λ x. and_then (term_of b) (λ y. fine (apply2 f x y)))
  term_of (choice a b d) = and_then (term_of a) (λ x. and_then (term_of b) (λ y. and_then (term_of d) (λ z. fine (apply3 14 x y z))))

-- ---- behaviours, from left to right

module _ (es : List TextEvent) (find : List ℕ → NameMeaning) where
  unfoldable pub clauses_of : ℕ → List Reaction → OrFault (List Clause)
  clauses_of c [] = fine []
  clauses_of c (on s φ e ∷ hs) = and_then (term_of find c e) (λ x. and_then (clauses_of c hs) (λ cs. fine (clause (event_named es s) φ x ∷ cs)))

  abbrev pub item_of : Body → OrFault Item
  item_of (passive e) = and_then (term_of find 0 e) (λ x. fine (formula x))
  item_of (active v hs) = and_then (clauses_of 0 hs) (λ cs. fine (state (constant_word v) cs))
  item_of (T.row n v hs) = and_then (clauses_of n hs) (λ cs. fine (row n (constant_word v) cs))

  unfoldable pub entries_of : List TextBehaviour → OrFault (List Entry)
  entries_of [] = fine []
  entries_of (behaviour s b m ∷ bs) = and_then (item_of b) (λ x. and_then (entries_of bs) (λ xs. fine (entry x (rights_of m) ∷ xs)))

abbrev pub signal_of : TextEvent → Signal
signal_of (event s n m) = signal n (rights_of m)

-- "A default value of a parameter .. is not in the sheet."
unfoldable pub sheet_of : Text → OrFault Sheet
sheet_of (text ps es bs) = and_then (entries_of es (meaning_of_name 0 ps bs) bs) (λ xs. fine (sheet (map signal_of es) xs))
