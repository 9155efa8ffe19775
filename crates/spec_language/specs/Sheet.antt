-- Abstract syntax of a sheet as it is sent, apart from the program that it means (Syntax.antt), and the filling that
-- leads from one to the other. 01 "The sheet"; 02, M-103: a parameter "means the same as the constant written there";
-- M-107: who may send an event and see a behaviour; M-110: rows.
use Rattle.std.specs.Prelude.{ℕ, suc, ◌+◌, ◌-◌, max, Bool, true, false, eqb, ltb}
use Rattle.std.proofs.Math.Option.{Option, none, some}
use mathlib.Core.List.{List, [], ◌∷◌, map, flat_map}
use Rattle.lib_base.specs.Basics.{pick}
use Rattle.spec_language.specs.Syntax.{Expr, con, name, app1, app2, app3, Phase, Handler, handler, Behaviour, passive, active, Program}
use Rattle.spec_language.specs.Order.{up_to}

-- an expression: a constant is a 32-bit word, a name a behaviour's number, a parameter its own, an application has its
-- function's number
pub data Term : Type 0 where
  literal variable param : ℕ → Term
  apply1 : ℕ → Term → Term
  apply2 : ℕ → Term → Term → Term
  apply3 : ℕ → Term → Term → Term → Term

-- a handler: event, phase, expression
pub data Clause : Type 0 where
  clause : ℕ → Phase → Term → Clause

-- a behaviour: a passive has a formula, an active a start value and handlers; or a row of so many (M-110), with a start
-- value and handlers
pub data Item : Type 0 where
  formula : Term → Item
  state : ℕ → List Clause → Item
  row : ℕ → ℕ → List Clause → Item

-- M-107: "An event field may have length 2, its second byte saying who may send it (bit n for player n)": its priority
-- (01: rank), and that byte where there is one
pub record Signal : Type 0 where
  pub priority : ℕ
  pub sender : Option ℕ

-- "A behaviour may end with a field 08 of length 1, saying likewise who may see it."
pub record Entry : Type 0 where
  pub item : Item
  pub viewer : Option ℕ

-- the events, numbered from 0, and the behaviours and rows in their order
pub record Sheet : Type 0 where
  pub signals : List Signal
  pub entries : List Entry

abbrev pub priorities_of : List Signal → List ℕ
priorities_of = map (λ (x : Signal). x.priority)

-- "Where either is missing, everybody may."
abbrev pub allowed : Option ℕ → ℕ
allowed none = 255
allowed (some m) = m

abbrev pub senders_of : List Signal → List ℕ
senders_of = map (λ (x : Signal). allowed x.sender)

abbrev pub viewers_of : List Entry → List ℕ
viewers_of = map (λ (x : Entry). allowed x.viewer)

-- ---- rows. M-110: "It takes that many consecutive behaviour numbers"; behaviours are numbered from 0, a row's cells
-- among them

abbrev pub cells : Item → ℕ
cells (formula x) = 1
cells (state s cs) = 1
cells (row c s cs) = c

unfoldable pub cell_count : List Entry → ℕ
cell_count [] = 0
cell_count (x ∷ xs) = cells x.item + cell_count xs

-- a row of c cells
abbrev pub is_row : ℕ → Item → Bool
is_row c (formula x) = false
is_row c (state s cs) = false
is_row c (row k s cs) = eqb k c

-- m is the number of the first cell of a row of c cells
unfoldable pub heads : List Entry → ℕ → ℕ → Bool
heads [] c m = false
heads (x ∷ xs) c m = pick (eqb m 0) (is_row c x.item) (pick (ltb m (cells x.item)) false (heads xs c (m - cells x.item)))

-- "In a row's handler, the number of the first cell of a row with the same count means the cell at the same place;
-- other names mean what they did.": name m, in cell j of a row of c
abbrev pub meant : List Entry → ℕ → ℕ → ℕ → ℕ
meant xs c j m = pick (heads xs c m) (m + j) m

-- each expression x of handlers, of a behaviour and of a sheet's behaviours written as f x
module _ (f : Term → Term) where
  unfoldable pub change_clauses : List Clause → List Clause
  change_clauses [] = []
  change_clauses (clause e φ x ∷ cs) = clause e φ (f x) ∷ change_clauses cs

  abbrev pub change_item : Item → Item
  change_item (formula x) = formula (f x)
  change_item (state s cs) = state s (change_clauses cs)
  change_item (row c s cs) = row c s (change_clauses cs)

  abbrev pub change_entry : Entry → Entry
  change_entry x = record { item = change_item x.item; viewer = x.viewer }

  unfoldable pub change_entries : List Entry → List Entry
  change_entries = map change_entry

-- each name m written as f m
module _ (f : ℕ → ℕ) where
  unfoldable pub rename_term : Term → Term
  rename_term (literal w) = literal w
  rename_term (variable i) = variable (f i)
  rename_term (param n) = param n
  rename_term (apply1 g a) = apply1 g (rename_term a)
  rename_term (apply2 g a b) = apply2 g (rename_term a) (rename_term b)
  rename_term (apply3 g a b c) = apply3 g (rename_term a) (rename_term b) (rename_term c)

  abbrev pub rename_clauses : List Clause → List Clause
  rename_clauses = change_clauses rename_term

-- "It means the sheet in which each cell is written out as an active"; among the entries xs
abbrev pub cells_out : List Entry → Item → List Item
cells_out xs (formula x) = formula x ∷ []
cells_out xs (state s cs) = state s cs ∷ []
cells_out xs (row c s cs) = up_to c (λ j. state s (rename_clauses (meant xs c j) cs))

-- with the row's right to see
abbrev pub entry_out : List Entry → Entry → List Entry
entry_out xs x = map (λ (y : Item). record { item = y; viewer = x.viewer }) (cells_out xs x.item)

unfoldable pub entries_out : List Entry → List Entry → List Entry
entries_out xs = flat_map (entry_out xs)

abbrev pub rows_out : Sheet → Sheet
rows_out s = record { signals = s.signals; entries = entries_out s.entries s.entries }

-- ---- the program that a sheet means, parameter n having the value v n

module _ (v : ℕ → ℕ) where
  unfoldable pub fill_term : Term → Expr
  fill_term (literal w) = con w
  fill_term (variable i) = name i
  fill_term (param n) = con (v n)
  fill_term (apply1 f a) = app1 f (fill_term a)
  fill_term (apply2 f a b) = app2 f (fill_term a) (fill_term b)
  fill_term (apply3 f a b c) = app3 f (fill_term a) (fill_term b) (fill_term c)

  unfoldable pub fill_clauses : List Clause → List Handler
  fill_clauses [] = []
  fill_clauses (clause e φ x ∷ cs) = handler e φ (fill_term x) ∷ fill_clauses cs

  -- a row is written out before; left as it is, it would be one active
  abbrev pub fill_item : Item → Behaviour
  fill_item (formula x) = passive (fill_term x)
  fill_item (state s cs) = active s (fill_clauses cs)
  fill_item (row c s cs) = active s (fill_clauses cs)

  unfoldable pub fill_entries : List Entry → List Behaviour
  fill_entries = map (λ (x : Entry). fill_item x.item)

  -- of a sheet without rows, and of any
  abbrev pub fill_cells : Sheet → Program
  fill_cells s = record {
    priorities = priorities_of s.signals;
    senders = senders_of s.signals;
    behaviours = fill_entries s.entries;
    viewers = viewers_of s.entries;
  }

  abbrev pub fill : Sheet → Program
  fill s = fill_cells (rows_out s)

-- ---- the same written as a sheet

-- an expression as a sheet sends it
unfoldable pub as_sent : Expr → Term
as_sent (con w) = literal w
as_sent (name i) = variable i
as_sent (app1 f a) = apply1 f (as_sent a)
as_sent (app2 f a b) = apply2 f (as_sent a) (as_sent b)
as_sent (app3 f a b c) = apply3 f (as_sent a) (as_sent b) (as_sent c)

-- each parameter written out as its constant
module _ (v : ℕ → ℕ) where
  abbrev pub write_term : Term → Term
  write_term x = as_sent (fill_term v x)

  abbrev pub as_written_out : Sheet → Sheet
  as_written_out s = record { signals = s.signals; entries = change_entries write_term s.entries }

-- ---- parameters used

-- how many parameters there are up to the highest one that is named; 0 where none is
unfoldable pub params_of : Term → ℕ
params_of (literal w) = 0
params_of (variable i) = 0
params_of (param n) = suc n
params_of (apply1 f a) = params_of a
params_of (apply2 f a b) = max (params_of a) (params_of b)
params_of (apply3 f a b c) = max (params_of a) (max (params_of b) (params_of c))

unfoldable pub params_of_clauses : List Clause → ℕ
params_of_clauses [] = 0
params_of_clauses (clause e φ x ∷ cs) = max (params_of x) (params_of_clauses cs)

abbrev pub params_of_item : Item → ℕ
params_of_item (formula x) = params_of x
params_of_item (state s cs) = params_of_clauses cs
params_of_item (row c s cs) = params_of_clauses cs

unfoldable pub params_of_entries : List Entry → ℕ
params_of_entries [] = 0
params_of_entries (x ∷ xs) = max (params_of_item x.item) (params_of_entries xs)

-- "when the sheet uses a parameter"
abbrev pub uses : Sheet → Bool
uses s = ltb 0 (params_of_entries s.entries)
