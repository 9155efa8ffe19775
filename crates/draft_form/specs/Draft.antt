-- The draft of a program: what the reader hands to the compiler, in one buffer of 4,416 numbers, with no tree. From 0
-- on 2,048 nodes; from 2048 on an entry for behaviour i and event e at 2048 + i * 32 + e: an active's handler; from
-- 4096 on an entry for each of 64 behaviours: a passive's expression; from 4160 on each active's start value; from 4224
-- on the priority of each of 32 events; from 4256 on who may see each of 64 behaviours and from 4320 on who may send
-- each of 32 events, one byte each, 255 where the sheet says nothing (02, M-107); from 4352 on the place of each of 64
-- behaviours in a row, cell count * 16 + place, 0 outside rows (02, M-110). A row's nodes stand once, as sent, and each
-- cell's entries lead there. A node is kind * 2 ^ 32 + word, its kind the tag of its field: 16 constant, 17 name, 18
-- application (its function), and 19 a parameter until it is filled in. The nodes of an expression stand in postfix
-- order. An entry is 0 where there is none, else (count * 4096 + start) * 4 + kind: the expression's nodes, and 1
-- passive, 2 immediate, 3 later.
use Rattle.std.specs.Prelude.{ℕ, ◌+◌, ◌*◌, ◌/◌, ◌%◌, ◌≤◌, ◌<◌, ◌≡◌, List, [], ◌∷◌, ◌++◌, map, length, get_or, take, drop, eqb, ltb}
use Rattle.lib_base.specs.Basics.{pick, All}
use Rattle.spec_language.specs.Syntax.{Expr, con, name, app1, app2, app3, Handler, handler, Behaviour, passive, active, Program}
use Rattle.spec_language.specs.Sheet.{Sheet, cell_count, fill_entries, fill}
use Rattle.spec_language.specs.Dependence.{Response, follows, takes, defers, keeps, size, events, response, behaviour_at}
use Rattle.spec_language.specs.Grammar.{SheetFits}
use Rattle.spec_language.specs.Fits.{BehaviourFits, Fits}
use Rattle.spec_language.specs.Accepted.{BehaviourNamesIn, Known}
use Rattle.spec_language.specs.Code.{size_of}
use Rattle.draft_form.specs.Entry.{node_tag, node_word}

-- how many numbers it has
abbrev pub draft_length : ℕ
draft_length = 4416

-- the nodes of an expression
unfoldable pub nodes : Expr → List ℕ
nodes (con w) = (68719476736 + w) ∷ []
nodes (name i) = (73014444032 + i) ∷ []
nodes (app1 f a) = nodes a ++ ((77309411328 + f) ∷ [])
nodes (app2 f a b) = nodes a ++ (nodes b ++ ((77309411328 + f) ∷ []))
nodes (app3 f a b c) = nodes a ++ (nodes b ++ (nodes c ++ ((77309411328 + f) ∷ [])))

-- all nodes of these, in the order in which they are read
unfoldable pub handler_nodes : List Handler → List ℕ
handler_nodes [] = []
handler_nodes (handler e φ x ∷ hs) = nodes x ++ handler_nodes hs

abbrev pub behaviour_nodes : Behaviour → List ℕ
behaviour_nodes (passive x) = nodes x
behaviour_nodes (active s hs) = handler_nodes hs

unfoldable pub program_nodes : List Behaviour → List ℕ
program_nodes [] = []
program_nodes (b ∷ bs) = behaviour_nodes b ++ program_nodes bs

-- how many of them are passives'
unfoldable pub passive_nodes : List Behaviour → ℕ
passive_nodes [] = 0
passive_nodes (passive x ∷ bs) = size_of x + passive_nodes bs
passive_nodes (active s hs ∷ bs) = passive_nodes bs

-- an entry
abbrev pub packed_entry : ℕ → ℕ → ℕ → ℕ
packed_entry kind start count = (count * 4096 + start) * 4 + kind

-- what the draft has for behaviour i on event e
unfoldable pub entry_of : List ℕ → ℕ → ℕ → ℕ
entry_of d e i = pick (eqb (get_or d (4096 + i) 0) 0) (pick (ltb e 32) (get_or d (2048 + i * 32 + e) 0) 0) (get_or d (4096 + i) 0)

-- where behaviour i stands in a row
abbrev pub place_of : List ℕ → ℕ → ℕ
place_of d i = get_or d (4352 + i) 0

-- the node x as behaviour i uses it: in a row's cell, the name of the first cell of a row with the same count means the
-- cell at the same place
unfoldable pub moved : List ℕ → ℕ → ℕ → ℕ
moved d i x =
    pick (eqb (node_tag x) 17)
    (pick (ltb (node_word x) 64) (pick (eqb (place_of d (node_word x)) (place_of d i / 16 * 16)) (x + place_of d i % 16) x) x)
    x

-- the draft as behaviour i uses its nodes
unfoldable pub used_by : List ℕ → ℕ → List ℕ
used_by d i = map (moved d i) d

-- the expression x stands in the draft, and v is its entry
pub record Stands (d : List ℕ) (kind v : ℕ) (x : Expr) : Type 0 where
  pub start : ℕ
  pub packed : v ≡ packed_entry kind start (size_of x)
  pub within : start + size_of x ≤ 2048
  pub there : take (size_of x) (drop start d) ≡ nodes x

-- the entry v says what a behaviour does
abbrev pub EntrySays : List ℕ → ℕ → Response → Type 0
EntrySays d v (follows x) = Stands d 1 v x
EntrySays d v (takes x) = Stands d 2 v x
EntrySays d v (defers x) = Stands d 3 v x
EntrySays d v keeps = v ≡ 0

-- the nodes that an entry leads to are among the first n
abbrev pub EntryIn : ℕ → ℕ → Type 0
EntryIn n v = v / 4 % 4096 + v / 16384 ≤ n

-- the start value, of an active
abbrev pub StartIs : List ℕ → ℕ → Behaviour → Type 0
StartIs d i (passive x) = get_or d (4160 + i) 0 ≡ 0
StartIs d i (active s hs) = get_or d (4160 + i) 0 ≡ s

-- the draft d, of n nodes, is that of program p: what behaviour i does is said of the nodes as i uses them
pub record Drafted (p : Program) (d : List ℕ) (n : ℕ) : Type 0 where
  pub long : length d ≡ draft_length
  pub few : n ≤ 2048
  pub says : (e i : ℕ) → e ≤ 32 → i < size p → EntrySays (used_by d i) (entry_of d e i) (response p e i)
  pub starts : (i : ℕ) → i < size p → StartIs d i (behaviour_at p i)
  pub priorities : (e : ℕ) → e < events p → get_or d (4224 + e) 0 ≡ get_or p.priorities e 0
  pub viewers : (i : ℕ) → i < size p → get_or d (4256 + i) 0 ≡ get_or p.viewers i 0
  pub senders : (e : ℕ) → e < events p → get_or d (4320 + e) 0 ≡ get_or p.senders e 0

-- the draft d of ev events, bs behaviours and n nodes is that of some program within the limits. Its nodes are those of
-- the behaviours as they were sent, a row being one of them: these name none but bs behaviours exactly if the program
-- does
pub record DraftOf (ev bs n : ℕ) (d : List ℕ) : Type 0 where
  pub program : Program
  pub fits : Fits program
  pub events_are : ev ≡ events program
  pub size_is : bs ≡ size program
  pub drafted : Drafted program d n
  pub sent : List Behaviour
  pub pool : take n d ≡ program_nodes sent
  pub few_passives : passive_nodes program.behaviours ≤ n
  pub sent_fits : All (BehaviourFits (events program)) sent
  pub sent_known : (All (BehaviourNamesIn (size program)) sent → Known program) × (Known program → All (BehaviourNamesIn (size program)) sent)

-- ---- before the parameters are filled in (02, M-103)

-- until then parameter n stands as a constant past the words, whose node is 19 * 2 ^ 32 + n
abbrev pub unfilled : ℕ → ℕ
unfilled n = 12884901888 + n

-- the draft d of ev events, bs behaviours and n nodes is that of some sheet within the limits, its parameters not
-- filled in
pub record SheetDraft (ev bs n : ℕ) (d : List ℕ) : Type 0 where
  pub sheet : Sheet
  pub fits : SheetFits sheet
  pub events_are : ev ≡ length sheet.signals
  pub size_is : bs ≡ cell_count sheet.entries
  pub drafted : Drafted (fill unfilled sheet) d n
  pub held : (e i : ℕ) → i < bs → EntryIn n (entry_of d e i)
  pub pool : take n d ≡ program_nodes (fill_entries unfilled sheet.entries)
