-- The rounds that 01 marks P, as one table: each of a sheet's bytes, and by Figure 1's rules. 01 "Rounds to check (P:
-- proved)", the one on division as in M-102; "The P rounds are shown from the meaning in one table with one theorem".
use Rattle.std.specs.Prelude.{ℕ, ◌<◌, ◌≡◌, List, [], ◌∷◌, map, ℤ, pos, negsuc, length}
use Rattle.std.proofs.Math.Option.{none}
use Rattle.lib_arith.specs.Exact.{signed, wrapped}
use Rattle.spec_language.specs.Syntax.{immediate, later, Program}
use Rattle.spec_language.specs.Sheet.{Term, literal, variable, apply2, clause, Item, formula, state, Entry, Sheet, fill}
use Rattle.spec_language.specs.Grammar.{encode}
use Rattle.spec_language.specs.Accepted.{SheetAccepted}
use Rattle.spec_language.specs.Dependence.{size}
use Rattle.spec_semantics.specs.Rules.{Shows}
use Rattle.spec_semantics.specs.Meaning.{at}
use Rattle.spec_semantics.specs.Plays.{Plays}

-- a sheet's bytes, the events given to its fresh round, one by one, and the board after them as whole numbers
pub record Round : Type 0 where
  pub bytes : List ℕ
  pub given : List ℕ
  pub board : List ℤ

-- the rules lead from the fresh board by these events to the board, and to no other
pub record ByRules (p : Program) (given : List ℕ) (board : List ℤ) : Type 0 where
  pub before : List ℕ
  pub after : List ℕ
  pub all : length before ≡ size p
  pub fresh : (i : ℕ) → i < size p → Shows p i (at before i)
  pub fresh_alone : (i c : ℕ) → i < size p → Shows p i c → c ≡ at before i
  pub played : Plays p given before after
  pub played_alone : (other : List ℕ) → Plays p given before other → other ≡ after
  pub shown : map signed after ≡ board

-- the bytes are those of a sheet that is accepted, whatever is lent as parameters, and of its program the rules hold
abbrev pub Holds : Round → Type 0
Holds r = (x : Sheet) × (encode x ≡ r.bytes) × ((v : ℕ → ℕ) (lent : ℕ) → SheetAccepted v lent x × ByRules (fill v x) r.given r.board)

-- ---- expressions as 01 writes them; negsuc n is -(n + 1)

abbrev pub num : ℤ → Term
num z = literal (wrapped z)

abbrev pub plus : Term → Term → Term
plus a b = apply2 4 a b

abbrev pub divided_by : Term → Term → Term
divided_by a b = apply2 7 a b

-- ---- the sheets

-- "Sheet S, 74 bytes, rank 1 then 2: b0 = init 1 {0 ⇒ b0 + b1}; b1 = init 1 {0 ⇒ b0 − b1 later, 1 ⇒ 1}."
abbrev pub S : List ℕ
S =
    1 ∷ 0 ∷ 1 ∷ 1 ∷ 1 ∷ 0 ∷ 1 ∷ 2
    ∷ 3 ∷ 0 ∷ 24 ∷ 4 ∷ 0 ∷ 4 ∷ 0 ∷ 0 ∷ 0 ∷ 1
    ∷ 5 ∷ 0 ∷ 14 ∷ 0 ∷ 0 ∷ 18 ∷ 0 ∷ 9 ∷ 4 ∷ 17 ∷ 0 ∷ 1 ∷ 0 ∷ 17 ∷ 0 ∷ 1 ∷ 1
    ∷ 3 ∷ 0 ∷ 36 ∷ 4 ∷ 0 ∷ 4 ∷ 0 ∷ 0 ∷ 0 ∷ 1
    ∷ 5 ∷ 0 ∷ 14 ∷ 0 ∷ 1 ∷ 18 ∷ 0 ∷ 9 ∷ 5 ∷ 17 ∷ 0 ∷ 1 ∷ 0 ∷ 17 ∷ 0 ∷ 1 ∷ 1
    ∷ 5 ∷ 0 ∷ 9 ∷ 1 ∷ 0 ∷ 16 ∷ 0 ∷ 4 ∷ 0 ∷ 0 ∷ 0 ∷ 1
    ∷ []

-- one event, of rank 1
abbrev pub with_one : List Item → Sheet
with_one xs = record { signals = record { priority = 1; sender = none } ∷ []; entries = map (λ (x : Item). record { item = x; viewer = none }) xs }

-- "init 1 {0 ⇒ b1}, init 2 {0 ⇒ b0 later}"
abbrev pub half_later : Sheet
half_later = with_one (state 1 (clause 0 immediate (variable 1) ∷ []) ∷ state 2 (clause 0 later (variable 0) ∷ []) ∷ [])

-- "both later"
abbrev pub both_later : Sheet
both_later = with_one (state 1 (clause 0 later (variable 1) ∷ []) ∷ state 2 (clause 0 later (variable 0) ∷ []) ∷ [])

-- "init 0 {0 ⇒ b1 later}, b1 passive b0 + 1"
abbrev pub through_passive : Sheet
through_passive = with_one (state 0 (clause 0 later (variable 1) ∷ []) ∷ formula (plus (variable 0) (num (pos 1))) ∷ [])

-- one behaviour, that takes an expression's value on event 0
abbrev pub taking : Term → Sheet
taking x = with_one (state 1 (clause 0 immediate x ∷ []) ∷ [])

-- ---- the table

abbrev pub rounds : List Round
rounds =
    -- "event 0 three times: (2,1), (3,2), (5,3)."
    record { bytes = S; given = 0 ∷ []; board = pos 2 ∷ pos 1 ∷ [] }
    ∷ record { bytes = S; given = 0 ∷ 0 ∷ []; board = pos 3 ∷ pos 2 ∷ [] }
    ∷ record { bytes = S; given = 0 ∷ 0 ∷ 0 ∷ []; board = pos 5 ∷ pos 3 ∷ [] }
    -- "then 1, 0: (6,5)." "0, 1 instead: (8,1)."
    ∷ record { bytes = S; given = 0 ∷ 0 ∷ 0 ∷ 1 ∷ 0 ∷ []; board = pos 6 ∷ pos 5 ∷ [] }
    ∷ record { bytes = S; given = 0 ∷ 0 ∷ 0 ∷ 0 ∷ 1 ∷ []; board = pos 8 ∷ pos 1 ∷ [] }
    -- "(2,2)." "both later: (2,1)." "(1,2)."
    ∷ record { bytes = encode half_later; given = 0 ∷ []; board = pos 2 ∷ pos 2 ∷ [] }
    ∷ record { bytes = encode both_later; given = 0 ∷ []; board = pos 2 ∷ pos 1 ∷ [] }
    ∷ record { bytes = encode through_passive; given = 0 ∷ []; board = pos 1 ∷ pos 2 ∷ [] }
    -- "2,147,483,647 + 1 = −2,147,483,648." "5 / 0 = 0." M-102: "The P round on division in 01 becomes −4".
    ∷ record { bytes = encode (taking (plus (num (pos 2147483647)) (num (pos 1)))); given = 0 ∷ []; board = negsuc 2147483647 ∷ [] }
    ∷ record { bytes = encode (taking (divided_by (num (negsuc 6)) (num (pos 2)))); given = 0 ∷ []; board = negsuc 3 ∷ [] }
    ∷ record { bytes = encode (taking (divided_by (num (pos 5)) (num (pos 0)))); given = 0 ∷ []; board = pos 0 ∷ [] }
    ∷ []
