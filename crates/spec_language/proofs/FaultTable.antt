-- Worked checks of the reader's faults, all by computing: for each kind of field the numbers 4 to 10 that it can give,
-- and each two that stand side by side in 01's orders, in one sheet. 01 "Why a call was turned down": "left to right,
-- the first fault met", "At a field: 4 for its header, 5, 4 for its length, 7, 9, 6 for a fixed length, contents in
-- order, 6 for leftovers. In a handler: event, phase, 10, expression." 02, M-103, M-107, M-110.
use Rattle.lib_base.proofs.Prelude.{ℕ, suc, zero, ◌≡◌, refl, List, [], ◌∷◌, ◌++◌, map}
use Rattle.lib_word.specs.Word.{get_at}
use Rattle.spec_language.specs.Sheet.{Sheet, cell_count}
use Rattle.spec_language.specs.Grammar.{field, word}
use Rattle.spec_language.specs.Reading.{Got, bad, got, field_at, read_all, expr_at, handles, read_sheet}

-- ---- bytes

-- a constant
abbrev pub one : List ℕ
one = field 16 (word 1)

-- `!` so many times round any bytes
abbrev pub wrapped : ℕ → List ℕ → List ℕ
wrapped zero v = v
wrapped (suc n) v = field 18 (3 ∷ wrapped n v)

-- so many events of priority 0, then s
abbrev pub events : ℕ → List ℕ → List ℕ
events zero s = s
events (suc n) s = field 1 (0 ∷ []) ++ events n s

-- so many passives, then s
abbrev pub after : ℕ → List ℕ → List ℕ
after zero s = s
after (suc n) s = field 2 one ++ after n s

-- one event and an active with value v after its start
abbrev pub handled : List ℕ → List ℕ
handled v = events 1 (field 3 (field 4 (word 1) ++ v))

-- a handler for event 0
abbrev pub first : List ℕ
first = field 5 (0 ∷ 0 ∷ one)

-- a field 08 of one byte
abbrev pub seen : ℕ → List ℕ
seen m = field 8 (m ∷ [])

-- a row of c cells that start at 1, with v after the start
abbrev pub rowed : ℕ → List ℕ → List ℕ
rowed c v = field 6 (c ∷ (field 4 (word 1) ++ v))

-- a parameter above 7: 8 as an expression's fault
abbrev eight : List ℕ
eight = field 19 (8 ∷ [])

-- ---- the tables: a sheet's bytes, and the number of their fault, 0 for none

abbrev pub Case : Type 0
Case = ℕ × List ℕ

abbrev pub number : Got Sheet → ℕ
number (bad n) = n
number (got x rest) = 0

abbrev pub Told : List Case → Type 0
Told l = map (λ (c : Case). number (read_sheet c.1)) l ≡ map (λ (c : Case). c.0) l

-- ---- 01: an event

abbrev event_cases : List Case
event_cases =
    -- "under three bytes where a field is due", before its tag; its tag before its length
    (4, 1 ∷ []) ∷ (4, 1 ∷ 0 ∷ []) ∷ (4, 7 ∷ 0 ∷ []) ∷ (5, field 0 []) ∷ (5, field 7 []) ∷ (5, 7 ∷ 0 ∷ 9 ∷ [])
    -- "a length past its enclosing end", before 7
    ∷ (4, 1 ∷ 0 ∷ 1 ∷ []) ∷ (4, events 32 (1 ∷ 0 ∷ 1 ∷ []))
    -- "33rd event", before its length of 1 or 2, and that before the rank; ranks 0 to 15
    ∷ (0, events 32 []) ∷ (7, events 33 []) ∷ (7, events 32 (field 1 [])) ∷ (7, events 32 (field 1 (16 ∷ [])))
    ∷ (6, field 1 []) ∷ (6, field 1 (16 ∷ 0 ∷ 0 ∷ [])) ∷ (8, field 1 (16 ∷ [])) ∷ (8, field 1 (16 ∷ 0 ∷ []))
    ∷ (0, field 1 (15 ∷ [])) ∷ (0, field 1 (15 ∷ 0 ∷ []))
    -- "an event after a behaviour", also after 32 events, and before its length
    ∷ (5, after 1 (events 1 [])) ∷ (5, events 32 (after 1 (events 1 []))) ∷ (5, after 1 (1 ∷ 0 ∷ 9 ∷ []))
    ∷ []

-- ---- 02: a passive

abbrev passive_cases : List Case
passive_cases =
    -- header, tag, length
    (4, 2 ∷ 0 ∷ []) ∷ (4, after 1 (2 ∷ [])) ∷ (4, after 1 (7 ∷ 0 ∷ [])) ∷ (5, after 1 (field 7 [])) ∷ (5, after 1 (4 ∷ 0 ∷ 9 ∷ []))
    ∷ (4, 2 ∷ 0 ∷ 1 ∷ [])
    -- no expression; one with a fault, before what is left over
    ∷ (4, field 2 []) ∷ (8, field 2 (eight ++ one)) ∷ (6, field 2 (one ++ (0 ∷ []))) ∷ (6, field 2 (one ++ one))
    ∷ []

-- ---- 03: an active, and 04: its start

abbrev active_cases : List Case
active_cases =
    (4, 3 ∷ 0 ∷ []) ∷ (4, 3 ∷ 0 ∷ 1 ∷ [])
    -- the start's header, tag, length, fixed length of 4; it comes before the handlers
    ∷ (4, field 3 []) ∷ (4, field 3 (4 ∷ 0 ∷ [])) ∷ (4, field 3 (5 ∷ 0 ∷ [])) ∷ (5, field 3 (field 5 [])) ∷ (5, field 3 (5 ∷ 0 ∷ 9 ∷ []))
    ∷ (4, field 3 (4 ∷ 0 ∷ 4 ∷ 0 ∷ [])) ∷ (6, field 3 (field 4 [])) ∷ (6, field 3 (field 4 (0 ∷ 0 ∷ 0 ∷ []))) ∷ (6, field 3 (field 4 (0 ∷ 0 ∷ 0 ∷ 0 ∷ 0 ∷ [])))
    ∷ (6, field 3 (field 4 [] ++ field 9 [])) ∷ (0, field 3 (field 4 (word 1)))
    ∷ []

-- ---- 05: a handler

abbrev handler_cases : List Case
handler_cases =
    -- header, tag, length
    (4, handled (5 ∷ [])) ∷ (4, handled (first ++ (5 ∷ 0 ∷ []))) ∷ (4, handled (9 ∷ 0 ∷ [])) ∷ (5, handled (field 9 (0 ∷ []))) ∷ (5, handled (field 4 (word 1)))
    ∷ (5, handled (9 ∷ 0 ∷ 9 ∷ [])) ∷ (4, handled (5 ∷ 0 ∷ 9 ∷ 0 ∷ []))
    -- no event; one that is not declared, before a phase that is missing; no phase; phases 0 and 1
    ∷ (6, handled (field 5 [])) ∷ (8, handled (field 5 (1 ∷ []))) ∷ (6, handled (field 5 (0 ∷ []))) ∷ (8, handled (field 5 (0 ∷ 2 ∷ []))) ∷ (0, handled (field 5 (0 ∷ 1 ∷ one)))
    -- "second handler for an event in one behaviour", whatever the phases; the phase before it, the expression after it
    ∷ (10, handled (first ++ first)) ∷ (10, handled (first ++ field 5 (0 ∷ 1 ∷ one))) ∷ (10, handled (field 5 (0 ∷ 1 ∷ one) ++ first))
    ∷ (8, handled (first ++ field 5 (0 ∷ 2 ∷ one))) ∷ (6, handled (first ++ field 5 (0 ∷ []))) ∷ (10, handled (first ++ field 5 (0 ∷ 0 ∷ []))) ∷ (10, handled (first ++ field 5 (0 ∷ 0 ∷ wrapped 16 one)))
    -- no expression; one with a fault, before what is left over
    ∷ (4, handled (field 5 (0 ∷ 0 ∷ []))) ∷ (8, handled (field 5 (0 ∷ 0 ∷ (eight ++ one)))) ∷ (6, handled (field 5 (0 ∷ 0 ∷ (one ++ one))))
    -- left to right: the first handler's before the second's
    ∷ (6, handled (field 5 (0 ∷ 0 ∷ (one ++ one)) ++ field 5 (1 ∷ []))) ∷ (8, handled (field 5 (1 ∷ []) ++ field 9 []))
    ∷ []

-- ---- expressions: 10 a constant, 11 a name, 12 an application, 13 a parameter, hexadecimal

abbrev expression_cases : List Case
expression_cases =
    -- header, tag, length past the enclosing end, though not past the bytes
    (4, field 2 (16 ∷ [])) ∷ (4, field 2 (17 ∷ 0 ∷ [])) ∷ (4, field 2 (20 ∷ 0 ∷ [])) ∷ (5, field 2 (field 15 [])) ∷ (5, field 2 (field 20 [])) ∷ (5, field 2 (20 ∷ 0 ∷ 9 ∷ []))
    ∷ (4, field 2 (16 ∷ 0 ∷ 4 ∷ 0 ∷ 0 ∷ []) ++ field 2 one) ∷ (4, field 2 (18 ∷ 0 ∷ 9 ∷ [])) ∷ (4, field 2 (19 ∷ 0 ∷ 2 ∷ 8 ∷ []))
    -- fixed lengths: 4 of a constant, 1 of a name, 1 of a parameter, before its number, 0 to 7
    ∷ (6, field 2 (field 16 [])) ∷ (6, field 2 (field 16 (0 ∷ 0 ∷ 0 ∷ []))) ∷ (6, field 2 (field 16 (0 ∷ 0 ∷ 0 ∷ 0 ∷ 0 ∷ []))) ∷ (6, field 2 (field 17 [])) ∷ (6, field 2 (field 17 (0 ∷ 0 ∷ [])))
    ∷ (6, field 2 (field 19 [])) ∷ (6, field 2 (field 19 (8 ∷ 0 ∷ []))) ∷ (8, field 2 (field 19 (8 ∷ []))) ∷ (0, field 2 (field 19 (7 ∷ []))) ∷ (0, field 2 (field 17 (0 ∷ [])))
    -- no function; one that is not listed, before its arguments; 1 to 14
    ∷ (6, field 2 (field 18 [])) ∷ (8, field 2 (field 18 (0 ∷ []))) ∷ (8, field 2 (field 18 (15 ∷ []))) ∷ (0, field 2 (field 18 (1 ∷ (one ++ one)))) ∷ (0, field 2 (field 18 (14 ∷ (one ++ (one ++ one)))))
    -- too few arguments, and too many: `!` needs one, `if` three, the others two
    ∷ (4, field 2 (field 18 (3 ∷ []))) ∷ (4, field 2 (field 18 (13 ∷ one))) ∷ (4, field 2 (field 18 (14 ∷ (one ++ one))))
    ∷ (6, field 2 (field 18 (3 ∷ (one ++ one)))) ∷ (6, field 2 (field 18 (13 ∷ (one ++ (one ++ one))))) ∷ (6, field 2 (field 18 (14 ∷ (one ++ (one ++ (one ++ one))))))
    -- in order: one argument's fault before the next one's, and before what is left over
    ∷ (6, field 2 (field 18 (4 ∷ (field 17 [] ++ eight)))) ∷ (8, field 2 (field 18 (4 ∷ (eight ++ field 17 [])))) ∷ (8, field 2 (field 18 (3 ∷ (eight ++ one))))
    ∷ []

-- "an expression at nesting 17": after its header, tag and length, before its fixed length, function or arguments
abbrev nested_cases : List Case
nested_cases =
    (0, field 2 (wrapped 15 one)) ∷ (9, field 2 (wrapped 16 one)) ∷ (9, handled (field 5 (0 ∷ 0 ∷ wrapped 16 one)))
    ∷ (4, field 2 (wrapped 16 [])) ∷ (5, field 2 (wrapped 16 (field 20 []))) ∷ (4, field 2 (wrapped 16 (16 ∷ 0 ∷ 4 ∷ 0 ∷ [])))
    ∷ (9, field 2 (wrapped 16 (field 16 []))) ∷ (9, field 2 (wrapped 16 (field 17 []))) ∷ (9, field 2 (wrapped 16 (field 18 []))) ∷ (9, field 2 (wrapped 16 eight))
    ∷ []

-- ---- 06: a row

abbrev row_cases : List Case
row_cases =
    -- header, tag, length
    (4, 6 ∷ 0 ∷ []) ∷ (5, rowed 2 [] ++ events 1 []) ∷ (5, rowed 2 [] ++ field 5 []) ∷ (4, 6 ∷ 0 ∷ 1 ∷ [])
    -- no count; a count of 2 to 16; then as an active
    ∷ (6, field 6 []) ∷ (8, field 6 (0 ∷ [])) ∷ (8, field 6 (1 ∷ [])) ∷ (8, field 6 (17 ∷ [])) ∷ (4, field 6 (2 ∷ [])) ∷ (4, field 6 (16 ∷ []))
    ∷ (5, field 6 (2 ∷ field 5 [])) ∷ (6, field 6 (2 ∷ field 4 [])) ∷ (10, events 1 (rowed 2 (first ++ first))) ∷ (0, rowed 2 []) ∷ (0, rowed 16 [])
    ∷ []

-- ---- 08: who may see. "Past a passive's expression only tag 08 begins a field, other bytes being 6, as are all past
-- an 08."

abbrev viewer_cases : List Case
viewer_cases =
    -- header, length, fixed length of 1
    (4, field 2 (one ++ (8 ∷ []))) ∷ (4, field 2 (one ++ (8 ∷ 0 ∷ []))) ∷ (4, field 2 (one ++ (8 ∷ 0 ∷ 1 ∷ []))) ∷ (6, field 2 (one ++ field 8 [])) ∷ (6, field 2 (one ++ field 8 (0 ∷ 0 ∷ [])))
    ∷ (4, handled (8 ∷ 0 ∷ [])) ∷ (4, handled (8 ∷ 0 ∷ 1 ∷ [])) ∷ (6, handled (field 8 [])) ∷ (6, rowed 2 (field 8 []))
    -- other bytes, and bytes past an 08
    ∷ (6, field 2 (one ++ first)) ∷ (6, field 2 (one ++ (9 ∷ []))) ∷ (6, field 2 (one ++ (seen 1 ++ seen 1))) ∷ (6, field 2 (one ++ (seen 1 ++ (8 ∷ []))))
    ∷ (6, handled (seen 1 ++ first)) ∷ (6, handled (first ++ (seen 1 ++ (8 ∷ [])))) ∷ (6, rowed 2 (seen 1 ++ (0 ∷ [])))
    ∷ (0, field 2 (one ++ seen 2)) ∷ (0, handled (seen 0)) ∷ (0, handled (first ++ seen 255)) ∷ (0, rowed 2 (seen 1))
    ∷ []

-- ---- "65th behaviour": after its length, before its contents

-- three rows of 16 and one of c, then s
abbrev cells48 : ℕ → List ℕ → List ℕ
cells48 c s = rowed 16 [] ++ (rowed 16 [] ++ (rowed 16 [] ++ (rowed c [] ++ s)))

abbrev crowded_cases : List Case
crowded_cases =
    (0, cells48 16 []) ∷ (7, cells48 16 (after 1 [])) ∷ (4, cells48 16 (2 ∷ 0 ∷ 1 ∷ [])) ∷ (7, cells48 16 (field 2 (wrapped 16 one)))
    ∷ (4, cells48 16 (3 ∷ 0 ∷ 1 ∷ [])) ∷ (7, cells48 16 (field 3 (field 4 []))) ∷ (4, cells48 16 (6 ∷ 0 ∷ 1 ∷ [])) ∷ (7, cells48 16 (field 6 []))
    -- a row is "counted toward the 64; past the first cell, 7 is checked after the count", and before what follows it
    ∷ (6, cells48 15 (field 6 [])) ∷ (8, cells48 15 (field 6 (17 ∷ []))) ∷ (7, cells48 15 (field 6 (2 ∷ []))) ∷ (4, cells48 14 (field 6 (2 ∷ [])))
    ∷ []

-- the same of passives alone
abbrev many_cases : List Case
many_cases = (0, after 64 []) ∷ (7, after 65 []) ∷ []

-- ---- each is told its number

pub faults : Told event_cases × Told passive_cases × Told active_cases × Told handler_cases × Told expression_cases × Told nested_cases × Told row_cases × Told viewer_cases
unfolding read_sheet read_all handles expr_at field_at get_at cell_count
faults = (refl, refl, refl, refl, refl, refl, refl, refl)

pub crowded : Told crowded_cases × Told many_cases
unfolding read_sheet read_all handles expr_at field_at get_at cell_count
crowded = (refl, refl)
