-- Worked examples in the papers' own numbers, by computation: the code of S's two events written out, 17 and 8
-- instructions, and of one with both phases and two ready behaviours; players' bits; the numbers of refusals; events
-- that are independent, and that are not: by what both write, by what one reads, and only through a passive; circles
-- under an event and under none; rows written out; and each limit of a sheet, reached and passed by one.
use Rattle.lib_base.proofs.Prelude.{ℕ, ◌≤◌, ◌<◌, ◌-◌, suc, zero, ◌^◌, ◌≡◌, refl, sym, ap, subst, true, false, Bool}
use Rattle.lib_base.proofs.Prelude.{◌||◌, false≢true, true≢false, ◌≢◌, Option, some, none, List, [], ◌∷◌, flat_map, sum}
use Rattle.lib_base.proofs.Prelude.{flatten, length, map, eqb, eqb-true, arith}
use Rattle.lib_base.specs.Basics.{All}
use Rattle.lib_signature.proofs.Laws.{two_is, is_two}
use Rattle.spec_language.specs.Syntax.{Expr, con, name, app2, app3, Phase, immediate, later, handler, passive, active, Program}
use Rattle.spec_language.specs.Dependence.{Response, follows, takes, defers, keeps, handled, behaviour_at, mentions, is_active, Named, in_immediate, in_later, through, Reads, Apart, Independent, depends_on, one, more, Acyclic, NoCycle}
use Rattle.spec_language.specs.Order.{met, find, order, up_to, met_at_once, phase_one}
use Rattle.spec_language.specs.Code.{off, on, copy, restore, push, load, fetch, apply, save, defer, move, postfix, in_order, copy_part, first_part, second_part, restore_part, code, instructions, all_instructions, size_of}
use Rattle.spec_language.specs.Rights.{may}
use Rattle.spec_language.specs.Sheet.{Term, literal, variable, param, apply1, apply3, clause, formula, state, row, Entry, Sheet, allowed, cell_count, heads, change_clauses, rename_term, entries_out, fill, uses}
use Rattle.spec_language.specs.Grammar.{Arity, unary, binary, TermFits, t_literal, t_variable, t_param, t_apply1, ClausesFit, ItemFits, SignalFits, EntryFits, SheetFits, encode}
use Rattle.spec_language.specs.Accepted.{NamesIn, Known, SheetAccepted}
use Rattle.spec_language.specs.Refusals as refusals
use Rattle.spec_language.specs.Numbers.{refusal_number}
use Rattle.spec_language.specs.declared.refusals.Refusal.TheVariants.{ShortTable, LongSheet, Torn, WrongTag, WrongLength, Crowded, OffScale, TooDeep, Doubled, UnknownName, Cycle, Overlong, Foreign, UndeclaredEvent, FullQueue, Spent, NoBehaviour, Settling, NoParameters, NoFormula, LargeNumber, ShortField, NoPlayer, NoRight, UnlikeRanks, ShortJoin, UndeclaredInHand, MissingEntries, TakenBefore}
use Rattle.spec_language.specs.Answers as answers

-- ---- the code of S: "b0 = init 1 {0 ⇒ b0 + b1}; b1 = init 1 {0 ⇒ b0 − b1 later, 1 ⇒ 1}"

abbrev S : Program
S = record {
  priorities = 1 ∷ 2 ∷ [];
  senders = 255 ∷ 255 ∷ [];
  behaviours =
      active 1 (handler 0 immediate (app2 4 (name 0) (name 1)) ∷ [])
      ∷ active 1 (handler 0 later (app2 5 (name 0) (name 1)) ∷ handler 1 immediate (con 1) ∷ [])
      ∷ [];
  viewers = 255 ∷ 255 ∷ [];
}

-- "off; copy each of C to scratch; on; phase-one code .., then later handlers; .. phase two, one move for each later
-- handler, then the passives again; off; copy each of C back; on"
pub code_0 :
    code S 0
    ≡ off ∷ copy 0 ∷ copy 1 ∷ on
    ∷ fetch 0 ∷ fetch 1 ∷ apply 4 ∷ save 0
    ∷ fetch 0 ∷ fetch 1 ∷ apply 5 ∷ defer 1
    ∷ move 1
    ∷ off ∷ restore 0 ∷ restore 1 ∷ on ∷ []
unfolding code copy_part first_part second_part restore_part in_order postfix phase_one order find met met_at_once up_to handled mentions flatten flat_map
code_0 = refl

pub code_1 : code S 1 ≡ off ∷ copy 1 ∷ on ∷ push 1 ∷ save 1 ∷ off ∷ restore 1 ∷ on ∷ []
unfolding code copy_part first_part second_part restore_part in_order postfix phase_one order find met met_at_once up_to handled mentions flatten flat_map
code_1 = refl

-- "Events have 17 and 8 instructions."
pub counts : (instructions S 0 ≡ 17) × (instructions S 1 ≡ 8)
unfolding instructions size_of up_to handled sum
counts = (refl, refl)

-- ---- the code of W's event 0, of both phases, instruction by instruction. b0 and b2 follow, b0 naming the higher b2;
-- b3 and b4 have immediate handlers for it, b1 and b5 later ones; b6 has none.

abbrev pub W : Program
W = record {
  priorities = 1 ∷ 2 ∷ [];
  senders = 255 ∷ 255 ∷ [];
  behaviours =
      passive (app2 4 (name 2) (con 1))
      ∷ active 50 (handler 0 later (app2 5 (name 1) (name 0)) ∷ [])
      ∷ passive (app2 4 (name 3) (name 5))
      ∷ active 1 (handler 0 immediate (app3 14 (name 6) (app2 4 (name 3) (con 1)) (con 9)) ∷ [])
      ∷ active 0 (handler 0 immediate (name 6) ∷ [])
      ∷ active 2 (handler 0 later (app2 6 (name 3) (con 10)) ∷ [])
      ∷ active 3 (handler 1 immediate (con 0) ∷ [])
      ∷ [];
  viewers = 255 ∷ 255 ∷ 255 ∷ 255 ∷ 255 ∷ 255 ∷ 255 ∷ [];
}

-- "the lowest number first among those whose needs are met": b3 and b4 are ready at once; after b3 comes b2, which it
-- makes ready, then b0, and only then b4
pub order_W : phase_one W 0 ≡ 3 ∷ 2 ∷ 0 ∷ 4 ∷ []
unfolding phase_one order find met met_at_once up_to handled mentions
order_W = refl

-- later handlers, moves and copies go by number; an `if` takes its three arguments in their order; a name outside C
-- means the board
pub code_W :
    code W 0
    ≡ off ∷ copy 0 ∷ copy 1 ∷ copy 2 ∷ copy 3 ∷ copy 4 ∷ copy 5 ∷ on
    ∷ load 6 ∷ fetch 3 ∷ push 1 ∷ apply 4 ∷ push 9 ∷ apply 14 ∷ save 3
    ∷ fetch 3 ∷ fetch 5 ∷ apply 4 ∷ save 2
    ∷ fetch 2 ∷ push 1 ∷ apply 4 ∷ save 0
    ∷ load 6 ∷ save 4
    ∷ fetch 1 ∷ fetch 0 ∷ apply 5 ∷ defer 1
    ∷ fetch 3 ∷ push 10 ∷ apply 6 ∷ defer 5
    ∷ move 1 ∷ move 5
    ∷ fetch 3 ∷ fetch 5 ∷ apply 4 ∷ save 2
    ∷ fetch 2 ∷ push 1 ∷ apply 4 ∷ save 0
    ∷ off ∷ restore 0 ∷ restore 1 ∷ restore 2 ∷ restore 3 ∷ restore 4 ∷ restore 5 ∷ on ∷ []
unfolding code copy_part first_part second_part restore_part in_order postfix phase_one order find met met_at_once up_to handled mentions flatten flat_map
code_W = refl

pub count_W : instructions W 0 ≡ 51
unfolding instructions size_of up_to handled sum
count_W = refl

-- two behaviours that need nothing: the lower first
abbrev pub two_ready : Program
two_ready = record {
  priorities = 1 ∷ [];
  senders = 255 ∷ [];
  behaviours = active 0 (handler 0 immediate (con 1) ∷ []) ∷ active 0 (handler 0 immediate (con 2) ∷ []) ∷ [];
  viewers = 255 ∷ 255 ∷ [];
}

pub code_of_two_ready :
    code two_ready 0
    ≡ off ∷ copy 0 ∷ copy 1 ∷ on ∷ push 1 ∷ save 0 ∷ push 2 ∷ save 1 ∷ off ∷ restore 0 ∷ restore 1 ∷ on ∷ []
unfolding code copy_part first_part second_part restore_part in_order postfix phase_one order find met met_at_once up_to handled mentions flatten flat_map
code_of_two_ready = refl

-- ---- players: "(bit n for player n)"

-- a byte with the bit of player n alone lets that player in
pub own_bit : (n : ℕ) → n < 8 → may (2 ^ n) n ≡ true
own_bit zero h = refl
own_bit (suc zero) h = refl
own_bit (suc (suc zero)) h = refl
own_bit (suc (suc (suc zero))) h = refl
own_bit (suc (suc (suc (suc zero)))) h = refl
own_bit (suc (suc (suc (suc (suc zero))))) h = refl
own_bit (suc (suc (suc (suc (suc (suc zero)))))) h = refl
own_bit (suc (suc (suc (suc (suc (suc (suc zero))))))) h = refl
own_bit (suc (suc (suc (suc (suc (suc (suc (suc n)))))))) h = absurd (omega arith)

-- and one with all other bits does not, unless it is the host
pub all_other_bits : (n : ℕ) → 1 ≤ n → n < 8 → may (255 - 2 ^ n) n ≡ false
all_other_bits zero g h = absurd (omega arith)
all_other_bits (suc zero) g h = refl
all_other_bits (suc (suc zero)) g h = refl
all_other_bits (suc (suc (suc zero))) g h = refl
all_other_bits (suc (suc (suc (suc zero)))) g h = refl
all_other_bits (suc (suc (suc (suc (suc zero))))) g h = refl
all_other_bits (suc (suc (suc (suc (suc (suc zero)))))) g h = refl
all_other_bits (suc (suc (suc (suc (suc (suc (suc zero))))))) g h = refl
all_other_bits (suc (suc (suc (suc (suc (suc (suc (suc n)))))))) g h = absurd (omega arith)

-- "The host may do everything": player 0, whatever the byte is
pub host : (byte : ℕ) → may byte 0 ≡ true
host byte = refl

-- the byte 6: players 1 and 2, and the host
pub six : up_to 8 (may 6) ≡ true ∷ true ∷ true ∷ false ∷ false ∷ false ∷ false ∷ false ∷ []
unfolding up_to
six = refl

-- ---- "Why a call was turned down": the numbers of 01 and 02, in their order; 43 and 44 are a delivery's
pub numbers_of_refusals :
    (refusals.short_table ∷ refusals.long_program ∷ refusals.torn ∷ refusals.wrong_tag ∷ refusals.wrong_length ∷ [] ≡ 1 ∷ 3 ∷ 4 ∷ 5 ∷ 6 ∷ [])
    × (refusals.crowded ∷ refusals.off_scale ∷ refusals.too_deep ∷ refusals.doubled ∷ refusals.unknown_name ∷ [] ≡ 7 ∷ 8 ∷ 9 ∷ 10 ∷ 11 ∷ [])
    × (refusals.cycle ∷ refusals.overlong ∷ refusals.foreign ∷ refusals.undeclared_event ∷ refusals.full_queue ∷ [] ≡ 12 ∷ 13 ∷ 14 ∷ 15 ∷ 16 ∷ [])
    × (refusals.spent ∷ refusals.no_behaviour ∷ refusals.settling ∷ refusals.no_parameters ∷ refusals.no_formula ∷ [] ≡ 17 ∷ 18 ∷ 19 ∷ 20 ∷ 21 ∷ [])
    × (refusals.large_number ∷ refusals.short_field ∷ refusals.no_player ∷ refusals.no_right ∷ refusals.unlike_ranks ∷ [] ≡ 22 ∷ 23 ∷ 24 ∷ 25 ∷ 26 ∷ [])
    × (refusals.short_join ∷ refusals.undeclared_in_hand ∷ refusals.missing_entries ∷ refusals.taken_before ∷ [] ≡ 27 ∷ 28 ∷ 43 ∷ 44 ∷ [])
numbers_of_refusals = (refl, refl, refl, refl, refl, refl)

-- and of the code's cases, in the same order
pub numbers_of_cases :
    (map refusal_number (ShortTable ∷ LongSheet ∷ Torn ∷ WrongTag ∷ WrongLength ∷ []) ≡ 1 ∷ 3 ∷ 4 ∷ 5 ∷ 6 ∷ [])
    × (map refusal_number (Crowded ∷ OffScale ∷ TooDeep ∷ Doubled ∷ UnknownName ∷ []) ≡ 7 ∷ 8 ∷ 9 ∷ 10 ∷ 11 ∷ [])
    × (map refusal_number (Cycle ∷ Overlong ∷ Foreign ∷ UndeclaredEvent ∷ FullQueue ∷ []) ≡ 12 ∷ 13 ∷ 14 ∷ 15 ∷ 16 ∷ [])
    × (map refusal_number (Spent ∷ NoBehaviour ∷ Settling ∷ NoParameters ∷ NoFormula ∷ []) ≡ 17 ∷ 18 ∷ 19 ∷ 20 ∷ 21 ∷ [])
    × (map refusal_number (LargeNumber ∷ ShortField ∷ NoPlayer ∷ NoRight ∷ UnlikeRanks ∷ []) ≡ 22 ∷ 23 ∷ 24 ∷ 25 ∷ 26 ∷ [])
    × (map refusal_number (ShortJoin ∷ UndeclaredInHand ∷ MissingEntries ∷ TakenBefore ∷ []) ≡ 27 ∷ 28 ∷ 43 ∷ 44 ∷ [])
numbers_of_cases = (refl, refl, refl, refl, refl, refl)

-- a step's answers, in the order of 01's sentence and of engine.h
pub numbers_of_answers : answers.idle ∷ answers.ran ∷ answers.started ∷ answers.committed ∷ answers.preempted ∷ [] ≡ 0 ∷ 1 ∷ 2 ∷ 3 ∷ 4 ∷ []
numbers_of_answers = refl

-- ---- independence: b0 {0 ⇒ 1, 3 ⇒ 2}, b1 {1 ⇒ b2}, b2 passive b0, b3 {2 ⇒ b3 + 1}

abbrev I : Program
I = record {
  priorities = 1 ∷ 2 ∷ 3 ∷ 4 ∷ [];
  senders = 255 ∷ 255 ∷ 255 ∷ 255 ∷ [];
  behaviours =
      active 0 (handler 0 immediate (con 1) ∷ handler 3 later (con 2) ∷ [])
      ∷ active 0 (handler 1 immediate (name 2) ∷ [])
      ∷ passive (name 0)
      ∷ active 0 (handler 2 immediate (app2 4 (name 3) (con 1)) ∷ [])
      ∷ [];
  viewers = 255 ∷ 255 ∷ 255 ∷ 255 ∷ [];
}

-- event 1 reads b0, but only through b2
through_b2 : Reads I 1 0
unfolding handled mentions
through_b2 = (through {i = 2} (in_immediate 1 refl refl) refl refl, refl)

-- event 0 writes it: so they are not independent, either way round
pub only_through_a_passive : (Independent I 0 1 → ⊥) × (Independent I 1 0 → ⊥)
unfolding handled
only_through_a_passive = (λ h. (h.0 0 refl).0 through_b2, λ h. (h.1 0 refl).0 through_b2)

-- events 0 and 3 both write b0, one of them later
pub both_write : Independent I 0 3 → ⊥
unfolding handled
both_write h = true≢false (h.0 0 refl).1

-- event 2 reads and writes b3 alone
abbrev expression : Response → Expr
expression (follows x) = x
expression (takes x) = x
expression (defers x) = x
expression keeps = con 0

abbrev is_takes : Response → Bool
is_takes (follows x) = false
is_takes (takes x) = true
is_takes (defers x) = false
is_takes keeps = false

abbrev is_defers : Response → Bool
is_defers (follows x) = false
is_defers (takes x) = false
is_defers (defers x) = true
is_defers keeps = false

or_left : (b : Bool) → b || false ≡ true → b ≡ true
or_left true h = refl
or_left false h = h

three_zero : ◌≡◌ {A = ℕ} 3 0 → ⊥
three_zero = omega arith

names_b3 : (j : ℕ) (x : Expr) → app2 4 (name 3) (con 1) ≡ x → mentions j x ≡ true → 3 ≡ j
unfolding mentions
names_b3 j x q m = eqb-true 3 j (or_left (eqb 3 j) (subst (λ (y : Expr). mentions j y ≡ true) (sym q) m))

reads_b3 : {j : ℕ} → Named I 2 j → 3 ≡ j
unfolding handled
reads_b3 (in_immediate zero q m) = absurd (false≢true (ap is_takes q))
reads_b3 (in_immediate (suc zero) q m) = absurd (false≢true (ap is_takes q))
reads_b3 (in_immediate (suc (suc zero)) q m) = absurd (false≢true (ap is_takes q))
reads_b3 (in_immediate (suc (suc (suc zero))) {j = j} {x = x} q m) = names_b3 j x (ap expression q) m
reads_b3 (in_immediate (suc (suc (suc (suc i)))) q m) = absurd (false≢true (ap is_takes q))
reads_b3 (in_later zero q m) = absurd (false≢true (ap is_defers q))
reads_b3 (in_later (suc zero) q m) = absurd (false≢true (ap is_defers q))
reads_b3 (in_later (suc (suc zero)) q m) = absurd (false≢true (ap is_defers q))
reads_b3 (in_later (suc (suc (suc zero))) q m) = absurd (false≢true (ap is_defers q))
reads_b3 (in_later (suc (suc (suc (suc i)))) q m) = absurd (false≢true (ap is_defers q))
reads_b3 (through {i = i} {x = x} n q m) = absurd (true≢false (ap is_active (subst (λ (k : ℕ). behaviour_at I k ≡ passive x) (sym (reads_b3 n)) q)))

-- event 0 writes b0 alone, and reads nothing
reads_none : {j : ℕ} → Named I 0 j → ⊥
unfolding handled mentions
reads_none (in_immediate zero {j = j} {x = x} q m) = false≢true (subst (λ (y : Expr). mentions j y ≡ true) (sym (ap expression q)) m)
reads_none (in_immediate (suc zero) q m) = false≢true (ap is_takes q)
reads_none (in_immediate (suc (suc zero)) q m) = false≢true (ap is_takes q)
reads_none (in_immediate (suc (suc (suc zero))) q m) = false≢true (ap is_takes q)
reads_none (in_immediate (suc (suc (suc (suc i)))) q m) = false≢true (ap is_takes q)
reads_none (in_later zero q m) = false≢true (ap is_defers q)
reads_none (in_later (suc zero) q m) = false≢true (ap is_defers q)
reads_none (in_later (suc (suc zero)) q m) = false≢true (ap is_defers q)
reads_none (in_later (suc (suc (suc zero))) q m) = false≢true (ap is_defers q)
reads_none (in_later (suc (suc (suc (suc i)))) q m) = false≢true (ap is_defers q)
reads_none (through n q m) = reads_none n

-- so they are independent
apart_0 : Apart I 0 2
unfolding handled
apart_0 zero w = ((λ r. absurd (three_zero (reads_b3 r.0))), refl)
apart_0 (suc zero) w = absurd (false≢true w)
apart_0 (suc (suc zero)) w = absurd (false≢true w)
apart_0 (suc (suc (suc zero))) w = absurd (false≢true w)
apart_0 (suc (suc (suc (suc i)))) w = absurd (false≢true w)

apart_2 : Apart I 2 0
unfolding handled
apart_2 zero w = absurd (false≢true w)
apart_2 (suc zero) w = absurd (false≢true w)
apart_2 (suc (suc zero)) w = absurd (false≢true w)
apart_2 (suc (suc (suc zero))) w = ((λ r. reads_none r.0), refl)
apart_2 (suc (suc (suc (suc i)))) w = absurd (false≢true w)

pub independent : Independent I 0 2
independent = (apart_0, apart_2)

-- ---- circles: "A behaviour reached from itself is a circle. The case of no event counts too."

-- no event is declared, and b0 is passive b0
abbrev alone : Program
alone = record { priorities = []; senders = []; behaviours = passive (name 0) ∷ []; viewers = 255 ∷ [] }

pub circle_under_none : NoCycle alone → ⊥
unfolding mentions
circle_under_none h = h 0 (omega arith) 0 (one refl)

-- b0 and b1 name each other in immediate handlers for event 1 of two; in later ones there is no circle
abbrev crossed : Phase → Program
crossed φ = record {
  priorities = 1 ∷ 2 ∷ [];
  senders = 255 ∷ 255 ∷ [];
  behaviours = active 0 (handler 1 φ (name 1) ∷ []) ∷ active 0 (handler 1 φ (name 0) ∷ []) ∷ [];
  viewers = 255 ∷ 255 ∷ [];
}

pub circle_under_event_1 : (Acyclic (crossed immediate) 1 → ⊥) × (depends_on (crossed immediate) 0 0 1 ≡ false) × (depends_on (crossed later) 1 0 1 ≡ false)
unfolding handled mentions
circle_under_event_1 = (λ h. h 0 (more (one {b = 1} refl) refl), refl, refl)

-- an active's own name is none: b0 {0 ⇒ b0 + 1}
pub own_name : depends_on S 0 0 0 ≡ false
unfolding handled mentions
own_name = refl

-- ---- names: of two behaviours, b0 and b1 exist
pub names : NamesIn 2 (name 1) × (NamesIn 2 (name 2) → ⊥)
names = (omega arith, λ h. absurd (omega arith))

-- ---- M-110: "In a row's handler, the number of the first cell of a row with the same count means the cell at the same
-- place; other names mean what they did." A row of 3 from b0 on, b3 active, a row of 3 from b4 on, a row of 2 from b7
-- on: b0, b3 and b7 in the second row's handler

abbrev threes : List Entry
threes =
    record { item = row 3 0 []; viewer = some 2 }
    ∷ record { item = state 5 []; viewer = none }
    ∷ record { item = row 3 1 (clause 0 later (apply3 14 (variable 0) (variable 3) (variable 7)) ∷ []); viewer = none }
    ∷ record { item = row 2 0 []; viewer = none }
    ∷ []

abbrev cell_of_law : ℕ → Entry
cell_of_law j = record { item = state 1 (clause 0 later (apply3 14 (variable j) (variable 3) (variable 7)) ∷ []); viewer = none }

abbrev still : ℕ → Option ℕ → Entry
still s o = record { item = state s []; viewer = o }

pub cells_written_out : entries_out threes threes
    ≡ still 0 (some 2) ∷ still 0 (some 2) ∷ still 0 (some 2) ∷ still 5 none ∷ cell_of_law 0 ∷ cell_of_law 1 ∷ cell_of_law 2 ∷ still 0 none ∷ still 0 none ∷ []
unfolding entries_out flat_map up_to heads change_clauses rename_term
cells_written_out = refl

-- "Where either is missing, everybody may."
pub everybody : (allowed none ≡ 255) × (allowed (some 6) ≡ 6)
everybody = (refl, refl)

-- ---- limits of a sheet

-- "A constant or name has nesting 1, an application one more than its deepest argument", of at most 16: `!` so many
-- times round a constant
abbrev nots : ℕ → Term
nots zero = literal 1
nots (suc n) = apply1 3 (nots n)

nots_fit : (n : ℕ) → TermFits (suc n) (nots n)
nots_fit zero = t_literal {w = 1} (omega arith)
nots_fit (suc n) = t_apply1 unary (nots_fit n)

too_deep_law : (n : ℕ) → TermFits n (nots n) → ⊥
too_deep_law zero h = elim h [ ]
too_deep_law (suc n) (t_apply1 a h) = too_deep_law n h

pub nesting : ItemFits 0 (formula (nots 15)) × (ItemFits 0 (formula (nots 16)) → ⊥)
    × ClausesFit 1 (clause 0 immediate (nots 15) ∷ []) × (ClausesFit 1 (clause 0 immediate (nots 16) ∷ []) → ⊥)
nesting = (nots_fit 15, too_deep_law 16, (omega arith, nots_fit 15, tt, tt), λ h. too_deep_law 16 h.1)

-- M-110: "a one-byte cell count of 2 to 16 (else 8)"
pub cells_of_a_row : ItemFits 0 (row 2 0 []) × ItemFits 0 (row 16 0 []) × (ItemFits 0 (row 1 0 []) → ⊥) × (ItemFits 0 (row 17 0 []) → ⊥)
cells_of_a_row = ((omega arith, omega arith, omega arith, tt), (omega arith, omega arith, omega arith, tt), λ h. absurd (omega (arith, h.0)), λ h. absurd (omega (arith, h.1)))

-- a handler's event is declared, and none has two
pub one_handler_each : ClausesFit 1 (clause 0 later (literal 1) ∷ []) × (ClausesFit 1 (clause 1 later (literal 1) ∷ []) → ⊥)
    × (ClausesFit 1 (clause 0 later (literal 1) ∷ clause 0 immediate (literal 1) ∷ []) → ⊥)
one_handler_each = ((omega arith, t_literal {w = 1} (omega arith), tt, tt), λ h. absurd (omega (arith, h.0)), λ h. h.2.0 refl)

-- a constant is a word, a name a byte, a parameter one of 0 to 7; a rank is 0 to 15
of_literal : {k w : ℕ} → TermFits k (literal w) → w < 2 ^ 32
of_literal (t_literal h) = h

of_variable : {k i : ℕ} → TermFits k (variable i) → i < 256
of_variable (t_variable h) = h

of_param : {k n : ℕ} → TermFits k (param n) → n < 8
of_param (t_param h) = h

pub operands : TermFits 1 (literal 4294967295) × (TermFits 1 (literal 4294967296) → ⊥) × TermFits 1 (variable 255) × (TermFits 1 (variable 256) → ⊥)
    × TermFits 1 (param 7) × (TermFits 1 (param 8) → ⊥)
operands = (t_literal {w = 4294967295} (omega arith), λ h. absurd (omega (arith, of_literal h)), t_variable {i = 255} (omega arith), λ h. absurd (omega (arith, of_variable h)), t_param {n = 7} (omega arith), λ h. absurd (omega (arith, of_param h)))

pub scale : SignalFits (record { priority = 15; sender = some 255 }) × (SignalFits (record { priority = 16; sender = none }) → ⊥)
    × (SignalFits (record { priority = 0; sender = some 256 }) → ⊥)
scale = ((omega arith, omega arith), λ h. absurd (omega (arith, h.0)), λ h. absurd (omega (arith, h.1)))

-- functions 1 to 14: `!`, 3, takes one, `if`, 14, three and the others two
of_two : {f : ℕ} → Arity f 2 → (0 < f) × (f ≤ 14) × (f ≢ 3) × (f ≢ 14)
of_two (binary {f = f} a b c) = let k = two_is f c in (a, b, k.0, k.1)

is_one : (f : ℕ) → 0 < f → f ≤ 14 → f ≢ 3 → f ≢ 14 → Arity f 2
is_one f a b c d = binary a b (is_two f c d)

pub arities : Arity 1 2 × Arity 13 2 × (Arity 0 2 → ⊥) × (Arity 15 2 → ⊥) × (Arity 14 2 → ⊥) × (Arity 3 2 → ⊥)
arities = (is_one 1 (omega arith) (omega arith) (omega arith) (omega arith), is_one 13 (omega arith) (omega arith) (omega arith) (omega arith), λ h. absurd (omega (arith, (of_two h).0)), λ h. absurd (omega (arith, (of_two h).1)), λ h. (of_two h).3 refl, λ h. (of_two h).2 refl)

-- 32 events, 64 behaviours, 8,192 bytes, 4,096 instructions, and 32 bytes lent where the sheet uses a parameter
pub one_too_many : (v : ℕ → ℕ) (lent : ℕ) (s : Sheet) → SheetAccepted v lent s
    → (length s.signals ≢ 33) × (cell_count s.entries ≢ 65) × (length (encode s) ≢ 8193) × (all_instructions (fill v s) ≢ 4097) × (uses s ≡ true → lent ≢ 31)
one_too_many v lent s h = (omega (arith, h.fits.few_events), omega (arith, h.fits.few_behaviours), omega (arith, h.fits.few_bytes), omega (arith, h.short), λ u. omega (arith, h.given u))

pub as_many : (v : ℕ → ℕ) (s : Sheet) → SheetFits s → Known (fill v s) → NoCycle (fill v s) → all_instructions (fill v s) ≡ 4096 → SheetAccepted v 32 s
as_many v s f k n a = record { fits = f; known = k; given = λ u. omega arith; acyclic = n; short = omega arith }

pub as_many_fit : (s : Sheet) → length s.signals ≡ 32 → cell_count s.entries ≡ 64 → All SignalFits s.signals → All (EntryFits 32) s.entries → length (encode s) ≡ 8192 → SheetFits s
as_many_fit s e b f g l = record { few_events = omega arith; few_behaviours = omega arith; scale = f; each = rw e g; few_bytes = omega arith }
