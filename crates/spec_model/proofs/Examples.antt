-- Worked runs in the papers' own numbers, by computation. 02, M-112: "A wrong bonus should be mended without ending the
-- round."; 01 "Handlers and steps": where an event is broken into, and its values in the middle of it.
use Rattle.lib_base.proofs.Prelude.{ℕ, ◌+◌, ◌≡◌, refl, false, some, none, List, [], ◌∷◌, ◌++◌, map, flat_map, sum}
use Rattle.lib_base.proofs.Prelude.{flatten, replicate}
use Rattle.lib_signature.specs.Signature.{arity}
use Rattle.lib_arith.specs.Exact.{beyond}
use Rattle.lib_arith.specs.Functions.{exact, result_of, over}
use Rattle.spec_language.specs.Syntax.{con, name, app2, immediate, handler, passive, active, Program}
use Rattle.spec_language.specs.Dependence.{handled, mentions}
use Rattle.spec_language.specs.Order.{met, find, order, up_to, met_at_once, phase_one}
use Rattle.spec_language.specs.Code.{postfix, in_order, copy_part, first_part, second_part, restore_part, code}
use Rattle.spec_semantics.specs.Meaning.{value, in_turn, first_phase, starts, fresh}
use Rattle.spec_semantics.specs.Event.{later_phase, event}
use Rattle.spec_execution.specs.Execution.{Values, execute, emptied, times}
use Rattle.spec_execution.specs.Runs.{execute_all}
use Rattle.spec_language.proofs.Examples.{W}
use Rattle.spec_model.specs.Carried.{carried_actives, carried}
use Rattle.spec_model.specs.Model.{arrival, rest, Engine, engine, arrive, step, board, refused, told_taken_in, shows, ran, started, preempted, committed, act, run, State, state, Turn, call, change, Reply, says, carried_over, turn, run_turns, replies}
use Rattle.spec_model.specs.Claims.{last, then_change, longest, count_in, steps_of, forecast, foreseen, history_by, after, engine_after, history_of}
use Rattle.spec_model.proofs.States.{store_in}

-- a bonus of 5, and b1 twice the score
abbrev pub wrong : Program
wrong = record {
  priorities = 1 ∷ [];
  senders = 255 ∷ [];
  behaviours = active 0 (handler 0 immediate (app2 4 (name 0) (con 5)) ∷ []) ∷ passive (app2 6 (name 0) (con 2)) ∷ [];
  viewers = 255 ∷ 255 ∷ [];
}

-- a bonus of 3, b1 one more than the score, and b2 new; the new start of b0 is not taken
abbrev pub right : Program
right = record {
  priorities = 1 ∷ [];
  senders = 255 ∷ [];
  behaviours = active 100 (handler 0 immediate (app2 4 (name 0) (con 3)) ∷ []) ∷ passive (app2 4 (name 0) (con 1)) ∷ active 7 [] ∷ [];
  viewers = 255 ∷ 255 ∷ 255 ∷ [];
}

-- b1 turns from a passive to an active; then b0 from an active to a passive
abbrev pub turned : Program
turned = record {
  priorities = 1 ∷ [];
  senders = 255 ∷ [];
  behaviours = active 100 [] ∷ active 40 [] ∷ [];
  viewers = 255 ∷ 255 ∷ [];
}

abbrev pub swapped : Program
swapped = record {
  priorities = 1 ∷ [];
  senders = 255 ∷ [];
  behaviours = passive (app2 4 (name 1) (con 1)) ∷ active 7 [] ∷ [];
  viewers = 255 ∷ 255 ∷ [];
}

-- no event is declared
abbrev pub silent : Program
silent = record { priorities = []; senders = []; behaviours = []; viewers = [] }

abbrev pub stepping : ℕ → List Turn
stepping n = map call (replicate n step)

-- event 0 to its commit, and once more with four steps of it: it is broken off by the change, and committed after it
abbrev pub mending : List Turn
mending = (call (arrive 0 0) ∷ stepping 21) ++ ((call (arrive 0 0) ∷ stepping 4) ++ (change right ∷ stepping 21))

pub record Worked : Type 0 where
  -- 0 + 5 under the first sheet, 5 + 3 under the second, of which b1 follows and b2 starts
  pub board : store_in (after wrong mending) ≡ 8 ∷ 9 ∷ 7 ∷ []
  pub history : history_of wrong mending ≡ then_change (arrival 0 0 0 ∷ []) right (last (arrival 1 0 0 ∷ []))
  -- "During copy-back it is refused by 19": the second off is the 17th of 20 instructions
  pub settling : (turn (change right) (after wrong (call (arrive 0 0) ∷ stepping 18))).reply ≡ says (refused 19)
  pub not_yet : (turn (change right) (after wrong (call (arrive 0 0) ∷ stepping 17))).reply ≡ carried_over
  -- "28 when the hand holds an event that the new sheet doesn't declare"
  pub undeclared : (turn (change silent) (after wrong (call (arrive 0 0) ∷ []))).reply ≡ says (refused 28)
  -- "other actives take the new start, passives are worked out anew": b1 = 10 turns active and is 40, not 10; b0 = 5
  -- turns passive and follows it
  pub turned_active : store_in (after wrong (call (arrive 0 0) ∷ (stepping 21 ++ (change turned ∷ [])))) ≡ 5 ∷ 40 ∷ []
  pub turned_passive : store_in (after wrong (call (arrive 0 0) ∷ (stepping 21 ++ (change turned ∷ change swapped ∷ [])))) ≡ 41 ∷ 40 ∷ []

pub worked : Worked
unfolding exact result_of over handled mentions met find order up_to met_at_once phase_one postfix in_order flatten flat_map copy_part first_part second_part restore_part code value in_turn first_phase later_phase event starts fresh execute execute_all emptied times carried_actives carried act turn run_turns replies history_by
worked = record { board = refl; history = refl; settling = refl; not_yet = refl; undeclared = refl; turned_active = refl; turned_passive = refl }

-- ---- the model engine on W (crate spec_language, Examples), whose event 0 of rank 1 has 51 instructions: an arrival
-- of event 1, of rank 2, when c of them are done

-- event 0 taken in, started and run for c instructions
abbrev run_to : ℕ → List Turn
run_to c = call (arrive 0 0) ∷ stepping (1 + c)

-- then event 1 is taken in: the answer to the next step
abbrev broken_in_at : ℕ → Reply
broken_in_at c = (turn (call step) (after W (run_to c ++ (call (arrive 1 0) ∷ [])))).reply

-- a board reading of b0 after c instructions, by the host
abbrev shown_at : ℕ → Reply
shown_at c = (turn (call (board 0 0)) (after W (run_to c))).reply

-- "Interrupts are masked between off and on."
pub record BreakIns : Type 0 where
  -- before the first off, in the copy, and right after the first on
  pub before_off : broken_in_at 0 ≡ says (preempted (arrival 1 1 0))
  pub after_off : broken_in_at 1 ≡ says ran
  pub in_the_copy : broken_in_at 4 ≡ says ran
  pub before_on : broken_in_at 7 ≡ says ran
  pub after_on : broken_in_at 8 ≡ says (preempted (arrival 1 1 0))
  -- just before the second off, after it, in the copy-back, and at its last instruction
  pub before_the_second_off : broken_in_at 43 ≡ says (preempted (arrival 1 1 0))
  pub after_the_second_off : broken_in_at 44 ≡ says ran
  pub in_the_copy_back : broken_in_at 47 ≡ says ran
  pub at_the_last : broken_in_at 50 ≡ says (committed (arrival 0 0 0) false)
  -- "settling: board read during copy-back", and only then
  pub read_before : shown_at 43 ≡ says (shows 4)
  pub read_from_off : shown_at 44 ≡ says (refused 19)
  pub read_to_on : shown_at 50 ≡ says (refused 19)
  pub read_after : shown_at 51 ≡ says (shows 23)
  -- event 1 writes b6 = 0: the event that was broken into begins anew and takes the third argument of its `if`
  pub begun_anew : store_in (after W (run_to 20 ++ (call (arrive 1 0) ∷ stepping 81))) ≡ 100 ∷ 38 ∷ 99 ∷ 9 ∷ 0 ∷ 90 ∷ 0 ∷ []

pub break_ins : BreakIns
unfolding beyond exact result_of over arity handled mentions met find order up_to met_at_once phase_one postfix in_order flatten flat_map copy_part first_part second_part restore_part code value in_turn first_phase starts fresh execute emptied times act turn run_turns
break_ins = record { before_off = refl; after_off = refl; in_the_copy = refl; before_on = refl; after_on = refl; before_the_second_off = refl; after_the_second_off = refl; in_the_copy_back = refl; at_the_last = refl; read_before = refl; read_from_off = refl; read_to_on = refl; read_after = refl; begun_anew = refl }

-- its values after c instructions: each step does one
abbrev values_in : Engine → Values
values_in (engine t waiting r d) = d

abbrev values_at : ℕ → Values
values_at c = values_in (engine_after W (run_to c))

pub record InTheMiddle : Type 0 where
  pub copied : (values_at 3).scratch ≡ some 4 ∷ some 50 ∷ none ∷ none ∷ none ∷ none ∷ none ∷ []
  pub three_arguments : (values_at 13).stack ≡ 9 ∷ 2 ∷ 3 ∷ []
  pub places : (values_at 33).deferred ≡ none ∷ some 45 ∷ none ∷ none ∷ none ∷ some 20 ∷ none ∷ []
  pub board_before : (values_at 44).store ≡ 4 ∷ 50 ∷ 3 ∷ 1 ∷ 0 ∷ 2 ∷ 3 ∷ []
  pub board_within : (values_at 47).store ≡ 23 ∷ 45 ∷ 22 ∷ 1 ∷ 0 ∷ 2 ∷ 3 ∷ []
  pub board_after_law : (values_at 51).store ≡ 23 ∷ 45 ∷ 22 ∷ 2 ∷ 3 ∷ 20 ∷ 3 ∷ []

pub in_the_middle : InTheMiddle
unfolding beyond exact result_of over arity handled mentions met find order up_to met_at_once phase_one postfix in_order flatten flat_map copy_part first_part second_part restore_part code value in_turn first_phase starts fresh execute emptied times act turn run_turns
in_the_middle = record { copied = refl; three_arguments = refl; places = refl; board_before = refl; board_within = refl; board_after_law = refl }

-- ---- numbers of steps: W's events have 51 and 28 instructions

pub record Steps : Type 0 where
  -- "(k + 1) × (L + 1) steps .., k being the number in hand .., L the longest event's instructions": one runs, and one
  -- runs while one waits
  pub bound_of_one : count_in W (engine_after W (run_to 5)) ≡ 104
  pub bound_of_two : count_in W (engine_after W (run_to 5 ++ (call (arrive 1 0) ∷ []))) ≡ 156
  -- M-100: "While something runs, that call gives 01's bound"; with nothing running "the sum, over the hand, of each
  -- event's instruction count plus one"
  pub forecast_running : forecast W (engine_after W (run_to 5 ++ (call (arrive 1 0) ∷ []))) ≡ 156
  pub forecast_at_rest : forecast W (engine_after W (call (arrive 0 0) ∷ call (arrive 1 0) ∷ [])) ≡ 81
  pub forecast_of_none : forecast W (engine_after W []) ≡ 0

pub steps_W : Steps
unfolding beyond exact result_of over arity handled mentions met find order up_to met_at_once phase_one postfix in_order flatten flat_map copy_part first_part second_part restore_part code value in_turn first_phase starts fresh execute emptied times act turn run_turns longest steps_of sum
steps_W = record { bound_of_one = refl; bound_of_two = refl; forecast_running = refl; forecast_at_rest = refl; forecast_of_none = refl }

-- ---- arrivals: who is taken in, and who comes next

abbrev arrivals : ℕ → List Turn
arrivals n = replicate n (call (arrive 0 0))

-- a round in which so many were taken in, and nothing is in hand
abbrev worn : ℕ → State
worn t = state W (engine t [] rest (emptied (fresh W)))

pub record Arrivals : Type 0 where
  -- "at most 64 together", the running one with them
  pub sixty_fourth : (turn (call (arrive 0 0)) (after W (arrivals 63))).reply ≡ says told_taken_in
  pub sixty_fifth : (turn (call (arrive 0 0)) (after W (arrivals 64))).reply ≡ says (refused 16)
  pub one_runs : (turn (call (arrive 0 0)) (after W (call (arrive 0 0) ∷ call step ∷ arrivals 63))).reply ≡ says (refused 16)
  -- "numbered from 0, at most 1,000,000 a round"
  pub last_of_a_round : (turn (call (arrive 0 0)) (worn 999999)).reply ≡ says told_taken_in
  pub spent : (turn (call (arrive 0 0)) (worn 1000000)).reply ≡ says (refused 17)
  -- 24 before 15; 18 for a reading
  pub no_player_law : (turn (call (arrive 2 8)) (after W [])).reply ≡ says (refused 24)
  pub no_event_law : (turn (call (arrive 2 7)) (after W [])).reply ≡ says (refused 15)
  pub no_behaviour_law : (turn (call (board 7 0)) (after W [])).reply ≡ says (refused 18)
  -- "Next means highest rank, then lowest arrival number."
  pub higher_first : (turn (call step) (after W (call (arrive 0 0) ∷ call (arrive 1 0) ∷ []))).reply ≡ says (started (arrival 1 1 0))
  pub earlier_first : (turn (call step) (after W (call (arrive 0 0) ∷ call (arrive 0 1) ∷ []))).reply ≡ says (started (arrival 0 0 0))
  -- an equal rank does not break in
  pub equal_waits : (turn (call step) (after W (call (arrive 0 0) ∷ call step ∷ call (arrive 0 1) ∷ []))).reply ≡ says ran
  -- M-101: event 0 waits, and one more is foreseen: 45 - (3 + 20 + 1)
  pub foreseen_twice : foreseen W (engine_after W (arrivals 1)) 0 1 0 ≡ shows 21

pub arrivals_W : Arrivals
unfolding beyond exact result_of over arity handled mentions met find order up_to met_at_once phase_one postfix in_order flatten flat_map copy_part first_part second_part restore_part code value in_turn first_phase starts fresh execute emptied times act run turn run_turns longest
arrivals_W = record { sixty_fourth = refl; sixty_fifth = refl; one_runs = refl; last_of_a_round = refl; spent = refl; no_player_law = refl; no_event_law = refl; no_behaviour_law = refl; higher_first = refl; earlier_first = refl; equal_waits = refl; foreseen_twice = refl }
