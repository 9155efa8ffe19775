-- Worked examples, by evaluation. An urgent bonus and a hit that both add to one score: `agree` names them, `agree_for`
-- answers 0 for the score. And two sheets, each with 0 for b0, between which a change lets the phone's steps decide b0:
-- so with changes 0 in each sheet is not enough for one behaviour.
use Rattle.lib_base.proofs.Prelude.{◌≡◌, refl, List, [], ◌∷◌, ◌++◌, flat_map, flatten, replicate}
use Rattle.lib_signature.specs.Signature.{arity}
use Rattle.lib_arith.specs.Exact.{beyond}
use Rattle.lib_arith.specs.Functions.{exact, result_of, over}
use Rattle.spec_language.specs.Syntax.{con, name, app2, app3, immediate, later, handler, active, Program}
use Rattle.spec_language.specs.Dependence.{handled, mentions}
use Rattle.spec_language.specs.Order.{met, find, order, up_to, met_at_once, phase_one}
use Rattle.spec_language.specs.Code.{postfix, in_order, copy_part, first_part, second_part, restore_part, code}
use Rattle.spec_semantics.specs.Meaning.{value, in_turn, first_phase, starts, fresh}
use Rattle.spec_execution.specs.Execution.{execute, emptied, times}
use Rattle.spec_model.specs.Carried.{carried_actives, carried}
use Rattle.spec_model.specs.Model.{Turn, call, change, arrive, step, act, turn, run_turns, replies}
use Rattle.spec_model.specs.Claims.{after, IdleIn, taken_turns, taken_in_by, events_of}
use Rattle.spec_model.proofs.States.{store_in}
use Rattle.check_graph.specs.Matrix.{close_cell, close_row, close_through, close_rows, close_by, closed}
use Rattle.check_graph.specs.Any.{any_below}
use Rattle.check_faults.specs.Faults.{matrix_of}
use Rattle.check_reads.specs.First.{first_from}
use Rattle.check_reads.specs.Sets.{closed_by}
use Rattle.check_reads.specs.Named.{named_directly, through_passives, named_by}
use Rattle.ask_leak.specs.Leak.{behaviour_names}
use Rattle.ask_agree.specs.Answer.{packed_difference}
use Rattle.ask_agree.specs.Agree.{clashes, clash_of, clash_from, clash_in}
use Rattle.ask_meets.specs.Marks.{name_mark, two_mark, if_mark, mark_of, adds_of}
use Rattle.ask_meets.specs.Meeting.{in_cone, refers_at, strict_at, strict_in, meeting, meets}
use Rattle.ask_agree_for.specs.Encounter.{encounter_at, encounter_with, encounter_from, encounter_by}
use Rattle.ask_agree_for.specs.AgreeFor.{encounter_in, agree_for_in}

-- ---- a hit (event 0, rank 2) is worth 10 points unless time is up, a bonus (1, rank 9) 50; b0 says that time is up,
-- b1 has the score
abbrev bonus : Program
bonus = record {
  priorities = 2 ∷ 9 ∷ [];
  senders = 255 ∷ 255 ∷ [];
  behaviours =
      active 0 []
      ∷ active 0 (handler 0 immediate (app3 14 (name 0) (name 1) (app2 4 (name 1) (con 10))) ∷ handler 1 immediate (app2 4 (name 1) (con 50)) ∷ [])
      ∷ [];
  viewers = 255 ∷ 255 ∷ [];
}

-- 29 + 65,536 + 16,777,216
bonus_shared : clash_in bonus ≡ 16842781
unfolding handled mentions up_to any_below matrix_of closed close_by close_rows close_through close_row close_cell first_from named_directly through_passives named_by packed_difference clashes clash_of clash_from clash_in
bonus_shared = refl

bonus_agrees : agree_for_in bonus 1 ≡ 0
unfolding handled mentions up_to any_below matrix_of closed close_by close_rows close_through close_row close_cell closed_by first_from through_passives behaviour_names name_mark two_mark if_mark mark_of adds_of in_cone refers_at strict_at strict_in meeting meets encounter_at encounter_with encounter_from encounter_by encounter_in agree_for_in
bonus_agrees = refl

-- 01's sheet S: events 0 and 1, of ranks 1 and 2, meet at b1, on which b0 depends; b2 is none
abbrev S : Program
S = record {
  priorities = 1 ∷ 2 ∷ [];
  senders = 255 ∷ 255 ∷ [];
  behaviours =
      active 1 (handler 0 immediate (app2 4 (name 0) (name 1)) ∷ [])
      ∷ active 1 (handler 0 later (app2 5 (name 0) (name 1)) ∷ handler 1 immediate (con 1) ∷ [])
      ∷ [];
  viewers = 255 ∷ 255 ∷ [];
}

S_meets : (agree_for_in S 0 ≡ 16842781) × (agree_for_in S 1 ≡ 16842781) × (agree_for_in S 2 ≡ 18)
unfolding handled mentions up_to any_below matrix_of closed close_by close_rows close_through close_row close_cell closed_by first_from through_passives behaviour_names packed_difference name_mark two_mark if_mark mark_of adds_of in_cone refers_at strict_at strict_in meeting meets encounter_at encounter_with encounter_from encounter_by encounter_in agree_for_in
S_meets = (refl, refl, refl)

-- ---- 0 in each sheet is not enough: event 0 of rank 1, event 1 of rank 2; first they set b1 and b0 stands alone, then
-- event 0 copies b1 to b0
abbrev before : Program
before = record {
  priorities = 1 ∷ 2 ∷ [];
  senders = 255 ∷ 255 ∷ [];
  behaviours = active 0 [] ∷ active 0 (handler 0 immediate (con 1) ∷ handler 1 immediate (con 2) ∷ []) ∷ [];
  viewers = 255 ∷ 255 ∷ [];
}

abbrev behind : Program
behind = record {
  priorities = 1 ∷ 2 ∷ [];
  senders = 255 ∷ 255 ∷ [];
  behaviours = active 0 (handler 0 immediate (name 1) ∷ []) ∷ active 0 [] ∷ [];
  viewers = 255 ∷ 255 ∷ [];
}

before_agrees : agree_for_in before 0 ≡ 0
unfolding handled mentions up_to any_below matrix_of closed close_by close_rows close_through close_row close_cell closed_by first_from through_passives behaviour_names name_mark two_mark if_mark mark_of adds_of in_cone refers_at strict_at strict_in meeting meets encounter_at encounter_with encounter_from encounter_by encounter_in agree_for_in
before_agrees = refl

behind_agrees : agree_for_in behind 0 ≡ 0
unfolding handled mentions up_to any_below matrix_of closed close_by close_rows close_through close_row close_cell closed_by first_from through_passives behaviour_names name_mark two_mark if_mark mark_of adds_of in_cone refers_at strict_at strict_in meeting meets encounter_at encounter_with encounter_from encounter_by encounter_in agree_for_in
behind_agrees = refl

-- events 0 and 1, the change, event 0: both in hand before a step, or each stepped to idle
abbrev together : List Turn
together = call (arrive 0 0) ∷ call (arrive 1 0) ∷ (replicate 24 (call step) ++ (change behind ∷ call (arrive 0 0) ∷ replicate 12 (call step)))

abbrev apart : List Turn
apart =
    call (arrive 0 0)
    ∷ (replicate 12 (call step) ++ (call (arrive 1 0) ∷ (replicate 12 (call step) ++ (change behind ∷ call (arrive 0 0) ∷ replicate 12 (call step)))))

same_events : events_of (taken_in_by before together) ≡ events_of (taken_in_by before apart)
unfolding handled mentions met find order up_to met_at_once phase_one value in_turn first_phase starts fresh emptied act turn replies taken_turns code copy_part flatten first_part in_order postfix second_part restore_part execute exact result_of over beyond times carried_actives carried flat_map
same_events = refl

idle_together : IdleIn (after before together)
unfolding handled mentions met find order up_to met_at_once phase_one value in_turn first_phase starts fresh emptied act turn run_turns code copy_part flatten first_part in_order postfix second_part restore_part execute exact result_of over beyond times carried_actives carried flat_map
idle_together = refl

idle_apart : IdleIn (after before apart)
unfolding handled mentions met find order up_to met_at_once phase_one value in_turn first_phase starts fresh emptied act turn run_turns code copy_part flatten first_part in_order postfix second_part restore_part execute exact result_of over beyond times carried_actives carried flat_map
idle_apart = refl

-- b0 is 1 on one phone and 2 on the other
one_there : store_in (after before together) ≡ 1 ∷ 1 ∷ []
unfolding handled mentions met find order up_to met_at_once phase_one value in_turn first_phase starts fresh emptied act turn run_turns code copy_part flatten first_part in_order postfix second_part restore_part execute exact result_of over beyond times arity carried_actives carried flat_map
one_there = refl

two_here : store_in (after before apart) ≡ 2 ∷ 2 ∷ []
unfolding handled mentions met find order up_to met_at_once phase_one value in_turn first_phase starts fresh emptied act turn run_turns code copy_part flatten first_part in_order postfix second_part restore_part execute exact result_of over beyond times arity carried_actives carried flat_map
two_here = refl
