-- Instances of the claims' hypotheses that are no trivial ones, on W (crate spec_language, Examples): each is the claim
-- applied, so that one whose hypothesis was narrowed does not fit. M-100: two in hand while nothing runs. M-113: one of
-- equal rank is taken in meanwhile. M-112: an event is in hand at a change of sheets. Demand 3: equals in
-- order, committed and in hand.
use Rattle.lib_base.proofs.Prelude.{ℕ, ◌<◌, ◌+◌, ◌≡◌, refl, sym, ap, true, false, Bool, false≢true, ◌≢◌, List, [], ◌∷◌}
use Rattle.lib_base.proofs.Prelude.{◌++◌, map, Permᴰ·refl, List-as-Memᴰ, flat_map, sum, flatten, replicate, arith}
use mathlib.Core.List.Memᴰ
use Rattle.lib_signature.specs.Signature.{arity}
use Rattle.lib_arith.specs.Exact.{beyond}
use Rattle.lib_arith.specs.Functions.{exact, result_of, over}
use Rattle.spec_language.specs.Dependence.{handled, mentions}
use Rattle.spec_language.specs.Order.{met, find, order, up_to, met_at_once, phase_one}
use Rattle.spec_language.specs.Code.{postfix, in_order, copy_part, first_part, second_part, restore_part, code}
use Rattle.spec_language.proofs.Examples.{W}
use Rattle.spec_semantics.specs.Meaning.{value, in_turn, first_phase, starts, fresh}
use Rattle.spec_execution.specs.Execution.{execute, emptied, times}
use Rattle.spec_model.specs.Model.{arrival, Call, arrive, step, Answer, act, Turn, call, change, State, state, Reply, says, carried_over, turn, run_turns, replies}
use Rattle.spec_model.specs.Carried.{carried_actives, carried}
use Rattle.spec_model.specs.Claims.{store_of, engine_after, longest, steps_of, history_by, history_from, committed_by, taken_turns, IdleIn, after, Unchanged, steps_among, EqualsInOrder, QuietExactly, NobodyWaits}
use Rattle.spec_model.specs.Evaluated.{SameBoard}
use Rattle.spec_model.proofs.Examples.{wrong, right, stepping, mending}

-- ---- calls change no sheet

is_said : Reply → Bool
is_said (says a) = true
is_said carried_over = false

said_only : (a : Answer) → says a ≢ carried_over
unfolding is_said
said_only a q = false≢true (ap is_said (sym q))

calls_stay : (cs : List Call) (s : State) → Unchanged (map call cs) s
unfolding replies turn
calls_stay [] s = tt
calls_stay (c ∷ cs) (state p w) = (said_only (act p c w).answer, calls_stay cs (state p (act p c w).after))

abbrev steps : ℕ → List Turn
steps n = map call (replicate n step)

-- ---- M-100: events 0 and 1 wait, of 51 and 28 instructions, and nothing runs: idle after 81 steps and no fewer

abbrev two : List Turn
two = call (arrive 0 0) ∷ call (arrive 1 0) ∷ []

two_in_hand : QuietExactly W two → (IdleIn (after W (two ++ steps 80)) → ⊥) × IdleIn (after W (two ++ steps 81))
unfolding beyond exact result_of over arity handled mentions met find order up_to met_at_once phase_one postfix in_order flatten flat_map copy_part first_part second_part restore_part code value in_turn first_phase starts fresh execute emptied times act turn run_turns steps_of sum steps_among
two_in_hand q = (
  (q tt (steps 80) (calls_stay (replicate 80 step) (after W two)) refl).0 (omega arith),
  (q tt (steps 81) (calls_stay (replicate 81 step) (after W two)) refl).1 (omega arith),
)

-- ---- M-113: event 0 waits, and another event 0 is taken in before the 104 steps

abbrev one : List Turn
one = call (arrive 0 0) ∷ []

abbrev meanwhile : List Turn
meanwhile = call (arrive 0 0) ∷ steps 104

equal_rank : NobodyWaits W one → List-as-Memᴰ (arrival 0 0 0) (committed_by (history_from (after W one) meanwhile))
unfolding beyond exact result_of over arity handled mentions met find order up_to met_at_once phase_one postfix in_order flatten flat_map copy_part first_part second_part restore_part code value in_turn first_phase starts fresh execute emptied times act turn run_turns replies taken_turns longest steps_among
equal_rank n =
    n meanwhile (arrival 0 0 0) (Memᴰ.head refl) (calls_stay (arrive 0 0 ∷ replicate 104 step) (after W one)) (omega arith, tt) (omega arith)

-- ---- M-112: on one phone the second event has run for four instructions when the sheet is changed, on the other it
-- waits; both are committed under the new sheet

abbrev waiting : List Turn
waiting = (call (arrive 0 0) ∷ stepping 21) ++ (call (arrive 0 0) ∷ change right ∷ stepping 21)

in_hand_at_a_change : SameBoard wrong mending waiting → store_of (engine_after wrong mending) ≡ store_of (engine_after wrong waiting)
unfolding beyond exact result_of over arity handled mentions met find order up_to met_at_once phase_one postfix in_order flatten flat_map copy_part first_part second_part restore_part code value in_turn first_phase starts fresh execute emptied times carried_actives carried act turn run_turns replies history_by taken_turns
in_hand_at_a_change s =
    s refl (Permᴰ·refl _, refl, tt) (((λ h. absurd (h refl), tt), tt), ((λ h. absurd (h refl), tt), tt)) refl refl

-- ---- "and after every earlier one of equal rank": two events 0 are committed, and two more are in hand

abbrev four : List Turn
four = call (arrive 0 0) ∷ call (arrive 0 0) ∷ call (arrive 0 0) ∷ call (arrive 0 0) ∷ steps 110

-- the first of the two commits, and the second and what is still in hand: lower numbers, and not just no higher ones
first_of_equals : EqualsInOrder W four → 0 < 1
unfolding beyond exact result_of over arity handled mentions met find order up_to met_at_once phase_one postfix in_order flatten flat_map copy_part first_part second_part restore_part code value in_turn first_phase starts fresh execute emptied times act turn run_turns replies history_by
first_of_equals q = q.0.0 refl

before_the_hand : EqualsInOrder W four → 1 < 2
unfolding beyond exact result_of over arity handled mentions met find order up_to met_at_once phase_one postfix in_order flatten flat_map copy_part first_part second_part restore_part code value in_turn first_phase starts fresh execute emptied times act turn run_turns replies history_by
before_the_hand q = q.1.0.0 refl

-- under two sheets, one commit before the change and one after it
across_a_change : EqualsInOrder wrong mending → 0 < 1
unfolding beyond exact result_of over arity handled mentions met find order up_to met_at_once phase_one postfix in_order flatten flat_map copy_part first_part second_part restore_part code value in_turn first_phase starts fresh execute emptied times carried_actives carried act turn run_turns replies history_by taken_turns
across_a_change q = q.0.0.0 refl
