-- The final, computed: the model engine's lists by evaluation, and the rounds' bytes by demand 3's theorem.
use Rattle.lib_base.proofs.Prelude.{ℕ, ◌<◌, suc, zero, ◌≡◌, refl, true, false, Bool, false≢true, List, [], ◌∷◌, map}
use Rattle.lib_base.proofs.Prelude.{flat_map, sum, flatten, length, eqb, ltb, ne_eqb, ltb-true, arith}
use lib.Dec.{eqb-zero-suc}
use Rattle.lib_base.specs.Basics.{pick, All}
use Rattle.lib_base.proofs.Tools.{through}
use Rattle.lib_word.specs.Word.{get}
use Rattle.lib_signature.specs.Signature.{arity}
use Rattle.lib_signature.specs.Numbers.{if_fn, add_fn}
use Rattle.lib_signature.proofs.Laws.{is_two}
use Rattle.lib_arith.specs.Exact.{beyond}
use Rattle.lib_arith.specs.Functions.{exact, result_of, over}
use Rattle.spec_language.specs.Sheet.{cell_count, entries_out, fill_term, fill_clauses, fill_entries, params_of, params_of_clauses, params_of_entries}
use Rattle.spec_language.specs.Dependence.{takes, keeps, handled, mentions, needs, depends_on, Reach, one, more, NoCycle}
use Rattle.spec_language.specs.Syntax.{Expr, con, name, app2, app3}
use Rattle.spec_language.specs.Grammar.{encode, encode_events, encode_behaviours, encode_handlers, encode_expr, SheetFits, ternary, binary, t_literal, t_variable, t_apply2, t_apply3}
use Rattle.spec_language.specs.Accepted.{SheetAccepted}
use Rattle.spec_language.specs.Order.{met, find, order, up_to, met_at_once, phase_one}
use Rattle.spec_language.specs.Code.{size_of, postfix, in_order, copy_part, first_part, second_part, restore_part, code, instructions, all_instructions}
use Rattle.spec_semantics.specs.Meaning.{value, in_turn, first_phase, starts, fresh}
use Rattle.spec_execution.specs.Execution.{execute, emptied, times}
use Rattle.spec_model.specs.Model.{call, act, turn, run_turns, replies}
use Rattle.spec_model.specs.Claims.{after, IdleIn, taken_turns, taken_in_by, events_of}
use Rattle.spec_model.proofs.States.{store_in}
use Rattle.check_graph.specs.Matrix.{close_cell, close_row, close_through, close_rows, close_by, closed}
use Rattle.check_graph.specs.Any.{any_below}
use Rattle.check_faults.specs.Faults.{known_in, known_handlers, known_behaviours, known, matrix_of}
use Rattle.check_faults.proofs.CycleDecides.{known_decides}
use Rattle.check_reads.specs.First.{first_from}
use Rattle.check_reads.specs.Named.{named_directly, through_passives, named_by}
use Rattle.ask_agree.specs.Answer.{packed_difference}
use Rattle.ask_agree.specs.Agree.{clashes, clash_of, clash_from, clash_in}
use Rattle.engine_agree.specs.Final.{final, final_bytes, final_program, at_once, one_by_one}

-- ---- the lists, by the model engine

pub same : events_of (taken_in_by final_program (map call at_once)) ≡ events_of (taken_in_by final_program (map call one_by_one))
unfolding flat_map entries_out fill_term fill_clauses fill_entries handled mentions met find order up_to met_at_once phase_one value in_turn first_phase starts fresh emptied act turn replies taken_turns code copy_part flatten first_part in_order postfix second_part restore_part execute exact result_of over beyond times
same = refl

pub ends_at_once : IdleIn (after final_program (map call at_once))
unfolding flat_map entries_out fill_term fill_clauses fill_entries handled mentions met find order up_to met_at_once phase_one value in_turn first_phase starts fresh emptied act turn run_turns code copy_part flatten first_part in_order postfix second_part restore_part execute exact result_of over beyond times
ends_at_once = refl

pub ends_one_by_one : IdleIn (after final_program (map call one_by_one))
unfolding flat_map entries_out fill_term fill_clauses fill_entries handled mentions met find order up_to met_at_once phase_one value in_turn first_phase starts fresh emptied act turn run_turns code copy_part flatten first_part in_order postfix second_part restore_part execute exact result_of over beyond times
ends_one_by_one = refl

pub no_points : store_in (after final_program (map call at_once)) ≡ 1 ∷ 0 ∷ []
unfolding flat_map entries_out fill_term fill_clauses fill_entries handled mentions met find order up_to met_at_once phase_one value in_turn first_phase starts fresh emptied act turn run_turns code copy_part flatten first_part in_order postfix second_part restore_part execute exact result_of over beyond times arity
no_points = refl

pub twenty_points : store_in (after final_program (map call one_by_one)) ≡ 1 ∷ 20 ∷ []
unfolding flat_map entries_out fill_term fill_clauses fill_entries handled mentions met find order up_to met_at_once phase_one value in_turn first_phase starts fresh emptied act turn run_turns code copy_part flatten first_part in_order postfix second_part restore_part execute exact result_of over beyond times arity
twenty_points = refl

-- ---- the sheet is accepted

bytes_are : length final_bytes ≡ 72
unfolding encode encode_events encode_behaviours encode_handlers encode_expr
bytes_are = refl

fits : SheetFits final
unfolding cell_count
fits = record {
  few_events = omega arith;
  few_behaviours = omega arith;
  scale = ((omega arith, tt), ((omega arith, tt), tt));
  each = (
    ((omega arith, (omega arith, t_literal {w = 1} (omega arith), tt, tt)), tt),
    (((omega arith, (omega arith, t_apply3 ternary (t_variable {i = 0} (omega arith)) (t_variable {i = 1} (omega arith)) (t_apply2 (binary {f = add_fn} (omega arith) (omega arith) (is_two add_fn (omega arith) (omega arith))) (t_variable {i = 1} (omega arith)) (t_literal {w = 10} (omega arith))), tt, tt)), tt), tt),
  );
  few_bytes = omega (arith, bytes_are);
}

names_known_law : known final_program ≡ true
unfolding flat_map entries_out fill_term fill_clauses fill_entries known_behaviours known_handlers known_in
names_known_law = refl

-- the hit's points need b0, and nothing else needs anything
abbrev points : Expr
points = app3 if_fn (name 0) (name 1) (app2 add_fn (name 1) (con 10))

over_needs : (b : Bool) (j : ℕ) → needs 0 j (elim b [ true ↦ takes (con 1) | false ↦ keeps ]) ≡ true → ⊥
unfolding mentions
over_needs true j h = false≢true h
over_needs false j h = false≢true h

points_need : (b : Bool) (j : ℕ) → needs 1 j (elim b [ true ↦ takes points | false ↦ keeps ]) ≡ true → j ≡ 0
unfolding mentions
points_need true zero h = refl
points_need true (suc zero) h = absurd (false≢true h)
points_need true (suc (suc j)) h = absurd (false≢true (rw (eqb-zero-suc (suc j), ne_eqb 1 (suc (suc j)) (λ q. omega arith)) at h))
points_need false j h = absurd (false≢true h)

needed : (e i j : ℕ) → depends_on final_program e i j ≡ true → (i ≡ 1) × (j ≡ 0)
unfolding flat_map entries_out fill_term fill_clauses fill_entries handled
needed e zero j h = absurd (over_needs (eqb e 1) j h)
needed e (suc zero) j h = (refl, points_need (eqb e 0) j h)
needed e (suc (suc i)) j h = absurd (false≢true h)

chain_from : (e : ℕ) {i j : ℕ} → Reach (depends_on final_program e) i j → i ≡ 1
chain_from e {i} {j} (one d) = (needed e i j d).0
chain_from e {i} {j} (more r d) = chain_from e r

chain_to : (e : ℕ) {i j : ℕ} → Reach (depends_on final_program e) i j → j ≡ 0
chain_to e {i} {j} (one d) = (needed e i j d).1
chain_to e {i} {j} (more {b = k} r d) = (needed e k j d).1

no_cycle : NoCycle final_program
no_cycle e b i r = omega (arith, chain_from e r, chain_to e r)

counted : all_instructions final_program ≡ 21
unfolding flat_map entries_out fill_term fill_clauses fill_entries handled up_to instructions all_instructions size_of sum
counted = refl

pub final_taken : SheetAccepted (get []) 0 final
unfolding params_of params_of_clauses params_of_entries flat_map entries_out fill_entries
final_taken =
    let k = (known_decides final_program).0 names_known_law in
    record {
      fits = fits;
      known = k;
      given = λ h. absurd (false≢true h);
      acyclic = no_cycle;
      short = omega (arith, counted);
    }

-- ---- what is named

pub clash_is : clash_in final_program ≡ 65565
unfolding flat_map entries_out fill_term fill_clauses fill_entries handled mentions up_to any_below matrix_of closed close_by close_rows close_through close_row close_cell first_from named_directly through_passives named_by packed_difference clashes clash_of clash_from clash_in
clash_is = refl

-- ---- its bytes

small : List ℕ → Bool
small [] = true
small (b ∷ l) = pick (ltb b 256) (small l) false

small_says : (l : List ℕ) → small l ≡ true → All (λ b. b < 256) l
unfolding small
small_says [] h = tt
small_says (b ∷ l) h = let q = through (ltb b 256) (small l) h in (ltb-true b 256 q.0, small_says l q.1)

pub bytes : All (λ b. b < 256) final_bytes
unfolding small encode encode_events encode_behaviours encode_handlers encode_expr
bytes = small_says final_bytes refl
