-- A sheet of two lights for the instances: event 0, of rank 1, sets b0 to 1 / 0, which runs over, and event 1, of rank
-- 2, sets b1 to 1. compile accepts it: what it needs is computed, and nothing names anything, so that there is no
-- circle.
use Rattle.lib_base.proofs.Prelude.{ℕ, ◌<◌, suc, zero, ◌≡◌, refl, true, false, Bool, false≢true, none, List, [], ◌∷◌}
use Rattle.lib_base.proofs.Prelude.{flat_map, sum, length, eqb, ltb, ltb-true, arith}
use Rattle.lib_base.specs.Basics.{pick, All}
use Rattle.lib_base.proofs.Tools.{through}
use Rattle.lib_word.specs.Word.{get}
use Rattle.lib_signature.proofs.Laws.{is_two}
use Rattle.spec_language.specs.Syntax.{con, app2, immediate, Program}
use Rattle.spec_language.specs.Sheet.{literal, apply2, clause, state, Sheet, cell_count, entries_out, fill_term, fill_clauses, fill_entries, params_of, params_of_clauses, params_of_entries}
use Rattle.spec_language.specs.Reading.{entry, signal, sheet}
use Rattle.spec_language.specs.Dependence.{takes, keeps, handled, mentions, needs, depends_on, Reach, one, more, NoCycle}
use Rattle.spec_language.specs.Grammar.{encode, encode_events, encode_behaviours, encode_handlers, encode_expr, SheetFits, binary, t_literal, t_apply2}
use Rattle.spec_language.specs.Accepted.{SheetAccepted}
use Rattle.spec_language.specs.Order.{up_to}
use Rattle.spec_language.specs.Code.{size_of, instructions, all_instructions}
use Rattle.check_graph.specs.Matrix.{close_cell, close_row, close_through, close_rows, close_by, closed}
use Rattle.check_graph.specs.Any.{any_below}
use Rattle.check_faults.specs.Faults.{known_in, known_handlers, known_behaviours, known, matrix_of}
use Rattle.check_faults.proofs.CycleDecides.{known_decides}
use Rattle.check_reads.specs.First.{first_from}
use Rattle.check_reads.specs.Named.{named_directly, through_passives, named_by}
use Rattle.ask_agree.specs.Agree.{clashes, clash_of, clash_from, clash_in}
use Rattle.ask_agree.specs.Claims.{AllIndependent}
use Rattle.ask_agree.proofs.Decides.{zero_says}
use Rattle.back_compile.specs.Compiled.{program_of}
use Rattle.refine_lists.proofs.Sheets.{program_accepted}

abbrev pub lights : Sheet
lights = sheet
    (signal 1 none ∷ signal 2 none ∷ [])
    (entry (state 0 (clause 0 immediate (apply2 7 (literal 1) (literal 0)) ∷ [])) none
    ∷ entry (state 0 (clause 1 immediate (literal 1) ∷ [])) none
    ∷ [])

abbrev pub lights_bytes : List ℕ
lights_bytes = encode lights

abbrev pub lights_program : Program
lights_program = program_of [] lights

bytes_are : length lights_bytes ≡ 63
unfolding encode encode_events encode_behaviours encode_handlers encode_expr
bytes_are = refl

fits : SheetFits lights
unfolding cell_count
fits = record {
  few_events = omega arith;
  few_behaviours = omega arith;
  scale = ((omega arith, tt), ((omega arith, tt), tt));
  each = (
    ((omega arith, (omega arith, t_apply2 (binary {f = 7} (omega arith) (omega arith) (is_two 7 (omega arith) (omega arith))) (t_literal {w = 1} (omega arith)) (t_literal {w = 0} (omega arith)), tt, tt)), tt),
    (((omega arith, (omega arith, t_literal {w = 1} (omega arith), tt, tt)), tt), tt),
  );
  few_bytes = omega (arith, bytes_are);
}

names_known_law : known lights_program ≡ true
unfolding flat_map entries_out fill_term fill_clauses fill_entries known_behaviours known_handlers known_in
names_known_law = refl

first_needs : (b : Bool) (j : ℕ) → needs 0 j (elim b [ true ↦ takes (app2 7 (con 1) (con 0)) | false ↦ keeps ]) ≡ true → ⊥
unfolding mentions
first_needs true j h = false≢true h
first_needs false j h = false≢true h

second_needs : (b : Bool) (j : ℕ) → needs 1 j (elim b [ true ↦ takes (con 1) | false ↦ keeps ]) ≡ true → ⊥
unfolding mentions
second_needs true j h = false≢true h
second_needs false j h = false≢true h

needless : (e i j : ℕ) → depends_on lights_program e i j ≡ true → ⊥
unfolding flat_map entries_out fill_term fill_clauses fill_entries handled
needless e zero j h = first_needs (eqb e 0) j h
needless e (suc zero) j h = second_needs (eqb e 1) j h
needless e (suc (suc i)) j h = false≢true h

no_chain : (e : ℕ) {i j : ℕ} → Reach (depends_on lights_program e) i j → ⊥
no_chain e {i} {j} (one d) = needless e i j d
no_chain e {i} {j} (more r d) = no_chain e r

no_cycle : NoCycle lights_program
no_cycle e b i r = no_chain e r

counted : all_instructions lights_program ≡ 18
unfolding flat_map entries_out fill_term fill_clauses fill_entries handled up_to instructions all_instructions size_of sum
counted = refl

pub lights_taken : SheetAccepted (get []) 0 lights
unfolding params_of params_of_clauses params_of_entries flat_map entries_out fill_entries
lights_taken =
    let k = (known_decides lights_program).0 names_known_law in
    record {
      fits = fits;
      known = k;
      given = λ h. absurd (false≢true h);
      acyclic = no_cycle;
      short = omega (arith, counted);
    }

-- they share nothing
nothing_shared : clash_in lights_program ≡ 0
unfolding flat_map entries_out fill_term fill_clauses fill_entries handled mentions up_to any_below matrix_of closed close_by close_rows close_through close_row close_cell first_from named_directly through_passives named_by clashes clash_of clash_from clash_in
nothing_shared = refl

-- ---- its bytes

small : List ℕ → Bool
small [] = true
small (b ∷ l) = pick (ltb b 256) (small l) false

small_says : (l : List ℕ) → small l ≡ true → All (λ b. b < 256) l
unfolding small
small_says [] h = tt
small_says (b ∷ l) h = let q = through (ltb b 256) (small l) h in (ltb-true b 256 q.0, small_says l q.1)

pub lights_bytes_law : All (λ b. b < 256) lights_bytes
unfolding small encode encode_events encode_behaviours encode_handlers encode_expr
lights_bytes_law = small_says lights_bytes refl

-- every two events of unequal rank are independent
pub lights_independent : AllIndependent lights_program
lights_independent =
    let k = program_accepted [] tt lights lights_taken in
    zero_says lights_program k.fits.each k.known k.fits.few_behaviours nothing_shared
