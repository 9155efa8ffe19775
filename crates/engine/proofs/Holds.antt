-- Demand 3 holds: for every sheet that compile accepts, every list of calls and changes, and every two lists. The
-- sheet's program comes from what compile accepts, and the claims about its table and a fresh round carry over (crate
-- refine_lists).
use Rattle.lib_base.proofs.Prelude.{ℕ, ◌<◌, ◌≡◌, refl, sym, ap, subst, List, []}
use Rattle.spec_language.specs.Syntax.{Program}
use Rattle.spec_language.specs.Dependence.{events}
use Rattle.spec_language.specs.Code.{code}
use Rattle.spec_semantics.specs.Meaning.{fresh}
use Rattle.spec_semantics.specs.Plays.{done}
use Rattle.spec_semantics.proofs.Agreement.{fresh_shows, fresh_alone}
use Rattle.spec_model.specs.Model.{run_turns}
use Rattle.spec_model.specs.Claims.{history_by}
use Rattle.format_image.specs.Table.{table_of}
use Rattle.format_image.proofs.ImageLaws.{Says}
use Rattle.back_compile.specs.Verdict.{compile_on}
use Rattle.back_compile.specs.Compiled.{Compiled, program_of}
use Rattle.back_compile.proofs.AcceptedExactly.{accepted_exactly}
use Rattle.format_layout.specs.Round.{CallResult}
use Rattle.refine_calls.specs.Refinement.{bytes_after}
use Rattle.refine_calls.proofs.Refines.{valid, accepted_says}
use Rattle.refine_lists.specs.Lists.{board_of, fresh_round_on, OnlyCalls, Prepared}
use Rattle.refine_lists.proofs.Sheets.{table_room, begun}
use Rattle.refine_lists.proofs.FromSheets.{some_turns, prepared_accepted, list_of, calls_of_law, two_lists_hold, two_only_calls_hold}
use Rattle.engine.specs.Demand.{CodeIn, EverySheet, WholeDemand}

-- what a table says of a program
code_in : (p : Program) (t : List ℕ) → Says p t → (e : ℕ) → e < events p → CodeIn p t e
code_in p t says e h = record {
  priority = says.priorities e h;
  start = says.starts e h;
  count = says.lengths e h;
  in_C = says.in_C e h;
  within = rw (says.starts e h, says.lengths e h) (says.within e h);
  operations = λ c b. rw (says.starts e h) (says.operations e c h b);
  constants = λ c b. rw (says.starts e h) (says.constants e c h b);
}

-- the empty list has the fresh board
fresh_board : (p : Program) (s ps t₀ l₀ : List ℕ) → OnlyCalls p l₀ (fresh_round_on s ps t₀ l₀) [] → board_of p (fresh_round_on s ps t₀ l₀).round ≡ fresh p
unfolding run_turns history_by bytes_after
fresh_board p s ps t₀ l₀ h = sym (h.board_alone refl (fresh p) done)

pub every_sheet : EverySheet
every_sheet s ps t₀ l₀ bytes words room h =
    let a = table_room s ps t₀ h in
    let k = (accepted_exactly s ps t₀ bytes a).0 h in
    let p = program_of ps k.0 in
    let r : Prepared s ps t₀ l₀ k.0 =
    record { param_bytes = words; room = room; compiles = h; sent_as = k.1; taken = k.2 } in
    let ok = prepared_accepted s ps t₀ l₀ k.0 r in
    let e : (compile_on s ps t₀).1 ≡ table_of p t₀ = ap (λ (o : Compiled). o.1) k.3 in
    let calls = calls_of_law s ps t₀ l₀ k.0 r in
    record {
      sheet = k.0;
      bytes = k.1;
      taken = k.2;
      table = e;
      code = λ x d. subst (λ (t : List ℕ). CodeIn p t x) (sym e) (code_in p (table_of p t₀) (accepted_says p ok t₀ a) x d);
      begun = ap (λ (r : CallResult). r.0) (begun p ok t₀ l₀ (compile_on s ps t₀).1 a room e);
      board = fresh_board p s ps t₀ l₀ (calls []);
      values = fresh_shows p (valid p ok);
      values_alone = fresh_alone p (valid p ok);
      each = λ xs c. let ts = some_turns xs c in (ts.0, ts.1, list_of s ps t₀ l₀ k.0 r xs c ts.0 ts.1);
      calls = calls;
    }

-- demand 3
pub whole : WholeDemand
whole = record { every_list = every_sheet; two_lists = two_lists_hold; two_only_calls = two_only_calls_hold }
