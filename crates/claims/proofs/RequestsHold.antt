-- Document 02's requests hold: each part is a theorem of the crate that it is about, or follows from one in a line.
use Rattle.lib_base.proofs.Prelude.{ℕ, ◌<◌, suc, zero, ◌≡◌, refl, ◌∙◌, sym, ap, subst, true, some, none, List, [], ◌∷◌}
use Rattle.lib_base.proofs.Prelude.{map, length, get_or, replicate, length-replicate, eqb, eqb-true, eq-eqb, arith}
use Rattle.lib_arith.specs.Functions.{exact, result_of}
use Rattle.spec_language.specs.Dependence.{events}
use Rattle.spec_language.specs.Sheet.{Sheet, Signal, Entry, allowed, viewers_of, fill, rows_out}
use Rattle.spec_language.specs.Rights.{may, may_see}
use Rattle.spec_language.proofs.SheetLaws.{param_size}
use Rattle.spec_grammar.proofs.Programs.{reads_back, reads_only, encode_injective}
use Rattle.text_formula.proofs.Readings.{one_reading}
use Rattle.text_formula.proofs.Answers as answers
use Rattle.text_formula.proofs.Sheets.{field_written}
use Rattle.run_rights.proofs.Permits.{everybody, host_sends, host_sees, said, unsaid}
use Rattle.back_compile.specs.Verdict.{compile_on}
use Rattle.back_compile.specs.Number.{number_on}
use Rattle.back_compile.specs.Compiled.{Compiled, program_of}
use Rattle.back_compile.proofs.AcceptedExactly.{accepted_exactly, accepted_taken}
use Rattle.back_compile.proofs.JudgeLaws.{any_table}
use Rattle.back_compile.proofs.AsWritten.{as_written, more_unread}
use Rattle.back_compile.proofs.RowsOut.{as_rows}
use Rattle.back_figure3.proofs.Compiles.{accepted_compiles, derived_acyclic}
use Rattle.back_figure3.proofs.SecondPhase.{second_acyclic}
use Rattle.refine_lists.proofs.Sheets.{program_accepted}
use Rattle.ask_circle.specs.Witness.{ListAnswer}
use Rattle.ask_circle.proofs.Shown.{shown}
use Rattle.engine.specs.Demand.{CodeIn}
use Rattle.engine.proofs.Holds.{whole}
use Rattle.spec_execution.proofs.CodeRight.{code_facts}
use Rattle.refine_calls.proofs.Refines.{valid}
use Rattle.spec_language.specs.Reading.{signal}
use Rattle.lib_base.proofs.Tools.{through}
use Rattle.link_pooled.specs.Pooled.{same_ranks}
use Rattle.link_join.proofs.JoinLaws as joins
use Rattle.link_join.proofs.Says.{join_says, join_kept}
use Rattle.link_join.proofs.Limits.{pooled_number}
use Rattle.claims.proofs.Quotients as quotients
use Rattle.claims.specs.Requests.{sent_viewer, HalvesGoDown, Parameters, Formulas, Rights, Circles, PaperOrder, Rows, Pooling}
use Rattle.claims.specs.Demand2.{AcceptedExactly}

pub exactly : AcceptedExactly
exactly = record {
  accepted = λ s ps t b room h. let k = (accepted_exactly s ps t b room).0 h in (k.0, k.1, k.2);
  exactly = λ s ps t b room x e a. (accepted_exactly s ps t b room).1 x e a;
  reads = reads_back;
  reads_only = λ s b hi x rest e. let r = reads_only s b hi x rest e in (sym r.0, r.1);
  one_sheet = encode_injective;
}

pub halves_go_down : HalvesGoDown
unfolding result_of exact
halves_go_down = record {
  at_most = quotients.at_most;
  next_above = quotients.next_above;
  at_least = quotients.at_least;
  next_below = quotients.next_below;
  by_zero = quotients.by_zero;
  minus_seven_by_two = refl;
  seven_by_minus_two = refl;
  seven_by_two = refl;
  least_by_minus_one = refl;
}

pub parameters : Parameters
parameters = record {
  counts_one = param_size;
  written = as_written;
  more_unread = λ s ps qs t b h. more_unread s ps qs t b h;
}

pub formulas : Formulas
formulas = record {
  one_reading = one_reading;
  within = answers.within;
  outside = answers.outside;
  only_outside = answers.twenty_one;
  unchanged = answers.refusal_unchanged;
  field = field_written;
}

-- ---- rights

viewer_at_law : (l : List Entry) (i : ℕ) → i < length l → get_or (viewers_of l) i 0 ≡ allowed (get_or (map (λ (b : Entry). b.viewer) l) i none)
viewer_at_law [] i h = absurd (omega arith)
viewer_at_law (x ∷ l) zero h = refl
viewer_at_law (x ∷ l) (suc i) h = viewer_at_law l i (omega arith)

sees_said : (v : ℕ → ℕ) (s : Sheet) (i : ℕ) → i < length (rows_out s).entries → (m : ℕ) → sent_viewer s i ≡ some m → (who : ℕ) → may_see (fill v s) who i ≡ may m who
sees_said v s i h m q who = rw (viewer_at_law (rows_out s).entries i h, q)

sees_unsaid : (v : ℕ → ℕ) (s : Sheet) (i : ℕ) → i < length (rows_out s).entries → sent_viewer s i ≡ none → (who : ℕ) → who < 8 → may_see (fill v s) who i ≡ true
sees_unsaid v s i h q who k = rw (viewer_at_law (rows_out s).entries i h, q) (everybody who k)

pub rights : Rights
rights = record {
  host_sends = host_sends;
  host_sees = host_sees;
  sends = said;
  sees = sees_said;
  all_send = unsaid;
  all_see = sees_unsaid;
}

pub circles : Circles
circles = record {
  listed = shown;
  others = λ s ps list h w. let e = w.other h in (ap (λ (a : ListAnswer). a.0) e, ap (λ (a : ListAnswer). a.1) e);
  full_table = any_table;
}

-- ---- the compiler in the paper's order

pub paper_order : PaperOrder
paper_order = record {
  in_the_table = λ s ps t b bp x q a room e h.
      let w = whole.every_list s ps t (replicate 2048 0) b bp (omega (arith, length-replicate {A = ℕ} 2048 0)) (ap (λ (r : Compiled). r.0) (accepted_taken s ps x q a t room)) in
      let same : x ≡ w.sheet = encode_injective x w.sheet a.fits w.taken.fits (q ∙ sym w.bytes) in (
        accepted_compiles (program_of ps x) (program_accepted ps bp x a) e h,
        subst (λ (y : Sheet). e < events (program_of ps y) → CodeIn (program_of ps y) (compile_on s ps t).1 e) (sym same) (w.code e) h,
      );
  counted = λ ps b x a e h. (code_facts (program_of ps x) (valid (program_of ps x) (program_accepted ps b x a))).counted e h;
  first_acyclic = derived_acyclic;
  second_acyclic = second_acyclic;
}

pub rows : Rows
rows = record { written_out = as_rows }

-- ---- 26

ranks_say : (k l : List Signal) → same_ranks k l ≡ true → (e : ℕ) → e < length k → e < length l → (get_or k e (signal 0 none)).priority ≡ (get_or l e (signal 0 none)).priority
unfolding same_ranks
ranks_say [] l h e a b = absurd (omega arith)
ranks_say (x ∷ k) [] h e a b = absurd (omega arith)
ranks_say (x ∷ k) (y ∷ l) h zero a b = eqb-true x.priority y.priority (through (eqb x.priority y.priority) (same_ranks k l) h).0
ranks_say (x ∷ k) (y ∷ l) h (suc e) a b = ranks_say k l (through (eqb x.priority y.priority) (same_ranks k l) h).1 e (omega arith) (omega arith)

ranks_are : (k l : List Signal) → ((e : ℕ) → e < length k → e < length l → (get_or k e (signal 0 none)).priority ≡ (get_or l e (signal 0 none)).priority) → same_ranks k l ≡ true
unfolding same_ranks
ranks_are [] l h = refl
ranks_are (x ∷ k) [] h = refl
ranks_are (x ∷ k) (y ∷ l) h =
    let q : eqb x.priority y.priority ≡ true = eq-eqb x.priority y.priority (h 0 (omega arith) (omega arith)) in
    rw q (ranks_are k l (λ e a b. h (suc e) (omega arith) (omega arith)))

pub pooling : Pooling
pooling = record {
  like_ranks = λ x y. (ranks_say x.signals y.signals, ranks_are x.signals y.signals);
  first_refused = λ s z ps buffer h. sym (joins.first_refused s z ps buffer (number_on s ps) 0 refl h);
  second_refused = λ s z ps buffer e h. sym (joins.second_refused s z ps buffer (number_on s ps) (number_on z ps) refl e refl h);
  answer = λ ps buffer b x y ok also. (join_says ps buffer b x y ok also).order;
  written = λ ps buffer b x y ok also. (join_says ps buffer b x y ok also).written;
  unchanged = join_kept;
  number = pooled_number;
}
