-- 02, M-106, "A rest day": what the exported calls do with a sheet of no bytes. By demand 3's theorem the calls answer
-- as the model engine does, which for a program with no events and no behaviours stays as it began.
use Rattle.lib_base.proofs.Prelude.{ℕ, ◌≤◌, ◌≡◌, refl, ◌∙◌, sym, ap, subst, true≢false, List, [], ◌∷◌, map, flat_map}
use Rattle.lib_base.proofs.Prelude.{sum, length, leb, lt-leb, le-leb, arith}
use Rattle.lib_base.proofs.Tools.{by_test}
use Rattle.lib_word.specs.Word.{get}
use Rattle.spec_language.specs.Syntax.{Program}
use Rattle.spec_language.specs.Sheet.{cell_count, entries_out, fill_entries, params_of_entries}
use Rattle.spec_language.specs.Dependence.{handled, depends_on, Reach, one, more}
use Rattle.spec_language.specs.Grammar.{encode_behaviours, encode_events, encode}
use Rattle.spec_language.specs.Order.{up_to}
use Rattle.spec_language.specs.Code.{all_instructions}
use Rattle.spec_language.specs.Accepted.{SheetAccepted}
use Rattle.spec_language.specs.Valid.{Accepted}
use Rattle.spec_model.specs.Model.{Engine, initial, Call, arrive, step, board, Outcome, act, call, state, turn, run_turns, begun}
use Rattle.spec_model.specs.Claims.{after}
use Rattle.format_image.specs.Table.{table_of}
use Rattle.back_compile.specs.Verdict.{compile_on}
use Rattle.back_compile.specs.Compiled.{Compiled, compiled, program_of}
use Rattle.back_compile.proofs.AcceptedExactly.{accepted_exactly, never_two}
use Rattle.format_layout.specs.Round.{CallResult}
use Rattle.run_start.specs.Start.{start_on}
use Rattle.refine_calls.specs.Refinement.{coded, call_on, round_after, calls, Bytes, bytes, turn_on_bytes, bytes_after}
use Rattle.refine_calls.proofs.TurnsRefine.{Stand}
use Rattle.refine_calls.proofs.TurnsRefine as refine
use Rattle.refine_lists.proofs.Sheets.{begun as begins}
use Rattle.refine_lists.proofs.ListsHold.{turns_calls}
use Rattle.refine_lists.proofs.OnlyCallsHold.{table_stays}
use Rattle.engine.specs.RestDay.{empty_sheet, empty_program, RestDayRound, RestDay}

-- ---- it is accepted

no_bytes : encode empty_sheet ≡ []
unfolding encode encode_events encode_behaviours
no_bytes = refl

-- nothing depends on anything
no_chain : (e : ℕ) {i j : ℕ} → Reach (depends_on empty_program e) i j → ⊥
unfolding handled
no_chain e (one d) = true≢false (sym d)
no_chain e (more r d) = no_chain e r

nothing_accepted : Accepted empty_program
unfolding all_instructions sum up_to
nothing_accepted = record {
  fits = record {
    few_events = omega arith;
    few_behaviours = omega arith;
    scale = tt;
    each = tt;
    all_senders = refl;
    all_viewers = refl;
    send_bytes = tt;
    view_bytes = tt;
  };
  known = tt;
  acyclic = λ e _ i r. no_chain e r;
  short = omega arith;
}

means_nothing : (ps : List ℕ) → program_of ps empty_sheet ≡ empty_program
unfolding fill_entries entries_out flat_map
means_nothing ps = refl

blank_accepted : (ps : List ℕ) → SheetAccepted (get ps) (length ps) empty_sheet
unfolding fill_entries params_of_entries entries_out flat_map cell_count
blank_accepted ps = record {
  fits = record {
    few_events = omega arith;
    few_behaviours = omega arith;
    scale = tt;
    each = tt;
    few_bytes = rw no_bytes (omega arith);
  };
  known = nothing_accepted.known;
  given = λ u. absurd (true≢false (sym u));
  acyclic = nothing_accepted.acyclic;
  short = nothing_accepted.short;
}

compiles : (ps t₀ : List ℕ) → 34816 ≤ length t₀ → compile_on [] ps t₀ ≡ compiled 0 (table_of empty_program t₀)
compiles ps t₀ room =
    (accepted_exactly [] ps t₀ tt room).1 empty_sheet no_bytes (blank_accepted ps) ∙ ap (λ (p : Program). compiled 0 (table_of p t₀)) (means_nothing ps)

table_is : (ps t₀ : List ℕ) → 34816 ≤ length t₀ → (compile_on [] ps t₀).1 ≡ table_of empty_program t₀
table_is ps t₀ room = ap (λ (r : Compiled). r.1) (compiles ps t₀ room)

-- ---- its round rests

-- no arrival changes it
refuses : (e who : ℕ) → (act empty_program (arrive e who) (initial empty_program)).after ≡ initial empty_program
unfolding act
refuses e who =
    by_test (λ (o : Outcome). o.after ≡ initial empty_program) (leb 8 who) (λ _. refl) (λ _. rw (le-leb 0 e (omega arith)))

stays : (cs : List Call) → after empty_program (map call cs) ≡ begun empty_program
unfolding act turn run_turns
stays [] = refl
stays (arrive e who ∷ cs) = ap (λ (w : Engine). run_turns (map call cs) (state empty_program w)) (refuses e who) ∙ stays cs
stays (step ∷ cs) = stays cs
stays (board i who ∷ cs) = stays cs

module _ (ps t₀ l₀ : List ℕ) (room : 34816 ≤ length t₀) (round_room : 2048 ≤ length l₀) where
  abbrev table : List ℕ
  table = (compile_on [] ps t₀).1

  abbrev round : List ℕ
  round = (start_on table l₀).1

  -- how the bytes stand after the calls: as those of the model engine that has just begun
  stands : (cs : List Call) → Stand l₀ (bytes_after (map calls cs) (bytes table round)) (begun empty_program)
  stands cs =
      let fresh_is : refine.fresh_from empty_program nothing_accepted t₀ l₀ room round_room ≡ bytes table round =
      λ i. bytes (sym (table_is ps t₀ room) i) (sym (ap (λ (r : CallResult). r.1) (begins empty_program nothing_accepted t₀ l₀ table room round_room (table_is ps t₀ room))) i) in
      subst (Stand l₀ (bytes_after (map calls cs) (bytes table round))) (stays cs)
      (subst (λ (b : Bytes). Stand l₀ (bytes_after (map calls cs) b) (after empty_program (map call cs))) fresh_is
      (refine.runs empty_program nothing_accepted t₀ l₀ room round_room (map calls cs) (map call cs) (turns_calls [] [] cs tt)).stand)

  -- so one more call is answered as by that engine
  answers : (cs : List Call) (c : Call) → (call_on table c (round_after table cs round)).0 ≡ coded (act empty_program c (initial empty_program)).answer
  unfolding round_after turn_on_bytes turn
  answers cs c =
      ap (λ (t : List ℕ). (call_on t c (bytes_after (map calls cs) (bytes table round)).round).0) (sym (table_stays cs (bytes table round)))
      ∙ (refine.turned l₀ (bytes_after (map calls cs) (bytes table round)) (calls c) (begun empty_program) (call c) refl (stands cs)).answered

  rests : (cs : List Call) → RestDayRound table round cs
  unfolding call_on act
  rests cs = record {
    idle = answers cs step;
    arrivals = λ e who h. rw (lt-leb 8 who h, le-leb 0 e (omega arith)) at (answers cs (arrive e who));
    readings = λ i who h. rw (lt-leb 8 who h, le-leb 0 i (omega arith)) at (answers cs (board i who));
  }

  starts : (start_on table l₀).0 ≡ 0
  starts = ap (λ (r : CallResult). r.0) (begins empty_program nothing_accepted t₀ l₀ table room round_room (table_is ps t₀ room))

-- M-106
pub rest_day : RestDay
rest_day = record {
  bytes = no_bytes;
  within = blank_accepted;
  means = means_nothing;
  accepted = λ ps t₀ room. ap (λ (r : Compiled). r.0) (compiles ps t₀ room);
  table = table_is;
  begun = starts;
  at_rest = rests;
  never_blank = never_two;
}
