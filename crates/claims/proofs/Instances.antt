-- Instances of the claims' hypotheses that are no trivial ones: each is the claim applied, so that one whose hypothesis
-- was narrowed does not fit. M-110: a sheet with a row. Demands 2 and 3: the final's sheet (crate engine_agree, Final),
-- in a table and a round of just 01's lengths. Each other bound, reached. An answer that no step may give. And the
-- orders of arrival and delivery in numbers.
use Rattle.lib_base.proofs.Prelude.{ℕ, ◌<◌, ◌-◌, ◌^◌, ◌≡◌, refl, sym, ap, subst, true, ◌≢◌, ◌⊎◌, inr, inl, none, List}
use Rattle.lib_base.proofs.Prelude.{[], ◌∷◌, ◌++◌, map, flat_map, flatten, length, drop, replicate, arith}
use lib.IntN.{◌*ℤ◌}
use lib.Signed.{◌≤ℤ◌}
use Rattle.lib_word.specs.Word.{get}
use Rattle.lib_arith.specs.Exact.{signed, beyond}
use Rattle.lib_arith.specs.Functions.{exact, result_of, over}
use Rattle.spec_language.specs.Syntax.{Expr, immediate}
use Rattle.spec_language.specs.Dependence.{handled, mentions}
use Rattle.spec_language.specs.Order.{met, find, order, up_to, met_at_once, phase_one}
use Rattle.spec_language.specs.Code.{postfix, in_order, copy_part, first_part, second_part, restore_part, code}
use Rattle.spec_language.specs.Sheet.{literal, variable, apply2, clause, row, Sheet, cell_count, heads, change_clauses, rename_term, entries_out, rows_out, fill_term, fill_clauses, fill_entries, fill, as_written_out, params_of_entries}
use Rattle.spec_language.specs.Reading.{entry, signal, sheet}
use Rattle.spec_language.specs.Rights.{may_send}
use Rattle.spec_language.specs.Grammar.{encode_expr, encode_handlers, encode_behaviours, encode_events, encode}
use Rattle.spec_semantics.specs.Meaning.{value, in_turn, first_phase, starts, fresh}
use Rattle.spec_execution.specs.Execution.{execute, emptied, times}
use Rattle.spec_model.specs.Model.{Call, arrive, step, call, act, turn, run_turns, replies}
use Rattle.spec_model.specs.Claims.{after, IdleIn, taken_turns, taken_in_by, events_of, ApartIn}
use Rattle.format_image.specs.Table.{table_of}
use Rattle.run_start.specs.Start.{start_on}
use Rattle.run_arrive.specs.Arrivals.{arrive_on}
use Rattle.run_dispatch.specs.Said.{said}
use Rattle.run_step.specs.Machine.{step_on}
use Rattle.run_deliver.specs.Deliver.{deliver_on}
use Rattle.format_layout.specs.Layout.{event_count, taken}
use Rattle.text_formula.specs.Grammar.{Formula}
use Rattle.text_formula.specs.Answer.{answered, field_answer}
use Rattle.text_formula.specs.Formula.{formula_on}
use Rattle.back_compile.specs.Compiled.{compiled, program_of}
use Rattle.back_compile.specs.Statements.{FirstUnmet}
use Rattle.back_compile.specs.Verdict.{compile_on}
use Rattle.back_compile.specs.Number.{number_on}
use Rattle.refine_calls.specs.Refinement.{calls, round_after, bytes_after}
use Rattle.refine_lists.specs.Lists.{board_of, fresh_round_on, Prepared}
use Rattle.engine.specs.Demand.{EveryList}
use Rattle.engine_agree.specs.Final.{final, final_bytes, final_program}
use Rattle.engine_agree.proofs.Computed.{bytes}
use Rattle.source_language.specs.Faults.{long_sheet_fault, short_buffer_fault, long_text_fault}
use Rattle.source_language.specs.Answer.{written, TextMeans, refused_at}
use Rattle.source_language.specs.Assembled.{assemble_on}
use Rattle.claims.specs.Demand1.{OurRound, hand_count, StepGives, is_idle, has_run, has_committed, has_committed_over, has_started, has_broken_in}
use Rattle.claims.specs.Demand2.{AreBytes}
use Rattle.claims.specs.Requests.{sent_sender, Rows}
use Rattle.claims.specs.Claims.{Claims}

-- two cells, which count an event
abbrev counters : Sheet
counters =
    sheet (signal 1 none ∷ []) (entry (row 2 0 (clause 0 immediate (apply2 4 (variable 0) (literal 1)) ∷ [])) none ∷ [])

of_a_row : Rows → (ps t : List ℕ) → compile_on (encode counters) ps t ≡ compile_on (encode (rows_out counters)) ps t
unfolding cell_count heads change_clauses rename_term up_to flat_map entries_out encode encode_events encode_behaviours encode_handlers encode_expr
of_a_row r =
    (r.written_out counters).same ((r.written_out counters).fits ((omega arith, omega arith), tt) (omega arith)) (omega arith) (omega arith)

-- 01: "Step: 14.": an engine whose step answers 17, on a round that has taken in more than 1,000,000 or on any other,
-- is ruled out: 17 is none of the five kinds, whatever is in hand
never_spent : (l : List ℕ) (r : ℕ) → StepGives l r → r ≢ 17
unfolding said
never_spent l r (is_idle f g) h = omega arith
never_spent l r (has_run f) h = omega arith
never_spent l r (has_committed f) h = omega arith
never_spent l r (has_committed_over f) h = omega arith
never_spent l r (has_started i f g) h = omega arith
never_spent l r (has_broken_in i f g) h = omega arith

-- so does the claim, of every table and round: a step is refused by 14 alone, and is accepted as `StepGives` says
never_17 : (l : List ℕ) {A B : Type 0} (r : ℕ) → FirstUnmet ((A, 14) ∷ (B, 14) ∷ []) (StepGives l) r → r ≢ 17
never_17 l r (inl h) = omega (arith, h.1)
never_17 l r (inr (a, inl h)) = omega (arith, h.1)
never_17 l r (inr (a, inr (b, h))) = never_spent l r h

no_step_spent : Claims → (t l : List ℕ) → (step_on t l).0 ≢ 17
no_step_spent c t l = never_17 l (step_on t l).0 (c.refusals.step_order t l)

-- ---- the orders, in numbers: of two declared events, and of a round that is not foreign

holds : {A X B : Type 0} → A → ((A → ⊥) × X) ⊎ (A × B) → B
holds a (inl h) = absurd (h.0 a)
holds a (inr h) = h.1

fails : {A X B : Type 0} → (A → ⊥) → ((A → ⊥) × X) ⊎ (A × B) → X
fails n (inl h) = h.1
fails n (inr h) = absurd (n h.0)

module _ (c : Claims) (t l : List ℕ) (o : OurRound t l) (two : event_count t ≡ 2) where
  -- 24 before 15, 16 before 17; 64 in hand, and 1,000,000 taken in
  no_player_law : (arrive_on t l 2 8).0 ≡ 24
  no_player_law = fails (λ h. omega arith) (holds o (c.refusals.arrive_order_law t l 2 8))

  no_event_law : (arrive_on t l 2 7).0 ≡ 15
  no_event_law = fails (λ h. omega arith) (holds (omega arith) (holds o (c.refusals.arrive_order_law t l 2 7)))

  full_hand : hand_count l ≡ 64 → (arrive_on t l 1 0).0 ≡ 16
  full_hand n = fails (λ h. omega arith) (holds refl (holds (omega arith) (holds (omega arith) (holds o (c.refusals.arrive_order_law t l 1 0)))))

  all_spent : hand_count l ≡ 63 → taken l ≡ 1000000 → (arrive_on t l 1 0).0 ≡ 17
  all_spent n m =
      fails (λ h. omega arith) (holds (omega arith) (holds refl (holds (omega arith) (holds (omega arith) (holds o (c.refusals.arrive_order_law t l 1 0))))))

  no_65_in_hand : hand_count l ≢ 65
  no_65_in_hand h = omega (arith, o.few_in_hand)

  -- a delivery of entry 6 and of entry 4, where 5 are taken in
  missing : taken l ≡ 5 → (b : List ℕ) → (deliver_on t l 6 2 8 b).0 ≡ 43
  missing n b = fails (λ h. omega arith) (holds o (c.deliveries.order t l 6 2 8 b))

  taken_before_law : taken l ≡ 5 → (b : List ℕ) → (deliver_on t l 4 2 8 b).0 ≡ 44
  taken_before_law n b = fails (λ h. omega arith) (holds (omega arith) (holds o (c.deliveries.order t l 4 2 8 b)))

-- ---- demands 2 and 3, on the final's sheet with no parameters lent, in a table of 34,816 bytes and a round of 2,048

abbrev hits_at_once : List Call
hits_at_once = arrive 0 0 ∷ arrive 0 7 ∷ replicate 28 step

abbrev hits_one_by_one : List Call
hits_one_by_one = arrive 0 0 ∷ (replicate 14 step ++ (arrive 0 7 ∷ replicate 14 step))

same_hits : events_of (taken_in_by final_program (map call hits_at_once)) ≡ events_of (taken_in_by final_program (map call hits_one_by_one))
unfolding flat_map entries_out fill_term fill_clauses fill_entries handled mentions met find order up_to met_at_once phase_one value in_turn first_phase starts fresh emptied act turn run_turns replies taken_turns code copy_part flatten first_part in_order postfix second_part restore_part execute exact result_of over beyond times
same_hits = refl

one_rank : ApartIn final_program (taken_in_by final_program (map call hits_at_once))
unfolding flat_map entries_out fill_term fill_clauses fill_entries handled mentions met find order up_to met_at_once phase_one value in_turn first_phase starts fresh emptied act turn run_turns replies taken_turns code copy_part flatten first_part in_order postfix second_part restore_part execute exact result_of over beyond times
one_rank = (((λ h. absurd (h refl)), ((λ h. absurd (h refl)), tt)), (((λ h. absurd (h refl)), ((λ h. absurd (h refl)), tt)), tt))

idle_at_once : IdleIn (after final_program (map call hits_at_once))
unfolding flat_map entries_out fill_term fill_clauses fill_entries handled mentions met find order up_to met_at_once phase_one value in_turn first_phase starts fresh emptied act turn run_turns replies taken_turns code copy_part flatten first_part in_order postfix second_part restore_part execute exact result_of over beyond times
idle_at_once = refl

idle_one_by_one : IdleIn (after final_program (map call hits_one_by_one))
unfolding flat_map entries_out fill_term fill_clauses fill_entries handled mentions met find order up_to met_at_once phase_one value in_turn first_phase starts fresh emptied act turn run_turns replies taken_turns code copy_part flatten first_part in_order postfix second_part restore_part execute exact result_of over beyond times
idle_one_by_one = refl

module _ (c : Claims) (t l : List ℕ) (room : length t ≡ 34816) (space : length l ≡ 2048) where
  compiled_final : compile_on final_bytes [] t ≡ compiled 0 (table_of final_program t)
  compiled_final = c.sheets.exactly final_bytes [] t bytes (omega arith) final refl c.condition_needed.taken

  takes_final : (compile_on final_bytes [] t).0 ≡ 0
  takes_final = ap (λ (r : ℕ × List ℕ). r.0) compiled_final

  prepared : Prepared final_bytes [] t l final
  prepared = record { param_bytes = tt; room = omega arith; compiles = takes_final; sent_as = refl; taken = c.condition_needed.taken }

  of_final : EveryList final_bytes [] t l
  of_final = c.lists.every_list final_bytes [] t l bytes tt (omega arith) takes_final

  -- its sheet is the one that the bytes encode
  of_its_sheet : (cs : List Call) → IdleIn (after final_program (map call cs)) → IdleIn (after (program_of [] of_final.sheet) (map call cs))
  of_its_sheet cs h =
      subst (λ (x : Sheet). IdleIn (after (program_of [] x) (map call cs)))
      (sym (c.sheets.one_sheet of_final.sheet final of_final.taken.fits c.condition_needed.taken.fits of_final.bytes)) h

  -- "every two such lists": two hits, of one rank, at once and one by one
  two_hits : board_of final_program (bytes_after (map calls hits_at_once) (fresh_round_on final_bytes [] t l)).round
      ≡ board_of final_program (bytes_after (map calls hits_one_by_one) (fresh_round_on final_bytes [] t l)).round
  two_hits =
      c.lists.two_only_calls final_bytes [] [] t l t l final (record { one = prepared; other = prepared; filled = refl }) hits_at_once hits_one_by_one
      same_hits one_rank ((of_final.calls hits_at_once).list.idle.1 (of_its_sheet hits_at_once idle_at_once))
      ((of_final.calls hits_one_by_one).list.idle.1 (of_its_sheet hits_one_by_one idle_one_by_one))

-- ---- each other bound, reached

module _ (c : Claims) where
  -- M-105: 1,024 bytes of a formula, and 1,025
  longest_formula : (text buffer : List ℕ) (e : Expr) → length text ≡ 1024 → Formula text e → formula_on text buffer ≡ field_answer e buffer
  longest_formula text buffer e h f = c.formulas.within buffer (omega arith) f

  too_long_a_formula : (text buffer : List ℕ) → length text ≡ 1025 → formula_on text buffer ≡ answered 21 buffer
  too_long_a_formula text buffer h = c.formulas.outside text buffer (inl (omega arith))

  -- M-103: 32 bytes of parameters, all eight used, 8,192 bytes of both sheets
  all_parameters : (x : Sheet) (ps qs t : List ℕ) → length ps ≡ 32 → params_of_entries x.entries ≡ 8 → length (encode x) ≡ 8192 → length (encode (as_written_out (get ps) x)) ≡ 8192
      → compile_on (encode x) ps t ≡ compile_on (encode (as_written_out (get ps) x)) qs t
  all_parameters x ps qs t a b d e = c.parameters.written x ps (omega arith) (omega arith) (omega arith) (omega arith) qs t

  more_lent : (s ps qs t : List ℕ) → AreBytes s → length ps ≡ 32 → compile_on s (ps ++ qs) t ≡ compile_on s ps t
  more_lent s ps qs t a h = c.parameters.more_unread s ps qs t a (omega arith)

  -- M-102: the greatest divisor, the least, and -1 of all but the least word
  by_the_greatest : (a : ℕ) → a < 2 ^ 32 → (signed (result_of 7 a (2 ^ 31 - 1) 0) *ℤ signed (2 ^ 31 - 1)) ≤ℤ signed a
  by_the_greatest a h = c.quotients.at_most a (2 ^ 31 - 1) 0 h (omega arith) (omega arith)

  by_the_least : (a : ℕ) → a < 2 ^ 32 → signed a ≤ℤ (signed (result_of 7 a (2 ^ 31) 0) *ℤ signed (2 ^ 31))
  by_the_least a h = c.quotients.at_least a (2 ^ 31) 0 h (omega arith) (omega arith) (inr (omega arith))

  by_minus_one : (a : ℕ) → a < 2 ^ 32 → a ≢ 2 ^ 31 → signed a ≤ℤ (signed (result_of 7 a (2 ^ 32 - 1) 0) *ℤ signed (2 ^ 32 - 1))
  by_minus_one a h n = c.quotients.at_least a (2 ^ 32 - 1) 0 h (omega arith) (omega arith) (inl n)

  -- M-106: a table of 34,816 bytes and a round of 2,048; player 7
  rests : (ps t l : List ℕ) → length t ≡ 34816 → length l ≡ 2048 → (cs : List Call)
      → (arrive_on (compile_on [] ps t).1 (round_after (compile_on [] ps t).1 cs (start_on (compile_on [] ps t).1 l).1) 0 7).0 ≡ 15
  rests ps t l h k cs = (c.rest_day.at_rest ps t l (omega arith) (omega arith) cs).arrivals 0 7 (omega arith)

  -- M-107: player 7 where nobody is named; `leak` asked of it
  everybody_sends : (v : ℕ → ℕ) (s : Sheet) → length s.signals ≡ 1 → sent_sender s 0 ≡ none → may_send (fill v s) 7 0 ≡ true
  everybody_sends v s h n = c.rights.all_send v s 0 (omega arith) n 7 (omega arith)

  -- M-108: a full table
  full : (s ps t : List ℕ) → length t ≡ 34816 → (compile_on s ps t).0 ≡ number_on s ps
  full s ps t h = c.circles.full_table s ps t (omega arith)

  -- texts: 8,192 bytes of a sheet in a buffer of as many, and one byte less of it; 65,537 bytes of a text
  largest_sheet : (text buffer : List ℕ) (s : Sheet) → TextMeans text s → length (encode s) ≡ 8192 → length buffer ≡ 8192
      → assemble_on text buffer ≡ (written (length (encode s)), encode s ++ drop (length (encode s)) buffer)
  largest_sheet text buffer s m h k = c.texts.assembled text buffer s m (omega arith) (omega arith)

  a_byte_short : (text buffer : List ℕ) (s : Sheet) → TextMeans text s → length (encode s) ≡ 8192 → length buffer ≡ 8191
      → assemble_on text buffer ≡ refused_at short_buffer_fault (length text) text buffer
  a_byte_short text buffer s m h k = c.texts.short_buffer text buffer s m (omega arith) (omega arith)

  too_large_a_sheet : (text buffer : List ℕ) (s : Sheet) → TextMeans text s → length (encode s) ≡ 8193 → assemble_on text buffer ≡ refused_at long_sheet_fault (length text) text buffer
  too_large_a_sheet text buffer s m h = c.texts.long_sheet text buffer s m (omega arith)

  too_long_a_text : (text buffer : List ℕ) → length text ≡ 65537 → assemble_on text buffer ≡ refused_at long_text_fault 65536 text buffer
  too_long_a_text text buffer h = c.texts.long_text text buffer (omega arith)
