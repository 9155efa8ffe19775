-- Instances of the claims' hypotheses on whole sheets: the final's and that of two lights (crate engine_agree, Final
-- and Lights), in tables and rounds of just 01's lengths. Each is the claim applied, so that one whose hypothesis was
-- narrowed does not fit. `agree_for`, `pair`: hit and time-up meet at b0, the lights are independent. M-111: the final
-- with itself, and with the lights, whose ranks differ. M-104 and M-107: a commit with the mark, and a start.
use Rattle.lib_base.proofs.Prelude.{ℕ, ◌+◌, ◌≡◌, refl, ◌∙◌, sym, ap, subst, true, false, Bool, false≢true, ◌≢◌, ◌⊎◌}
use Rattle.lib_base.proofs.Prelude.{inr, inl, List, [], ◌∷◌, ◌++◌, map, flat_map, sum, flatten, zip_with, length, get_or}
use Rattle.lib_base.proofs.Prelude.{drop, replicate, arith}
use Rattle.lib_base.proofs.Tools.{split}
use Rattle.lib_arith.specs.Exact.{beyond}
use Rattle.lib_arith.specs.Functions.{exact, result_of, over}
use Rattle.spec_language.specs.Dependence.{size, handled, mentions, in_immediate, one, Independent}
use Rattle.spec_language.specs.Order.{met, find, order, up_to, met_at_once, phase_one}
use Rattle.spec_language.specs.Code.{size_of, postfix, in_order, copy_part, first_part, second_part, restore_part, code, instructions, all_instructions}
use Rattle.spec_language.specs.Sheet.{Sheet, cell_count, change_clauses, change_entries, rename_term, entries_out, fill_term, fill_clauses, fill_entries}
use Rattle.spec_language.specs.Grammar.{encode, encode_events, encode_behaviours, encode_handlers, encode_expr}
use Rattle.spec_language.specs.Answers.{told}
use Rattle.spec_semantics.specs.Meaning.{value, in_turn, first_phase, starts, fresh}
use Rattle.spec_execution.specs.Execution.{execute, emptied, times}
use Rattle.spec_model.specs.Model.{arrival, Call, arrive, step, Answer, refused, told_taken_in, shows, idle, ran, started, preempted, committed, call, act, Reply, says, carried_over, turn, run_turns, replies, begun}
use Rattle.secrecy_model.specs.Sight.{in_handlers}
use Rattle.ask_commute.specs.Meets.{Cone, itself, other_writes, OnlyAdd, MeetAt, NoneMeet}
use Rattle.back_compile.specs.Verdict.{compile_on}
use Rattle.back_compile.specs.Compiled.{program_of}
use Rattle.link_pooled.specs.Pooled.{merged_by_number, count, pooled, same_ranks}
use Rattle.link_join.specs.Join.{join_on}
use Rattle.link_join.specs.Joined.{joined}
use Rattle.ask_agree_for.specs.AgreeFor.{agree_for_on}
use Rattle.ask_agree_for.specs.Claims.{EncounterNamed}
use Rattle.ask_pair.specs.Pair.{pair_on}
use Rattle.ask_pair.specs.Claims.{AllOfThem, PairNamed}
use Rattle.run_dispatch.specs.Said.{said}
use Rattle.run_step.specs.Machine.{step_on}
use Rattle.refine_calls.specs.Refinement.{decoded, told_on, calls, turn_on_bytes, call_on, numbers_on, bytes_after}
use Rattle.refine_lists.specs.Lists.{CommitMark, decoded_reply, fresh_round_on, Prepared}
use Rattle.refine_halves.specs.HalfBoards.{Halves}
use Rattle.engine.specs.Demand.{EveryList}
use Rattle.engine_agree.specs.Final.{final, final_bytes, final_program}
use Rattle.engine_agree.proofs.Computed.{bytes}
use Rattle.engine_agree.proofs.Lights.{lights, lights_bytes, lights_program, lights_taken, lights_independent, lights_bytes_law}
use Rattle.claims.specs.Claims.{Claims}

final_size : size final_program ≡ 2
unfolding flat_map entries_out fill_entries
final_size = refl

lights_size : size lights_program ≡ 2
unfolding flat_map entries_out fill_entries
lights_size = refl

-- ---- hit and time-up meet at b0: the time-up writes it, and the hit reads it in its handler of b1; neither adds to it

module _ (D : ℕ → Type 0) (zeroth : D 0) (first : D 1) where
  met_at_b0 : MeetAt final_program D 0 1 0
  unfolding flat_map entries_out fill_term fill_clauses fill_entries handled mentions
  met_at_b0 = record {
    inside = zeroth;
    shared = other_writes refl (1, first, (refl, (0, refl, itself)));
    not_only_add = λ (a : OnlyAdd final_program D 0 1 0). a.one;
  }

-- b1 depends on b0 and on itself
b1_needs : Cone final_program 1 0
unfolding flat_map entries_out fill_term fill_clauses fill_entries mentions in_handlers
b1_needs = inr (one refl)

-- so they are not independent
dependent : Independent final_program 0 1 → ⊥
unfolding flat_map entries_out fill_term fill_clauses fill_entries handled mentions
dependent i = (i.1 0 refl).0 (in_immediate 1 refl refl, refl)

module _ (c : Claims) where
  -- b1 of the final: not 0, since they meet in what it depends on; b2 is no behaviour
  b1_is_not_0 : agree_for_on final_bytes [] 1 ≢ 0
  b1_is_not_0 z =
      ((c.agreement_for final_bytes [] 1 bytes tt).0 final refl c.condition_needed.taken).only_if (omega (arith, final_size)) z 0 1 (omega arith) (omega arith) (λ h. omega arith) 0
      (met_at_b0 (Cone final_program 1) b1_needs (inl refl))

  named_of_b1 : EncounterNamed final_program (Cone final_program 1) (agree_for_on final_bytes [] 1)
  named_of_b1 = ((c.agreement_for final_bytes [] 1 bytes tt).0 final refl c.condition_needed.taken).named (omega (arith, final_size)) b1_is_not_0

  no_b2 : agree_for_on final_bytes [] 2 ≡ 18
  no_b2 = ((c.agreement_for final_bytes [] 2 bytes tt).0 final refl c.condition_needed.taken).none_such (omega (arith, final_size))

  -- both lights: implied by `agree`, and no two events meet in either
  both_lights : (agree_for_on lights_bytes [] 0 ≡ 0) × (agree_for_on lights_bytes [] 1 ≡ 0)
  both_lights =
      let z = ((c.agreement lights_bytes [] lights_bytes_law tt).0 lights refl lights_taken).zero_if lights_independent in (
        ((c.agreement_for lights_bytes [] 0 lights_bytes_law tt).0 lights refl lights_taken).implied (omega (arith, lights_size)) z,
        ((c.agreement_for lights_bytes [] 1 lights_bytes_law tt).0 lights refl lights_taken).implied (omega (arith, lights_size)) z,
      )

  none_meet : NoneMeet lights_program (Cone lights_program 0)
  none_meet = ((c.agreement_for lights_bytes [] 0 lights_bytes_law tt).0 lights refl lights_taken).only_if (omega (arith, lights_size)) both_lights.0

  zero_again : agree_for_on lights_bytes [] 0 ≡ 0
  zero_again = ((c.agreement_for lights_bytes [] 0 lights_bytes_law tt).0 lights refl lights_taken).zero_if (omega (arith, lights_size)) none_meet

  -- ---- `pair`: the lights are independent; event 2 is not declared; hit and time-up meet at b0, the least there is
  two_lights : pair_on lights_bytes [] 0 1 ≡ 0
  two_lights =
      ((c.pairs lights_bytes [] 0 1 lights_bytes_law tt).0 lights refl lights_taken).zero_if (omega arith) (omega arith) (lights_independent 0 1 (omega arith) (omega arith) (λ h. omega arith))

  not_declared : (pair_on final_bytes [] 0 2 ≡ 15) × (pair_on final_bytes [] 2 0 ≡ 15)
  not_declared = (
    ((c.pairs final_bytes [] 0 2 bytes tt).0 final refl c.condition_needed.taken).undeclared_if (inr (omega arith)),
    ((c.pairs final_bytes [] 2 0 bytes tt).0 final refl c.condition_needed.taken).undeclared_if (inl (omega arith)),
  )

  named_pair : PairNamed final_program 0 1 (pair_on final_bytes [] 0 1)
  named_pair =
      let a = (c.pairs final_bytes [] 0 1 bytes tt).0 final refl c.condition_needed.taken in
      a.named (omega arith) (omega arith) (λ z. dependent (a.only_if (omega arith) (omega arith) z))

  at_b0 : named_pair.behaviour ≡ 0
  at_b0 =
      split named_pair.meet
      (λ m. omega (arith, named_pair.least_met m 0 (met_at_b0 AllOfThem tt tt)))
      (λ m. absurd (named_pair.none_met m 0 (met_at_b0 AllOfThem tt tt)))

-- ---- M-111: the final joined with itself has 136 bytes; with the lights, whose event 0 has another rank, 26

past : {A X B : Type 0} → A → ((A → ⊥) × X) ⊎ (A × B) → B
past a (inl h) = absurd (h.0 a)
past a (inr h) = h.1

unmet : {A X B : Type 0} → (A → ⊥) → ((A → ⊥) × X) ⊎ (A × B) → X
unmet n (inl h) = h.1
unmet n (inr h) = absurd (n h.0)

joined_bytes : length (encode (pooled final final)) ≡ 136
unfolding encode encode_events encode_behaviours encode_handlers encode_expr merged_by_number rename_term cell_count change_entries change_clauses
joined_bytes = refl

joined_count : count (pooled final final) ≡ 4
unfolding cell_count change_entries
joined_count = refl

joined_instructions : all_instructions (program_of [] (pooled final final)) ≡ 34
unfolding flat_map entries_out fill_term fill_clauses fill_entries handled up_to instructions all_instructions size_of sum merged_by_number rename_term cell_count change_entries change_clauses
joined_instructions = refl

one_scale : same_ranks final.signals final.signals ≡ true
unfolding same_ranks
one_scale = refl

other_scales : same_ranks final.signals lights.signals ≡ true → ⊥
unfolding same_ranks
other_scales h = false≢true h

module _ (c : Claims) where
  two_finals : (buffer : List ℕ) → length buffer ≡ 136 → (join_on final_bytes final_bytes [] buffer).0 ≡ 4294967432
  two_finals buffer h =
      let a = c.pooling.answer [] buffer tt final final c.condition_needed.taken c.condition_needed.taken in
      let d = past (omega (arith, joined_instructions)) (past (omega (arith, joined_count)) (past (omega (arith, joined_bytes)) (past one_scale a))) in
      past (omega (arith, joined_bytes)) d.1 ∙ ap (λ (n : ℕ). 4294967296 + n) joined_bytes

  a_byte_less : (buffer : List ℕ) → length buffer ≡ 135 → (join_on final_bytes final_bytes [] buffer).0 ≡ 27
  a_byte_less buffer h =
      let a = c.pooling.answer [] buffer tt final final c.condition_needed.taken c.condition_needed.taken in
      let d = past (omega (arith, joined_instructions)) (past (omega (arith, joined_count)) (past (omega (arith, joined_bytes)) (past one_scale a))) in
      unmet (λ k. omega (arith, joined_bytes)) d.1

  with_lights : (buffer : List ℕ) → (join_on final_bytes lights_bytes [] buffer).0 ≡ 26
  with_lights buffer = unmet other_scales (c.pooling.answer [] buffer tt final lights c.condition_needed.taken lights_taken)

  -- the bytes that it leaves, and the halves of its board
  whole_join : (buffer : List ℕ) → length buffer ≡ 136
      → join_on final_bytes final_bytes [] buffer ≡ joined (told (length (encode (pooled final final)))) (encode (pooled final final) ++ drop (length (encode (pooled final final))) buffer)
  whole_join buffer h =
      let r = two_finals buffer h in
      let n : (join_on final_bytes final_bytes [] buffer).0 ≡ told (length (encode (pooled final final))) = r ∙ sym (ap (λ (n : ℕ). 4294967296 + n) joined_bytes) in
      let w = c.pooling.written [] buffer tt final final c.condition_needed.taken c.condition_needed.taken (omega arith) in
      λ i. (n i, w i)

  halves_of_finals : (buffer t₀ l₀ t₁ l₁ t₂ l₂ : List ℕ) → length buffer ≡ 136 → length t₀ ≡ 34816 → length l₀ ≡ 2048
      → Prepared final_bytes [] t₁ l₁ final → Prepared final_bytes [] t₂ l₂ final
      → Halves final_program final_program (program_of [] (pooled final final)) (compile_on (encode (pooled final final)) [] t₀).1 l₀
      (compile_on final_bytes [] t₁).1 l₁ (compile_on final_bytes [] t₂).1 l₂
  halves_of_finals buffer t₀ l₀ t₁ l₁ t₂ l₂ h k m p q =
      (c.halves final_bytes final_bytes [] buffer (encode (pooled final final)) t₀ l₀ t₁ l₁ t₂ l₂ final final p q (omega arith) (omega arith) (whole_join buffer h)).1

-- ---- M-104 and M-107: event 0 of the lights runs over, and its commit, the eleventh step, has the mark

answer_in : Reply → Answer
answer_in (says a) = a
answer_in carried_over = idle

is_commit : Answer → Bool
is_commit (refused n) = false
is_commit told_taken_in = false
is_commit (shows v) = false
is_commit idle = false
is_commit ran = false
is_commit (started a) = false
is_commit (committed a m) = true
is_commit (preempted a) = false

abbrev all_but_one : List Call
all_but_one = arrive 0 0 ∷ replicate 10 step

module _ (c : Claims) (t l : List ℕ) (room : length t ≡ 34816) (space : length l ≡ 2048) where
  takes_lights : (compile_on lights_bytes [] t).0 ≡ 0
  takes_lights = ap (λ (r : ℕ × List ℕ). r.0) (c.sheets.exactly lights_bytes [] t lights_bytes_law (omega arith) lights refl lights_taken)

  of_lights : EveryList lights_bytes [] t l
  of_lights = c.lists.every_list lights_bytes [] t l lights_bytes_law tt (omega arith) takes_lights

  -- the replies, of the sheet that the bytes encode
  replied : (cs : List Call) → zip_with decoded_reply (map calls cs) (numbers_on (map calls cs) (fresh_round_on lights_bytes [] t l)) ≡ replies (map call cs) (begun lights_program)
  replied cs =
      subst (λ (x : Sheet). zip_with decoded_reply (map calls cs) (numbers_on (map calls cs) (fresh_round_on lights_bytes [] t l)) ≡ replies (map call cs) (begun (program_of [] x)))
      (c.sheets.one_sheet of_lights.sheet lights of_lights.taken.fits lights_taken.fits of_lights.bytes) (of_lights.calls cs).list.read

  abbrev answered : List Call → ℕ
  answered cs = (step_on (bytes_after (map calls cs) (fresh_round_on lights_bytes [] t l)).table (bytes_after (map calls cs) (fresh_round_on lights_bytes [] t l)).round).0

  starts_first : decoded step (answered (arrive 0 0 ∷ [])) ≡ started (arrival 0 0 0)
  unfolding answer_in numbers_on bytes_after turn_on_bytes call_on zip_with flat_map entries_out fill_term fill_clauses fill_entries handled mentions met find order up_to met_at_once phase_one value in_turn first_phase starts fresh emptied act turn run_turns replies code copy_part flatten first_part in_order postfix second_part restore_part execute exact result_of over beyond times
  starts_first = ap (λ (r : List Reply). answer_in (get_or r 1 carried_over)) (replied (arrive 0 0 ∷ step ∷ []))

  commits_last : decoded step (answered all_but_one) ≡ committed (arrival 0 0 0) true
  unfolding answer_in numbers_on bytes_after turn_on_bytes call_on zip_with flat_map entries_out fill_term fill_clauses fill_entries handled mentions met find order up_to met_at_once phase_one value in_turn first_phase starts fresh emptied act turn run_turns replies code copy_part flatten first_part in_order postfix second_part restore_part execute exact result_of over beyond times
  commits_last = ap (λ (r : List Reply). answer_in (get_or r 11 carried_over)) (replied (arrive 0 0 ∷ replicate 11 step))

  marked : CommitMark (program_of [] of_lights.sheet) (map call all_but_one) (arrival 0 0 0) true
  marked = (of_lights.calls all_but_one).list.mark (arrival 0 0 0) true commits_last

  -- 3 is a commit of arrival 0, event 0 from the host, without the mark
  told_without : told_on (answered all_but_one) ≡ 3
  unfolding said
  told_without = (of_lights.calls all_but_one).list.told_commit (arrival 0 0 0) true commits_last

  told_a_start : told_on (answered (arrive 0 0 ∷ [])) ≡ answered (arrive 0 0 ∷ [])
  unfolding is_commit
  told_a_start = (of_lights.calls (arrive 0 0 ∷ [])).list.told_else (λ a m q. false≢true (ap is_commit (sym starts_first ∙ q)))
