-- Demand 1, for all bytes: no call writes beyond the table's 34,816 bytes or the round's 2,048, and their lengths stay.
-- Each call only puts words, and wherever its tests let it come to a put, the place is below word 8,704 or 512.
use Rattle.lib_base.proofs.Prelude.{ℕ, ◌≤◌, ◌<◌, ◌+◌, ◌-◌, suc, zero, ◌%◌, ◌/◌, ◌≡◌, refl, ◌∙◌, sym, ap, subst, true}
use Rattle.lib_base.proofs.Prelude.{false, Bool, ◌≢◌, by_cases, List, [], ◌∷◌, length, get_or, drop, replicate}
use Rattle.lib_base.proofs.Prelude.{length-drop, ext_get_or, get_or-drop, eqb, ltb, leb, ℕ_discrete, ltb-false, eqb-false}
use Rattle.lib_base.proofs.Prelude.{le-leb, leb-false, arith}
use Rattle.lib_base.specs.Basics.{All}
use Rattle.lib_base.proofs.Tools.{by_test}
use Rattle.lib_word.proofs.Laws.{long}
use Rattle.lib_signature.specs.Numbers.{not_fn, if_fn}
use Rattle.spec_language.specs.Rights.{may}
use Rattle.spec_semantics.proofs.Lengths.{length_fresh}
use Rattle.spec_model.specs.Model.{Call, arrive, step, board}
use Rattle.format_layout.specs.Layout.{event_count, event_word, senders_at, taken, waiting_count, running_flag, running_word, running_event, running_number, position, depth, number_at, word_at, event_at}
use Rattle.format_layout.specs.Foreign.{table_fits, ours}
use Rattle.format_layout.proofs.BoundsLaws.{bounds}
use Rattle.format_image.specs.Table.{table_of}
use Rattle.format_image.proofs.ImageLaws.{length_table, beyond_table}
use Rattle.back_compile.specs.Verdict.{compile_on}
use Rattle.back_compile.specs.Compiled.{Compiled, program_of}
use Rattle.back_compile.proofs.AcceptedExactly.{accepted_exactly, refused_unchanged}
use Rattle.run_queue.specs.Queue.{best, better, either_slot, ahead}
use Rattle.format_layout.specs.Round.{CallResult}
use Rattle.run_start.specs.Start.{start_on}
use Rattle.run_instruction.specs.Stack.{push_on, pop_to, noted, apply_one, apply_two, apply_three, apply_on}
use Rattle.run_instruction.specs.Allowed.{may_run}
use Rattle.run_instruction.proofs.AllowedLaws.{slot_small}
use Rattle.run_instruction.specs.Instruction.{transfer, perform}
use Rattle.run_carry.specs.Carry.{carry_on, shown_for, store_shown}
use Rattle.run_arrive.specs.Arrivals.{queue_full, arrive_with, arrive_known, arrive_in, arrive_on}
use Rattle.run_board.specs.Board.{copy_back_on}
use Rattle.run_board.specs.Masking.{is_masked}
use Rattle.run_mend.specs.Mending.{hand_known, back_in_hand, rested, verdict, mended, mend_with, mend_after, mend_in, mend_on}
use Rattle.run_dispatch.specs.Dispatch.{start_at, preempt_at}
use Rattle.run_advance.specs.Advance.{count_instruction, execute_on, execute_at, advance_on}
use Rattle.run_step.specs.Machine.{meet, contest_on, while_running, while_resting, step_with, step_in, step_on}
use Rattle.refine_calls.specs.Refinement.{call_on, turn_on_bytes, bytes_after, round_after, Kept}
use Rattle.refine_calls.proofs.Slots.{kept_all, kept_put, kept_trans, kept_slot, kept_run}
use Rattle.refine_calls.proofs.Relation.{admit_kept}
use Rattle.refine_calls.proofs.FreshRound.{fresh_kept}
use Rattle.refine_calls.proofs.Refines.{short_code}
use Rattle.refine_lists.proofs.Sheets.{table_room, program_accepted}
use Rattle.engine.specs.Beyond.{UntouchedFrom}

untouched : (n : ℕ) (l m : List ℕ) → length m ≡ length l → ((j : ℕ) → n ≤ j → get_or m j 0 ≡ get_or l j 0) → UntouchedFrom n l m
untouched n l m e h = (
  ext_get_or 0 (drop n m) (drop n l) (length-drop n m ∙ ap (λ (k : ℕ). k - n) e ∙ sym (length-drop n l))
      (λ i b. get_or-drop n m i 0 ∙ h (n + i) (omega arith) ∙ sym (get_or-drop n l i 0)),
  e,
)

within : (l m : List ℕ) → Kept l m → UntouchedFrom 2048 l m
within l m k = untouched 2048 l m k.as_long k.beyond

-- a call's result keeps what is beyond the round
abbrev Keeps : List ℕ → CallResult → Type 0
Keeps l o = Kept l o.1

-- ---- start, arrive

start_keeps : (t l : List ℕ) → Keeps l (start_on t l)
unfolding start_on long
start_keeps t l =
    by_test (Keeps l) (table_fits t)
    (λ _. by_test (Keeps l) (ltb (length l) 2048) (λ _. kept_all l) (λ b. fresh_kept t l (le-leb 2048 (length l) (ltb-false (length l) 2048 b))))
    (λ _. kept_all l)

full_room : (n f : ℕ) → queue_full n f ≡ false → n < 64
unfolding queue_full
full_room n f =
    by_test (λ b. b ≡ false → n < 64) (eqb f 0) (λ _ h. leb-false 64 n h) (λ _ h. let k : n < 63 = leb-false 63 n h in omega arith)

arrive_keeps : (t l : List ℕ) (e who : ℕ) → Keeps l (arrive_on t l e who)
unfolding arrive_on arrive_in arrive_known arrive_with
arrive_keeps t l e who =
    by_test (Keeps l) (ours t l)
    (λ _. by_test (Keeps l) (leb 8 who) (λ _. kept_all l)
    (λ _. by_test (Keeps l) (leb (event_count t) e) (λ _. kept_all l)
    (λ _. by_test (Keeps l) (may (senders_at t e) who)
    (λ _. by_test (Keeps l) (queue_full (waiting_count l) (running_flag l)) (λ _. kept_all l)
    (λ h. by_test (Keeps l) (leb 1000000 (taken l)) (λ _. kept_all l)
    (λ _. admit_kept 0 (omega arith) l e who (waiting_count l) (taken l) (full_room (waiting_count l) (running_flag l) h))))
    (λ _. kept_all l))))
    (λ _. kept_all l)

-- ---- one instruction

module _ (l : List ℕ) (d : ℕ) (shallow : d ≤ 64) where
  push_kept : (v : ℕ) → Kept l (push_on l d v)
  unfolding push_on
  push_kept v = kept_put _ 6 (d + 1) (omega arith) (kept_put l (328 + d) v (omega arith) (kept_all l))

  pop_kept : (k : ℕ) → k < 512 → Kept l (pop_to l d k)
  unfolding pop_to
  pop_kept k b = kept_put _ 6 (d - 1) (omega arith) (kept_put l k _ b (kept_all l))

  noted_kept : (m : Bool) → Kept l (noted l m)
  unfolding noted
  noted_kept true = kept_put l 7 1 (omega arith) (kept_all l)
  noted_kept false = kept_all l

  apply_kept : (f : ℕ) → Kept l (apply_on l d f)
  unfolding apply_on apply_one apply_two apply_three
  apply_kept f =
      by_test (Kept l) (eqb f not_fn) (λ _. kept_put _ (327 + d) _ (omega arith) (noted_kept _))
      (λ _. by_test (Kept l) (eqb f if_fn) (λ _. kept_put _ 6 (d - 2) (omega arith) (kept_put _ (325 + d) _ (omega arith) (noted_kept _)))
      (λ _. kept_put _ 6 (d - 1) (omega arith) (kept_put _ (326 + d) _ (omega arith) (noted_kept _))))

  transfer_kept : (k j : ℕ) → j < 512 → Kept l (transfer l k j)
  unfolding transfer
  transfer_kept k j b = kept_put l j _ b (kept_all l)

  perform_kept : (op s w : ℕ) → s < 64 → Kept l (perform l op s w d)
  unfolding perform
  perform_kept op s w b =
      by_test (Kept l) (eqb op 3) (λ _. transfer_kept (136 + s) (200 + s) (omega arith))
      (λ _. by_test (Kept l) (eqb op 4) (λ _. transfer_kept (200 + s) (136 + s) (omega arith))
      (λ _. by_test (Kept l) (eqb op 5) (λ _. push_kept w)
      (λ _. by_test (Kept l) (eqb op 6) (λ _. push_kept _)
      (λ _. by_test (Kept l) (eqb op 7) (λ _. push_kept _)
      (λ _. by_test (Kept l) (eqb op 8) (λ _. apply_kept s)
      (λ _. by_test (Kept l) (eqb op 9) (λ _. pop_kept (200 + s) (omega arith))
      (λ _. by_test (Kept l) (eqb op 10) (λ _. pop_kept (264 + s) (omega arith))
      (λ _. by_test (Kept l) (eqb op 11) (λ _. transfer_kept (264 + s) (200 + s) (omega arith)) (λ _. kept_all l)))))))))

count_keeps : (l m : List ℕ) (c e n len : ℕ) → Kept l m → Keeps l (count_instruction m c e n len)
unfolding count_instruction
count_keeps l m c e n len h =
    by_test (Keeps l) (ltb (c + 1) len) (λ _. kept_put m 5 (c + 1) (omega arith) h) (λ _. kept_put m 2 0 (omega arith) h)

execute_keeps : (l : List ℕ) (a w c e n len : ℕ) → depth l ≤ 64 → Keeps l (execute_on l a w c e n len)
unfolding execute_on
execute_keeps l a w c e n len b =
    by_test (Keeps l) (may_run (a / 256) (a % 256) (depth l))
    (λ h. count_keeps l _ c e n len (perform_kept l (depth l) b (a / 256) (a % 256) w (slot_small (a / 256) (a % 256) (depth l) h)))
    (λ _. kept_all l)

advance_keeps : (t l : List ℕ) → depth l ≤ 64 → Keeps l (advance_on t l)
unfolding advance_on execute_at
advance_keeps t l b = execute_keeps l _ _ (position l) (running_word l) (running_number l) (event_word t (running_event l) 2) b

-- ---- steps

best_low : (t l : List ℕ) (n : ℕ) → best t l n ≤ n - 1
unfolding best better either_slot
best_low t l zero = omega arith
best_low t l (suc n) =
    by_test (λ b. b ≤ suc n - 1) (ahead (event_word t (event_at l n) 0) (number_at l n) (event_word t (event_at l (best t l n)) 0) (number_at l (best t l n)))
    (λ _. omega arith) (λ _. omega (arith, best_low t l n))

start_at_keeps : (l : List ℕ) (b m : ℕ) → b < 64 → Keeps l (start_at l b m)
unfolding start_at
start_at_keeps l b m h = kept_run _ (number_at l b) (word_at l b) (kept_put _ 1 m (omega arith) (kept_slot l b (number_at l m) (word_at l m) h (kept_all l)))

preempt_keeps : (l : List ℕ) (b : ℕ) → b < 64 → Keeps l (preempt_at l b)
unfolding preempt_at
preempt_keeps l b h = kept_run _ (number_at l b) (word_at l b) (kept_slot l b (running_number l) (running_word l) h (kept_all l))

contest_keeps : (t l : List ℕ) (b : ℕ) → depth l ≤ 64 → b < 64 → Keeps l (contest_on t l b)
unfolding contest_on meet
contest_keeps t l b s h =
    by_test (Keeps l) (is_masked (event_word t (running_event l) 2) (event_word t (running_event l) 3) (position l)) (λ _. advance_keeps t l s)
    (λ _. by_test (Keeps l) (ltb (event_word t (running_event l) 0) (event_word t (event_at l b) 0)) (λ _. preempt_keeps l b h) (λ _. advance_keeps t l s))

step_in_keeps : (t l : List ℕ) → waiting_count l ≤ 64 → depth l ≤ 64 → Keeps l (step_in t l)
unfolding step_in step_with while_resting while_running
step_in_keeps t l w s =
    let n = waiting_count l in
    let b : best t l n < 64 = omega (arith, best_low t l n) in
    by_test (Keeps l) (eqb (running_flag l) 0)
    (λ _. by_test (Keeps l) (eqb n 0) (λ _. kept_all l) (λ _. start_at_keeps l (best t l n) (n - 1) b))
    (λ _. by_test (Keeps l) (eqb n 0) (λ _. advance_keeps t l s) (λ _. contest_keeps t l (best t l n) s b))

step_keeps : (t l : List ℕ) → Keeps l (step_on t l)
unfolding step_on
step_keeps t l =
    by_test (Keeps l) (ours t l) (λ o. let r = (bounds t l o).round in step_in_keeps t l r.few_waiting r.shallow) (λ _. kept_all l)

-- ---- a change of sheets

back_keeps : (l : List ℕ) (n f k w : ℕ) → (f ≢ 0 → n ≤ 63) → Kept l (back_in_hand l n f k w)
unfolding back_in_hand
back_keeps l n f k w h =
    by_test (Kept l) (eqb f 0) (λ _. kept_all l)
    (λ e. let room : n ≤ 63 = h (eqb-false f 0 e) in kept_put _ 1 (n + 1) (omega arith) (kept_slot l n k w (omega arith) (kept_all l)))

rested_keeps : {l : List ℕ} (m : List ℕ) → Kept l m → Kept l (rested m)
unfolding rested
rested_keeps m h = kept_put _ 7 0 (omega arith) (kept_put _ 6 0 (omega arith) (kept_put m 2 0 (omega arith) h))

shown_keeps : (t m : List ℕ) {l : List ℕ} (o : List ℕ) (n : ℕ) → n ≤ 64 → Kept l o → Kept l (store_shown t m o n)
unfolding store_shown
shown_keeps t m o zero b h = h
shown_keeps t m o (suc n) b h = kept_put _ (136 + n) (shown_for t m n) (omega arith) (shown_keeps t m o n (omega arith) h)

mended_keeps : (t m l : List ℕ) → (running_flag l ≢ 0 → waiting_count l ≤ 63) → Kept l (mended t m l)
unfolding mended
mended_keeps t m l h =
    shown_keeps t m _ 64 (omega arith) (rested_keeps _ (back_keeps l (waiting_count l) (running_flag l) (running_number l) (running_word l) h))

mend_keeps : (old t l : List ℕ) → Keeps l (mend_on old t l)
unfolding mend_on mend_in mend_after mend_with
mend_keeps old t l =
    let r = carry_on old t l (replicate 2048 0) in
    by_test (Keeps l) (ours old l)
    (λ o. by_test (Keeps l) (table_fits t)
    (λ _. by_test (Keeps l) (eqb (verdict r.0 (copy_back_on old l) (hand_known t l)) 0) (λ _. mended_keeps t r.1 l (bounds old l o).round.room) (λ _. kept_all l))
    (λ _. kept_all l))
    (λ _. kept_all l)

pub mend_beyond : (old t l : List ℕ) → UntouchedFrom 2048 l (mend_on old t l).1
mend_beyond old t l = within l (mend_on old t l).1 (mend_keeps old t l)

-- ---- every call, and every list of calls

pub start_beyond : (t l : List ℕ) → UntouchedFrom 2048 l (start_on t l).1
start_beyond t l = within l (start_on t l).1 (start_keeps t l)

pub arrive_beyond : (t l : List ℕ) (e who : ℕ) → UntouchedFrom 2048 l (arrive_on t l e who).1
arrive_beyond t l e who = within l (arrive_on t l e who).1 (arrive_keeps t l e who)

pub step_beyond : (t l : List ℕ) → UntouchedFrom 2048 l (step_on t l).1
step_beyond t l = within l (step_on t l).1 (step_keeps t l)

call_keeps : (t : List ℕ) (c : Call) (l : List ℕ) → Keeps l (call_on t c l)
unfolding call_on
call_keeps t (arrive e who) l = arrive_keeps t l e who
call_keeps t step l = step_keeps t l
call_keeps t (board i who) l = kept_all l

calls_keep : (t : List ℕ) (cs : List Call) (l : List ℕ) → Kept l (round_after t cs l)
unfolding round_after bytes_after turn_on_bytes
calls_keep t [] l = kept_all l
calls_keep t (c ∷ cs) l = kept_trans (call_keeps t c l) (calls_keep t cs (call_on t c l).1)

pub calls_beyond : (t : List ℕ) (cs : List Call) (l : List ℕ) → UntouchedFrom 2048 l (round_after t cs l)
calls_beyond t cs l = within l (round_after t cs l) (calls_keep t cs l)

-- ---- compile

pub compile_beyond : (s ps t : List ℕ) → All (λ b. b < 256) s → All (λ b. b < 256) ps → UntouchedFrom 34816 t (compile_on s ps t).1
compile_beyond s ps t bytes words =
    by_cases (ℕ_discrete (compile_on s ps t).0 0)
    (λ h.
    let room = table_room s ps t h in
    let k = (accepted_exactly s ps t bytes room).0 h in
    let p = program_of ps k.0 in
    let ok = program_accepted ps words k.0 k.2 in
    let few = ok.fits.few_events in
    let small = ok.fits.few_behaviours in
    let seen : length p.viewers ≤ 64 = omega (arith, ok.fits.all_viewers) in
    let sent : length p.senders ≤ 32 = omega (arith, ok.fits.all_senders) in
    subst (λ (m : List ℕ). UntouchedFrom 34816 t m) (sym (ap (λ (o : Compiled). o.1) k.3))
    (untouched 34816 t (table_of p t) (length_table p few small (length_fresh p) (short_code p ok) seen sent t room) (beyond_table p few small (length_fresh p) (short_code p ok) seen sent t room)))
    (λ h. subst (λ (m : List ℕ). UntouchedFrom 34816 t m) (sym (refused_unchanged s ps t h)) (refl, refl))
