-- Each call on the bytes agrees with the model's: it is never foreign, the bytes' choice is the model's, and each
-- outcome stands for the model's engine. By clauses on the engine, following the same tests on both sides.
use Rattle.lib_base.proofs.Prelude.{ℕ, ◌≤◌, ◌<◌, ◌+◌, ◌-◌, suc, zero, ◌%◌, ◌/◌, ◌≡◌, refl, ◌∙◌, sym, ap, subst, true}
use Rattle.lib_base.proofs.Prelude.{false, Bool, not, List, [], ◌∷◌, List-as-Permᴰ, List·Permᴰ·trans, List-as-Nodup}
use Rattle.lib_base.proofs.Prelude.{List·Permᴰ·cons, Permᴰ·symm, Pairwise·of-cons, length, get_or, take, eqb, ltb, leb}
use Rattle.lib_base.proofs.Prelude.{ne_eqb, le-ltb, lt-ltb, lt-leb, leb-false, leb-true, arith}
use lib.Dec.{leb-suc-suc}
use Rattle.lib_base.specs.Basics.{pick, All}
use Rattle.lib_base.proofs.Tools.{by_test, all_perm, all_imp, by_two}
use Rattle.lib_word.specs.Word.{get, put}
use Rattle.lib_word.proofs.Laws.{long}
use Rattle.spec_language.specs.Syntax.{Program}
use Rattle.spec_language.specs.Dependence.{size, events}
use Rattle.spec_language.specs.Code.{off, code, members}
use Rattle.spec_language.specs.Valid.{Valid}
use Rattle.spec_language.specs.Rights.{may_send, may_see}
use Rattle.spec_execution.specs.Execution.{Values, execute}
use Rattle.spec_execution.specs.CodeFacts.{CodeFacts, masked_at, copying_back_at}
use Rattle.spec_execution.specs.Safe.{start, filled_after, Matches}
use Rattle.spec_execution.proofs.CodeRight.{code_facts}
use Rattle.spec_execution.proofs.SafeLaws.{code_at}
use Rattle.spec_model.specs.Model.{Arrival, Running, rest, busy, Engine, engine, queue, Call, arrive, step, board, Answer, Chosen, rank, before, aside, choose, act}
use Rattle.spec_model.specs.Model as model
use Rattle.spec_model.proofs.Choice.{numbers, distinct_numbers, perm_rest, Leads, leads_trans, before_says, choose_perm, choose_first, one_next}
use Rattle.spec_model.proofs.Reached.{Fine, Reached, back_perm}
use Rattle.format_layout.specs.Layout.{event_word, event_of, player_of, number_at, word_at, event_at}
use Rattle.format_layout.specs.Foreign.{hand_fits, slots_fit, running_fits, round_with, round_in, round_fits, ours}
use Rattle.format_image.specs.Image.{operation, constant}
use Rattle.format_image.proofs.ImageLaws.{Says}
use Rattle.run_queue.specs.Queue.{ahead, either_slot, better, best, put_slot}
use Rattle.run_instruction.specs.Instruction.{perform}
use Rattle.run_arrive.specs.Arrivals.{queue_full, arrive_with, arrive_known, arrive_in, arrive_on}
use Rattle.run_board.specs.Board.{board_with, board_known, board_in, board_on}
use Rattle.run_board.specs.Masking.{is_copying_back, is_masked, copy_back_with, copy_back_under_way}
use Rattle.run_dispatch.specs.Dispatch.{start_at, preempt_at}
use Rattle.run_dispatch.specs.Said.{said}
use Rattle.run_advance.specs.Advance.{commit_said, count_instruction, execute_on, execute_at}
use Rattle.run_advance.specs.Mark.{over_mark}
use Rattle.run_advance.specs.Advance as advancing
use Rattle.run_step.specs.Machine.{meet, contest_on, while_running, while_resting, step_with, step_in, step_on}
use Rattle.refine_calls.specs.Refinement.{coded, arrival_of, slots, call_on}
use Rattle.refine_calls.proofs.Slots.{slot, slots_same, slots_swap, take_out, reads, kept_all, kept_put, kept_slot, kept_run}
use Rattle.refine_calls.proofs.Values.{value_at_law, head_holds}
use Rattle.refine_calls.proofs.Instructions.{Does, does}
use Rattle.refine_calls.proofs.Relation.{Rel, Alike, Agree, slots_all, slot_holds, run_rel, admit_rel, admit_kept, count_is}

-- ---- masking, as the table's counts give it

copying_is : (len m c : ℕ) → m < len → is_copying_back len m c ≡ copying_back_at len m c
unfolding is_copying_back
copying_is len m c h = let z : len - m - 1 ≡ len - (m + 1) = omega arith in rw (lt-leb len m h, z)

masked_is : (len m c : ℕ) → m < len → is_masked len m c ≡ masked_at len m c
unfolding is_masked
masked_is len m c h = rw (copying_is len m c h) (ap (λ (x : Bool). pick (copying_back_at len m c) true x) (early c))
  where
    early : (c : ℕ) → pick (eqb c 0) false (leb (c - 1) m) ≡ pick (eqb c 0) false (leb c (m + 1))
    early zero = refl
    early (suc c) =
        let z : suc c - 1 ≡ c = omega arith in
        let y : m + 1 ≡ suc m = omega arith in
        rw (ne_eqb (suc c) 0 (omega arith), z, y) (sym (leb-suc-suc c m))

-- a commit's answer, by the mark in the bytes
commit_coded : (a : Arrival) (hand w : ℕ) (b : Bool) → event_of hand ≡ a.event → player_of hand ≡ a.player → not (eqb w 0) ≡ b
    → commit_said a.number hand w ≡ coded (model.committed a b)
unfolding commit_said
commit_coded a hand w b e u h =
    rw (e, u)
    (subst (λ (x : Bool). pick (eqb w 0) (said 3 a.number a.event a.player) (over_mark + said 3 a.number a.event a.player) ≡ coded (model.committed a x)) h
    (turned (eqb w 0)))
  where
    turned : (t : Bool)
        → pick t (said 3 a.number a.event a.player) (over_mark + said 3 a.number a.event a.player) ≡ coded (model.committed a (not t))
    turned true = refl
    turned false = refl

-- an arrival of one of `known` events and one of eight players
abbrev pub Signed : ℕ → Arrival → Type 0
Signed known a = (a.event < known) × (a.player < 8)

hand_fits_law : (known w e who : ℕ) → event_of w ≡ e → player_of w ≡ who → e < known → who < 8 → hand_fits known w ≡ true
unfolding hand_fits
hand_fits_law known w e who p q h k = rw (p, q, lt-leb known e h) (lt-ltb who 8 k)

slots_fit_law : (l : List ℕ) (known n : ℕ) → All (Signed known) (slots l n) → slots_fit l known n ≡ true
unfolding slots slots_fit
slots_fit_law l known zero h = refl
slots_fit_law l known (suc n) h =
    rw (hand_fits_law known (word_at l n) (event_of (word_at l n)) (player_of (word_at l n)) refl refl h.0.0 h.0.1) (slots_fit_law l known n h.1)

module _ (p : Program) (valid : Valid p) (t : List ℕ) (table : Says p t) where
  facts : CodeFacts p
  facts = code_facts p valid

  small : size p ≤ 64
  small = table.few_behaviours

  -- ---- neither table nor round is foreign

  signed_slots : (l : List ℕ) (k : ℕ) (q : List Arrival) (r : Running) (d : Values) → Rel (size p) l k q r d → Reached p (engine k q r d)
      → All (Signed (events p)) (slots l (get l 1))
  signed_slots l k q r d R i =
      all_perm _ (Permᴰ·symm R.queue) (all_imp (Fine p k) (Signed (events p)) (λ a f. (f.1, f.2)) q (waiting_fine r i.fine))
    where
      waiting_fine : (r : Running) → All (Fine p k) (queue q r) → All (Fine p k) q
      waiting_fine rest f = f
      waiting_fine (busy a c) f = f.1

  pub known_slots : (l : List ℕ) (k : ℕ) (q : List Arrival) (r : Running) (d : Values) → Rel (size p) l k q r d → Reached p (engine k q r d)
      → All (λ (a : Arrival). a.event < events p) (slots l (get l 1))
  known_slots l k q r d R i =
      all_imp (Signed (events p)) (λ (a : Arrival). a.event < events p) (λ a f. f.0) (slots l (get l 1)) (signed_slots l k q r d R i)

  running_fits_law : (l : List ℕ) (k : ℕ) (q : List Arrival) (r : Running) (d : Values) → Rel (size p) l k q r d → Reached p (engine k q r d)
      → running_fits (get l 1) (get l 2) (hand_fits (events p) (get l 3)) (get l 5) (event_word t (event_of (get l 3)) 2) ≡ true
  unfolding running_fits
  running_fits_law l k q rest d R i = rw R.runs
  running_fits_law l k q (busy a c) d R i =
      let n = count_is (size p) small l k q (busy a c) d R in
      let e : a.event < events p = i.fine.0.1 in
      let b : get l 1 ≤ 63 = omega (arith, i.few) in
      let f = hand_fits_law (events p) (get l 3) a.event a.player R.runs.1 R.runs.4 e i.fine.0.2 in
      rw (R.runs.0, f, R.runs.1, R.runs.3, table.lengths a.event e, le-ltb 63 (get l 1) b)
      (lt-ltb c (length (code p a.event)) i.done.0)

  pub ours_is : (l : List ℕ) (k : ℕ) (q : List Arrival) (r : Running) (d : Values) → Rel (size p) l k q r d → Reached p (engine k q r d) → ours t l ≡ true
  unfolding ours round_fits round_in round_with long
  ours_is l k q r d R i =
      let b : 2048 ≤ length l = leb-true 2048 (length l) R.whole in
      rw (
        table.fits,
        le-ltb (length l) 2048 b,
        le-ltb 64 (get l 1) R.few,
        le-ltb 64 (get l 6) R.values.shallow,
        table.event_count_law,
        running_fits_law l k q r d R i,
      ) (slots_fit_law l (events p) (get l 1) (signed_slots l k q r d R i))

  -- ---- one instruction

  module _
      (l : List ℕ) (k : ℕ) (q : List Arrival) (a : Arrival) (c : ℕ) (d : Values)
      (R : Rel (size p) l k q (busy a c) d) (i : Reached p (engine k q (busy a c) d)) where
    declared : a.event < events p
    declared = i.fine.0.1

    within : c < length (code p a.event)
    within = i.done.0

    instr_does : let x = get_or (code p a.event) c off in Does (size p) l (execute x d) (operation x / 256) (operation x % 256) (constant x)
    instr_does =
        let s = code_at p valid a.event i.from i.sized c within in
        let f = filled_after (start (size p)) (take c (code p a.event)) in
        does (size p) small l d R.whole R.values f (subst (λ (v : Values). Matches v f) (sym i.done.1) s.0) (get_or (code p a.event) c off) s.1

    abbrev performed : List ℕ
    performed = let x = get_or (code p a.event) c off in perform l (operation x / 256) (operation x % 256) (constant x) (get l 6)

    advance_opens : advancing.advance_on t l ≡ count_instruction performed c (get l 3) a.number (length (code p a.event))
    unfolding advancing.advance_on execute_at execute_on
    advance_opens =
        let e = declared in
        rw (
          R.runs.1,
          R.runs.2,
          R.runs.3,
          table.starts a.event e,
          table.lengths a.event e,
          table.operations a.event c e within,
          table.constants a.event c e within,
          instr_does.may,
        )

    -- the head and the queue are as they were
    performed_slots : slots performed (get performed 1) ≡ slots l (get l 1)
    performed_slots =
        let f = instr_does.framed in
        rw (f.same 1 (omega arith) (omega arith)) (slots_same l performed (get l 1) R.few (λ j x y. f.same j y (omega arith)))

    advance_agrees : Agree (size p) l (advancing.advance_on t l) (model.advance p k q a c d)
    unfolding count_instruction
    advance_agrees =
        let x = instr_does in
        let f = x.framed in
        let m = performed in
        let h : long m ≡ true = f.whole ∙ R.whole in
        let n : get m 1 ≤ 64 = rw (f.same 1 (omega arith) (omega arith)) R.few in
        let u : List-as-Permᴰ (slots m (get m 1)) q = rw performed_slots R.queue in
        rw advance_opens
        (by_two (Agree (size p) l) (ltb (c + 1) (length (code p a.event)))
        (λ _. record {
          answered = refl;
          alike = record {
            whole = simp reads h;
            few = simp (reads, h) n;
            number = simp (reads, h) (f.same 0 (omega arith) (omega arith) ∙ R.number);
            queue = simp (reads, h) u;
            runs = (
              simp (reads, h) (f.same 2 (omega arith) (omega arith) ∙ R.runs.0),
              simp (reads, h) (ap event_of (f.same 3 (omega arith) (omega arith)) ∙ R.runs.1),
              simp (reads, h) (f.same 4 (omega arith) (omega arith) ∙ R.runs.2),
              simp (reads, h),
              simp (reads, h) (ap player_of (f.same 3 (omega arith) (omega arith)) ∙ R.runs.4),
            );
            values = head_holds (size p) small m 5 (c + 1) (execute (get_or (code p a.event) c off) d) (omega arith) (omega arith) x.holds;
          };
          kept = kept_put m 5 (c + 1) (omega arith) f.kept;
        })
        (λ _. record {
          answered = commit_coded a (get l 3) (get m 7) _ R.runs.1 R.runs.4 x.holds.mark;
          alike = record {
            whole = simp reads h;
            few = simp (reads, h) n;
            number = simp (reads, h) (f.same 0 (omega arith) (omega arith) ∙ R.number);
            queue = simp (reads, h) u;
            runs = simp (reads, h);
            values = head_holds (size p) small m 2 0 (execute (get_or (code p a.event) c off) d) (omega arith) (omega arith) x.holds;
          };
          kept = kept_put m 2 0 (omega arith) f.kept;
        }))

  -- ---- the choice

  -- the best of the first n slots leads them all
  best_leads : (l : List ℕ) (n : ℕ) → ((i : ℕ) → i < n → event_at l i < events p)
      → All (Leads p (slot l (best t l n))) (slots l n) × (best t l n ≤ n - 1)
  unfolding slots best better either_slot ahead
  best_leads l zero h = (tt, omega arith)
  best_leads l (suc n) h =
      let ih = best_leads l n (λ i b. h i (omega arith)) in
      let j = best t l n in
      let b = slot l j in
      let chosen : best t l (suc n) ≡ pick (before p (slot l n) b) n j =
      rw (table.priorities (event_at l n) (h n (omega arith)), table.priorities (event_at l j) (h j (omega arith))) refl in
      subst (λ (x : ℕ). All (Leads p (slot l x)) (slots l (suc n)) × (x ≤ suc n - 1)) (sym chosen)
      (by_test (λ (x : ℕ). All (Leads p (slot l x)) (slots l (suc n)) × (x ≤ suc n - 1)) (before p (slot l n) b)
      (λ e.
      let s = (before_says p (slot l n) b).0 e in
      (((omega arith, λ q. omega arith), all_imp _ _ (λ y k. leads_trans p (slot l n) b y s k) (slots l n) ih.0), omega arith))
      (λ e. (((before_says p (slot l n) b).1 e, ih.0), omega arith)))

  -- it is the model's choice, and what is left of the slots is what is left of the waiting
  pub record Next (l : List ℕ) (m : ℕ) (c : Chosen) : Type 0 where
    pub next_is : slot l (best t l (suc m)) ≡ c.next
    pub others_are : List-as-Permᴰ (slots (put_slot l (best t l (suc m)) (number_at l m) (word_at l m)) m) c.others
    pub best_below : best t l (suc m) ≤ m

  next_agrees : (l : List ℕ) (m : ℕ) (b : Arrival) (w : List Arrival) → long l ≡ true → suc m ≤ 64
      → All (λ (a : Arrival). a.event < events p) (slots l (suc m)) → List-as-Permᴰ (slots l (suc m)) (b ∷ w) → List-as-Nodup (numbers (b ∷ w)) → Next l m (choose p b w)
  next_agrees l m b w h f u d k =
      let i = best t l (suc m) in
      let c = choose p b w in
      let g = best_leads l (suc m) (λ j x. slots_all (λ (a : Arrival). a.event < events p) l (suc m) j x u) in
      let n : i ≤ m = omega arith in
      let q = slots (put_slot l i (number_at l m) (word_at l m)) m in
      let x = take_out l i m h f n in
      let y : List-as-Permᴰ (slot l i ∷ q) (c.next ∷ c.others) = List·Permᴰ·trans (Permᴰ·symm x) (List·Permᴰ·trans d (choose_perm p b w)) in
      let z = distinct_numbers (choose_perm p b w) k in
      let e = one_next p (slot l i) c.next q c.others y (all_perm (Leads p (slot l i)) x g.0) (choose_first p b w).1 z in
      record {
        next_is = e;
        others_are = perm_rest c.next (subst (λ (a : Arrival). List-as-Permᴰ (a ∷ q) (c.next ∷ c.others)) e y) z;
        best_below = n;
      }

  -- ---- the next starts

  start_agrees : (l : List ℕ) (m k : ℕ) (b : Arrival) (w : List Arrival) (d : Values) → get l 1 ≡ suc m
      → Rel (size p) l k (b ∷ w) rest d → Next l m (choose p b w)
      → Agree (size p) l (start_at l (best t l (suc m)) m) (model.outcome (model.started (choose p b w).next) (model.begin p k (choose p b w) d))
  unfolding start_at
  start_agrees l m k b w d n R x =
      let h : long l ≡ true = R.whole in
      let f : suc m ≤ 64 = omega (arith, R.few) in
      let i = best t l (suc m) in
      let j : i < 64 = omega (arith, x.best_below) in
      let s = put_slot l i (number_at l m) (word_at l m) in
      record {
        answered = ap (λ (y : Arrival). said 2 y.number y.event y.player) x.next_is;
        alike = run_rel (size p) small (put s 1 m) k (choose p b w).others d (number_at l i) (word_at l i) (choose p b w).next
            (simp reads h) (simp (reads, h) (omega arith)) (simp (reads, h) R.number) (simp (reads, h) x.others_are)
            (head_holds (size p) small s 1 m d (omega arith) (omega arith) (slot_holds (size p) small l i (number_at l m) (word_at l m) d j R.values))
            x.next_is;
        kept = kept_run (put s 1 m) (number_at l i) (word_at l i) (kept_put s 1 m (omega arith) (kept_slot l i (number_at l m) (word_at l m) j (kept_all l)));
      }

  preempt_agrees : (l : List ℕ) (m k : ℕ) (b : Arrival) (w : List Arrival) (a : Arrival) (c : ℕ) (d : Values) → get l 1 ≡ suc m
      → Rel (size p) l k (b ∷ w) (busy a c) d → List-as-Nodup (numbers (a ∷ (b ∷ w))) → Next l m (choose p b w)
      → Agree (size p) l (preempt_at l (best t l (suc m))) (model.outcome (model.preempted (choose p b w).next) (model.begin p k (aside p a (choose p b w)) d))
  unfolding preempt_at
  preempt_agrees l m k b w a c d n R u x =
      let h : long l ≡ true = R.whole in
      let f : suc m ≤ 64 = omega (arith, R.few) in
      let v : List-as-Permᴰ (slots l (suc m)) (b ∷ w) = rw n at R.queue in
      let i = best t l (suc m) in
      let j : i < 64 = omega (arith, x.best_below) in
      let o = choose p b w in
      let hand = get l 3 in
      let s = put_slot l i a.number hand in
      let own : arrival_of a.number hand ≡ a = λ j. model.arrival a.number (R.runs.1 j) (R.runs.4 j) in
      let e : List-as-Permᴰ (a ∷ slots l (suc m)) (slot l i ∷ slots s (suc m)) =
      subst (λ (z : Arrival). List-as-Permᴰ (z ∷ slots l (suc m)) (slot l i ∷ slots s (suc m))) own
      (slots_swap l i a.number hand (suc m) h f (omega (arith, x.best_below))) in
      let y : List-as-Permᴰ (slot l i ∷ slots s (suc m)) (o.next ∷ (a ∷ o.others)) =
      List·Permᴰ·trans (Permᴰ·symm e) (List·Permᴰ·trans (List·Permᴰ·cons refl v) (back_perm p a b w)) in
      let z = distinct_numbers (back_perm p a b w) u in
      let r = perm_rest o.next (subst (λ (y : Arrival). List-as-Permᴰ (y ∷ slots s (suc m)) (o.next ∷ (a ∷ o.others))) x.next_is y) z in
      rw R.runs.2
      (record {
        answered = ap (λ (y : Arrival). said 4 y.number y.event y.player) x.next_is;
        alike = run_rel (size p) small s k (a ∷ o.others) d (number_at l i) (word_at l i) o.next
            (simp reads h) (simp reads R.few) (simp reads R.number) (simp (reads, n) r)
            (slot_holds (size p) small l i a.number hand d j R.values) x.next_is;
        kept = kept_run s (number_at l i) (word_at l i) (kept_slot l i a.number hand j (kept_all l));
      })

  -- ---- steps

  masked_agrees : (a : Arrival) (c : ℕ) → a.event < events p → c < length (code p a.event)
      → is_masked (length (code p a.event)) (members p a.event) c ≡ model.masked p a c
  masked_agrees a c e b =
      masked_is (length (code p a.event)) (members p a.event) c (omega (arith, facts.long a.event e)) ∙ sym (facts.masks a.event c e b)

  contest_agrees : (l : List ℕ) (m k : ℕ) (b : Arrival) (w : List Arrival) (a : Arrival) (c : ℕ) (d : Values) → get l 1 ≡ suc m
      → Rel (size p) l k (b ∷ w) (busy a c) d → Reached p (engine k (b ∷ w) (busy a c) d)
      → Agree (size p) l (contest_on t l (best t l (suc m))) (model.contest p k (b ∷ w) (choose p b w) a c d)
  unfolding contest_on meet
  contest_agrees l m k b w a c d n R r =
      let e : a.event < events p = r.fine.0.1 in
      let u : All (λ (y : Arrival). y.event < events p) (slots l (suc m)) = rw n at (known_slots l k (b ∷ w) (busy a c) d R r) in
      let x = next_agrees l m b w R.whole (omega (arith, R.few)) u (rw n at R.queue) (Pairwise·of-cons r.distinct) in
      let o = (choose p b w).next in
      let y : o.event < events p = (all_perm (Fine p k) (choose_perm p b w) r.fine.1).0.1 in
      rw (
        R.runs.1,
        R.runs.3,
        ap (λ (z : Arrival). z.event) x.next_is,
        table.priorities a.event e,
        table.priorities o.event y,
        table.lengths a.event e,
        table.in_C a.event e,
        masked_agrees a c e r.done.0,
      )
      (by_two (Agree (size p) l) (model.masked p a c)
      (λ _. advance_agrees l k (b ∷ w) a c d R r)
      (λ _. by_two (Agree (size p) l) (ltb (rank p a) (rank p o))
      (λ _. preempt_agrees l m k b w a c d n R r.distinct x)
      (λ _. advance_agrees l k (b ∷ w) a c d R r)))

  step_agrees : (l : List ℕ) (w : Engine) → Alike (size p) l w → Reached p w → Agree (size p) l (step_on t l) (act p step w)
  unfolding step_on step_in step_with while_resting while_running act
  step_agrees l (engine k [] rest d) R r =
      rw (ours_is l k [] rest d R r, R.runs, count_is (size p) small l k [] rest d R) (record { answered = refl; alike = R; kept = kept_all l })
  step_agrees l (engine k (b ∷ w) rest d) R r =
      let n = count_is (size p) small l k (b ∷ w) rest d R in
      let z : suc (length w) - 1 ≡ length w = omega arith in
      let u : All (λ (y : Arrival). y.event < events p) (slots l (suc (length w))) = rw n at (known_slots l k (b ∷ w) rest d R r) in
      let x = next_agrees l (length w) b w R.whole (omega (arith, R.few)) u (rw n at R.queue) r.distinct in
      rw (ours_is l k (b ∷ w) rest d R r, R.runs, n, ne_eqb (suc (length w)) 0 (omega arith), z) (start_agrees l (length w) k b w d n R x)
  step_agrees l (engine k [] (busy a c) d) R r =
      rw (ours_is l k [] (busy a c) d R r, R.runs.0, count_is (size p) small l k [] (busy a c) d R) (advance_agrees l k [] a c d R r)
  step_agrees l (engine k (b ∷ w) (busy a c) d) R r =
      let n = count_is (size p) small l k (b ∷ w) (busy a c) d R in
      rw (ours_is l k (b ∷ w) (busy a c) d R r, R.runs.0, n, ne_eqb (suc (length w)) 0 (omega arith)) (contest_agrees l (length w) k b w a c d n R r)

  -- ---- arrivals

  full_is : (l : List ℕ) (k : ℕ) (q : List Arrival) (r : Running) (d : Values) → Rel (size p) l k q r d
      → queue_full (get l 1) (get l 2) ≡ leb 64 (length (queue q r))
  unfolding queue_full
  full_is l k q rest d R = rw (R.runs, count_is (size p) small l k q rest d R)
  full_is l k q (busy a c) d R = rw (R.runs.0, count_is (size p) small l k q (busy a c) d R) (sym (leb-suc-suc 63 (length q)))

  room : (l : List ℕ) (k : ℕ) (q : List Arrival) (r : Running) (d : Values) → Rel (size p) l k q r d → leb 64 (length (queue q r)) ≡ false → get l 1 < 64
  room l k q rest d R x = omega (arith, count_is (size p) small l k q rest d R, leb-false)
  room l k q (busy a c) d R x = omega (arith, count_is (size p) small l k q (busy a c) d R, leb-false)

  arrive_agrees : (l : List ℕ) (e who : ℕ) (w : Engine) → Alike (size p) l w → Reached p w → Agree (size p) l (arrive_on t l e who) (act p (arrive e who) w)
  unfolding arrive_on arrive_in arrive_known arrive_with act
  arrive_agrees l e who (engine k q r d) R i =
      rw (ours_is l k q r d R i, full_is l k q r d R, table.event_count_law, R.number)
      (by_two (Agree (size p) l) (leb 8 who) (λ _. record { answered = refl; alike = R; kept = kept_all l })
      (λ _. by_two (Agree (size p) l) (leb (events p) e) (λ _. record { answered = refl; alike = R; kept = kept_all l })
      (λ y. let few : e < events p = leb-false (events p) e y in
      rw (table.senders e few)
      (by_two (Agree (size p) l) (may_send p who e)
      (λ _. by_two (Agree (size p) l) (leb 64 (length (queue q r))) (λ _. record { answered = refl; alike = R; kept = kept_all l })
      (λ x. by_two (Agree (size p) l) (leb 1000000 k) (λ _. record { answered = refl; alike = R; kept = kept_all l })
      (λ _. let b : get l 1 < 64 = room l k q r d R x in
      let small_event : e < 256 = omega (arith, table.few_events) in
      record {
        answered = refl;
        alike = admit_rel (size p) small l e who k q r d small_event b R;
        kept = admit_kept (size p) small l e who (get l 1) k b;
      })))
      (λ _. record { answered = refl; alike = R; kept = kept_all l })))))

  -- ---- board readings

  pub copy_back_is : (l : List ℕ) (k : ℕ) (q : List Arrival) (r : Running) (d : Values) → Rel (size p) l k q r d → Reached p (engine k q r d)
      → copy_back_under_way t l ≡ model.in_copy_back p r
  unfolding copy_back_under_way copy_back_with
  copy_back_is l k q rest d R i = rw R.runs
  copy_back_is l k q (busy a c) d R i =
      let e : a.event < events p = i.fine.0.1 in
      rw (R.runs.0, R.runs.1, R.runs.3, table.lengths a.event e, table.in_C a.event e)
      (copying_is (length (code p a.event)) (members p a.event) c (omega (arith, facts.long a.event e))
      ∙ sym (facts.copies_back a.event c e i.done.0))

  board_answers : (l : List ℕ) (i who k : ℕ) (q : List Arrival) (r : Running) (d : Values) → Rel (size p) l k q r d → Reached p (engine k q r d)
      → board_on t l i who ≡ coded (model.read p i who r d)
  unfolding board_on board_in board_known board_with
  board_answers l i who k q r d R x =
      rw (ours_is l k q r d R x, copy_back_is l k q r d R x, table.behaviour_count_law)
      (by_two (λ (v : ℕ) (x : Answer). v ≡ coded x) (leb 8 who) (λ _. refl)
      (λ _. by_two (λ (v : ℕ) (x : Answer). v ≡ coded x) (leb (size p) i) (λ _. refl)
      (λ b. let here : i < size p = leb-false (size p) i b in
      rw (table.viewers i here)
      (by_two (λ (v : ℕ) (x : Answer). v ≡ coded x) (may_see p who i)
      (λ _. by_two (λ (v : ℕ) (x : Answer). v ≡ coded x) (model.in_copy_back p r) (λ _. refl)
      (λ _. ap (λ (v : ℕ). 4294967296 + v) (value_at_law (size p) small l d i here R.values)))
      (λ _. refl)))))

  -- ---- any call

  pub call_agrees : (c : Call) (l : List ℕ) (w : Engine) → Alike (size p) l w → Reached p w → Agree (size p) l (call_on t c l) (act p c w)
  unfolding call_on act
  call_agrees (arrive e who) l w R i = arrive_agrees l e who w R i
  call_agrees step l w R i = step_agrees l w R i
  call_agrees (board i who) l (engine k q r d) R x = record { answered = board_answers l i who k q r d R x; alike = R; kept = kept_all l }
