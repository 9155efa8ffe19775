-- Preview on the bytes is the model engine's: the copy stands for the same engine as the round, its words being the
-- same, and each call on it agrees, until idle.
use Rattle.lib_base.proofs.Prelude.{ℕ, ◌≤◌, ◌<◌, ◌+◌, suc, zero, ◌*◌, ◌≡◌, refl, ◌∙◌, sym, ap, subst, true, false, Bool}
use Rattle.lib_base.proofs.Prelude.{◌≢◌, ◌⊎◌, ⊎_elim, inr, inl, Option, List, length, take, length-take-le, get_or-take}
use Rattle.lib_base.proofs.Prelude.{leb, ne_eqb, le-ltb, le-leb, leb-false, leb-true, arith}
use Rattle.lib_base.specs.Basics.{pick}
use Rattle.lib_base.proofs.Tools.{by_two}
use Rattle.lib_word.specs.Word.{get_at, get, words, pile}
use Rattle.lib_word.proofs.Laws.{long}
use Rattle.spec_language.specs.Syntax.{Program}
use Rattle.spec_language.specs.Dependence.{size, events}
use Rattle.spec_language.specs.Valid.{Valid}
use Rattle.spec_language.specs.Rights.{may_see}
use Rattle.spec_language.specs.Refusals as refusals
use Rattle.spec_semantics.specs.Meaning.{at}
use Rattle.spec_execution.specs.Execution.{Values}
use Rattle.spec_execution.proofs.CodeRight.{code_facts}
use Rattle.spec_model.specs.Model.{Running, rest, busy, Engine, engine, arrive, step, Answer, refused, told_taken_in, shows, idle, ran, started, preempted, committed, act, run}
use Rattle.spec_model.specs.Claims.{store_of, after, longest, count_in, shown_after, foreseen}
use Rattle.spec_model.specs.Told.{unless_refused, previewed}
use Rattle.spec_model.proofs.States.{Idle}
use Rattle.spec_model.proofs.Reached.{Reached, act_keeps}
use Rattle.spec_model.proofs.Previews.{only_steps, idle_stays, idle_steps, idle_within}
use Rattle.format_layout.specs.Layout.{event_of, player_of}
use Rattle.format_image.proofs.ImageLaws.{Says}
use Rattle.format_layout.specs.Round.{CallResult}
use Rattle.run_arrive.specs.Arrivals.{arrive_on}
use Rattle.run_dispatch.specs.Said.{said}
use Rattle.run_advance.specs.Mark.{over_mark}
use Rattle.run_step.specs.Machine.{step_on}
use Rattle.run_preview.specs.Preview.{last_step, to_idle, in_hand, preview_steps, preview_answer, shown_in, preview_seen, preview_taken, preview_after, preview_copy, preview_on}
use Rattle.refine_calls.specs.Refinement.{coded, call_on}
use Rattle.refine_calls.proofs.Slots.{slots_same}
use Rattle.refine_calls.proofs.Values.{Found, filled_below, Holds, value_at_law}
use Rattle.refine_calls.proofs.Relation.{RunIs, Alike, Agree, count_is}
use Rattle.refine_calls.proofs.Agrees.{call_agrees}
use Rattle.refine_calls.proofs.Forecasts.{longest_is}
use Rattle.refine_calls.proofs.Refines.{valid}
use Rattle.refine_calls.proofs.Coded.{ToArrive, ToStep, answer_to_law}

-- ---- the copy has the round's words

pub taken_word : (l : List ℕ) (k : ℕ) → k < 512 → get (take 2048 l) k ≡ get l k
unfolding get get_at
taken_word l k b =
    rw (
      get_or-take 2048 l (k * 4) 0 (omega arith),
      get_or-take 2048 l (k * 4 + 1) 0 (omega arith),
      get_or-take 2048 l (k * 4 + 2) 0 (omega arith),
      get_or-take 2048 l (k * 4 + 3) 0 (omega arith),
    )

module _ (l m : List ℕ) (same : (k : ℕ) → k < 512 → get m k ≡ get l k) where
  words_same : (a n : ℕ) → a + n ≤ 512 → words m a n ≡ words l a n
  unfolding words
  words_same a zero b = refl
  words_same a (suc n) b = rw (same a (omega arith), words_same (suc a) n (omega arith))

  pile_same : (a n : ℕ) → a + n ≤ 512 → pile m a n ≡ pile l a n
  unfolding pile
  pile_same a zero b = refl
  pile_same a (suc n) b = rw (same (a + n) (omega arith), pile_same a n (omega arith))

  found_same : (a : ℕ) (s : List (Option ℕ)) → a + length s ≤ 512 → Found l a s → Found m a s
  found_same a s b f = λ i v e. let h : i < length s = filled_below s i v e in same (a + i) (omega arith) ∙ f i v e

  runs_same : (r : Running) → RunIs l r → RunIs m r
  runs_same rest h = same 2 (omega arith) ∙ h
  runs_same (busy a c) h = (same 2 (omega arith) ∙ h.0, ap event_of (same 3 (omega arith)) ∙ h.1, same 4 (omega arith) ∙ h.2, same 5 (omega arith) ∙ h.3, ap player_of (same 3 (omega arith)) ∙ h.4)

  module _ (n : ℕ) (small : n ≤ 64) where
    holds_same : (d : Values) → Holds n l d → Holds n m d
    holds_same d h = record {
      store = words_same 136 n (omega arith) ∙ h.store;
      stack = rw (same 6 (omega arith)) (pile_same 328 (get l 6) (omega (arith, h.shallow)) ∙ h.stack);
      shallow = rw (same 6 (omega arith)) h.shallow;
      scratched = h.scratched;
      placed = h.placed;
      scratch = found_same 200 d.scratch (omega (arith, h.scratched)) h.scratch;
      deferred = found_same 264 d.deferred (omega (arith, h.placed)) h.deferred;
      mark = rw (same 7 (omega arith)) h.mark;
    }

    alike_same : (w : Engine) → long m ≡ true → Alike n l w → Alike n m w
    alike_same (engine k q r d) g R = record {
      whole = g;
      few = rw (same 1 (omega arith)) R.few;
      number = same 0 (omega arith) ∙ R.number;
      queue = rw (same 1 (omega arith), slots_same l m (get l 1) R.few (λ j x y. same j (omega arith))) R.queue;
      runs = runs_same r R.runs;
      values = holds_same d R.values;
    }

whole_of : (n : ℕ) (l : List ℕ) (w : Engine) → Alike n l w → 2048 ≤ length l
unfolding long
whole_of n l (engine k q r d) R = leb-true 2048 (length l) R.whole

copy_alike : (n : ℕ) (l : List ℕ) (w : Engine) → n ≤ 64 → Alike n l w → Alike n (take 2048 l) w
unfolding long
copy_alike n l w small R =
    let z : length (take 2048 l) ≡ 2048 = length-take-le 2048 l (whole_of n l w R) in
    alike_same l (take 2048 l) (taken_word l) n small w (le-leb 2048 (length (take 2048 l)) (omega arith)) R

-- ---- the last step

goes : (k n e who : ℕ) → 1 < k → k < 14 → last_step (said k n e who) ≡ false
unfolding last_step said
goes k n e who h b =
    let v : ℕ = n * 65536 + e * 256 + who * 16 + k in
    rw (ne_eqb v 0 (omega arith)) (ne_eqb v 14 (omega arith))

marked_goes : (n e who : ℕ) (m : Bool) → last_step (pick m (over_mark + said 3 n e who) (said 3 n e who)) ≡ false
unfolding last_step said
marked_goes n e who true =
    let v : ℕ = n * 65536 + e * 256 + who * 16 + 3 in
    rw (ne_eqb (72057594037927936 + v) 0 (omega arith)) (ne_eqb (72057594037927936 + v) 14 (omega arith))
marked_goes n e who false = goes 3 n e who (omega arith) (omega arith)

idle_or_goes : (a : Answer) → ToStep a → (a ≡ idle) ⊎ (last_step (coded a) ≡ false)
unfolding last_step
idle_or_goes (refused n) h = absurd h
idle_or_goes told_taken_in h = absurd h
idle_or_goes (shows v) h = absurd h
idle_or_goes idle h = inl refl
idle_or_goes ran h = inr refl
idle_or_goes (started a) h = inr (goes 2 a.number a.event a.player (omega arith) (omega arith))
idle_or_goes (preempted a) h = inr (goes 4 a.number a.event a.player (omega arith) (omega arith))
idle_or_goes (committed a m) h = inr (marked_goes a.number a.event a.player m)

module _ (p : Program) (valid : Valid p) (t : List ℕ) (table : Says p t) where
  few : events p ≤ 256
  few = omega (arith, table.few_events)

  step_agrees : (l : List ℕ) (w : Engine) → Alike (size p) l w → Reached p w → Agree (size p) l (step_on t l) (act p step w)
  unfolding call_on
  step_agrees l w R r = call_agrees p valid t table step l w R r

  arrive_agrees : (e who : ℕ) (l : List ℕ) (w : Engine) → Alike (size p) l w → Reached p w → Agree (size p) l (arrive_on t l e who) (act p (arrive e who) w)
  unfolding call_on
  arrive_agrees e who l w R r = call_agrees p valid t table (arrive e who) l w R r

  -- ---- to idle

  -- the last step answered idle, and the round stands for the engine v
  abbrev IdleAs : CallResult → Engine → Type 0
  IdleAs x v = (x.0 ≡ 0) × Alike (size p) x.1 v

  ends : (n : ℕ) (l : List ℕ) → last_step (step_on t l).0 ≡ true → to_idle t (suc n) l ≡ step_on t l
  unfolding to_idle
  ends n l h = rw h

  goes_on : (n : ℕ) (l : List ℕ) → last_step (step_on t l).0 ≡ false → to_idle t (suc n) l ≡ to_idle t n (step_on t l).1
  unfolding to_idle
  goes_on n l h = rw h

  idle_now : (n : ℕ) (l : List ℕ) (w : Engine) → Alike (size p) l w → Reached p w → Idle p w → IdleAs (to_idle t (suc n) l) w
  unfolding last_step
  idle_now n l w R r h =
      let a = step_agrees l w R r in
      let z : (step_on t l).0 ≡ 0 = a.answered ∙ ap coded h in
      let q : to_idle t (suc n) l ≡ step_on t l = ends n l (ap last_step z) in
      subst (λ (x : CallResult). IdleAs x w) (sym q) (z, subst (Alike (size p) (step_on t l).1) (idle_stays p w h) a.alike)

  to_idle_law : (n : ℕ) (l : List ℕ) (w : Engine) → Alike (size p) l w → Reached p w → Idle p (run p (only_steps n) w)
      → IdleAs (to_idle t (suc n) l) (run p (only_steps n) w)
  unfolding run
  to_idle_law zero l w R r h = idle_now 0 l w R r h
  to_idle_law (suc n) l w R r h =
      let a = step_agrees l w R r in
      ⊎_elim
      (λ i. subst (IdleAs (to_idle t (suc (suc n)) l)) (sym (idle_steps p (suc n) w i)) (idle_now (suc n) l w R r i))
      (λ g.
      let q : to_idle t (suc (suc n)) l ≡ to_idle t (suc n) (step_on t l).1 = goes_on (suc n) l (ap last_step a.answered ∙ g) in
      let k = to_idle_law n (step_on t l).1 (act p step w).after a.alike (act_keeps p (code_facts p valid) step w r) h in
      subst (λ (x : CallResult). IdleAs x (run p (only_steps n) (act p step w).after)) (sym q) k)
      (idle_or_goes (act p step w).answer (answer_to_law p few step w r))

  count_agrees : (l : List ℕ) (w : Engine) → Alike (size p) l w → preview_steps t l ≡ count_in p w
  unfolding preview_steps in_hand longest
  count_agrees l (engine k q rest d) R =
      rw (R.runs, count_is (size p) table.few_behaviours l k q rest d R, table.event_count_law, longest_is p valid t table (events p) (omega arith))
  count_agrees l (engine k q (busy a c) d) R =
      let z : length q + 1 ≡ suc (length q) = omega arith in
      rw (
        R.runs.0,
        count_is (size p) table.few_behaviours l k q (busy a c) d R,
        table.event_count_law,
        longest_is p valid t table (events p) (omega arith),
        z,
      )

  -- ---- the value

  value_in : (l : List ℕ) (w : Engine) (i : ℕ) → i < size p → Alike (size p) l w → get l (136 + i) ≡ at (store_of w) i
  value_in l (engine k q r d) i b R = value_at_law (size p) table.few_behaviours l d i b R.values

  shown_agrees : (x : CallResult) (v : Engine) (i : ℕ) → i < size p → IdleAs x v → shown_in x i ≡ 4294967296 + at (store_of v) i
  unfolding shown_in preview_answer
  shown_agrees x v i b h = rw (h.0, value_in x.1 v i b h.1)

  taken_agrees : (l : List ℕ) (w : Engine) (i who : ℕ) → Alike (size p) l w → Reached p w
      → preview_taken t l i who
      ≡ coded (pick (leb (size p) i) (refused refusals.no_behaviour) (pick (may_see p who i) (shown_after p w i) (refused refusals.no_right)))
  unfolding preview_taken preview_seen
  taken_agrees l w i who R r =
      let n : preview_steps t l + 1 ≡ suc (count_in p w) = ap (λ (k : ℕ). k + 1) (count_agrees l w R) ∙ omega arith in
      rw (table.behaviour_count_law, n)
      (by_two (λ (x : ℕ) (y : Answer). x ≡ coded y) (leb (size p) i) (λ _. refl)
      (λ b. let here : i < size p = leb-false (size p) i b in
      rw (table.viewers i here)
      (by_two (λ (x : ℕ) (y : Answer). x ≡ coded y) (may_see p who i)
      (λ _.
      shown_agrees (to_idle t (suc (count_in p w)) l) (run p (only_steps (count_in p w)) w) i here
      (to_idle_law (count_in p w) l w R r (idle_within p (code_facts p valid) w r)))
      (λ _. refl))))

  -- ---- turned down as the arrival would be

  module _ (l : List ℕ) (w : Engine) (R : Alike (size p) l w) (r : Reached p w) (e who : ℕ) where
    abbrev copy : List ℕ
    copy = take 2048 l

    copied : Agree (size p) copy (arrive_on t copy e who) (act p (arrive e who) w)
    copied = arrive_agrees e who copy w (copy_alike (size p) l w table.few_behaviours R) r

    -- the number that the round answers the arrival with, and so does the copy
    answered : (arrive_on t l e who).0 ≡ coded (act p (arrive e who) w).answer
    answered = (arrive_agrees e who l w R r).answered

    on_copy : (arrive_on t copy e who).0 ≡ (arrive_on t l e who).0
    on_copy = copied.answered ∙ sym answered

    pub preview_refused : (i : ℕ) → (arrive_on t l e who).0 ≢ 0 → preview_on t l e i who ≡ (arrive_on t l e who).0
    unfolding preview_on preview_copy preview_after
    preview_refused i h = rw (le-ltb (length l) 2048 (whole_of (size p) l w R), on_copy, ne_eqb (arrive_on t l e who).0 0 h)

    pub preview_taken_law : (i : ℕ) → (arrive_on t l e who).0 ≡ 0 → preview_on t l e i who ≡ coded (foreseen p w e i who)
    unfolding preview_on preview_copy preview_after
    preview_taken_law i h =
        rw (le-ltb (length l) 2048 (whole_of (size p) l w R), on_copy, h)
        (taken_agrees (arrive_on t copy e who).1 (act p (arrive e who) w).after i who copied.alike (act_keeps p (code_facts p valid) (arrive e who) w r))

  -- both at once, the answer a to the arrival having the number n
  by_answer : (a y : Answer) (n x : ℕ) → ToArrive a → n ≡ coded a → (n ≢ 0 → x ≡ n) → (n ≡ 0 → x ≡ coded y) → x ≡ coded (unless_refused a y)
  by_answer (refused k) y n x h e f g = f (omega arith) ∙ e
  by_answer told_taken_in y n x h e f g = g e
  by_answer (shows v) y n x h e f g = absurd h
  by_answer idle y n x h e f g = absurd h
  by_answer ran y n x h e f g = absurd h
  by_answer (started a) y n x h e f g = absurd h
  by_answer (preempted a) y n x h e f g = absurd h
  by_answer (committed a m) y n x h e f g = absurd h

  pub preview_agrees : (l : List ℕ) (w : Engine) (e i who : ℕ) → Alike (size p) l w → Reached p w → preview_on t l e i who ≡ coded (previewed p w e i who)
  preview_agrees l w e i who R r =
      by_answer (act p (arrive e who) w).answer (foreseen p w e i who) (arrive_on t l e who).0 (preview_on t l e i who) (answer_to_law p few (arrive e who) w r)
      (answered l w R r e who) (preview_refused l w R r e who i) (preview_taken_law l w R r e who i)
