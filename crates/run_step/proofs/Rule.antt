-- A step's definition where one runs: the best of those that wait preempts it where it is unmasked and outranked, else
-- it goes on. Some that wait outrank it just where the best of them does, by `any_above_law`.
use Rattle.lib_base.proofs.Prelude.{ℕ, ◌<◌, ◌-◌, ◌≡◌, ◌∙◌, sym, true, false, Bool, true≢false, not, ◌≢◌, List, eqb, ltb}
use Rattle.lib_base.proofs.Prelude.{ne_eqb, eqb-true, eqb-false, ltb-true, arith}
use Rattle.lib_base.specs.Basics.{pick}
use Rattle.lib_base.proofs.Tools.{split}
use Rattle.lib_word.specs.Word.{get}
use Rattle.spec_language.specs.Refusals as refusals
use Rattle.format_layout.specs.Layout.{event_word, event_of, waiting_count, running_flag, running_event, position, event_at}
use Rattle.format_layout.specs.Foreign.{ours}
use Rattle.format_layout.specs.Round.{call_result}
use Rattle.run_queue.specs.Queue.{best, any_above}
use Rattle.run_queue.proofs.Choice.{any_above_law}
use Rattle.run_board.specs.Masking.{is_masked}
use Rattle.run_dispatch.specs.Dispatch.{preempt_at}
use Rattle.run_advance.specs.Advance.{advance_on}
use Rattle.run_step.specs.Machine.{meet, contest_on, while_running, step_with, step_in, step_on}
use Rattle.run_step.specs.Sound.{masked_now, is_outranked, is_preempted}

module _ (t l : List ℕ) (f : running_flag l ≢ 0) where
  abbrev n : ℕ
  n = waiting_count l

  abbrev rank : ℕ
  rank = event_word t (running_event l) 0

  outranked_is : is_outranked t l ≡ any_above t l rank n
  unfolding is_outranked
  outranked_is = rw (ne_eqb (running_flag l) 0 f)

  above_is : n ≢ 0 → is_outranked t l ≡ ltb rank (event_word t (event_at l (best t l n)) 0)
  above_is h = outranked_is ∙ any_above_law t l rank n (omega arith)

  -- nothing waits
  none_waits : n ≡ 0 → is_outranked t l ≡ false
  unfolding any_above
  none_waits e = outranked_is ∙ rw e

  pub some_wait : is_outranked t l ≡ true → n ≢ 0
  some_wait o e = true≢false (sym o ∙ none_waits e)

  -- the best of the hand outranks it
  pub best_outranks : is_outranked t l ≡ true → rank < event_word t (event_at l (best t l n)) 0
  best_outranks o = ltb-true rank (event_word t (event_at l (best t l n)) 0) (sym (above_is (some_wait o)) ∙ o)

  pub runs : step_in t l ≡ pick (is_preempted t l (is_outranked t l)) (preempt_at l (best t l n)) (advance_on t l)
  unfolding step_in step_with while_running contest_on meet is_preempted masked_now
  runs =
      let m = is_masked (event_word t (running_event l) 2) (event_word t (running_event l) 3) (position l) in
      rw (ne_eqb (running_flag l) 0 f)
      (split (eqb n 0)
      (λ e. rw (e, none_waits (eqb-true n 0 e)))
      (λ e. rw (e, above_is (eqb-false n 0 e))
      (split (ltb rank (event_word t (event_at l (best t l n)) 0)) (λ o. rw o (split m (λ k. rw k) (λ k. rw k))) (λ o. rw o (split m (λ k. rw k) (λ k. rw k))))))

-- ---- what the code's tests are made of

module _ (t l : List ℕ) where
  pub none_runs : {f : ℕ} → f ≡ get l 2 → f ≡ 0 → false ≡ is_outranked t l
  unfolding is_outranked
  none_runs p h = rw (← p, h)

  pub one_runs : {f e p n : ℕ} {r : Bool} → f ≡ get l 2 → f ≢ 0 → e ≡ event_of (get l 3) → p ≡ event_word t e 0 → n ≡ get l 1 → r ≡ any_above t l p n → r ≡ is_outranked t l
  unfolding is_outranked
  one_runs {f} a h b c d k = rw (← a, ne_eqb f 0 h, ← b, ← c, ← d) k

  pub stays : {o : Bool} → o ≡ false → false ≡ is_preempted t l o
  unfolding is_preempted
  stays h = rw h

  pub tests : {o : Bool} {e len m c : ℕ} {x : Bool} → o ≡ true → e ≡ event_of (get l 3) → len ≡ event_word t e 2 → m ≡ event_word t e 3 → c ≡ get l 5 → x ≡ is_masked len m c
      → not x ≡ is_preempted t l o
  unfolding is_preempted masked_now
  tests h a b c d k = rw (h, ← a, ← b, ← c, ← d, ← k)

  pub foreign : {x : Bool} → x ≡ ours t l → x ≡ false → call_result refusals.foreign l ≡ step_on t l
  unfolding step_on
  foreign p h = rw (← p, h)
