-- What one recorded call is, by its kind, and what the loops over the calls keep: what is left gives the whole. Assumes
-- nothing.
use Rattle.lib_base.proofs.Prelude.{ℕ, ◌≤◌, ◌<◌, ◌+◌, ◌-◌, suc, ◌*◌, ◌≡◌, ◌∙◌, sym, ap, Bool, ◌≢◌, List, length}
use Rattle.lib_base.proofs.Prelude.{get_or, ne_eqb, eq-eqb, arith}
use Rattle.lib_word.specs.Word.{get_at}
use Rattle.spec_model.specs.Model.{Call}
use Rattle.format_layout.specs.Round.{CallResult, call_result}
use Rattle.run_arrive.specs.Arrivals.{arrive_on}
use Rattle.run_board.specs.Board.{board_on}
use Rattle.run_step.specs.Machine.{step_on}
use Rattle.run_answers.specs.Answers.{put_answer}
use Rattle.run_step.specs.Sound.{RoundSound, is_outranked, outranked_after}
use Rattle.refine_calls.specs.Refinement.{call_on, turn_on_bytes, numbers_on, bytes_after, answers_on, round_after}
use Rattle.engine.specs.Replay.{call_of, calls_from, put_answers}
use Rattle.engine.specs.RowOfSteps.{RowOfSteps}

pub call_arrive : (t l : List ℕ) (kind n who : ℕ) → kind ≡ 0 → arrive_on t l n who ≡ call_on t (call_of kind n who) l
unfolding call_on call_of
call_arrive t l kind n who e = rw (eq-eqb kind 0 e)

pub call_step : (t l : List ℕ) (kind n who : ℕ) → kind ≡ 1 → step_on t l ≡ call_on t (call_of kind n who) l
unfolding call_on call_of
call_step t l kind n who e = rw (ne_eqb kind 0 (λ z. absurd (omega arith)), eq-eqb kind 1 e)

pub call_board : (t l : List ℕ) (kind n who r : ℕ) → kind ≢ 0 → kind ≢ 1 → r ≡ board_on t l n who → call_result r l ≡ call_on t (call_of kind n who) l
unfolding call_on call_of
call_board t l kind n who r d f e = rw (ne_eqb kind 0 d, ne_eqb kind 1 f) (ap (λ (x : ℕ). call_result x l) e)

-- ---- calls made one after the other

pub and_then : {t calls : List ℕ} {n i : ℕ} {l a : List ℕ} {j : ℕ} {l' a' : List ℕ} {k : ℕ} {m b : List ℕ} → RowOfSteps t calls n i l a j l' a' → RowOfSteps t calls n j l' a' k m b
    → RowOfSteps t calls n i l a k m b
and_then x y = record {
  rounds = y.rounds ∙ x.rounds;
  answers = y.answers ∙ x.answers;
  onward = omega (arith, x.onward, y.onward);
  within = y.within;
  as_long = y.as_long ∙ x.as_long;
  round_long = y.round_long ∙ x.round_long;
}

pub one_call : (t calls l a : List ℕ) {n i : ℕ} {r : ℕ} {l' a' : List ℕ} → i < n
    → call_result r l' ≡ call_on t (call_of (get_or calls (i * 6) 0) (get_at calls (i * 6 + 1)) (get_or calls (i * 6 + 5) 0)) l → a' ≡ put_answer a i r
    → length a' ≡ length a → length l' ≡ length l → RowOfSteps t calls n i l a (i + 1) l' a'
unfolding calls_from round_after answers_on bytes_after numbers_on turn_on_bytes put_answers
one_call t calls l a {n} {i} {r} {l'} {a'} h e f w x =
    let s : n - i ≡ suc (n - (i + 1)) = omega arith in
    let more : List Call = calls_from calls (i + 1) (n - (i + 1)) in
    record {
      rounds = rw s (ap (λ (o : CallResult). round_after t more o.1) e);
      answers = rw (s, f) (ap (λ (o : CallResult). put_answers (put_answer a i o.0) (i + 1) (answers_on t more o.1)) e);
      onward = omega arith;
      within = omega arith;
      as_long = w;
      round_long = x;
    }

-- one that is recorded as a step
pub one_step : (t calls l a : List ℕ) {n i : ℕ} {r : ℕ} {l' a' : List ℕ} → i < n → get_or calls (i * 6) 0 ≡ 1 → call_result r l' ≡ step_on t l → a' ≡ put_answer a i r
    → length a' ≡ length a → length l' ≡ length l → RowOfSteps t calls n i l a (i + 1) l' a'
one_step t calls l a {n} {i} h k e f w x =
    one_call t calls l a h (e ∙ call_step t l (get_or calls (i * 6) 0) (get_at calls (i * 6 + 1)) (get_or calls (i * 6 + 5) 0) k) f w x

-- all are made
module _ {t calls : List ℕ} {n : ℕ} {l₀ a₀ : List ℕ} {i : ℕ} {l a : List ℕ} (k : RowOfSteps t calls n 0 l₀ a₀ i l a) where
  pub end_round : n ≤ i → l ≡ round_after t (calls_from calls 0 n) l₀
  unfolding calls_from round_after bytes_after
  end_round h =
      let z : n - i ≡ 0 = omega arith in
      let y : n - 0 ≡ n = omega arith in
      rw (z, y) at k.rounds

  pub end_answers : n ≤ i → a ≡ put_answers a₀ 0 (answers_on t (calls_from calls 0 n) l₀)
  unfolding calls_from answers_on numbers_on put_answers
  end_answers h =
      let z : n - i ≡ 0 = omega arith in
      let y : n - 0 ≡ n = omega arith in
      rw (z, y) at k.answers

-- ---- steps in a row, judged once

pub record Stepping (t calls : List ℕ) (n i₀ : ℕ) (l₀ a₀ : List ℕ) (o : Bool) (i : ℕ) (l a : List ℕ) : Type 0 where
  pub made : RowOfSteps t calls n i₀ l₀ a₀ i l a
  pub sound : RoundSound t l
  pub rank : is_outranked t l ≡ o

pub next_step : {t calls : List ℕ} {n i₀ : ℕ} {l₀ a₀ : List ℕ} {o : Bool} {i : ℕ} {l a : List ℕ} {p : Bool} {r : ℕ} {l' a' : List ℕ} → Stepping t calls n i₀ l₀ a₀ o i l a
    → i < n → get_or calls (i * 6) 0 ≡ 1 → call_result r l' ≡ step_on t l → RoundSound t l' × (is_outranked t l' ≡ outranked_after o r) → p ≡ outranked_after o r → a' ≡ put_answer a i r → length a' ≡ length a → length l' ≡ length l
    → Stepping t calls n i₀ l₀ a₀ p (i + 1) l' a'
next_step {t} {calls} {n} {i₀} {l₀} {a₀} {o} {i} {l} {a} g h k e s q f w x = record {
  made = and_then g.made (one_step t calls l a h k e f w x);
  sound = s.0;
  rank = s.1 ∙ sym q;
}
