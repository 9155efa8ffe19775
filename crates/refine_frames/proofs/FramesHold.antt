-- A frame is the steps that it makes: by induction on the steps that are left, one turn of `frame_from` being one step
-- of the list.
use Rattle.lib_base.proofs.Prelude.{ℕ, ◌≤◌, ◌<◌, ◌+◌, ◌-◌, suc, zero, ◌/◌, ◌≡◌, refl, ◌∙◌, sym, ap, ◌≢◌, List, [], ◌∷◌}
use Rattle.lib_base.proofs.Prelude.{◌++◌, length, eqb, ltb, leb, eqb-true, eqb-false, ltb-true, leb-false, leb-true}
use Rattle.lib_base.proofs.Prelude.{arith}
use Rattle.lib_base.specs.Basics.{pick, All}
use Rattle.lib_base.proofs.Tools.{by_test, split}
use Rattle.spec_model.specs.Model.{Call}
use Rattle.run_step.specs.Machine.{step_on}
use Rattle.run_burst.specs.Commit.{is_commit}
use Rattle.run_frame.specs.Frame.{frame_said, count_after, commits_after, idle_or, frame_from, frame_on}
use Rattle.run_frame.specs.Framed.{Framed, room_for}
use Rattle.refine_calls.specs.Refinement.{call_on, answers_on, round_after, numbers_on, bytes_after, turn_on_bytes}
use Rattle.refine_frames.specs.Frames.{steps_made, commits_written, ended_by, step_calls, committing, put_all, Ended, FrameSteps, EveryFrame, FrameInList}

-- ---- answers told and written by one more

count_one : (a n : ℕ) (xs : List ℕ) → count_after a n + length (committing xs) ≡ n + length (committing (a ∷ xs))
unfolding count_after committing
count_one a n xs = split (is_commit a) (λ e. rw e (omega arith)) (λ e. rw e)

put_one : (a n : ℕ) (b xs : List ℕ) → put_all (commits_after a n b) (count_after a n) (committing xs) ≡ put_all b n (committing (a ∷ xs))
unfolding count_after commits_after committing put_all
put_one a n b xs = split (is_commit a) (λ e. rw e) (λ e. rw e)

count_most : (a n room : ℕ) → n < room → count_after a n ≤ room
unfolding count_after
count_most a n room h = by_test (λ (x : ℕ). x ≤ room) (is_commit a) (λ _. omega arith) (λ _. omega arith)

-- ---- the frame from a turn on: r steps are made, the frame ends because of `why`

record From (t : List ℕ) (room k m n : ℕ) (l b : List ℕ) (o : Framed) : Type 0 where
  r : ℕ
  why : ℕ
  said : o.0 ≡ frame_said why (m + r) (n + length (committing (answers_on t (step_calls r) l)))
  round : o.1 ≡ round_after t (step_calls r) l
  written : o.2 ≡ put_all b n (committing (answers_on t (step_calls r) l))
  made : All (λ a. (a ≢ 0) × (a ≢ 14)) (answers_on t (step_calls r) l)
  most : r ≤ k
  few : n + length (committing (answers_on t (step_calls r) l)) ≤ room
  ended : Ended t (m + k) (m + r) room (n + length (committing (answers_on t (step_calls r) l))) o.1 why

module _ (t : List ℕ) (room : ℕ) where
  -- none made
  none : (k m n : ℕ) (l b : List ℕ) (why : ℕ) → n ≤ room → Ended t (m + k) m room n l why → From t room k m n l b (frame_said why m n, l, b)
  unfolding answers_on round_after committing put_all numbers_on bytes_after turn_on_bytes
  none k m n l b why h e =
      let z : m + 0 ≡ m = omega arith in
      let y : n + 0 ≡ n = omega arith in
      record {
        r = 0;
        why = why;
        said = rw (z, y);
        round = refl;
        written = refl;
        made = tt;
        most = omega arith;
        few = omega arith;
        ended = rw (z, y) e;
      }

  -- one more, that answers a and leaves l'
  more : (k m n : ℕ) (l b : List ℕ) (o : Framed) → (step_on t l).0 ≢ 0 → (step_on t l).0 ≢ 14
      → From t room k (m + 1) (count_after (step_on t l).0 n) (step_on t l).1 (commits_after (step_on t l).0 n b) o → From t room (suc k) m n l b o
  unfolding answers_on round_after call_on numbers_on bytes_after turn_on_bytes
  more k m n l b o x x' f =
      let a : ℕ = (step_on t l).0 in
      let xs : List ℕ = answers_on t (step_calls f.r) (step_on t l).1 in
      let c : count_after a n + length (committing xs) ≡ n + length (committing (a ∷ xs)) = count_one a n xs in
      let z : m + 1 + f.r ≡ m + suc f.r = omega arith in
      let y : m + 1 + k ≡ m + suc k = omega arith in
      record {
        r = suc f.r;
        why = f.why;
        said = rw (c, z) at f.said;
        round = f.round;
        written = f.written ∙ put_one a n b xs;
        made = ((x, x'), f.made);
        most = omega (arith, f.most);
        few = rw c at f.few;
        ended = rw (c, z, y) at f.ended;
      }

  -- nothing further is made: all are, or there is no room
  all_ended : (m n : ℕ) (l : List ℕ) → Ended t (m + 0) m room n l (pick (eqb m 0) 0 (idle_or t l 0))
  unfolding idle_or call_on
  all_ended m n l =
      split (eqb m 0)
      (λ e. rw e record {
        one_of = omega arith;
        all = λ _. omega arith;
        idle = λ z. absurd (omega arith);
        idle_told = λ z. absurd (omega (arith, eqb-true m 0 e));
        refused = λ z. absurd (omega arith);
        full = λ z. absurd (omega arith);
      })
      (λ e. split (eqb (step_on t l).0 0)
      (λ i. rw (e, i) record {
        one_of = omega arith;
        all = λ z. absurd (omega arith);
        idle = λ _. (omega (arith, eqb-false m 0 e), eqb-true (step_on t l).0 0 i);
        idle_told = λ _ _. refl;
        refused = λ z. absurd (omega arith);
        full = λ z. absurd (omega arith);
      })
      (λ i. rw (e, i) record {
        one_of = omega arith;
        all = λ _. omega arith;
        idle = λ z. absurd (omega arith);
        idle_told = λ _ z. absurd (eqb-false (step_on t l).0 0 i z);
        refused = λ z. absurd (omega arith);
        full = λ z. absurd (omega arith);
      }))

  full_ended : (k m n : ℕ) (l : List ℕ) → n ≤ room → room ≤ n → Ended t (m + suc k) m room n l (idle_or t l 3)
  unfolding idle_or call_on
  full_ended k m n l h g =
      split (eqb (step_on t l).0 0)
      (λ i. rw i record {
        one_of = omega arith;
        all = λ z. absurd (omega arith);
        idle = λ _. (omega arith, eqb-true (step_on t l).0 0 i);
        idle_told = λ _ _. refl;
        refused = λ z. absurd (omega arith);
        full = λ z. absurd (omega arith);
      })
      (λ i. rw i record {
        one_of = omega arith;
        all = λ z. absurd (omega arith);
        idle = λ z. absurd (omega arith);
        idle_told = λ _ z. absurd (eqb-false (step_on t l).0 0 i z);
        refused = λ z. absurd (omega arith);
        full = λ _. (omega arith, omega arith);
      })

  from : (k m n : ℕ) (l b : List ℕ) → n ≤ room → From t room k m n l b (frame_from t room k m n l b)
  unfolding frame_from call_on
  from zero m n l b h = none 0 m n l b (pick (eqb m 0) 0 (idle_or t l 0)) h (all_ended m n l)
  from (suc k) m n l b h =
      let P : Framed → Type 0 = From t room (suc k) m n l b in
      by_test P (leb room n)
      (λ e. none (suc k) m n l b (idle_or t l 3) h (full_ended k m n l h (leb-true room n e)))
      (λ e. by_test P (eqb (step_on t l).0 0)
      (λ i. none (suc k) m n l b 1 h record {
        one_of = omega arith;
        all = λ z. absurd (omega arith);
        idle = λ _. (omega arith, eqb-true (step_on t l).0 0 i);
        idle_told = λ _ _. refl;
        refused = λ z. absurd (omega arith);
        full = λ z. absurd (omega arith);
      })
      (λ i. by_test P (eqb (step_on t l).0 14)
      (λ j. none (suc k) m n l b 2 h record {
        one_of = omega arith;
        all = λ z. absurd (omega arith);
        idle = λ z. absurd (omega arith);
        idle_told = λ _ z. absurd (eqb-false (step_on t l).0 0 i z);
        refused = λ _. (omega arith, eqb-true (step_on t l).0 14 j);
        full = λ z. absurd (omega arith);
      })
      (λ j.
      more k m n l b _ (eqb-false (step_on t l).0 0 i) (eqb-false (step_on t l).0 14 j)
      (from k (m + 1) (count_after (step_on t l).0 n) (step_on t l).1 (commits_after (step_on t l).0 n b)
      (count_most (step_on t l).0 n room (leb-false room n e))))))

-- ---- the whole

room_small : (bytes : ℕ) → room_for bytes < 16777216
unfolding room_for
room_small bytes = by_test (λ (x : ℕ). x < 16777216) (ltb (bytes / 8) 16777215) (λ e. omega (arith, ltb-true (bytes / 8) 16777215 e)) (λ _. omega arith)

said_steps : (why made written : ℕ) → made < 4294967296 → written < 16777216 → steps_made (frame_said why made written) ≡ made
said_steps why made written h g = omega arith

said_commits : (why made written : ℕ) → made < 4294967296 → written < 16777216 → commits_written (frame_said why made written) ≡ written
said_commits why made written h g = omega arith

said_end : (why made written : ℕ) → made < 4294967296 → written < 16777216 → ended_by (frame_said why made written) ≡ why
said_end why made written h g = omega arith

together : (t l : List ℕ) (asked : ℕ) (b : List ℕ) (o : Framed) → asked < 4294967296 → From t (room_for (length b)) asked 0 0 l b o → FrameSteps t l asked b o.0 o.1 o.2
together t l asked b o h f =
    let r : ℕ = f.r in
    let n : ℕ = length (committing (answers_on t (step_calls r) l)) in
    let from_r : 0 + r ≡ r = omega arith in
    let from_n : 0 + n ≡ n = omega arith in
    let from_k : 0 + asked ≡ asked = omega arith in
    let small : room_for (length b) < 16777216 = room_small (length b) in
    let p : r < 4294967296 = omega (arith, f.most) in
    let q : n < 16777216 = omega (arith, f.few) in
    let s : o.0 ≡ frame_said f.why r n = rw (from_r, from_n) at f.said in
    let x : steps_made o.0 ≡ r = ap steps_made s ∙ said_steps f.why r n p q in
    let y : commits_written o.0 ≡ n = ap commits_written s ∙ said_commits f.why r n p q in
    let z : ended_by o.0 ≡ f.why = ap ended_by s ∙ said_end f.why r n p q in
    record {
      round = rw x f.round;
      written = rw x f.written;
      count = rw x y;
      made = rw x f.made;
      most = rw x f.most;
      room = rw y (rw from_n at f.few);
      ended = rw (x, y, z) (rw (from_n, from_r, from_k) at f.ended);
    }

pub every_frame : EveryFrame
unfolding frame_on
every_frame t l asked b h = together t l asked b (frame_on t l asked b) h (from t (room_for (length b)) asked 0 0 l b (omega arith))

-- ---- in a list of calls

pub round_append : (t : List ℕ) (cs ds : List Call) (l : List ℕ) → round_after t (cs ++ ds) l ≡ round_after t ds (round_after t cs l)
unfolding round_after numbers_on bytes_after turn_on_bytes
round_append t [] ds l = refl
round_append t (c ∷ cs) ds l = round_append t cs ds (call_on t c l).1

pub answers_append : (t : List ℕ) (cs ds : List Call) (l : List ℕ) → answers_on t (cs ++ ds) l ≡ answers_on t cs l ++ answers_on t ds (round_after t cs l)
unfolding answers_on round_after numbers_on bytes_after turn_on_bytes
answers_append t [] ds l = refl
answers_append t (c ∷ cs) ds l = ap (λ (x : List ℕ). (call_on t c l).0 ∷ x) (answers_append t cs ds (call_on t c l).1)

pub frame_in_list : FrameInList
frame_in_list t l cs asked b h =
    let r : ℕ = steps_made (frame_on t (round_after t cs l) asked b).0 in
    (every_frame t (round_after t cs l) asked b h).round ∙ sym (round_append t cs (step_calls r) l)
