-- A frame is its bursts: from the first commit on a frame goes on as it began, by induction on the steps. And what the
-- loop over the bursts keeps: the steps that are left, made where it stands, give the whole.
use Rattle.lib_base.proofs.Prelude.{ℕ, ◌≤◌, ◌<◌, ◌+◌, ◌-◌, suc, zero, ◌≡◌, refl, ◌∙◌, sym, ap, true, false, ◌≢◌, List}
use Rattle.lib_base.proofs.Prelude.{length, eqb, leb, ne_eqb, eqb-true, eqb-false, lt-leb, le-leb, arith}
use Rattle.lib_base.specs.Basics.{pick}
use Rattle.lib_base.proofs.Tools.{by_test, split}
use Rattle.lib_word.proofs.Laws.{length_put}
use Rattle.format_layout.specs.Layout.{running_flag, waiting_count}
use Rattle.format_layout.specs.Foreign.{ours}
use Rattle.run_answers.specs.Answers.{put_answer}
use Rattle.run_step.specs.Machine.{step_on}
use Rattle.run_step.specs.Sound.{RoundSound}
use Rattle.run_burst.specs.Burst.{unmade, Burst, burst, burst_on}
use Rattle.run_burst.specs.Commit.{is_commit}
use Rattle.run_burst.proofs.Glue.{left_at_most, left_fewer}
use Rattle.run_burst.proofs.Rests.{one_runs, one_waits, none_in_hand}
use Rattle.run_frame.specs.Frame.{frame_said, count_after, commits_after, idle_or, frame_from, refused_frame, frame_on}
use Rattle.run_frame.specs.Framed.{Framed, framed, room_for}

length_put_answer : (b : List ℕ) (n a : ℕ) → length (put_answer b n a) ≡ length b
unfolding put_answer
length_put_answer b n a = simp length_put

length_commits : (a n : ℕ) (b : List ℕ) → length (commits_after a n b) ≡ length b
unfolding commits_after
length_commits a n b = by_test (λ (x : List ℕ). length x ≡ length b) (is_commit a) (λ _. length_put_answer b n a) (λ _. refl)

count_most : (a n : ℕ) → count_after a n ≤ n + 1
unfolding count_after
count_most a n = by_test (λ (x : ℕ). x ≤ n + 1) (is_commit a) (λ _. omega arith) (λ _. omega arith)

-- ---- whether nothing is in hand

module _ {t l : List ℕ} (s : RoundSound t l) (why : ℕ) where
  pub runs_on : {f : ℕ} → f ≡ running_flag l → f ≢ 0 → why ≡ idle_or t l why
  unfolding idle_or
  runs_on e f = rw (one_runs s (λ z. f (e ∙ z)))

  pub waits_on : {f w : ℕ} → f ≡ running_flag l → f ≡ 0 → w ≡ waiting_count l → w ≢ 0 → why ≡ idle_or t l why
  unfolding idle_or
  waits_on e f d w = rw (one_waits s (sym e ∙ f) (λ z. w (d ∙ z)))

  pub rests : {f w : ℕ} → f ≡ running_flag l → f ≡ 0 → w ≡ waiting_count l → w ≡ 0 → 1 ≡ idle_or t l why
  unfolding idle_or
  rests e f d w = rw (none_in_hand s (sym e ∙ f) (sym d ∙ w))

-- ---- a frame goes on after a burst

module _ (t : List ℕ) (room : ℕ) where
  -- of `asked` steps: o is a burst from where n commits are written to b
  unfoldable goes_on : ℕ → ℕ → List ℕ → Burst → Framed
  goes_on asked n b o =
      pick (eqb o.0 0) (frame_said 1 (asked - o.1) n, o.2, b)
      (pick (eqb o.0 14) (frame_said 2 (asked - o.1) n, o.2, b)
      (frame_from t room o.1 (asked - o.1) (count_after o.0 n) o.2 (commits_after o.0 n b)))

  frame_burst : (k m n : ℕ) (l b : List ℕ) → n < room → frame_from t room k m n l b ≡ goes_on (m + k) n b (burst_on t k l)
  unfolding frame_from burst_on goes_on count_after commits_after unmade
  frame_burst zero m n l b h = let z : m + 0 - 0 ≡ m = omega arith in rw z
  frame_burst (suc k) m n l b h =
      let a : ℕ = (step_on t l).0 in
      let free : leb room n ≡ false = lt-leb room n h in
      let here : m + suc k - suc k ≡ m = omega arith in
      let next : m + suc k - k ≡ m + 1 = omega arith in
      let same : m + 1 + k ≡ m + suc k = omega arith in
      split (eqb a 0) (λ e. rw (free, e, here, e))
      (λ e. split (eqb a 14) (λ f. rw (free, e, f, here, e, f))
      (λ f. split (is_commit a) (λ c. rw (free, e, f, c, next, e, f, c))
      (λ c. rw (free, e, f, c) (rw same at (frame_burst k (m + 1) n (step_on t l).1 b h)))))

no_room : (t : List ℕ) (room : ℕ) (l b : List ℕ) (k m n : ℕ) → 0 < k → room ≤ n → frame_from t room k m n l b ≡ (frame_said (idle_or t l 3) m n, l, b)
unfolding frame_from
no_room t room l b zero m n h g = absurd (omega arith)
no_room t room l b (suc k) m n h g = rw (le-leb room n g)

-- ---- the loop: `steps` are asked for, k are left, n commits written, with the round l and the commits b

pub record Turn (t l₀ : List ℕ) (steps room : ℕ) (b₀ : List ℕ) (l b : List ℕ) (k n : ℕ) : Type 0 where
  pub whole : frame_from t room k (steps - k) n l b ≡ frame_from t room steps 0 0 l₀ b₀
  pub sound : RoundSound t l
  pub within : k ≤ steps
  pub few : n ≤ room
  pub round_long : length l ≡ length l₀
  pub commits_long : length b ≡ length b₀

pub begin : {t l b : List ℕ} {steps room : ℕ} → RoundSound t l → Turn t l steps room b l b steps 0
begin {t} {l} {b} {steps} {room} s =
    let z : steps - steps ≡ 0 = omega arith in
    record { whole = rw z; sound = s; within = omega arith; few = omega arith; round_long = refl; commits_long = refl }

module _ {t l₀ : List ℕ} {steps room : ℕ} {b₀ l b : List ℕ} {k n : ℕ} (u : Turn t l₀ steps room b₀ l b k n) where
  pub all_made : {r w : ℕ} → steps ≢ 0 → k ≤ 0 → w ≡ idle_or t l 0 → r ≡ frame_said w steps n → framed r l b ≡ frame_from t room steps 0 0 l₀ b₀
  unfolding frame_from
  all_made {r} {w} some h d e =
      let z : k ≡ 0 = omega arith in
      let y : steps - 0 ≡ steps = omega arith in
      let x : r ≡ frame_said (pick (eqb steps 0) 0 (idle_or t l 0)) steps n = rw (ne_eqb steps 0 some, ← d) e in
      ap (λ (x : ℕ). framed x l b) x ∙ (rw (z, y) at u.whole)

  pub full : {r w : ℕ} → 0 < k → room ≤ n → w ≡ idle_or t l 3 → r ≡ frame_said w (steps - k) n → framed r l b ≡ frame_from t room steps 0 0 l₀ b₀
  full {r} {w} h g d e = ap (λ (x : ℕ). framed x l b) (rw d at e) ∙ sym (no_room t room l b k (steps - k) n h g) ∙ u.whole

  module _ {a k' : ℕ} {l' : List ℕ} (some : 0 < k) (free : n < room) (made : burst a k' l' ≡ burst_on t k l) where
    goes : goes_on t room steps n b (a, k', l') ≡ frame_from t room steps 0 0 l₀ b₀
    goes =
        let z : steps - k + k ≡ steps = omega (arith, u.within) in
        ap (goes_on t room steps n b) made ∙ sym (rw z at (frame_burst t room k (steps - k) n l b free)) ∙ u.whole

    pub idle : {r : ℕ} → a ≡ 0 → r ≡ frame_said 1 (steps - k') n → framed r l' b ≡ frame_from t room steps 0 0 l₀ b₀
    unfolding goes_on
    idle {r} z e = ap (λ (x : ℕ). framed x l' b) e ∙ (rw z at goes)

    pub refused : {r : ℕ} → a ≡ 14 → r ≡ frame_said 2 (steps - k') n → framed r l' b ≡ frame_from t room steps 0 0 l₀ b₀
    unfolding goes_on
    refused {r} z e = ap (λ (x : ℕ). framed x l' b) e ∙ (rw z at goes)

    pub fewer : k' ≤ k
    fewer = left_at_most t l k made

    pub falls : a ≢ 0 → a ≢ 14 → k' < k
    unfolding unmade
    falls x y = left_fewer t l k made some (rw (ne_eqb a 0 x, ne_eqb a 14 y))

    pub turn : {n' : ℕ} {b' : List ℕ} → a ≢ 0 → a ≢ 14 → RoundSound t l' → n' ≡ count_after a n → b' ≡ commits_after a n b → length l' ≡ length l
        → Turn t l₀ steps room b₀ l' b' k' n'
    unfolding goes_on
    turn {n'} {b'} x y s c d w = record {
      whole = rw (c, d) (rw (ne_eqb a 0 x, ne_eqb a 14 y) at goes);
      sound = s;
      within = omega (arith, u.within, fewer);
      few = rw c (omega (arith, count_most a n));
      round_long = w ∙ u.round_long;
      commits_long = rw d (length_commits a n b) ∙ u.commits_long;
    }

-- ---- none asked for, judged, or foreign

foreign_from : (t : List ℕ) (room : ℕ) (l b : List ℕ) → ours t l ≡ false → (k : ℕ) → k ≢ 0 → frame_from t room k 0 0 l b ≡ (refused_frame room, l, b)
unfolding frame_from refused_frame step_on idle_or
foreign_from t room l b h zero some = absurd (some refl)
foreign_from t room l b h (suc k) some =
    split (eqb room 0)
    (λ e. let z : leb room 0 ≡ true = le-leb room 0 (omega (arith, eqb-true room 0 e)) in rw (z, e, h))
    (λ e. let z : leb room 0 ≡ false = lt-leb room 0 (omega (arith, eqb-false room 0 e)) in rw (z, e, h))

pub none_asked : (t l b : List ℕ) {steps r : ℕ} → steps ≡ 0 → r ≡ frame_said 0 0 0 → framed r l b ≡ frame_on t l steps b
unfolding frame_on frame_from
none_asked t l b h e = rw (h, e)

module _ (t l b : List ℕ) (steps : ℕ) {room : ℕ} (has : room ≡ room_for (length b)) where
  pub judged : {o : Framed} → o ≡ frame_from t room steps 0 0 l b → o ≡ frame_on t l steps b
  unfolding frame_on
  judged e = rw (← has) e

  pub foreign_frame : {r : ℕ} → ours t l ≡ false → steps ≢ 0 → r ≡ refused_frame room → framed r l b ≡ frame_on t l steps b
  foreign_frame {r} h some e = ap (λ (x : ℕ). framed x l b) e ∙ judged (sym (foreign_from t room l b h steps some))
