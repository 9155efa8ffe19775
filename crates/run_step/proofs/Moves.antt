-- A step that is made leaves a sound round: an instruction writes nothing that is judged but the depth, a commit clears
-- the running one, a start and a preemption move words that fit. What waits is the same after an instruction, so the
-- choice is; after a start or a preemption nothing outranks the running one, since it was the best.
use Rattle.lib_base.proofs.Prelude.{ℕ, ◌≤◌, ◌<◌, ◌+◌, ◌-◌, ◌*◌, ◌≡◌, refl, ◌∙◌, true, false, Bool, ◌≢◌, List, length}
use Rattle.lib_base.proofs.Prelude.{eqb, eqb-true, eq-eqb, eqb-false, le-leb, arith}
use Rattle.lib_base.proofs.Tools.{by_test, split}
use Rattle.lib_word.specs.Word.{get, put}
use Rattle.lib_word.proofs.Laws.{long, long_put, length_put, get_put, get_same, get_other}
use Rattle.format_layout.specs.Layout.{event_count, event_word, event_of, waiting_count, running_flag, running_word, running_event, running_number, position, depth, number_at, word_at, event_at}
use Rattle.format_layout.specs.Foreign.{table_fits, hand_fits}
use Rattle.run_queue.specs.Queue.{best, put_slot}
use Rattle.run_dispatch.specs.Dispatch.{run_arrival, start_at, preempt_at}
use Rattle.run_instruction.specs.Allowed.{may_run}
use Rattle.run_instruction.specs.Instruction.{perform}
use Rattle.run_instruction.proofs.Shallow.{perform_shallow}
use Rattle.run_step.specs.Sound.{RoundSound, is_outranked}
use Rattle.run_instruction.proofs.Performs.{Keeps, perform_keeps}
use Rattle.run_step.proofs.Choice.{rank_at, best_within, best_leads, none_above, above_same}

-- ---- nothing outranks the running one, slot by slot

abbrev Leads : List ℕ → List ℕ → Type 0
Leads t l = (i : ℕ) → i < waiting_count l → rank_at t l i ≤ event_word t (running_event l) 0

leads_calm : (t l : List ℕ) → Leads t l → is_outranked t l ≡ false
unfolding is_outranked
leads_calm t l h =
    by_test (λ (x : Bool). x ≡ false) (eqb (running_flag l) 0) (λ _. refl) (λ _. none_above t l (event_word t (running_event l) 0) (waiting_count l) h)

pub resting_calm : (t l : List ℕ) → running_flag l ≡ 0 → is_outranked t l ≡ false
unfolding is_outranked
resting_calm t l h = rw (eq-eqb (running_flag l) 0 h)

-- ---- an instruction

-- a round m with the waiting and the running one of l
record Same (l m : List ℕ) : Type 0 where
  long : length m ≡ length l
  waiting : waiting_count m ≡ waiting_count l
  flag : running_flag m ≡ running_flag l
  word : running_word m ≡ running_word l
  slots : (i : ℕ) → i < 64 → word_at m i ≡ word_at l i

same_sound : (t l m : List ℕ) → Same l m → depth m ≤ 64 → RoundSound t l → RoundSound t m
same_sound t l m k d s =
    let few : waiting_count l ≤ 64 = s.few_waiting in
    record {
      table = s.table;
      whole = s.whole;
      long = omega (arith, k.long, s.long);
      few_waiting = rw k.waiting few;
      shallow = d;
      waiting_fit = λ i h. let g : i < waiting_count l = rw k.waiting at h in rw (k.slots i (omega arith)) (s.waiting_fit i g);
      room = λ f. rw k.waiting (s.room (rw k.flag at f));
      running_fits_law = λ f. rw k.word (s.running_fits_law (rw k.flag at f));
    }

same_outranked : (t l m : List ℕ) → Same l m → waiting_count l ≤ 64 → is_outranked t m ≡ is_outranked t l
unfolding is_outranked
same_outranked t l m k few =
    rw (k.flag, k.waiting, k.word, above_same t l (event_word t (running_event l) 0) m (waiting_count l) (λ i h. k.slots i (omega arith)))

module _ (t l : List ℕ) (s : RoundSound t l) (op slot w : ℕ) (may : may_run op slot (depth l) ≡ true) where
  abbrev after : List ℕ
  after = perform l op slot w (depth l)

  kept : Keeps l after
  kept = perform_keeps l op slot w (depth l)

  long_after : 2048 ≤ length after
  long_after = omega (arith, kept.long, s.long)

  shallow_after : depth after ≤ 64
  shallow_after = perform_shallow l s.long op slot w (depth l) s.shallow s.shallow may

  -- c instructions done
  ran_same : (c : ℕ) → Same l (put after 5 c)
  ran_same c = record {
    long = length_put after 5 c ∙ kept.long;
    waiting = get_other after 5 c 1 (omega arith) ∙ kept.words 1 (omega arith) (omega arith) (omega arith);
    flag = get_other after 5 c 2 (omega arith) ∙ kept.words 2 (omega arith) (omega arith) (omega arith);
    word = get_other after 5 c 3 (omega arith) ∙ kept.words 3 (omega arith) (omega arith) (omega arith);
    slots = λ i h. get_other after 5 c (9 + i * 2) (omega arith) ∙ kept.words (9 + i * 2) (omega arith) (omega arith) (omega arith);
  }

  pub ran_sound : (c : ℕ) → RoundSound t (put after 5 c)
  ran_sound c = same_sound t l (put after 5 c) (ran_same c) (rw (get_other after 5 c 6 (omega arith)) shallow_after) s

  pub ran_outranked : (c : ℕ) → is_outranked t (put after 5 c) ≡ is_outranked t l
  ran_outranked c = same_outranked t l (put after 5 c) (ran_same c) s.few_waiting

  pub ran_position : (c : ℕ) → position (put after 5 c) ≡ c
  ran_position c = get_same after 5 c (omega (arith, long_after))

  pub ran_flag : (c : ℕ) → running_flag (put after 5 c) ≡ running_flag l
  ran_flag c = (ran_same c).flag

  pub ran_word : (c : ℕ) → running_word (put after 5 c) ≡ running_word l
  ran_word c = (ran_same c).word

  -- and one that commits
  rests : running_flag (put after 2 0) ≡ 0
  rests = get_same after 2 0 (omega (arith, long_after))

  pub committed_sound : RoundSound t (put after 2 0)
  committed_sound =
      let n : waiting_count (put after 2 0) ≡ waiting_count l = get_other after 2 0 1 (omega arith) ∙ kept.words 1 (omega arith) (omega arith) (omega arith) in
      let few : waiting_count l ≤ 64 = s.few_waiting in
      record {
        table = s.table;
        whole = s.whole;
        long = rw (length_put after 2 0) long_after;
        few_waiting = rw n few;
        shallow = rw (get_other after 2 0 6 (omega arith)) shallow_after;
        waiting_fit = λ i h.
            let g : i < waiting_count l = rw n at h in
            let e : word_at (put after 2 0) i ≡ word_at l i =
            get_other after 2 0 (9 + i * 2) (omega arith) ∙ kept.words (9 + i * 2) (omega arith) (omega arith) (omega arith) in
            rw e (s.waiting_fit i g);
        room = λ f. absurd (f rests);
        running_fits_law = λ f. absurd (f rests);
      }

  pub committed_calm : is_outranked t (put after 2 0) ≡ false
  committed_calm = resting_calm t (put after 2 0) rests

-- ---- a start or a preemption: arrival n of word w runs, over the slots of l

module _ (t l : List ℕ) (n w : ℕ) (h : 2048 ≤ length l) where
  is_long : long l ≡ true
  unfolding long
  is_long = le-leb 2048 (length l) h

  run_length : length (run_arrival l n w) ≡ length l
  unfolding run_arrival
  run_length = simp length_put

  run_word : running_word (run_arrival l n w) ≡ w
  unfolding run_arrival
  run_word = simp (get_put, long_put, is_long)

  run_depth : depth (run_arrival l n w) ≡ 0
  unfolding run_arrival
  run_depth = simp (get_put, long_put, is_long)

  run_waiting : waiting_count (run_arrival l n w) ≡ waiting_count l
  unfolding run_arrival
  run_waiting = simp (get_put, long_put, is_long)

  run_other : (j : ℕ) → 8 ≤ j → get (run_arrival l n w) j ≡ get l j
  unfolding run_arrival
  run_other j b =
      let a : List ℕ = put l 2 1 in
      let c : List ℕ = put a 3 w in
      let d : List ℕ = put c 4 n in
      let e : List ℕ = put d 5 0 in
      let f : List ℕ = put e 6 0 in
      get_other f 7 0 j (omega arith) ∙ get_other e 6 0 j (omega arith) ∙ get_other d 5 0 j (omega arith) ∙ get_other c 4 n j (omega arith)
      ∙ get_other a 3 w j (omega arith) ∙ get_other l 2 1 j (omega arith)

  pub run_sound : table_fits t ≡ true → 34816 ≤ length t → waiting_count l ≤ 63 → ((i : ℕ) → i < waiting_count l → hand_fits (event_count t) (word_at l i) ≡ true)
      → hand_fits (event_count t) w ≡ true → RoundSound t (run_arrival l n w)
  run_sound fits whole few slots fit = record {
    table = fits;
    whole = whole;
    long = rw run_length h;
    few_waiting = rw run_waiting (omega arith);
    shallow = rw run_depth (omega arith);
    waiting_fit = λ i b. let g : i < waiting_count l = rw run_waiting at b in rw (run_other (9 + i * 2) (omega arith)) (slots i g);
    room = λ _. rw run_waiting few;
    running_fits_law = λ _. rw run_word fit;
  }

  pub run_calm : ((i : ℕ) → i < waiting_count l → event_word t (event_at l i) 0 ≤ event_word t (event_of w) 0) → is_outranked t (run_arrival l n w) ≡ false
  run_calm leads =
      leads_calm t (run_arrival l n w)
      (λ i b. let g : i < waiting_count l = rw run_waiting at b in rw (run_other (9 + i * 2) (omega arith), run_word) (leads i g))

-- ---- a slot written

module _ (l : List ℕ) (b n w : ℕ) (h : 2048 ≤ length l) (c : b < 64) where
  pub slot_length : length (put_slot l b n w) ≡ length l
  unfolding put_slot
  slot_length = simp length_put

  pub slot_waiting : waiting_count (put_slot l b n w) ≡ waiting_count l
  unfolding put_slot
  slot_waiting = get_other (put l (8 + b * 2) n) (9 + b * 2) w 1 (omega arith) ∙ get_other l (8 + b * 2) n 1 (omega arith)

  pub slot_here : word_at (put_slot l b n w) b ≡ w
  unfolding put_slot
  slot_here = get_same (put l (8 + b * 2) n) (9 + b * 2) w (rw (length_put l (8 + b * 2) n) (omega arith))

  pub slot_there : (i : ℕ) → i ≢ b → word_at (put_slot l b n w) i ≡ word_at l i
  unfolding put_slot
  slot_there i d = get_other (put l (8 + b * 2) n) (9 + b * 2) w (9 + i * 2) (omega arith) ∙ get_other l (8 + b * 2) n (9 + i * 2) (omega arith)

  -- what holds of the word written and of those there holds of all
  pub slot_all : (P : ℕ → Type 0) → P w → (i : ℕ) → (i ≢ b → P (word_at l i)) → P (word_at (put_slot l b n w) i)
  slot_all P p i q = split (eqb i b) (λ e. rw (eqb-true i b e, slot_here) p) (λ e. let d = eqb-false i b e in rw (slot_there i d) (q d))

module _ (t l : List ℕ) (s : RoundSound t l) where
  abbrev n : ℕ
  n = waiting_count l

  abbrev b : ℕ
  b = best t l n

  -- the next starts, and the last of those that wait moves into its place
  module _ (some : 0 < n) where
    here : b < n
    here = best_within t l n some

    abbrev moved : List ℕ
    moved = put (put_slot l b (number_at l (n - 1)) (word_at l (n - 1))) 1 (n - 1)

    small : b < 64
    small = omega (arith, here, s.few_waiting)

    moved_long : 2048 ≤ length moved
    moved_long =
        rw (length_put (put_slot l b (number_at l (n - 1)) (word_at l (n - 1))) 1 (n - 1), slot_length l b (number_at l (n - 1)) (word_at l (n - 1)) s.long small)
        s.long

    moved_count : waiting_count moved ≡ n - 1
    moved_count =
        get_same (put_slot l b (number_at l (n - 1)) (word_at l (n - 1))) 1 (n - 1)
        (rw (slot_length l b (number_at l (n - 1)) (word_at l (n - 1)) s.long small) (omega (arith, s.long)))

    -- what holds of every word that waits holds of those that still do
    moved_all : (P : ℕ → Type 0) → ((i : ℕ) → i < n → P (word_at l i)) → (i : ℕ) → i < n - 1 → P (word_at moved i)
    moved_all P p i h =
        rw (get_other (put_slot l b (number_at l (n - 1)) (word_at l (n - 1))) 1 (n - 1) (9 + i * 2) (omega arith))
        (slot_all l b (number_at l (n - 1)) (word_at l (n - 1)) s.long small P (p (n - 1) (omega arith)) i (λ _. p i (omega arith)))

    pub started_sound : RoundSound t (start_at l b (n - 1)).1
    unfolding start_at
    started_sound =
        run_sound t moved (number_at l b) (word_at l b) moved_long s.table s.whole (rw moved_count (omega (arith, s.few_waiting)))
        (λ i h. moved_all (λ (x : ℕ). hand_fits (event_count t) x ≡ true) s.waiting_fit i (rw moved_count at h)) (s.waiting_fit b here)

    pub started_calm : is_outranked t (start_at l b (n - 1)).1 ≡ false
    unfolding start_at
    started_calm =
        run_calm t moved (number_at l b) (word_at l b) moved_long
        (λ i h. moved_all (λ (x : ℕ). event_word t (event_of x) 0 ≤ event_word t (event_at l b) 0) (best_leads t l n) i (rw moved_count at h))

  -- the next preempts the running one, that goes into its place and does not outrank it
  module _ (some : 0 < n) (runs : running_flag l ≢ 0) where
    abbrev put_back : List ℕ
    put_back = put_slot l b (running_number l) (running_word l)

    there : b < n
    there = best_within t l n some

    few : b < 64
    few = omega (arith, there, s.few_waiting)

    back_long : 2048 ≤ length put_back
    back_long = rw (slot_length l b (running_number l) (running_word l) s.long few) s.long

    back_count : waiting_count put_back ≡ n
    back_count = slot_waiting l b (running_number l) (running_word l) s.long few

    back_all : (P : ℕ → Type 0) → P (running_word l) → ((i : ℕ) → i < n → P (word_at l i)) → (i : ℕ) → i < n → P (word_at put_back i)
    back_all P q p i h = slot_all l b (running_number l) (running_word l) s.long few P q i (λ _. p i h)

    pub preempted_sound : RoundSound t (preempt_at l b).1
    unfolding preempt_at
    preempted_sound =
        run_sound t put_back (number_at l b) (word_at l b) back_long s.table s.whole (rw back_count (s.room runs))
        (λ i h. back_all (λ (x : ℕ). hand_fits (event_count t) x ≡ true) (s.running_fits_law runs) s.waiting_fit i (rw back_count at h)) (s.waiting_fit b there)

    pub preempted_calm : event_word t (running_event l) 0 < event_word t (event_at l b) 0 → is_outranked t (preempt_at l b).1 ≡ false
    unfolding preempt_at
    preempted_calm lower =
        run_calm t put_back (number_at l b) (word_at l b) back_long
        (λ i h. back_all (λ (x : ℕ). event_word t (event_of x) 0 ≤ event_word t (event_at l b) 0) (omega arith) (best_leads t l n) i (rw back_count at h))
