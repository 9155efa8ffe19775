-- When a round's bytes stand for an engine, and each change of the bytes but an instruction's: an arrival joins, the
-- next starts. Field by field.
use Rattle.lib_base.proofs.Prelude.{ℕ, ◌≤◌, ◌<◌, ◌+◌, suc, zero, ◌*◌, ◌≡◌, refl, ◌∙◌, sym, ap, true, by_cases, List}
use Rattle.lib_base.proofs.Prelude.{◌∷◌, List-as-Permᴰ, List·Permᴰ·cons, length, ℕ_discrete, arith}
use Rattle.lib_base.specs.Basics.{All}
use Rattle.lib_word.specs.Word.{get, put, words}
use Rattle.lib_word.proofs.Laws.{long}
use Rattle.spec_execution.specs.Execution.{Values, emptied}
use Rattle.spec_model.specs.Model.{Arrival, arrival, Running, rest, busy, Engine, engine, queue, Outcome}
use Rattle.spec_model.proofs.Choice.{perm_length}
use Rattle.format_layout.specs.Layout.{event_of, player_of}
use Rattle.format_layout.specs.Foreign.{hand_word}
use Rattle.run_queue.specs.Queue.{put_slot}
use Rattle.format_layout.specs.Round.{CallResult}
use Rattle.run_arrive.specs.Arrivals.{admit}
use Rattle.run_dispatch.specs.Dispatch.{run_arrival}
use Rattle.refine_calls.specs.Refinement.{coded, arrival_of, slots, Kept}
use Rattle.refine_calls.proofs.Slots.{slot, slots_length, slots_push, reads, kept_all, kept_put, kept_slot}
use Rattle.refine_calls.proofs.Values.{Holds, head_holds, start_holds}

-- what runs, as read from the bytes
abbrev pub RunIs : List ℕ → Running → Type 0
RunIs l rest = get l 2 ≡ 0
RunIs l (busy a c) = (get l 2 ≡ 1) × (event_of (get l 3) ≡ a.event) × (get l 4 ≡ a.number) × (get l 5 ≡ c) × (player_of (get l 3) ≡ a.player)

pub record Rel (n : ℕ) (l : List ℕ) (k : ℕ) (waiting : List Arrival) (r : Running) (d : Values) : Type 0 where
  pub whole : long l ≡ true
  pub few : get l 1 ≤ 64
  pub number : get l 0 ≡ k
  pub queue : List-as-Permᴰ (slots l (get l 1)) waiting
  pub runs : RunIs l r
  pub values : Holds n l d

abbrev pub Alike : ℕ → List ℕ → Engine → Type 0
Alike n l (engine k waiting r d) = Rel n l k waiting r d

-- a call on the bytes l and one of the model
pub record Agree (n : ℕ) (l : List ℕ) (x : CallResult) (o : Outcome) : Type 0 where
  pub answered : x.0 ≡ coded o.answer
  pub alike : Alike n x.1 o.after
  pub kept : Kept l x.1

-- ---- the slots

pub slots_all : (P : Arrival → Type 0) (l : List ℕ) (n i : ℕ) → i < n → All P (slots l n) → P (slot l i)
unfolding slots
slots_all P l zero i b h = absurd (omega arith)
slots_all P l (suc n) i b h =
    by_cases (ℕ_discrete i n) (λ e. rw e h.0) (λ e. slots_all P l n i (omega arith) h.1)

pub words_length : (l : List ℕ) (a n : ℕ) → length (words l a n) ≡ n
unfolding words
words_length l a zero = refl
words_length l a (suc n) = ap suc (words_length l (suc a) n)

module _ (n : ℕ) (small : n ≤ 64) where
  pub slot_holds : (l : List ℕ) (i m e : ℕ) (d : Values) → i < 64 → Holds n l d → Holds n (put_slot l i m e) d
  unfolding put_slot
  slot_holds l i m e d b h =
      head_holds n small (put l (8 + i * 2) m) (9 + i * 2) e d (omega arith) (omega arith) (head_holds n small l (8 + i * 2) m d (omega arith) (omega arith) h)

  pub store_length : (l : List ℕ) (d : Values) → Holds n l d → length d.store ≡ n
  store_length l d h = ap (λ (s : List ℕ). length s) (sym h.store) ∙ words_length l 136 n

  -- something starts
  pub run_rel : (l : List ℕ) (k : ℕ) (q : List Arrival) (d : Values) (m w : ℕ) (x : Arrival) → long l ≡ true → get l 1 ≤ 64 → get l 0 ≡ k
      → List-as-Permᴰ (slots l (get l 1)) q → Holds n l d → arrival_of m w ≡ x → Rel n (run_arrival l m w) k q (busy x 0) (emptied d.store)
  run_rel l k q d m w x h f c p v e = record {
    whole = simp reads h;
    few = simp (reads, h) f;
    number = simp (reads, h) c;
    queue = simp (reads, h) p;
    runs = (
      simp (reads, h),
      simp (reads, h) (ap (λ (y : Arrival). y.event) e),
      simp (reads, h) (ap (λ (y : Arrival). y.number) e),
      simp (reads, h),
      simp (reads, h) (ap (λ (y : Arrival). y.player) e),
    );
    values = start_holds n small l m w d.store h (store_length l d v) v.store;
  }

  -- an arrival joins
  admit_runs : (l : List ℕ) (e who m k : ℕ) (r : Running) → long l ≡ true → RunIs l r → RunIs (admit l e who m k) r
  unfolding admit
  admit_runs l e who m k rest h p = simp (reads, h) p
  admit_runs l e who m k (busy a c) h p =
      (simp (reads, h) p.0, simp (reads, h) p.1, simp (reads, h) p.2, simp (reads, h) p.3, simp (reads, h) p.4)

  -- its word is taken apart again
  signed : (k e who : ℕ) → e < 256 → arrival_of k (hand_word e who) ≡ arrival k e who
  signed k e who b =
      let x : event_of (hand_word e who) ≡ e = omega arith in
      let y : player_of (hand_word e who) ≡ who = omega arith in
      λ i. arrival k (x i) (y i)

  pub admit_rel : (l : List ℕ) (e who k : ℕ) (q : List Arrival) (r : Running) (d : Values) → e < 256 → get l 1 < 64 → Rel n l k q r d
      → Rel n (admit l e who (get l 1) k) (k + 1) (arrival k e who ∷ q) r d
  unfolding admit
  admit_rel l e who k q r d few b R =
      let h : long l ≡ true = R.whole in
      let w : ℕ = hand_word e who in
      record {
        whole = simp reads h;
        few = simp (reads, h) (omega arith);
        number = simp (reads, h);
        queue = simp (reads, h) (rw (slots_push l (get l 1) k w h b) (List·Permᴰ·cons (signed k e who few) R.queue));
        runs = admit_runs l e who (get l 1) k r h R.runs;
        values = head_holds n small _ 1 (get l 1 + 1) d (omega arith) (omega arith)
            (head_holds n small _ 0 (k + 1) d (omega arith) (omega arith) (slot_holds l (get l 1) k w d b R.values));
      }

  pub admit_kept : (l : List ℕ) (e who m k : ℕ) → m < 64 → Kept l (admit l e who m k)
  unfolding admit
  admit_kept l e who m k b = kept_put _ 1 (m + 1) (omega arith) (kept_put _ 0 (k + 1) (omega arith) (kept_slot l m k (hand_word e who) b (kept_all l)))

  pub count_is : (l : List ℕ) (k : ℕ) (q : List Arrival) (r : Running) (d : Values) → Rel n l k q r d → get l 1 ≡ length q
  count_is l k q r d R = sym (slots_length l (get l 1)) ∙ perm_length R.queue
