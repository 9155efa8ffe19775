-- mend on the bytes agrees with the model engine's change: it is never foreign, both look at the same copy-back and the
-- same hand, and the round then stands for the carried engine.
use Rattle.lib_base.proofs.Prelude.{ℕ, ◌≤◌, ◌<◌, ◌+◌, suc, zero, ◌≡◌, refl, ◌∙◌, sym, true, false, Bool, by_cases, none}
use Rattle.lib_base.proofs.Prelude.{List, length, replicate, length-replicate, ext_get_or, eqb, ℕ_discrete, leb-true}
use Rattle.lib_base.proofs.Prelude.{arith}
use Rattle.lib_base.specs.Basics.{pick}
use Rattle.lib_word.specs.Word.{get, words, pile}
use Rattle.lib_word.proofs.Laws.{long, long_put, get_other, get_same, words_get}
use Rattle.spec_language.specs.Syntax.{Program}
use Rattle.spec_language.specs.Valid.{Valid}
use Rattle.spec_language.specs.Dependence.{size}
use Rattle.spec_language.specs.Refusals as refusals
use Rattle.spec_execution.specs.Execution.{Values, emptied}
use Rattle.spec_model.specs.Carried.{carried}
use Rattle.spec_model.specs.Model.{Arrival, Running, rest, engine, queue, refused, change, State, state, says, carried_over, TurnOutcome, turn_outcome, declared_in, carried_to, turn}
use Rattle.spec_model.specs.Claims.{in_force}
use Rattle.spec_model.specs.Model as model
use Rattle.spec_model.proofs.Carries.{length_carried}
use Rattle.spec_model.proofs.Reached.{Reached}
use Rattle.format_image.specs.Table.{passives_code}
use Rattle.format_image.proofs.ImageLaws.{Says}
use Rattle.format_layout.specs.Round.{CallResult}
use Rattle.run_carry.specs.Carry.{carry_on, shown_for, store_shown}
use Rattle.run_board.specs.Board.{copy_back_on}
use Rattle.run_mend.specs.Mending.{verdict, mended, mend_with, mend_after, mend_in, mend_on}
use Rattle.refine_calls.specs.Refinement.{slots, Kept, coded_reply}
use Rattle.refine_calls.proofs.Slots.{slots_same, kept_all, kept_put}
use Rattle.refine_calls.proofs.Values.{found_none, Holds}
use Rattle.refine_calls.proofs.Relation.{Rel, Alike, words_length}
use Rattle.refine_calls.proofs.Agrees.{ours_is, copy_back_is}
use Rattle.refine_calls.proofs.Carrying.{carry_leads, shown_right}
use Rattle.refine_calls.proofs.Hand.{hand_known_law, back_of, Back, back}

-- ---- the values shown

module _ (u m x : List ℕ) (whole : long x ≡ true) where
  pub shown_long : (n : ℕ) → long (store_shown u m x n) ≡ true
  unfolding store_shown
  shown_long zero = whole
  shown_long (suc n) = long_put (store_shown u m x n) (136 + n) (shown_for u m n) ∙ shown_long n

  shown_other : (n k : ℕ) → k < 136 → get (store_shown u m x n) k ≡ get x k
  unfolding store_shown
  shown_other zero k h = refl
  shown_other (suc n) k h = get_other (store_shown u m x n) (136 + n) (shown_for u m n) k (omega arith) ∙ shown_other n k h

  shown_store : (n i : ℕ) → i < n → n ≤ 64 → get (store_shown u m x n) (136 + i) ≡ shown_for u m i
  unfolding store_shown long
  shown_store zero i h b = absurd (omega arith)
  shown_store (suc n) i h b =
      by_cases (ℕ_discrete i n)
      (λ e. rw e (get_same (store_shown u m x n) (136 + n) (shown_for u m n) (omega (arith, leb-true 2048 (length (store_shown u m x n)) (shown_long n)))))
      (λ e. get_other (store_shown u m x n) (136 + n) (shown_for u m n) (136 + i) (omega arith) ∙ shown_store n i (omega arith) (omega arith))

  shown_kept : {l : List ℕ} (n : ℕ) → n ≤ 64 → Kept l x → Kept l (store_shown u m x n)
  unfolding store_shown
  shown_kept zero b h = h
  shown_kept (suc n) b h = kept_put (store_shown u m x n) (136 + n) (shown_for u m n) (omega arith) (shown_kept n (omega arith) h)

-- the table in force after a change to u that answers n, t being in force before
abbrev pub in_force_after : ℕ → List ℕ → List ℕ → List ℕ
in_force_after n u t = pick (eqb n 0) u t

-- a change on the bytes and one of the model
abbrev pub AlikeIn : List ℕ → State → Type 0
AlikeIn l (state p w) = Alike (size p) l w

pub record AgreeChange (l : List ℕ) (x : CallResult) (o : TurnOutcome) : Type 0 where
  pub answered : x.0 ≡ coded_reply o.reply
  pub alike : AlikeIn x.1 o.after
  pub kept : Kept l x.1

module _ (p q : Program) (vp : Valid p) (vq : Valid q) (t u : List ℕ) (old : Says p t) (new : Says q u) (short : length (passives_code q) ≤ 4096)
    (l : List ℕ) (k : ℕ) (waiting : List Arrival) (r : Running) (d : Values) (R : Rel (size p) l k waiting r d) (reach : Reached p (engine k waiting r d)) where
  abbrev worked : CallResult
  worked = carry_on t u l (replicate 2048 0)

  gone_back : Back l (back_of l) k (queue waiting r)
  gone_back = back l k waiting r R.whole R.number R.queue R.runs reach.few

  abbrev after : List ℕ
  after = store_shown u worked.1 (back_of l) 64

  stays : (j : ℕ) → j < 136 → get after j ≡ get (back_of l) j
  stays j h = shown_other u worked.1 (back_of l) gone_back.whole 64 j h

  store_after_law : words after 136 (size q) ≡ carried p q d.store
  store_after_law =
      ext_get_or 0 (words after 136 (size q)) (carried p q d.store) (words_length after 136 (size q) ∙ sym (length_carried p q d.store)) (λ i b.
      let c : i < size q = omega (arith, words_length after 136 (size q)) in
      words_get after 136 (size q) i c
      ∙ shown_store u worked.1 (back_of l) gone_back.whole 64 i (omega (arith, new.few_behaviours)) (omega arith)
      ∙ shown_right p q vp vq t u old new l d.store R.values.store short i c)

  holds_after : Holds (size q) after (emptied (carried p q d.store))
  unfolding emptied pile
  holds_after =
      let z : get after 6 ≡ 0 = stays 6 (omega arith) ∙ gone_back.empty in
      record {
        store = store_after_law;
        stack = rw z;
        shallow = rw z (omega arith);
        scratched = length-replicate (length (carried p q d.store)) none ∙ length_carried p q d.store;
        placed = length-replicate (length (carried p q d.store)) none ∙ length_carried p q d.store;
        scratch = found_none after 200 (length (carried p q d.store));
        deferred = found_none after 264 (length (carried p q d.store));
        mark = rw (stays 7 (omega arith) ∙ gone_back.unmarked);
      }

  rel_after : Rel (size q) after k (queue waiting r) rest (emptied (carried p q d.store))
  rel_after =
      let n : get after 1 ≡ get (back_of l) 1 = stays 1 (omega arith) in
      let same : slots after (get (back_of l) 1) ≡ slots (back_of l) (get (back_of l) 1) =
      slots_same (back_of l) after (get (back_of l) 1) gone_back.few (λ j a b. stays j b) in
      record {
        whole = shown_long u worked.1 (back_of l) gone_back.whole 64;
        few = rw n gone_back.few;
        number = stays 0 (omega arith) ∙ gone_back.number;
        queue = rw (n, same) gone_back.queue;
        runs = stays 2 (omega arith) ∙ gone_back.none;
        values = holds_after;
      }

  -- ---- the tests

  -- a change with these outcomes of its two tests, on the bytes and in the model
  abbrev on_bytes : Bool → Bool → CallResult
  on_bytes settling known = mend_with u worked.1 l (pick settling refusals.settling (pick known 0 refusals.undeclared_in_hand))

  abbrev in_model : Bool → Bool → TurnOutcome
  in_model settling known =
      pick settling (turn_outcome (says (refused refusals.settling)) (state p (engine k waiting r d)))
      (pick known (turn_outcome carried_over (state q (carried_to p q (engine k waiting r d)))) (turn_outcome (says (refused refusals.undeclared_in_hand)) (state p (engine k waiting r d))))

  by_tests : (settling known : Bool) → AgreeChange l (on_bytes settling known) (in_model settling known)
  unfolding mend_with mended
  by_tests true known = record { answered = refl; alike = R; kept = kept_all l }
  by_tests false true = record { answered = refl; alike = rel_after; kept = shown_kept u worked.1 (back_of l) gone_back.whole 64 (omega arith) gone_back.kept }
  by_tests false false = record { answered = refl; alike = R; kept = kept_all l }

  opens : mend_on t u l ≡ on_bytes (model.in_copy_back p r) (declared_in q (queue waiting r))
  unfolding mend_on mend_in mend_after verdict copy_back_on
  opens =
      rw (
        ours_is p vp t old l k waiting r d R reach,
        new.fits,
        (carry_leads p q vp vq t u old new l d.store R.values.store short).0,
        copy_back_is p vp t old l k waiting r d R reach,
        hand_known_law q u l waiting r new.event_count_law R.queue R.runs,
      )

  model_opens : turn (change q) (state p (engine k waiting r d)) ≡ in_model (model.in_copy_back p r) (declared_in q (queue waiting r))
  unfolding turn
  model_opens = refl

  pub mend_agrees : AgreeChange l (mend_on t u l) (turn (change q) (state p (engine k waiting r d)))
  mend_agrees = rw (opens, model_opens) (by_tests (model.in_copy_back p r) (declared_in q (queue waiting r)))

  -- ---- the table in force after it

  by_force : (settling known : Bool) → Says (in_force (in_model settling known).after) (in_force_after (on_bytes settling known).0 u t)
  unfolding mend_with
  by_force true known = old
  by_force false true = new
  by_force false false = old

  pub force_agrees : Says (in_force (turn (change q) (state p (engine k waiting r d))).after) (in_force_after (mend_on t u l).0 u t)
  force_agrees = rw (opens, model_opens) (by_force (model.in_copy_back p r) (declared_in q (queue waiting r)))
