-- Two lists of turns that take in the same events in the same order, with the same changes after the same commits and
-- events that commute (or are independent) in each sheet, end in one store when both are idle: each commits what it
-- took in, so their histories hold the same arrivals. With no change, the same up to a likeness of stores.
use Rattle.lib_base.proofs.Prelude.{ℕ, suc, ◌≡◌, refl, ◌∙◌, sym, ap, subst, false, List, [], ◌∷◌, List-as-Permᴰ}
use Rattle.lib_base.proofs.Prelude.{List·Permᴰ·trans, List-as-Nodup, Permᴰ·symm}
use mathlib.Core.List.Permᴰ
use Rattle.lib_base.specs.Basics.{All}
use Rattle.spec_language.specs.Syntax.{Program}
use Rattle.spec_language.specs.Valid.{Valid}
use Rattle.spec_semantics.specs.Meaning.{fresh}
use Rattle.spec_semantics.proofs.Lengths.{length_fresh}
use Rattle.spec_model.specs.Model.{Arrival, arrival, arrive, step, board, refused, told_taken_in, shows, idle, ran, started, preempted, committed, Turn, call, change, State, state, Reply, says, carried_over, replies, begun, rest, busy, engine}
use Rattle.spec_model.specs.Claims.{copy_back_in, events_of, taken_turns, in_force, engine_in, IdleIn, after, history_of, taken_in_by, History, SameChanges, unsigned, committed_by}
use Rattle.spec_model.specs.Sound.{Sound}
use Rattle.spec_model.specs.Evaluated.{replayed, SameBoard}
use Rattle.spec_model.proofs.Moments.{moments_of, history_of_law}
use Rattle.spec_model.proofs.States.{hand_in, store_in}
use Rattle.spec_model.proofs.Choice.{numbers, distinct_numbers}
use Rattle.spec_model.proofs.Unsigned.{all_unsigned, numbered}
use Rattle.spec_model.proofs.Boards.{board_of_commits}
use Rattle.spec_model.proofs.Replaying.{known}
use Rattle.spec_model.proofs.Once.{once_each, idle_hand}
use Rattle.spec_model.proofs.Equals.{commits_in_order}
use Rattle.spec_model.proofs.Histories.{Orderly, orderly, CommuteEach, apart_commute, same_history, OneSheet, alike_history}
use Rattle.spec_model.proofs.Confluence.{Likeness, CommuteBy}

-- the arrivals taken in, without their players, are their events numbered from n on
taken_numbered : (ts : List Turn) (l : List Reply) (n : ℕ) → all_unsigned (taken_turns ts l n) ≡ numbered n (events_of (taken_turns ts l n))
unfolding taken_turns
taken_numbered [] l n = refl
taken_numbered (t ∷ ts) [] n = refl
taken_numbered (call (arrive e who) ∷ ts) (says (refused k) ∷ l) n = taken_numbered ts l n
taken_numbered (call (arrive e who) ∷ ts) (says told_taken_in ∷ l) n = ap (λ (m : List Arrival). arrival n e 0 ∷ m) (taken_numbered ts l (suc n))
taken_numbered (call (arrive e who) ∷ ts) (says (shows v) ∷ l) n = taken_numbered ts l n
taken_numbered (call (arrive e who) ∷ ts) (says idle ∷ l) n = taken_numbered ts l n
taken_numbered (call (arrive e who) ∷ ts) (says ran ∷ l) n = taken_numbered ts l n
taken_numbered (call (arrive e who) ∷ ts) (says (started a) ∷ l) n = taken_numbered ts l n
taken_numbered (call (arrive e who) ∷ ts) (says (preempted a) ∷ l) n = taken_numbered ts l n
taken_numbered (call (arrive e who) ∷ ts) (says (committed a m) ∷ l) n = taken_numbered ts l n
taken_numbered (call step ∷ ts) (says a ∷ l) n = taken_numbered ts l n
taken_numbered (call (board i who) ∷ ts) (says a ∷ l) n = taken_numbered ts l n
taken_numbered (call c ∷ ts) (carried_over ∷ l) n = taken_numbered ts l n
taken_numbered (change q ∷ ts) (r ∷ l) n = taken_numbered ts l n

-- with nothing in hand nothing is copied back
no_copy_back : (s : State) → hand_in s ≡ [] → copy_back_in (in_force s) (engine_in s) ≡ false
no_copy_back (state p (engine t waiting rest d)) h = refl
no_copy_back (state p (engine t waiting (busy a c) d)) h = cc

module _ (p : Program) (v : Valid p) where
  -- when idle, the store is that of the history, and its arrivals are those taken in
  idle_store : (ts : List Turn) → All Sound ts → IdleIn (after p ts) → store_in (after p ts) ≡ replayed p (history_of p ts) (fresh p)
  idle_store ts g h = board_of_commits p v ts g (no_copy_back (after p ts) (idle_hand p v (after p ts) h))

  idle_history : (ts : List Turn) → All Sound ts → IdleIn (after p ts) → List-as-Permᴰ (taken_in_by p ts) (committed_by (history_of p ts))
  idle_history ts g h = (once_each p v ts g).2 h

  pub distinct_history : (ts : List Turn) → All Sound ts → IdleIn (after p ts) → List-as-Nodup (numbers (committed_by (history_of p ts)))
  distinct_history ts g h = distinct_numbers (idle_history ts g h) (once_each p v ts g).1

  -- under each sheet, those of equal priority go by number
  in_order : (ts : List Turn) → All Sound ts → Orderly p (history_of p ts)
  in_order ts g = subst (Orderly p) (sym (history_of_law p ts)) (orderly p (moments_of p ts) (commits_in_order p v ts g))

  -- two lists of turns that took in the same events in the same order
  module _ (ts us : List Turn) (gt : All Sound ts) (gu : All Sound us) (same : events_of (taken_in_by p ts) ≡ events_of (taken_in_by p us))
      (it : IdleIn (after p ts)) (iu : IdleIn (after p us)) where
    abbrev one : History
    one = history_of p ts

    abbrev other : History
    other = history_of p us

    same_arrivals : List-as-Permᴰ (all_unsigned (committed_by one)) (all_unsigned (committed_by other))
    same_arrivals =
        let taken : all_unsigned (taken_in_by p us) ≡ all_unsigned (taken_in_by p ts) =
        taken_numbered us (replies us (begun p)) 0 ∙ ap (numbered 0) (sym same) ∙ sym (taken_numbered ts (replies ts (begun p)) 0) in
        List·Permᴰ·trans (Permᴰ·symm (Permᴰ.map unsigned (idle_history ts gt it)))
        (subst (λ (l : List Arrival). List-as-Permᴰ l (all_unsigned (committed_by other))) taken (Permᴰ.map unsigned (idle_history us gu iu)))

    -- where those of unequal priority commute in each sheet
    pub same_store : SameChanges one other → CommuteEach p one → store_in (after p ts) ≡ store_in (after p us)
    same_store kept commute =
        idle_store ts gt it
        ∙ same_history p one other (fresh p) (length_fresh p) kept same_arrivals (distinct_history ts gt it) (known p v ts gt) commute
        (in_order ts gt) (in_order us gu)
        ∙ sym (idle_store us gu iu)

    -- with no change, where they commute up to a likeness
    pub same_likeness : (R : List ℕ → List ℕ → Type 0) → Likeness p R → OneSheet one → OneSheet other → All (λ a. All (CommuteBy p R a) (committed_by one)) (committed_by one)
        → R (store_in (after p ts)) (store_in (after p us))
    same_likeness R like g h commute =
        rw (idle_store ts gt it, idle_store us gu iu)
        (alike_history p R like one other (fresh p) (length_fresh p) g h same_arrivals (distinct_history ts gt it) (known p v ts gt) commute
        (in_order ts gt) (in_order us gu))

  pub same_board : (ts us : List Turn) → All Sound ts → All Sound us → SameBoard p ts us
  same_board ts us gt gu same kept apart it iu =
      same_store ts us gt gu same it iu kept (apart_commute p (history_of p ts) (known p v ts gt) apart)
