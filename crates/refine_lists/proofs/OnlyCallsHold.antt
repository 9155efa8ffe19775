-- Lists of calls alone are turns without changes: the program and its table stay, the history is the commits, and what
-- the rules replay of it they play. Two such lists have no changes to compare, and when idle the commits are the
-- arrivals taken in, so independence among these is enough.
use Rattle.lib_base.proofs.Prelude.{ℕ, ◌≤◌, ◌<◌, ◌≡◌, refl, ◌∙◌, sym, ap, subst, false, false≢true, List, [], ◌∷◌, map}
use Rattle.lib_base.proofs.Prelude.{List-as-Permᴰ, length}
use Rattle.lib_base.specs.Basics.{All}
use Rattle.spec_language.specs.Syntax.{Program}
use Rattle.spec_language.specs.Valid.{Accepted}
use Rattle.spec_language.specs.Dependence.{events}
use Rattle.spec_semantics.specs.Meaning.{fresh}
use Rattle.spec_semantics.specs.Event.{play}
use Rattle.spec_semantics.specs.Plays.{Plays}
use Rattle.spec_semantics.proofs.PlaysLaws.{plays, plays_alone}
use Rattle.spec_semantics.proofs.Lengths.{length_fresh}
use Rattle.spec_model.specs.Model.{Call, State, state, call, turn, replies, begun}
use Rattle.spec_model.specs.Claims.{History, last, Unchanged, committed_in, events_of, engine_in, in_force, after, history_of, taken_in_by, copy_back_in, SameChanges, ApartIn, ApartEach}
use Rattle.spec_model.specs.Evaluated.{replayed}
use Rattle.spec_model.proofs.States.{store_in}
use Rattle.spec_model.proofs.Alone.{only_last}
use Rattle.spec_model.proofs.Boards.{board_of_commits}
use Rattle.spec_model.proofs.Confluence.{each_perm}
use Rattle.spec_model.proofs.Replaying.{Known, events_declared_law}
use Rattle.spec_model.proofs.Replaying as sheets
use Rattle.refine_calls.specs.Refinement.{calls, Bytes, bytes_after, turn_on_bytes}
use Rattle.refine_calls.specs.Turns.{AreTurns}
use Rattle.refine_calls.proofs.Refines.{valid}
use Rattle.refine_calls.proofs.TurnsRefine.{turns_sound}
use Rattle.refine_calls.proofs.TurnsRefine as refine
use Rattle.refine_lists.specs.Lists.{board_of, IdleNow, OneList, OnlyCalls}
use Rattle.refine_lists.proofs.ListsHold.{turns_calls, in_force_calls, one_list, two_lists, board_is, idle_is}

-- ---- calls

pub table_stays : (cs : List Call) (b : Bytes) → (bytes_after (map calls cs) b).table ≡ b.table
unfolding bytes_after turn_on_bytes
table_stays [] b = refl
table_stays (c ∷ cs) b = table_stays cs (turn_on_bytes (calls c) b).after

-- a call is no change
calls_say : (ds : List Call) (s : State) → Unchanged (map call ds) s
unfolding replies turn
calls_say [] s = tt
calls_say (d ∷ ds) (state p w) = (λ e. false≢true (cc e), calls_say ds (turn (call d) (state p w)).after)

pub are_calls : (cs : List Call) → AreTurns (map calls cs) (map call cs)
are_calls cs = turns_calls [] [] cs tt

module _ (p : Program) (ok : Accepted p) where
  -- the history of calls, which is their commits under the one sheet
  history : (cs : List Call) → history_of p (map call cs) ≡ last (committed_in p (map call cs))
  history cs = only_last cs p _

  stays : (cs : List Call) → in_force (after p (map call cs)) ≡ p
  stays cs = in_force_calls cs (begun p)

  pub known : (cs : List Call) → All (λ e. e < events p) (events_of (committed_in p (map call cs)))
  known cs =
      events_declared_law p (committed_in p (map call cs))
      (subst (Known p) (history cs) (sheets.known p (valid p ok) (map call cs) (turns_sound (map calls cs) (map call cs) (are_calls cs)))).1

  module _ (t₀ l₀ : List ℕ) (table_room : 34816 ≤ length t₀) (round_room : 2048 ≤ length l₀) where
    abbrev first : Bytes
    first = refine.fresh_from p ok t₀ l₀ table_room round_room

    list : (cs : List Call) → OneList p l₀ first (map calls cs) (map call cs)
    list cs = one_list p ok t₀ l₀ table_room round_room (map calls cs) (map call cs) (are_calls cs)

    -- the board, read as p has it
    pub board_of_calls : (cs : List Call) → board_of p (bytes_after (map calls cs) first).round ≡ store_in (after p (map call cs))
    board_of_calls cs =
        ap (λ (q : Program). board_of q (bytes_after (map calls cs) first).round) (sym (stays cs))
        ∙ board_is p ok t₀ l₀ table_room round_room (map calls cs) (map call cs) (are_calls cs)

    at_rules : (cs : List Call) → copy_back_in p (engine_in (after p (map call cs))) ≡ false
        → board_of p (bytes_after (map calls cs) first).round ≡ play p (events_of (committed_in p (map call cs))) (fresh p)
    unfolding replayed
    at_rules cs h =
        board_of_calls cs
        ∙ board_of_commits p (valid p ok) (map call cs) (turns_sound (map calls cs) (map call cs) (are_calls cs)) (subst (λ (q : Program). copy_back_in q (engine_in (after p (map call cs))) ≡ false) (sym (stays cs)) h)
        ∙ ap (λ (h : History). replayed p h (fresh p)) (history cs)

    pub only_calls : (cs : List Call) → OnlyCalls p l₀ first cs
    only_calls cs =
        let es : List ℕ = events_of (committed_in p (map call cs)) in
        record {
          list = list cs;
          history = history cs;
          unchanged = λ ds. calls_say ds (after p (map call cs));
          in_force_law = stays cs;
          table = table_stays cs first;
          board = λ h. subst (Plays p es (fresh p)) (sym (at_rules cs h)) (plays p (valid p ok) es (known cs) (fresh p) (length_fresh p));
          board_alone = λ h s r. plays_alone p (valid p ok) es (known cs) (fresh p) s (length_fresh p) r ∙ sym (at_rules cs h);
        }

  -- ---- two lists

  module _ (t₀ l₀ t₁ l₁ : List ℕ) (a : 34816 ≤ length t₀) (b : 2048 ≤ length l₀) (c : 34816 ≤ length t₁) (d : 2048 ≤ length l₁) where
    abbrev one : Bytes
    one = refine.fresh_from p ok t₀ l₀ a b

    abbrev other : Bytes
    other = refine.fresh_from p ok t₁ l₁ c d

    pub two_only_calls : (cs ds : List Call) → events_of (taken_in_by p (map call cs)) ≡ events_of (taken_in_by p (map call ds))
        → ApartIn p (taken_in_by p (map call cs)) → IdleNow (bytes_after (map calls cs) one) → IdleNow (bytes_after (map calls ds) other)
        → board_of p (bytes_after (map calls cs) one).round ≡ board_of p (bytes_after (map calls ds) other).round
    two_only_calls cs ds same apart ic id =
        let once : List-as-Permᴰ (taken_in_by p (map call cs)) (committed_in p (map call cs)) =
        (list t₀ l₀ a b cs).sentences.once.2 ((idle_is p ok t₀ l₀ a b (map calls cs) (map call cs) (are_calls cs)).0 ic) in
        ap (λ (q : Program). board_of q (bytes_after (map calls cs) one).round) (sym (stays cs))
        ∙ two_lists p ok t₀ l₀ t₁ l₁ a b c d (map calls cs) (map calls ds) (map call cs) (map call ds) (are_calls cs) (are_calls ds) same
        (subst (λ (x : History). SameChanges x (history_of p (map call ds))) (sym (history cs)) (subst (SameChanges (last (committed_in p (map call cs)))) (sym (history ds)) tt))
        (subst (ApartEach p) (sym (history cs)) (each_perm _ once apart)) ic id
        ∙ ap (λ (q : Program). board_of q (bytes_after (map calls ds) other).round) (stays ds)
