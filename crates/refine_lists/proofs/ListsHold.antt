-- Demand 3 holds of the bytes: they refine the model engine turn by turn, and the model engine's
-- sentences carry over, for an accepted program's table and a fresh round.
use Rattle.lib_base.proofs.Prelude.{ℕ, ◌≤◌, ◌<◌, ◌≡◌, refl, ◌∙◌, sym, ap, subst, true, false, Bool, List, [], ◌∷◌, ◌++◌}
use Rattle.lib_base.proofs.Prelude.{map, zip_with, length, arith}
use Rattle.lib_base.specs.Basics.{All}
use Rattle.spec_language.specs.Syntax.{Program}
use Rattle.spec_language.specs.Valid.{Accepted, Valid}
use Rattle.spec_language.specs.Dependence.{size, events, no_event}
use Rattle.spec_language.specs.Rights.{may_send}
use Rattle.spec_semantics.specs.Meaning.{fresh, with_store}
use Rattle.spec_semantics.specs.Event.{event, play}
use Rattle.spec_semantics.specs.Over.{EventOver}
use Rattle.spec_semantics.specs.Plays.{Plays}
use Rattle.spec_semantics.specs.OverMeaning.{event_over}
use Rattle.spec_semantics.proofs.PlaysLaws.{plays}
use Rattle.spec_semantics.proofs.Lengths.{length_fresh}
use Rattle.spec_semantics.proofs.OverAgrees.{rules_find, rules_find_only}
use Rattle.spec_model.specs.Model.{Arrival, arrival, Call, step, Answer, committed, act, Turn, call, State, state, says, turn, run_turns, begun}
use Rattle.spec_model.specs.Claims.{copy_back_in, alone_calls, events_of, taken_in_by, SameChanges, ApartEach, last, in_force, engine_in, IdleIn, after, history_from, history_of, Replays, Sentences}
use Rattle.spec_model.specs.Sound.{Sound}
use Rattle.spec_model.specs.Evaluated.{replayed}
use Rattle.spec_model.specs.Told.{previewed}
use Rattle.spec_model.proofs.States.{number_in, store_in}
use Rattle.spec_model.proofs.History.{runs_append, Fit}
use Rattle.spec_model.proofs.Boards.{replayed_sized}
use Rattle.spec_model.proofs.Replaying.{known, replays, replays_alone, board_by_rules}
use Rattle.spec_model.proofs.Counts.{mark_right}
use Rattle.spec_model.proofs.Alone.{calls_run, alone_right}
use Rattle.spec_model.proofs.ModelHolds.{holds, same_board}
use Rattle.run_step.specs.Machine.{step_on}
use Rattle.run_preview.specs.Preview.{preview_on}
use Rattle.refine_calls.specs.Refinement.{coded, decoded, ByteTurn, calls, Bytes, bytes_after}
use Rattle.refine_calls.specs.Turns.{AreTurns}
use Rattle.refine_calls.proofs.Relation.{words_length}
use Rattle.refine_calls.proofs.Refines.{valid}
use Rattle.refine_calls.proofs.TurnsRefine.{Stand, runs, turns_refine, turns_sound, fresh_stand}
use Rattle.refine_calls.proofs.TurnsRefine as refine
use Rattle.refine_lists.specs.Lists.{board_of, IdleNow, CommitMark, OneList, decoded_reply}
use Rattle.refine_lists.proofs.Tables.{turns_left}
use Rattle.refine_lists.proofs.Standing.{board_of_law, idle_both, next_read, commit_told_next, other_told_next, forecast_of, foreseen_of, previewed_of, all_read}

-- calls alone mean themselves
pub turns_calls : (xs : List ByteTurn) (ts : List Turn) (cs : List Call) → AreTurns xs ts → AreTurns (xs ++ map calls cs) (ts ++ map call cs)
turns_calls [] [] [] m = tt
turns_calls [] [] (c ∷ cs) m = (refl, turns_calls [] [] cs tt)
turns_calls [] (t ∷ ts) cs m = absurd m
turns_calls (x ∷ xs) [] cs m = absurd m
turns_calls (x ∷ xs) (t ∷ ts) cs m = (m.0, turns_calls xs ts cs m.1)

pub in_force_calls : (cs : List Call) (s : State) → in_force (run_turns (map call cs) s) ≡ in_force s
in_force_calls cs (state p w) = ap in_force (calls_run cs p w)

valid_in : (s : State) → Fit s → Valid (in_force s)
valid_in (state p w) f = f.0

one_played : (p : Program) → Valid p → (e : ℕ) (s : List ℕ) → e < events p → length s ≡ size p → Plays p (e ∷ []) s (event p e s)
unfolding play
one_played p v e s b n = plays p v (e ∷ []) (b, tt) s n

-- each preview after the list has the number of the model engine's
abbrev pub PreviewedAs : Program → Bytes → List ByteTurn → List Turn → Type 0
PreviewedAs p b xs ts =
    (e i who : ℕ) → preview_on (bytes_after xs b).table (bytes_after xs b).round e i who ≡ coded (previewed (in_force (after p ts)) (engine_in (after p ts)) e i who)

module _ (p : Program) (ok : Accepted p) (t₀ l₀ : List ℕ) (table_room : 34816 ≤ length t₀) (round_room : 2048 ≤ length l₀) where
  abbrev bytes : Bytes
  bytes = refine.fresh_from p ok t₀ l₀ table_room round_room

  v : Valid p
  v = valid p ok

  module _ (xs : List ByteTurn) (ts : List Turn) (mean : AreTurns xs ts) where
    sound : All Sound ts
    sound = turns_sound xs ts mean

    stand : Stand l₀ (bytes_after xs bytes) (after p ts)
    stand = (runs p ok t₀ l₀ table_room round_room xs ts mean).stand

    pub board_is : board_of (in_force (after p ts)) (bytes_after xs bytes).round ≡ store_in (after p ts)
    board_is = board_of_law l₀ (bytes_after xs bytes) (after p ts) stand

    pub idle_is : (IdleNow (bytes_after xs bytes) → IdleIn (after p ts)) × (IdleIn (after p ts) → IdleNow (bytes_after xs bytes))
    idle_is = idle_both l₀ (bytes_after xs bytes) (after p ts) stand

    all : Sentences p ts
    all = holds p v ts sound

    -- ---- the board

    board : copy_back_in (in_force (after p ts)) (engine_in (after p ts)) ≡ false
        → Replays p (history_of p ts) (fresh p) (board_of (in_force (after p ts)) (bytes_after xs bytes).round)
    board h = subst (Replays p (history_of p ts) (fresh p)) (sym board_is) (board_by_rules p v ts sound h).0

    board_alone : copy_back_in (in_force (after p ts)) (engine_in (after p ts)) ≡ false → (s : List ℕ) → Replays p (history_of p ts) (fresh p) s
        → s ≡ board_of (in_force (after p ts)) (bytes_after xs bytes).round
    board_alone h s r = (board_by_rules p v ts sound h).1 s r ∙ sym board_is

    -- ---- a commit's mark

    says_next : (s : State) (x : Answer) → (act (in_force s) step (engine_in s)).answer ≡ x → (turn (call step) s).reply ≡ says x
    unfolding turn
    says_next (state q w) x e = ap says e

    mark_in_law : (s : State) → Fit s → (b : List ℕ) → length b ≡ size (in_force s) → (a : Arrival) (m : Bool)
        → (a.event < events (in_force s)) × (m ≡ event_over (in_force s) a.event b)
        → Replays p (history_of p ts) (fresh p) b → ((c : List ℕ) → Replays p (history_of p ts) (fresh p) c → c ≡ b) → s ≡ after p ts → CommitMark p ts a m
    mark_in_law (state q w) f b n a m k r u e =
        let d : a.event ≤ no_event q = omega (arith, k.0) in
        let same : q ≡ in_force (after p ts) = ap in_force e in
        record {
          before = b;
          played = r;
          alone = u;
          set_if = subst (λ (x : Program). EventOver (with_store x b) a.event → m ≡ true) same (λ o. k.1 ∙ rules_find_only q f.0 a.event d b n o);
          only_if = subst (λ (x : Program). m ≡ true → EventOver (with_store x b) a.event) same (λ o. rules_find q f.0 a.event d b n (sym k.1 ∙ o));
        }

    mark : (a : Arrival) (m : Bool) → decoded step (step_on (bytes_after xs bytes).table (bytes_after xs bytes).round).0 ≡ committed a m → CommitMark p ts a m
    mark a m h =
        let s : State = after p ts in
        let e : (act (in_force s) step (engine_in s)).answer ≡ committed a m = sym (next_read l₀ (bytes_after xs bytes) s stand) ∙ h in
        let k = mark_right p v ts sound a m (says_next s (committed a m) e) in
        let g = known p v ts sound in
        mark_in_law s stand.fit (replayed p (history_of p ts) (fresh p)) (replayed_sized p v ts sound) a m k
        (replays p (history_of p ts) g (fresh p) (length_fresh p)) (λ c r. replays_alone p (history_of p ts) g (fresh p) c (length_fresh p) r) refl

  -- ---- one event alone

  sized_in : (l : List ℕ) (b : Bytes) (s : State) → Stand l b s → length (board_of (in_force s) b.round) ≡ size (in_force s)
  sized_in l b s h = words_length b.round 136 (size (in_force s))

  module _ (xs : List ByteTurn) (ts : List Turn) (mean : AreTurns xs ts) (e who : ℕ) where
    abbrev more : List Call
    more = alone_calls (in_force (after p ts)) e who

    in_force_same : in_force (after p (ts ++ map call more)) ≡ in_force (after p ts)
    in_force_same = ap in_force (runs_append ts (map call more) (begun p)) ∙ in_force_calls more (after p ts)

    board_then : board_of (in_force (after p ts)) (bytes_after (xs ++ map calls more) bytes).round ≡ store_in (after p (ts ++ map call more))
    board_then =
        ap (λ (q : Program). board_of q (bytes_after (xs ++ map calls more) bytes).round) (sym in_force_same)
        ∙ board_is (xs ++ map calls more) (ts ++ map call more) (turns_calls xs ts more mean)

    one_event_law : IdleNow (bytes_after xs bytes) → e < events (in_force (after p ts)) → who < 8 → may_send (in_force (after p ts)) who e ≡ true
        → number_in (after p ts) < 1000000
        → (history_from (after p ts) (map call more) ≡ last (arrival (number_in (after p ts)) e who ∷ []))
        × Plays (in_force (after p ts)) (e ∷ []) (board_of (in_force (after p ts)) (bytes_after xs bytes).round)
        (board_of (in_force (after p ts)) (bytes_after (xs ++ map calls more) bytes).round)
    one_event_law h b eight sends room =
        let k = alone_right p v ts (sound xs ts mean) ((idle_is xs ts mean).0 h) e who b eight sends room in
        let s : List ℕ = board_of (in_force (after p ts)) (bytes_after xs bytes).round in
        let then : event (in_force (after p ts)) e s ≡ board_of (in_force (after p ts)) (bytes_after (xs ++ map calls more) bytes).round =
        ap (event (in_force (after p ts)) e) (board_is xs ts mean) ∙ sym k.1 ∙ sym board_then in (
          k.0,
          subst (Plays (in_force (after p ts)) (e ∷ []) s) then
              (one_played (in_force (after p ts)) (valid_in (after p ts) (stand xs ts mean).fit) e s b (sized_in l₀ (bytes_after xs bytes) (after p ts) (stand xs ts mean))),
        )

  -- a preview's number by one function of the model engine
  pub list_previewed : (xs : List ByteTurn) (ts : List Turn) → AreTurns xs ts → PreviewedAs p bytes xs ts
  list_previewed xs ts mean = previewed_of l₀ (bytes_after xs bytes) (after p ts) (stand xs ts mean)

  pub one_list : (xs : List ByteTurn) (ts : List Turn) → AreTurns xs ts → OneList p l₀ bytes xs ts
  one_list xs ts mean =
      let agrees = turns_refine p ok t₀ l₀ table_room round_room xs ts mean in
      let st = stand xs ts mean in
      let b : Bytes = bytes_after xs bytes in
      record {
        answers = agrees.answered;
        read = ap (zip_with decoded_reply xs) agrees.answered ∙ all_read l₀ bytes xs ts (begun p) mean (fresh_stand p ok t₀ l₀ table_room round_room);
        table = turns_left l₀ bytes xs ts (begun p) mean (fresh_stand p ok t₀ l₀ table_room round_room) (t₀, table_room, refl);
        round = agrees.viewed;
        beyond = agrees.kept;
        idle = idle_is xs ts mean;
        board = board xs ts mean;
        board_alone = board_alone xs ts mean;
        sentences = all xs ts mean;
        one_event_law = λ h e who d eight sends room. one_event_law xs ts mean e who h d eight sends room;
        forecast = forecast_of l₀ b (after p ts) st;
        preview = foreseen_of l₀ b (after p ts) st;
        mark = mark xs ts mean;
        told_commit = commit_told_next l₀ b (after p ts) st;
        told_else = other_told_next l₀ b (after p ts) st;
      }

-- ---- two lists

module _ (p : Program) (ok : Accepted p) (t₀ l₀ t₁ l₁ : List ℕ) (a : 34816 ≤ length t₀) (b : 2048 ≤ length l₀) (c : 34816 ≤ length t₁) (d : 2048 ≤ length l₁) where
  pub two_lists : (xs ys : List ByteTurn) (ts us : List Turn) → AreTurns xs ts → AreTurns ys us → events_of (taken_in_by p ts) ≡ events_of (taken_in_by p us)
      → SameChanges (history_of p ts) (history_of p us) → ApartEach p (history_of p ts)
      → IdleNow (bytes_after xs (refine.fresh_from p ok t₀ l₀ a b)) → IdleNow (bytes_after ys (refine.fresh_from p ok t₁ l₁ c d))
      → board_of (in_force (after p ts)) (bytes_after xs (refine.fresh_from p ok t₀ l₀ a b)).round
      ≡ board_of (in_force (after p us)) (bytes_after ys (refine.fresh_from p ok t₁ l₁ c d)).round
  two_lists xs ys ts us mt mu same kept apart it iu =
      board_is p ok t₀ l₀ a b xs ts mt
      ∙ same_board p (valid p ok) ts us (turns_sound xs ts mt) (turns_sound ys us mu) same kept apart ((idle_is p ok t₀ l₀ a b xs ts mt).0 it) ((idle_is p ok t₁ l₁ c d ys us mu).0 iu)
      ∙ sym (board_is p ok t₁ l₁ c d ys us mu)
