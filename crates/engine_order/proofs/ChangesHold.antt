-- The promise of an order holds with changes of sheets. Each turn of the app is a row of turns of demand 3's lists; a
-- change on an idle round is made. Up to each change what is committed is what the order has up to its place, so two
-- phones with one plan have the same changes after the same commits, which is demand 3's condition.
use Rattle.lib_base.proofs.Prelude.{ℕ, ◌≤◌, ◌<◌, ◌+◌, suc, ◌*◌, ◌/◌, ◌≡◌, refl, ◌∙◌, sym, ap, subst, true, false}
use Rattle.lib_base.proofs.Prelude.{true≢false, ◌≢◌, by_cases, List, [], ◌∷◌, ◌++◌, map, append_assoc, append-nil}
use Rattle.lib_base.proofs.Prelude.{List-as-Permᴰ, List·Permᴰ·trans, List-as-Nodup, Forall₂·nil, Forall₂·cons, Permᴰ·symm}
use Rattle.lib_base.proofs.Prelude.{Pairwise·nil, Permᴰ·refl, length, get_or, take, eqb, dec_lt, eqb-true, eqb-false}
use Rattle.lib_base.proofs.Prelude.{le-leb, arith}
use mathlib.Core.List.Permᴰ
use Rattle.lib_base.specs.Basics.{All, pick}
use Rattle.lib_base.proofs.Tools.{split, all_imp, all_join}
use Rattle.lib_word.specs.Word.{words}
use Rattle.spec_language.specs.Valid.{Valid}
use Rattle.spec_language.specs.Dependence.{events, size}
use Rattle.spec_language.specs.Grammar.{encode}
use Rattle.spec_language.specs.Sheet.{Sheet}
use Rattle.spec_language.specs.Syntax.{Program}
use Rattle.spec_model.specs.Model.{Arrival, rest, busy, Engine, engine, Call, Turn, call, change, State, state, carried_over, TurnOutcome, turn_outcome, carried_to, turn, run_turns, replies, begun}
use Rattle.spec_model.specs.Claims.{longest, in_queue, History, last, then_change, onward, taken_turns, in_force, IdleIn, after, history_of, taken_in_by, committed_in, events_of, SameChanges, unsigned}
use Rattle.spec_model.specs.Sound.{Sound}
use Rattle.spec_model.proofs.States.{number_in}
use Rattle.spec_model.proofs.Moments.{Moment, commits, changes, moments, moments_of, by_sheets, history_of_law, arrivals_committed, committed_in_law}
use Rattle.spec_model.proofs.Alone.{moments_append, only_commits}
use Rattle.spec_model.proofs.Choice.{numbers, distinct_numbers, new_number}
use Rattle.spec_model.proofs.Histories.{rest_same}
use Rattle.spec_model.proofs.History.{runs_append}
use Rattle.spec_model.proofs.Once.{idle_empty, once_each}
use Rattle.format_layout.specs.Layout.{event_count, senders_at, taken, behaviour_count}
use Rattle.format_layout.specs.Foreign.{ours}
use Rattle.back_compile.specs.Verdict.{compile_on}
use Rattle.back_compile.specs.Compiled.{Compiled, program_of}
use Rattle.back_compile.proofs.AcceptedExactly.{accepted_exactly}
use Rattle.ask_agree.specs.Agree.{agree_on}
use Rattle.run_mend.specs.Mending.{mend_on}
use Rattle.run_deliver.specs.Deliver.{delivery_refusal, deliver_with, deliver_on}
use Rattle.refine_calls.specs.Refinement.{coded_reply, calls, mends, Bytes, bytes, turn_on_bytes, bytes_after, round_after}
use Rattle.refine_calls.specs.Turns.{TableFor}
use Rattle.refine_calls.proofs.Agrees.{ours_is}
use Rattle.refine_calls.proofs.Refines.{valid}
use Rattle.refine_calls.proofs.TurnsRefine.{Stand, Turned, turned}
use Rattle.refine_frames.specs.Frames.{ended_by}
use Rattle.refine_lists.specs.Lists.{SheetTurn, calling, mending, Compiles, on_bytes, Means, AllMean, IdleNow, board_of, fresh_round_on, Prepared, TwoListsWhere}
use Rattle.refine_lists.proofs.Bytes.{encode_small}
use Rattle.refine_lists.proofs.Sheets.{program_accepted}
use Rattle.refine_lists.proofs.ListsHold.{in_force_calls}
use Rattle.refine_lists.proofs.Standing.{idle_both}
use Rattle.refine_lists.proofs.FromSheets.{table_for, stands_fresh, prepared_accepted}
use Rattle.refine_deliver.specs.Deliveries.{TakesIn}
use Rattle.refine_deliver.proofs.DeliveriesHold.{allowed, refusal_small}
use Rattle.refine_deliver.proofs.Takes.{stand_takes}
use Rattle.engine_agree.specs.Agreement.{AgreesToo}
use Rattle.engine_agree.proofs.AgreementHolds.{rounds_agree}
use Rattle.engine_order.specs.Orders.{EventOrder, entry_event, entry_player, entries_from, first_entries, AppCall, Offered, app_round, taken_now}
use Rattle.engine_order.specs.Changes.{SheetChange, Acceptable, AppTurn, asks, alters, app_turn, turns_after, ByPlan, ChangesMade, ChangedPhone, outcome_of, board_shown, TwoChangedWhere, SharedOrderChanged}
use Rattle.engine_order.proofs.Blocks.{taken_by, rows_take, Onward, takes_none}
use Rattle.engine_order.proofs.PhonesHold.{calls_leave, calls_stand, app_calls, app_round_law, app_onward, tells}

-- ---- histories

abbrev program_in : SheetChange → Program
program_in c = program_of c.params c.sheet

-- `done` being committed before it, a history makes the changes of the plan, each where what is committed is what the
-- order has up to its place
abbrev Follows : EventOrder → List Arrival → List SheetChange → History → Type 0
Follows order done [] (last l) = Unit {0}
Follows order done [] (then_change l q c) = ⊥
Follows order done (x ∷ plan) (last l) = ⊥
Follows order done (x ∷ plan) (then_change l q c) = (q ≡ program_in x) × List-as-Permᴰ (first_entries x.at order) (done ++ l) × Follows order (done ++ l) plan c

follows_onward : (order : EventOrder) (a : Arrival) (done : List Arrival) (plan : List SheetChange) (c : History) → Follows order (done ++ (a ∷ [])) plan c
    → Follows order done plan (onward a c)
follows_onward order a done [] (last l) f = tt
follows_onward order a done [] (then_change l q c) f = absurd f
follows_onward order a done (x ∷ plan) (last l) f = absurd f
follows_onward order a done (x ∷ plan) (then_change l q c) f =
    let e : (done ++ (a ∷ [])) ++ l ≡ done ++ (a ∷ l) = append_assoc done (a ∷ []) l in
    (f.0, subst (List-as-Permᴰ (first_entries x.at order)) e f.1, subst (λ (d : List Arrival). Follows order d plan c) e f.2)

follows_commits : (order : EventOrder) (l done : List Arrival) (plan : List SheetChange) (h : List Moment) → Follows order (done ++ l) plan (by_sheets h)
    → Follows order done plan (by_sheets (map commits l ++ h))
unfolding by_sheets
follows_commits order [] done plan h f = subst (λ (d : List Arrival). Follows order d plan (by_sheets h)) (append-nil done) f
follows_commits order (a ∷ l) done plan h f =
    follows_onward order a done plan (by_sheets (map commits l ++ h))
    (follows_commits order l (done ++ (a ∷ [])) plan h (subst (λ (d : List Arrival). Follows order d plan (by_sheets h)) (sym (append_assoc done (a ∷ []) l)) f))

-- ---- numbers of an order's entries are distinct

entries_above : (n : ℕ) (order : EventOrder) → All (λ a. n ≤ a.number) (entries_from n order)
unfolding entries_from
entries_above n [] = tt
entries_above n (x ∷ order) =
    (omega arith, all_imp (λ a. suc n ≤ a.number) (λ a. n ≤ a.number) (λ a h. omega arith) (entries_from (suc n) order) (entries_above (suc n) order))

entries_distinct : (n : ℕ) (order : EventOrder) → List-as-Nodup (numbers (entries_from n order))
unfolding entries_from
entries_distinct n [] = Pairwise·nil
entries_distinct n (x ∷ order) =
    new_number n (entries_from (suc n) order)
    (all_imp (λ a. suc n ≤ a.number) (λ a. n ≢ a.number) (λ a h e. omega arith) (entries_from (suc n) order) (entries_above (suc n) order))
    (entries_distinct (suc n) order)

-- two that follow one plan have the same changes after the same commits
same_follow : (order : EventOrder) (plan : List SheetChange) (d e : List Arrival) (c k : History) → List-as-Permᴰ d e → Follows order d plan c → Follows order e plan k → SameChanges c k
same_follow order [] d e (last l) (last m) p f g = tt
same_follow order [] d e (last l) (then_change m r k) p f g = absurd g
same_follow order [] d e (then_change l q c) k p f g = absurd f
same_follow order (x ∷ plan) d e (last l) k p f g = absurd f
same_follow order (x ∷ plan) d e (then_change l q c) (last m) p f g = absurd g
same_follow order (x ∷ plan) d e (then_change l q c) (then_change m r k) p f g =
    let both : List-as-Permᴰ (d ++ l) (e ++ m) = List·Permᴰ·trans (Permᴰ·symm f.1) g.1 in
    let apart : List-as-Nodup (numbers (d ++ l)) = distinct_numbers f.1 (entries_distinct 0 (take x.at order)) in
    (Permᴰ.map unsigned (rest_same d e l m p both apart), f.0 ∙ sym g.0, same_follow order plan (d ++ l) (e ++ m) c k both f.2 g.2)

-- ---- a change on an idle round is made

some_in_hand : (a : Arrival) (l : List Arrival) → a ∷ l ≡ [] → ⊥
some_in_hand a l h = let e : true ≡ false = cc in true≢false e

changes_now : (p q : Program) (w : Engine) → in_queue w ≡ [] → turn (change q) (state p w) ≡ turn_outcome carried_over (state q (carried_to p q w))
unfolding turn
changes_now p q (engine t [] rest d) h = refl
changes_now p q (engine t (b ∷ l) rest d) h = absurd (some_in_hand b l h)
changes_now p q (engine t waiting (busy a c) d) h = absurd (some_in_hand a waiting h)

idle_changes : (q : Program) (s : State) → IdleIn s → ((turn (change q) s).reply ≡ carried_over) × (in_force (turn (change q) s).after ≡ q)
idle_changes q (state p w) h =
    let e = changes_now p q w (idle_empty p w h) in (ap (λ (o : TurnOutcome). o.reply) e, ap (λ (o : TurnOutcome). in_force o.after) e)

-- ---- sheets of the plan

module _ (c : SheetChange) (ok : Acceptable c) (u : List ℕ) (room : 34816 ≤ length u) where
  small : All (λ b. b < 256) (encode c.sheet)
  small = encode_small c.sheet ok.1.fits

  compiles : (compile_on (encode c.sheet) c.params u).0 ≡ 0
  compiles = ap (λ (o : Compiled). o.0) ((accepted_exactly (encode c.sheet) c.params u small room).1 c.sheet refl ok.1)

  turns_to : Compiles (mending (encode c.sheet) c.params u)
  turns_to = (small, ok.0, compiles)

  table_of : TableFor (program_in c) (compile_on (encode c.sheet) c.params u).1
  table_of = table_for (encode c.sheet) c.params u small ok.0 compiles c.sheet refl ok.1

-- the program in force after a plan
abbrev last_in : Program → List SheetChange → Program
last_in p [] = p
last_in p (c ∷ plan) = last_in (program_in c) plan

-- ---- rows of turns

means_append : {xs : List SheetTurn} {ts : List Turn} {ys : List SheetTurn} {us : List Turn} → AllMean xs ts → AllMean ys us → AllMean (xs ++ ys) (ts ++ us)
means_append Forall₂·nil n = n
means_append (Forall₂·cons {a = x} {b = t} {l₁ = xs} {l₂ = ts} m ms) n = Forall₂·cons m (means_append {xs = xs} {ts = ts} ms n)

calls_mean : (cs : List Call) → AllMean (map calling cs) (map call cs)
calls_mean [] = Forall₂·nil
calls_mean (c ∷ cs) = Forall₂·cons refl (calls_mean cs)

calls_compile : (cs : List Call) → All Compiles (map calling cs)
calls_compile [] = tt
calls_compile (c ∷ cs) = (tt, calls_compile cs)

-- the condition C holds of the sheet of a change
abbrev pub OfChange : (List ℕ → List ℕ → Type 0) → SheetTurn → Type 0
OfChange C (calling c) = Unit {0}
OfChange C (mending s ps t) = C s ps

calls_hold : (C : List ℕ → List ℕ → Type 0) (cs : List Call) → All (OfChange C) (map calling cs)
calls_hold C [] = tt
calls_hold C (c ∷ cs) = (tt, calls_hold C cs)

calls_sound : (cs : List Call) → All Sound (map call cs)
calls_sound [] = tt
calls_sound (c ∷ cs) = (tt, calls_sound cs)

turns_append : (xs ys : List SheetTurn) (b : Bytes) → bytes_after (map on_bytes (xs ++ ys)) b ≡ bytes_after (map on_bytes ys) (bytes_after (map on_bytes xs) b)
unfolding bytes_after
turns_append [] ys b = refl
turns_append (x ∷ xs) ys b = turns_append xs ys (turn_on_bytes (on_bytes x) b).after

calls_on_bytes : (cs : List Call) (b : Bytes) → bytes_after (map on_bytes (map calling cs)) b ≡ bytes_after (map calls cs) b
unfolding bytes_after
calls_on_bytes [] b = refl
calls_on_bytes (c ∷ cs) b = calls_on_bytes cs (turn_on_bytes (calls c) b).after

-- what a row of calls commits
committed_row : (cs : List Call) (s : State)
    → moments (map call cs) (replies (map call cs) s) ≡ map commits (arrivals_committed (moments (map call cs) (replies (map call cs) s)))
committed_row cs (state p w) = only_commits cs p w

committed_append : (h k : List Moment) → arrivals_committed (h ++ k) ≡ arrivals_committed h ++ arrivals_committed k
committed_append [] k = refl
committed_append (commits a ∷ h) k = ap (λ (l : List Arrival). a ∷ l) (committed_append h k)
committed_append (changes q ∷ h) k = committed_append h k

-- ---- from the turns `past` on

module _ (C : List ℕ → List ℕ → Type 0) (p : Program) (v : Valid p) (l₀ : List ℕ) (order : EventOrder) (short : length order ≤ 1000000) where
  -- what the past has come to
  record Past (past : List Turn) (b : Bytes) (s : State) : Type 0 where
    here : after p past ≡ s
    sound : All Sound past
    begun_with : taken_in_by p past ≡ first_entries (number_in s) order
    within : number_in s ≤ length order
    stand : Stand l₀ b s

  record Walk (past : List Turn) (b : Bytes) (s : State) (plan : List SheetChange) (xs : List AppTurn) : Type 0 where
    list : List SheetTurn
    compile : All Compiles list
    holds : All (λ (c : SheetChange). C (encode c.sheet) c.params) plan → All (OfChange C) list
    means : List Turn
    mean : AllMean list means
    leaves : turns_after order xs b ≡ bytes_after (map on_bytes list) b
    made : ChangesMade order xs b
    force : in_force (run_turns means s) ≡ last_in (in_force s) plan
    follows : Follows order (arrivals_committed (moments_of p past)) plan (by_sheets (moments means (replies means s)))
    at_last : Past (past ++ means) (turns_after order xs b) (run_turns means s)

  -- no turn
  none : (past : List Turn) (b : Bytes) (s : State) → Past past b s → Walk past b s [] []
  unfolding turns_after bytes_after run_turns replies moments by_sheets
  none past b s h = record {
    list = [];
    compile = tt;
    holds = λ _. tt;
    means = [];
    mean = Forall₂·nil;
    leaves = refl;
    made = tt;
    force = refl;
    follows = tt;
    at_last = subst (λ (ts : List Turn). Past ts b s) (sym (append-nil past)) h;
  }

  -- a row of turns moves the past on
  moved_on : (past ts : List Turn) (b b' : Bytes) (s : State) → Past past b s → All Sound ts → Onward order s ts → Stand l₀ b' (run_turns ts s) → Past (past ++ ts) b' (run_turns ts s)
  moved_on past ts b b' s h g o st = record {
    here = runs_append past ts (begun p) ∙ ap (run_turns ts) h.here;
    sound = all_join Sound past ts h.sound g;
    begun_with = rows_take past ts (begun p) ∙ ap (λ (l : List Arrival). l ++ taken_by ts (run_turns past (begun p))) h.begun_with
        ∙ ap (λ (x : State). first_entries (number_in s) order ++ taken_by ts x) h.here ∙ o.taken;
    within = o.within;
    stand = st;
  }

  module _ (past : List Turn) (b : Bytes) (s : State) (h : Past past b s) where
    abbrev t : List ℕ
    t = b.table

    abbrev l : List ℕ
    l = b.round

    history_on : (ts : List Turn) → arrivals_committed (moments_of p (past ++ ts)) ≡ arrivals_committed (moments_of p past) ++ arrivals_committed (moments ts (replies ts s))
    history_on ts =
        ap arrivals_committed (moments_append past ts (begun p)) ∙ committed_append (moments_of p past) (moments ts (replies ts (run_turns past (begun p))))
        ∙ ap (λ (x : State). arrivals_committed (moments_of p past) ++ arrivals_committed (moments ts (replies ts x))) h.here

    -- a call of the app
    module _ (c : AppCall) (o : Offered order c) where
      abbrev cs : List Call
      cs = app_calls t order c l

      abbrev b' : Bytes
      b' = bytes t (app_round t order c l)

      abbrev s' : State
      s' = run_turns (map call cs) s

      round_is : app_round t order c l ≡ round_after t cs l
      round_is = app_round_law t order c l o

      stand_then : Stand l₀ b' s'
      stand_then = subst (λ (x : List ℕ). Stand l₀ (bytes t x) s') (sym round_is) (calls_stand l₀ t l cs s h.stand)

      then : Past (past ++ map call cs) b' s'
      then = moved_on past (map call cs) b b' s h (calls_sound cs) (app_onward l₀ t l order s h.stand h.within c o) stand_then

      asked : (plan : List SheetChange) (xs : List AppTurn) → Walk (past ++ map call cs) b' s' plan xs → Walk past b s plan (asks c ∷ xs)
      unfolding turns_after app_turn
      asked plan xs w =
          let first : bytes_after (map on_bytes (map calling cs)) b ≡ b' = calls_on_bytes cs b ∙ calls_leave t cs l ∙ ap (bytes t) (sym round_is) in
          let ran : run_turns (map call cs ++ w.means) s ≡ run_turns w.means s' = runs_append (map call cs) w.means s in
          let row : List Arrival = arrivals_committed (moments (map call cs) (replies (map call cs) s)) in
          let h₁ : List Moment = moments w.means (replies w.means s') in
          let split_up : moments (map call cs ++ w.means) (replies (map call cs ++ w.means) s) ≡ map commits row ++ h₁ =
          moments_append (map call cs) w.means s ∙ ap (λ (k : List Moment). k ++ h₁) (committed_row cs s) in
          record {
            list = map calling cs ++ w.list;
            compile = all_join Compiles (map calling cs) w.list (calls_compile cs) w.compile;
            holds = λ z. all_join (OfChange C) (map calling cs) w.list (calls_hold C cs) (w.holds z);
            means = map call cs ++ w.means;
            mean = means_append (calls_mean cs) w.mean;
            leaves = w.leaves ∙ ap (bytes_after (map on_bytes w.list)) (sym first) ∙ sym (turns_append (map calling cs) w.list b);
            made = w.made;
            force = ap in_force ran ∙ w.force ∙ ap (λ (q : Program). last_in q plan) (in_force_calls cs s);
            follows = subst (λ (k : List Moment). Follows order (arrivals_committed (moments_of p past)) plan (by_sheets k)) (sym split_up)
                (follows_commits order row (arrivals_committed (moments_of p past)) plan h₁
                (subst (λ (d : List Arrival). Follows order d plan (by_sheets h₁)) (history_on (map call cs)) w.follows));
            at_last = subst (λ (ts : List Turn). Past ts (turns_after order xs b') (run_turns (map call cs ++ w.means) s)) (append_assoc past (map call cs) w.means)
                (subst (Past ((past ++ map call cs) ++ w.means) (turns_after order xs b')) (sym ran) w.at_last);
          }

    -- a change on an idle round
    module _ (c : SheetChange) (ok : Acceptable c) (u : List ℕ) (room : 34816 ≤ length u) (i : IdleNow b) (at : taken_now b ≡ c.at) where
      abbrev q : Program
      q = program_in c

      abbrev w' : List ℕ
      w' = (compile_on (encode c.sheet) c.params u).1

      idle_now : IdleIn s
      idle_now = (idle_both l₀ b s h.stand).0 i

      abbrev v' : State
      v' = (turn (change q) s).after

      replied : (turn (change q) s).reply ≡ carried_over
      replied = (idle_changes q s idle_now).0

      turned_to : Turned l₀ b (mends w') s (change q)
      turned_to = turned l₀ b (mends w') s (change q) (table_of c ok u room) h.stand

      answers_0 : (mend_on t w' l).0 ≡ 0
      unfolding turn_on_bytes
      answers_0 = turned_to.answered ∙ ap coded_reply replied

      takes_nothing : taken_by (change q ∷ []) s ≡ []
      unfolding taken_turns replies
      takes_nothing = refl

      one_turn : run_turns (change q ∷ []) s ≡ v'
      unfolding run_turns
      one_turn = refl

      then_changed : Past (past ++ (change q ∷ [])) (turn_on_bytes (mends w') b).after v'
      unfolding run_turns
      then_changed =
          moved_on past (change q ∷ []) b (turn_on_bytes (mends w') b).after s h
          (valid q (program_accepted c.params ok.0 c.sheet ok.1), tt) (takes_none order s (change q ∷ []) takes_nothing h.within) turned_to.stand

      means_it : Means (mending (encode c.sheet) c.params u) (change q)
      means_it = (c.sheet, refl, ok.1, refl)

      -- what is committed then is what the order has up to here
      all_committed : List-as-Permᴰ (first_entries c.at order) (arrivals_committed (moments_of p past))
      all_committed =
          let k : List-as-Permᴰ (taken_in_by p past) (committed_in p past) = (once_each p v past h.sound).2 (subst IdleIn (sym h.here) idle_now) in
          let n : number_in s ≡ c.at = sym (tells l₀ b s h.stand (omega (arith, h.within))) ∙ at in
          subst (λ (m : ℕ). List-as-Permᴰ (first_entries m order) (arrivals_committed (moments_of p past))) n
          (subst (λ (y : List Arrival). List-as-Permᴰ y (arrivals_committed (moments_of p past))) h.begun_with
          (subst (List-as-Permᴰ (taken_in_by p past)) (committed_in_law p past) k))

      history_same : arrivals_committed (moments_of p (past ++ (change q ∷ []))) ≡ arrivals_committed (moments_of p past) ++ []
      unfolding moments replies
      history_same = history_on (change q ∷ []) ∙ rw replied

      altered : (plan : List SheetChange) (xs : List AppTurn) → Walk (past ++ (change q ∷ [])) (turn_on_bytes (mends w') b).after v' plan xs
          → Walk past b s (c ∷ plan) (alters c u ∷ xs)
      unfolding turns_after app_turn bytes_after run_turns replies moments by_sheets
      altered plan xs w = record {
        list = mending (encode c.sheet) c.params u ∷ w.list;
        compile = (turns_to c ok u room, w.compile);
        holds = λ z. (z.0, w.holds z.1);
        means = change q ∷ w.means;
        mean = Forall₂·cons means_it w.mean;
        leaves = w.leaves;
        made = (answers_0, w.made);
        force = w.force ∙ ap (λ (y : Program). last_in y plan) (idle_changes q s idle_now).1;
        follows = rw replied (
          refl,
          subst (List-as-Permᴰ (first_entries c.at order)) (sym (append-nil (arrivals_committed (moments_of p past)))) all_committed,
          subst (λ (d : List Arrival). Follows order d plan (by_sheets (moments w.means (replies w.means v')))) history_same w.follows,
        );
        at_last = subst (λ (ts : List Turn). Past ts (turns_after order xs (turn_on_bytes (mends w') b).after) (run_turns w.means v'))
            (append_assoc past (change q ∷ []) w.means) w.at_last;
      }

  walk : (plan : List SheetChange) → All Acceptable plan → (xs : List AppTurn) (past : List Turn) (b : Bytes) (s : State) → Past past b s → ByPlan order plan xs b
      → Walk past b s plan xs
  unfolding app_turn
  walk [] ok [] past b s h f = none past b s h
  walk (c ∷ plan) ok [] past b s h f = absurd f
  walk [] ok (asks a ∷ xs) past b s h f =
      asked past b s h a f.0 [] xs (walk [] ok xs (past ++ map call (app_calls b.table order a b.round)) _ _ (then past b s h a f.0) f.1)
  walk (c ∷ plan) ok (asks a ∷ xs) past b s h f =
      asked past b s h a f.0 (c ∷ plan) xs (walk (c ∷ plan) ok xs (past ++ map call (app_calls b.table order a b.round)) _ _ (then past b s h a f.0) f.1)
  walk [] ok (alters d u ∷ xs) past b s h f = absurd f
  walk (c ∷ plan) ok (alters d u ∷ xs) past b s h f =
      subst (λ (y : SheetChange). ByPlan order (c ∷ plan) (alters y u ∷ xs) b → Walk past b s (c ∷ plan) (alters y u ∷ xs)) (sym f.0)
      (λ g. altered past b s h c ok.0 u g.1 g.2 g.3 plan xs
      (walk plan ok.1 xs (past ++ (change (program_in c) ∷ [])) _ _ (then_changed past b s h c ok.0 u g.1 g.2 g.3) g.4)) f

-- ---- one phone

module _ (C : List ℕ → List ℕ → Type 0) (s ps t₀ l₀ : List ℕ) (x : Sheet) (r : Prepared s ps t₀ l₀ x) (p : Program) (filled : program_of ps x ≡ p) (order : EventOrder) (short : length order ≤ 1000000)
    (plan : List SheetChange) (ok : All Acceptable plan) (xs : List AppTurn) (f : ByPlan order plan xs (fresh_round_on s ps t₀ l₀)) where
  abbrev first : Bytes
  first = fresh_round_on s ps t₀ l₀

  v : Valid p
  v = subst Valid filled (valid (program_of ps x) (prepared_accepted s ps t₀ l₀ x r))

  nothing_yet : Past C p v l₀ order short [] first (begun p)
  unfolding taken_turns entries_from run_turns
  nothing_yet = record {
    here = refl;
    sound = tt;
    begun_with = refl;
    within = omega arith;
    stand = subst (λ (q : Program). Stand l₀ first (begun q)) filled (stands_fresh s ps t₀ l₀ x r);
  }

  w : Walk C p v l₀ order short [] first (begun p) plan xs
  w = walk C p v l₀ order short plan ok xs [] first (begun p) nothing_yet f

  abbrev end : Bytes
  end = turns_after order xs first

  abbrev S : State
  S = after p w.means

  told : taken_now end ≡ number_in S
  told = tells l₀ end S w.at_last.stand (omega (arith, w.at_last.within))

  shown : board_shown end ≡ board_of (in_force S) end.round
  shown = ap (words end.round 136) (count S w.at_last.stand)
    where
      count : (u : State) → Stand l₀ end u → behaviour_count end.table ≡ size (in_force u)
      count (state q e) h = h.says.behaviour_count_law

  follow : Follows order [] plan (history_of p w.means)
  unfolding moments replies
  follow = subst (Follows order [] plan) (sym (history_of_law p w.means)) w.follows

  took_in : taken_in_by p w.means ≡ first_entries (taken_now end) order
  took_in = rw told w.at_last.begun_with

  phone : ChangedPhone p first order xs end
  phone = record {
    list = w.list;
    compile = w.compile;
    means = w.means;
    mean = w.mean;
    leaves = w.leaves;
    made = w.made;
    taken_in = took_in;
    within = rw told w.at_last.within;
    next = λ some declared eight right commits room.
        let n = taken_now end in
        subst (λ (m : ℕ). TakesIn end m (entry_event order n) (entry_player order n) commits (longest (in_force S) * 3 / 2)) (sym told)
        (stand_takes l₀ end S w.at_last.stand (entry_event order n) (entry_player order n) commits declared eight right (omega (arith, told)) room);
  }

-- ---- deliveries alike

-- by the refusal's number, or 0
abbrev ends_with : ℕ → ℕ × ℕ
ends_with r = pick (eqb r 0) (1, 0) (0, r)

abbrev refusal_in : State → ℕ → ℕ → ℕ → ℕ
refusal_in s n e who = delivery_refusal (number_in s) (events (in_force s)) (get_or (in_force s).senders e 0) n e who

-- who may send an event that is not declared is not asked
undeclared_alike : (k known m m' n e who : ℕ) → (e < known → m ≡ m') → delivery_refusal k known m n e who ≡ delivery_refusal k known m' n e who
unfolding delivery_refusal
undeclared_alike k known m m' n e who h =
    by_cases (dec_lt e known) (λ b. rw (h b)) (λ b. rw (le-leb known e (omega arith)))

refused_outcome : (r : ℕ) → r < 64 → r ≢ 0 → outcome_of r ≡ (0, r)
refused_outcome r h z = let e : ended_by r ≡ 0 = omega arith in rw e

taken_outcome : (u : ℕ) → ended_by u ≡ 1 → outcome_of u ≡ (1, 0)
taken_outcome u h = rw h

refuses : (t l : List ℕ) (n e who : ℕ) (c : List ℕ) (r : ℕ) → ours t l ≡ true → delivery_refusal (taken l) (event_count t) (senders_at t e) n e who ≡ r → eqb r 0 ≡ false
    → (deliver_on t l n e who c).0 ≡ r
unfolding deliver_on deliver_with
refuses t l n e who c r h q z = rw (h, q, z)

outcome : (l₀ : List ℕ) (b : Bytes) (s : State) → Stand l₀ b s → (n e who : ℕ) (c : List ℕ) → 8 ≤ length c
    → outcome_of (deliver_on b.table b.round n e who c).0 ≡ ends_with (refusal_in s n e who)
outcome l₀ b (state p (engine k q r d)) h n e who c room =
    let t = b.table in
    let l = b.round in
    let x = refusal_in (state p (engine k q r d)) n e who in
    let ours_so = ours_is p h.fit.0 t h.says l k q r d h.alike h.fit.1 in
    let same : delivery_refusal (taken l) (event_count t) (senders_at t e) n e who ≡ x =
    rw (h.alike.number, h.says.event_count_law) (undeclared_alike k (events p) (senders_at t e) (get_or p.senders e 0) n e who (λ b. h.says.senders e b)) in
    split (eqb x 0)
    (λ z.
    let a = allowed k (events p) (get_or p.senders e 0) n e who (eqb-true x 0 z) in
    let took = stand_takes l₀ b (state p (engine k q r d)) h e who c a.declared a.player a.right (rw a.in_place a.few) room in
    taken_outcome (deliver_on t l n e who c).0 (subst (λ (m : ℕ). ended_by (deliver_on t l m e who c).0 ≡ 1) a.in_place took.0) ∙ rw z)
    (λ z.
    ap outcome_of (refuses t l n e who c x ours_so same z)
    ∙ refused_outcome x (refusal_small k (events p) (get_or p.senders e 0) n e who) (eqb-false x 0 z) ∙ rw z)

-- ---- two phones

-- equal boards of demand 3's lists, where C holds of each sheet, are equal boards of the phones
pub two_changed : (C : List ℕ → List ℕ → Type 0) → TwoListsWhere (λ s ps p xs ts. C s ps × All (OfChange C) xs) → TwoChangedWhere C
two_changed C hold s ps qs t₀ l₀ t₁ l₁ x r order short plan ok z zs xs ys f g same =
    let p : Program = program_of ps x in
    let a = w C s ps t₀ l₀ x r.one p refl order short plan ok xs f in
    let b = w C s qs t₁ l₁ x r.other p r.filled order short plan ok ys g in
    let ta = took_in C s ps t₀ l₀ x r.one p refl order short plan ok xs f in
    let tb = took_in C s qs t₁ l₁ x r.other p r.filled order short plan ok ys g in
    let A : Bytes = turns_after order xs (fresh_round_on s ps t₀ l₀) in
    let B : Bytes = turns_after order ys (fresh_round_on s qs t₁ l₁) in
    let numbers_same : number_in (after p a.means) ≡ number_in (after p b.means) =
    sym (told C s ps t₀ l₀ x r.one p refl order short plan ok xs f) ∙ same ∙ told C s qs t₁ l₁ x r.other p r.filled order short plan ok ys g in
    let forces_same : in_force (after p a.means) ≡ in_force (after p b.means) = a.force ∙ sym b.force in
    record {
      deliveries = λ n e who c d rc rd.
          outcome l₀ A (after p a.means) a.at_last.stand n e who c rc
          ∙ ap (λ (m : ℕ). ends_with (delivery_refusal m (events (in_force (after p a.means))) (get_or (in_force (after p a.means)).senders e 0) n e who)) numbers_same
          ∙ ap (λ (q : Program). ends_with (delivery_refusal (number_in (after p b.means)) (events q) (get_or q.senders e 0) n e who)) forces_same
          ∙ sym (outcome l₁ B (after p b.means) b.at_last.stand n e who d rd);
      boards = λ i j.
          shown C s ps t₀ l₀ x r.one p refl order short plan ok xs f
          ∙ ap (λ (y : Bytes). board_of (in_force (after p a.means)) y.round) a.leaves
          ∙ hold s ps qs t₀ l₀ t₁ l₁ x r a.list b.list a.compile b.compile a.means b.means a.mean b.mean
          (ap events_of (ta ∙ ap (λ (k : ℕ). first_entries k order) same ∙ sym tb))
          (same_follow order plan [] [] (history_of p a.means) (history_of p b.means) (Permᴰ·refl [])
          (follow C s ps t₀ l₀ x r.one p refl order short plan ok xs f) (follow C s qs t₁ l₁ x r.other p r.filled order short plan ok ys g))
          (z, a.holds zs) (subst IdleNow a.leaves i) (subst IdleNow b.leaves j)
          ∙ sym (ap (λ (y : Bytes). board_of (in_force (after p b.means)) y.round) b.leaves)
          ∙ sym (shown C s qs t₁ l₁ x r.other p r.filled order short plan ok ys g);
    }

agrees_too : (x : SheetTurn) → OfChange (λ s ps. agree_on s ps ≡ 0) x → AgreesToo x
agrees_too (calling c) h = h
agrees_too (mending s ps t) h = h

pub in_order_changed : SharedOrderChanged
in_order_changed = record {
  one = λ s ps t₀ l₀ x r order short plan ok xs f. phone (λ s ps. Unit {0}) s ps t₀ l₀ x r (program_of ps x) refl order short plan ok xs f;
  two = two_changed (λ s ps. agree_on s ps ≡ 0)
      (λ s ps qs t₀ l₀ t₁ l₁ x r xs ys kx ky ts us mt mu same kept z.
      rounds_agree s ps qs t₀ l₀ t₁ l₁ x r xs ys kx ky ts us mt mu same kept (z.0, all_imp (OfChange (λ s ps. agree_on s ps ≡ 0)) AgreesToo agrees_too xs z.1));
}
