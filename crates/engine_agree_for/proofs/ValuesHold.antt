-- What a 0 of `agree_for` promises: no two events of unequal rank meet in the behaviour's cone, so that its values are
-- those of the model engine's lists, which agree there. Where it is 0 for each behaviour, all events of unequal rank
-- commute, in every sheet of the history.
use Rattle.lib_base.proofs.Prelude.{ℕ, ◌≡◌, refl, ◌∙◌, sym, ap, subst, inl, List, [], ◌∷◌, map, Forall₂·nil}
use Rattle.lib_base.proofs.Prelude.{Forall₂·cons}
use Rattle.lib_base.specs.Basics.{All}
use Rattle.spec_language.specs.Syntax.{Program}
use Rattle.spec_language.specs.Valid.{Accepted, Valid}
use Rattle.spec_semantics.specs.Meaning.{at}
use Rattle.spec_model.specs.Model.{Arrival, Answer, refused, told_taken_in, shows, idle, ran, started, preempted, committed, Call, Turn, call, change, Reply, says, carried_over, replies, begun, State, state, engine}
use Rattle.spec_model.specs.Claims.{History, last, then_change, onward, if_commits, with_turn, history_by, history_of, in_force, after, SameChanges}
use Rattle.spec_model.specs.Sound.{Sound}
use Rattle.spec_model.proofs.States.{store_in}
use Rattle.spec_model.proofs.Histories.{OneSheet}
use Rattle.spec_model.proofs.Replaying.{known}
use Rattle.spec_model.proofs.SameBoard.{same_store}
use Rattle.ask_commute.specs.Meets.{Cone}
use Rattle.ask_commute.proofs.Cones.{cone_closed}
use Rattle.ask_commute.proofs.TwoLists.{same_values, SettledAll, SettledEach, settled_commute}
use Rattle.back_compile.specs.Compiled.{program_of}
use Rattle.refine_calls.specs.Refinement.{calls, ViewIn, Bytes, bytes_after}
use Rattle.refine_calls.proofs.Refines.{valid}
use Rattle.refine_lists.specs.Lists.{board_of, SheetTurn, calling, mending, Compiles, on_bytes, Means, AllMean, fresh_round_on, OneList, OnlyCalls}
use Rattle.refine_lists.proofs.Sheets.{program_accepted}
use Rattle.refine_lists.proofs.FromSheets.{prepared_bytes, prepared_accepted, calls_of_law, list_of}
use Rattle.engine_agree_for.specs.OneBehaviour.{OneValue, EachAgrees, EachAgreesToo, EachRoundAgrees}
use Rattle.engine_agree_for.proofs.Answers.{settled, zero_settled}

-- ---- what a list of calls says

calls_sound : (cs : List Call) → All Sound (map call cs)
calls_sound [] = tt
calls_sound (c ∷ cs) = (tt, calls_sound cs)

-- the board in a round's bytes
store_view : (l : List ℕ) (s : State) → ViewIn l s → board_of (in_force s) l ≡ store_in s
store_view l (state p (engine t q r d)) v = v.store

-- ---- one list of calls on the bytes b

module _ (p : Program) (l : List ℕ) (b : Bytes) (cs : List Call) (a : OnlyCalls p l b cs) where
  one_sheet : OneSheet (history_of p (map call cs))
  one_sheet = subst OneSheet (sym a.history) tt

  board_shows : board_of p (bytes_after (map calls cs) b).round ≡ store_in (after p (map call cs))
  board_shows = ap (λ (q : Program). board_of q (bytes_after (map calls cs) b).round) (sym a.in_force_law) ∙ store_view _ (after p (map call cs)) a.list.round

-- ---- one behaviour

pub one_value : OneValue
one_value s ps qs t₀ l₀ t₁ l₁ x two cs ds same b h z i j =
    let p : Program = program_of ps x in
    let ok : Accepted p = prepared_accepted s ps t₀ l₀ x two.one in
    let a : OnlyCalls p l₀ (fresh_round_on s ps t₀ l₀) cs = calls_of_law s ps t₀ l₀ x two.one cs in
    let c : OnlyCalls p l₁ (fresh_round_on s qs t₁ l₁) ds =
    subst (λ (q : Program). OnlyCalls q l₁ (fresh_round_on s qs t₁ l₁) ds) two.filled (calls_of_law s qs t₁ l₁ x two.other ds) in
    let clear = settled s ps (prepared_bytes s ps t₀ l₀ x two.one) two.one.param_bytes x two.one.sent_as two.one.taken b h z in
    ap (λ (m : List ℕ). at m b) (board_shows p l₀ (fresh_round_on s ps t₀ l₀) cs a)
    ∙ same_values p (valid p ok) (Cone p b) (cone_closed p b) clear (map call cs) (map call ds) (calls_sound cs) (calls_sound ds) same
    (one_sheet p l₀ (fresh_round_on s ps t₀ l₀) cs a) (one_sheet p l₁ (fresh_round_on s qs t₁ l₁) ds c) (a.list.idle.0 i) (c.list.idle.0 j) b h (inl refl)
    ∙ sym (ap (λ (m : List ℕ). at m b) (board_shows p l₁ (fresh_round_on s qs t₁ l₁) ds c))

-- ---- the whole board, of calls alone

same_ones : (c d : History) → OneSheet c → OneSheet d → SameChanges c d
same_ones (last l) (last m) h k = tt
same_ones (last l) (then_change m r d) h k = absurd k
same_ones (then_change l q c) d h k = absurd h

settled_one : (p : Program) (c : History) → OneSheet c → SettledAll p → SettledEach p c
settled_one p (last l) h z = z
settled_one p (then_change l q c) h z = absurd h

pub each_agrees : EachAgrees
each_agrees s ps qs t₀ l₀ t₁ l₁ x two cs ds same z i j =
    let p : Program = program_of ps x in
    let v : Valid p = valid p (prepared_accepted s ps t₀ l₀ x two.one) in
    let a : OnlyCalls p l₀ (fresh_round_on s ps t₀ l₀) cs = calls_of_law s ps t₀ l₀ x two.one cs in
    let c : OnlyCalls p l₁ (fresh_round_on s qs t₁ l₁) ds =
    subst (λ (q : Program). OnlyCalls q l₁ (fresh_round_on s qs t₁ l₁) ds) two.filled (calls_of_law s qs t₁ l₁ x two.other ds) in
    let oa = one_sheet p l₀ (fresh_round_on s ps t₀ l₀) cs a in
    let oc = one_sheet p l₁ (fresh_round_on s qs t₁ l₁) ds c in
    let all : SettledAll p = zero_settled s ps (prepared_bytes s ps t₀ l₀ x two.one) two.one.param_bytes x two.one.sent_as two.one.taken z in
    let ht = history_of p (map call cs) in
    board_shows p l₀ (fresh_round_on s ps t₀ l₀) cs a
    ∙ same_store p v (map call cs) (map call ds) (calls_sound cs) (calls_sound ds) same (a.list.idle.0 i) (c.list.idle.0 j)
    (same_ones ht (history_of p (map call ds)) oa oc)
    (settled_commute p ht (known p v (map call cs) (calls_sound cs)) (settled_one p ht oa all))
    ∙ sym (board_shows p l₁ (fresh_round_on s qs t₁ l₁) ds c)

-- ---- with changes: every program of the history is settled

abbrev GoodTurn : Turn → Type 0
GoodTurn (call c) = Unit {0}
GoodTurn (change q) = SettledAll q

abbrev GoodHistory : History → Type 0
GoodHistory (last l) = Unit {0}
GoodHistory (then_change l q h) = SettledAll q × GoodHistory h

onward_good : (a : Arrival) (h : History) → GoodHistory h → GoodHistory (onward a h)
onward_good a (last l) g = tt
onward_good a (then_change l q h) g = g

commits_good : (a : Answer) (h : History) → GoodHistory h → GoodHistory (if_commits a h)
commits_good (refused n) h g = g
commits_good told_taken_in h g = g
commits_good (shows v) h g = g
commits_good idle h g = g
commits_good ran h g = g
commits_good (started a) h g = g
commits_good (preempted a) h g = g
commits_good (committed a m) h g = onward_good a h g

with_good : (t : Turn) (r : Reply) (h : History) → GoodTurn t → GoodHistory h → GoodHistory (with_turn t r h)
with_good (call c) (says a) h k g = commits_good a h g
with_good (call c) carried_over h k g = g
with_good (change q) (says a) h k g = g
with_good (change q) carried_over h k g = (k, g)

history_good : (ts : List Turn) (rs : List Reply) → All GoodTurn ts → GoodHistory (history_by ts rs)
unfolding history_by
history_good [] rs g = tt
history_good (t ∷ ts) [] g = tt
history_good (t ∷ ts) (r ∷ rs) g = with_good t r (history_by ts rs) g.0 (history_good ts rs g.1)

settled_each : (p : Program) (h : History) → SettledAll p → GoodHistory h → SettledEach p h
settled_each p (last l) g k = g
settled_each p (then_change l q h) g k = (g, settled_each q h k.0 k.1)

turn_good : (x : SheetTurn) (t : Turn) → Means x t → Compiles x → EachAgreesToo x → GoodTurn t
turn_good (calling c) (call d) m k a = tt
turn_good (calling c) (change q) m k a = absurd m
turn_good (mending s ps t) (call d) m k a = tt
turn_good (mending s ps t) (change q) m k a = subst SettledAll (sym m.3) (zero_settled s ps k.0 k.1 m.0 m.1 m.2 a)

turns_good : {xs : List SheetTurn} {ts : List Turn} → AllMean xs ts → All Compiles xs → All EachAgreesToo xs → All GoodTurn ts
turns_good Forall₂·nil k a = tt
turns_good (Forall₂·cons {a = x} {b = t} {l₁ = xs} {l₂ = ts} m ms) k a = (turn_good x t m k.0 a.0, turns_good {xs = xs} {ts = ts} ms k.1 a.1)

turn_sound : (x : SheetTurn) (t : Turn) → Means x t → Compiles x → Sound t
turn_sound (calling c) (call d) m k = tt
turn_sound (calling c) (change q) m k = absurd m
turn_sound (mending s ps t) (call d) m k = tt
turn_sound (mending s ps t) (change q) m k = subst Valid (sym m.3) (valid (program_of ps m.0) (program_accepted ps k.1 m.0 m.2))

all_sound : {xs : List SheetTurn} {ts : List Turn} → AllMean xs ts → All Compiles xs → All Sound ts
all_sound Forall₂·nil k = tt
all_sound (Forall₂·cons {a = x} {b = t} {l₁ = xs} {l₂ = ts} m ms) k = (turn_sound x t m k.0, all_sound {xs = xs} {ts = ts} ms k.1)

pub each_round_agrees : EachRoundAgrees
each_round_agrees s ps qs t₀ l₀ t₁ l₁ x two xs ys kx ky ts us mt mu same kept z i j =
    let p : Program = program_of ps x in
    let v : Valid p = valid p (prepared_accepted s ps t₀ l₀ x two.one) in
    let a : OneList p l₀ (fresh_round_on s ps t₀ l₀) (map on_bytes xs) ts = list_of s ps t₀ l₀ x two.one xs kx ts mt in
    let c : OneList p l₁ (fresh_round_on s qs t₁ l₁) (map on_bytes ys) us =
    subst (λ (q : Program). OneList q l₁ (fresh_round_on s qs t₁ l₁) (map on_bytes ys) us) two.filled (list_of s qs t₁ l₁ x two.other ys ky us mu) in
    let all : SettledAll p = zero_settled s ps (prepared_bytes s ps t₀ l₀ x two.one) two.one.param_bytes x two.one.sent_as two.one.taken z.0 in
    let st = all_sound mt kx in
    let ht = history_of p ts in
    store_view _ (after p ts) a.round
    ∙ same_store p v ts us st (all_sound mu ky) same (a.idle.0 i) (c.idle.0 j) kept
    (settled_commute p ht (known p v ts st) (settled_each p ht all (history_good ts (replies ts (begun p)) (turns_good mt kx z.1))))
    ∙ sym (store_view _ (after p us) c.round)
