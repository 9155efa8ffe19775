-- The promise to an app holds: each of its calls is a row of demand 3's calls, the arrivals of which come next in the
-- order; by induction on its list, the round standing for an engine of the model. Two phones with the same number taken
-- in have then taken in the same events, so that demand 3's last sentence holds of them.
use Rattle.lib_base.proofs.Prelude.{ℕ, ◌≤◌, ◌<◌, ◌+◌, ◌*◌, ◌/◌, ◌≡◌, refl, ◌∙◌, sym, ap, subst, List, [], ◌∷◌, ◌++◌}
use Rattle.lib_base.proofs.Prelude.{map, append-nil, length, eqb, eqb-true, arith}
use Rattle.lib_base.specs.Basics.{All}
use Rattle.lib_base.proofs.Tools.{split}
use Rattle.spec_language.specs.Dependence.{events}
use Rattle.spec_language.specs.Sheet.{Sheet}
use Rattle.spec_language.specs.Syntax.{Program}
use Rattle.spec_model.specs.Model.{Arrival, arrival, engine, Call, arrive, step, board, told_taken_in, Turn, call, State, state, says, act, turn, run_turns, replies, begun}
use Rattle.spec_model.specs.Claims.{longest, in_force, taken_turns, after, taken_in_by, events_of, ApartIn}
use Rattle.spec_model.proofs.States.{number_in}
use Rattle.spec_model.proofs.History.{runs_append}
use Rattle.back_compile.specs.Compiled.{program_of}
use Rattle.ask_agree.specs.Agree.{agree_on}
use Rattle.format_layout.specs.Layout.{taken}
use Rattle.run_frame.specs.Frame.{frame_on}
use Rattle.run_deliver.specs.Deliver.{deliver_on, taken_on}
use Rattle.refine_calls.specs.Refinement.{call_on, calls, Bytes, bytes, turn_on_bytes, bytes_after, round_after}
use Rattle.refine_calls.proofs.Agrees.{ours_is}
use Rattle.refine_calls.proofs.Coded.{answer_to_law, coded_injective}
use Rattle.refine_calls.proofs.TurnsRefine.{Stand, turned, turns_agree}
use Rattle.refine_frames.specs.Frames.{steps_made, ended_by, step_calls}
use Rattle.refine_frames.proofs.FramesHold.{every_frame}
use Rattle.refine_lists.specs.Lists.{board_of, IdleNow, fresh_round_on, Prepared, TwoCallsWhere}
use Rattle.refine_lists.proofs.ListsHold.{in_force_calls}
use Rattle.refine_lists.proofs.OnlyCallsHold.{table_stays, are_calls}
use Rattle.refine_lists.proofs.FromSheets.{stands_fresh, two_only_calls_hold}
use Rattle.refine_deliver.specs.Deliveries.{delivery_steps, delivery_calls, TakesIn}
use Rattle.refine_deliver.proofs.DeliveriesHold.{every_delivery}
use Rattle.refine_deliver.proofs.Takes.{stand_takes}
use Rattle.engine_agree.proofs.AgreementHolds.{phones_agree}
use Rattle.engine_order.specs.Orders.{EventOrder, entry_event, entry_player, entries_from, first_entries, AppCall, delivers, frames, steps, reads, Offered, app_round, app_after, taken_now, OnePhone, TwoPhonesWhere, SharedOrder}
use Rattle.engine_order.proofs.Blocks.{taken_by, steps_take_none, board_takes_none, Onward, takes_none, takes_next, onward_rows}

-- ---- rows of calls on bytes

pub map-append : (cs ds : List Call) → map call (cs ++ ds) ≡ map call cs ++ map call ds
map-append [] ds = refl
map-append (c ∷ cs) ds = ap (λ (l : List Turn). call c ∷ l) (map-append cs ds)

-- the bytes after calls: the table stays
pub calls_leave : (t : List ℕ) (cs : List Call) (l : List ℕ) → bytes_after (map calls cs) (bytes t l) ≡ bytes t (round_after t cs l)
unfolding round_after
calls_leave t cs l = λ i. bytes (table_stays cs (bytes t l) i) (bytes_after (map calls cs) (bytes t l)).round

bytes_append : (cs ds : List Call) (b : Bytes) → bytes_after (map calls (cs ++ ds)) b ≡ bytes_after (map calls ds) (bytes_after (map calls cs) b)
unfolding bytes_after
bytes_append [] ds b = refl
bytes_append (c ∷ cs) ds b = bytes_append cs ds (turn_on_bytes (calls c) b).after

pub calls_stand : (l₀ t l : List ℕ) (cs : List Call) (s : State) → Stand l₀ (bytes t l) s → Stand l₀ (bytes t (round_after t cs l)) (run_turns (map call cs) s)
calls_stand l₀ t l cs s h =
    subst (λ (b : Bytes). Stand l₀ b (run_turns (map call cs) s)) (calls_leave t cs l) (turns_agree l₀ (bytes t l) (map calls cs) s (map call cs) (are_calls cs) h).stand

-- ---- what a call of the app is

unfoldable pub app_calls : List ℕ → EventOrder → AppCall → List ℕ → List Call
app_calls t order (delivers n b) l = delivery_calls (deliver_on t l n (entry_event order n) (entry_player order n) b).0 (entry_event order n) (entry_player order n)
app_calls t order (frames k b) l = step_calls (steps_made (frame_on t l k b).0)
app_calls t order steps l = step ∷ []
app_calls t order (reads i who) l = board i who ∷ []

pub app_round_law : (t : List ℕ) (order : EventOrder) (c : AppCall) (l : List ℕ) → Offered order c → app_round t order c l ≡ round_after t (app_calls t order c l) l
unfolding app_round app_calls round_after bytes_after turn_on_bytes call_on
app_round_law t order (delivers n b) l h = (every_delivery t l n (entry_event order n) (entry_player order n) b).round
app_round_law t order (frames k b) l h = (every_frame t l k b h).round
app_round_law t order steps l h = refl
app_round_law t order (reads i who) l h = refl

-- ---- what it takes in

one_arrival : (e who : ℕ) (s : State) → (turn (call (arrive e who)) s).reply ≡ says told_taken_in → taken_by (call (arrive e who) ∷ []) s ≡ arrival (number_in s) e who ∷ []
unfolding taken_turns replies
one_arrival e who s h = rw h

number_is : (l₀ : List ℕ) (b : Bytes) (s : State) → Stand l₀ b s → taken b.round ≡ number_in s
number_is l₀ b (state p (engine k q r d)) h = h.alike.number

-- an arrival that answers 0 is taken in
arrival_taken : (l₀ t l : List ℕ) (s : State) → Stand l₀ (bytes t l) s → (e who : ℕ) → (call_on t (arrive e who) l).0 ≡ 0 → (turn (call (arrive e who)) s).reply ≡ says told_taken_in
unfolding turn turn_on_bytes
arrival_taken l₀ t l (state p w) h e who z =
    let said = (turned l₀ (bytes t l) (calls (arrive e who)) (state p w) (call (arrive e who)) refl h).answered in
    let few : events p ≤ 256 = omega (arith, h.says.few_events) in
    ap says (coded_injective (arrive e who) (act p (arrive e who) w).answer told_taken_in (answer_to_law p few (arrive e who) w h.fit.1) (omega arith) (sym said ∙ z))

module _ (l₀ t l : List ℕ) (order : EventOrder) (s : State) (h : Stand l₀ (bytes t l) s) (small : number_in s ≤ length order) where
  steps_onward : (k : ℕ) → Onward order s (map call (step_calls k))
  steps_onward k = takes_none order s (map call (step_calls k)) (steps_take_none k (replies (map call (step_calls k)) s) (number_in s)) small

  -- the arrival behind k steps
  delivery_onward : (n k : ℕ) → n < length order → (call_on t (arrive (entry_event order n) (entry_player order n)) (round_after t (step_calls k) l)).0 ≡ 0
      → taken (round_after t (step_calls k) l) ≡ n → Onward order s (map call (step_calls k ++ (arrive (entry_event order n) (entry_player order n) ∷ [])))
  delivery_onward n k b z at =
      let e = entry_event order n in
      let who = entry_player order n in
      let ts : List Turn = map call (step_calls k) in
      let v : State = run_turns ts s in
      let st : Stand l₀ (bytes t (round_after t (step_calls k) l)) v = calls_stand l₀ t l (step_calls k) s h in
      let here : number_in v ≡ n = sym (number_is l₀ (bytes t (round_after t (step_calls k) l)) v st) ∙ at in
      let took : taken_by (call (arrive e who) ∷ []) v ≡ arrival n e who ∷ [] =
      one_arrival e who v (arrival_taken l₀ t (round_after t (step_calls k) l) v st e who z) ∙ ap (λ (x : ℕ). arrival x e who ∷ []) here in
      subst (Onward order s) (sym (map-append (step_calls k) (arrive e who ∷ [])))
      (onward_rows order s ts (call (arrive e who) ∷ []) (runs_append ts (call (arrive e who) ∷ []) s) (steps_onward k)
      (takes_next order v (call (arrive e who) ∷ []) n b here took))

  pub app_onward : (c : AppCall) → Offered order c → Onward order s (map call (app_calls t order c l))
  unfolding app_calls replies
  app_onward (delivers n b) o =
      let e = entry_event order n in
      let who = entry_player order n in
      let v = (deliver_on t l n e who b).0 in
      let d = every_delivery t l n e who b in
      split (eqb (ended_by v) 1)
      (λ q.
      let i = d.taken_in (eqb-true (ended_by v) 1 q) in
      subst (λ (cs : List Call). Onward order s (map call (step_calls (delivery_steps v) ++ cs))) (sym (rw q))
      (delivery_onward n (delivery_steps v) o.0 i.0 i.1))
      (λ q.
      subst (λ (cs : List Call). Onward order s (map call (step_calls (delivery_steps v) ++ cs))) (sym (rw q))
      (subst (λ (cs : List Call). Onward order s (map call cs)) (sym (append-nil (step_calls (delivery_steps v)))) (steps_onward (delivery_steps v))))
  app_onward (frames k b) o = steps_onward (steps_made (frame_on t l k b).0)
  app_onward steps o = steps_onward 1
  app_onward (reads i who) o = takes_none order s (call (board i who) ∷ []) (board_takes_none i who (turn (call (board i who)) s).reply (number_in s)) small

-- ---- a list of the app's calls

unfoldable pub app_lists : EventOrder → List AppCall → Bytes → List Call
app_lists order [] b = []
app_lists order (c ∷ cs) b =
    app_calls b.table order c b.round ++ app_lists order cs (bytes b.table (app_round b.table order c b.round))

record Walked (l₀ : List ℕ) (order : EventOrder) (b : Bytes) (s : State) (cs : List AppCall) : Type 0 where
  leaves : app_after order cs b ≡ bytes_after (map calls (app_lists order cs b)) b
  onward : Onward order s (map call (app_lists order cs b))
  stand : Stand l₀ (app_after order cs b) (run_turns (map call (app_lists order cs b)) s)

walked : (l₀ : List ℕ) (order : EventOrder) (cs : List AppCall) (b : Bytes) (s : State) → Stand l₀ b s → number_in s ≤ length order → All (Offered order) cs → Walked l₀ order b s cs
unfolding app_after app_lists bytes_after run_turns
walked l₀ order [] b s h small o = record {
  leaves = refl;
  onward = takes_none order s [] (steps_take_none 0 (replies [] s) (number_in s)) small;
  stand = h;
}
walked l₀ order (c ∷ cs) b s h small o =
    let t = b.table in
    let l = b.round in
    let ds : List Call = app_calls t order c l in
    let b' : Bytes = bytes t (app_round t order c l) in
    let v : State = run_turns (map call ds) s in
    let here : app_round t order c l ≡ round_after t ds l = app_round_law t order c l o.0 in
    let st : Stand l₀ b' v = subst (λ (x : List ℕ). Stand l₀ (bytes t x) v) (sym here) (calls_stand l₀ t l ds s h) in
    let on = app_onward l₀ t l order s h small c o.0 in
    let w = walked l₀ order cs b' v st on.within o.1 in
    let es : List Call = app_lists order cs b' in
    let first : bytes_after (map calls ds) b ≡ b' = calls_leave t ds l ∙ ap (bytes t) (sym here) in
    let same : run_turns (map call (ds ++ es)) s ≡ run_turns (map call es) v = ap (λ (x : List Turn). run_turns x s) (map-append ds es) ∙ runs_append (map call ds) (map call es) s in
    record {
      leaves = w.leaves ∙ ap (bytes_after (map calls es)) (sym first) ∙ sym (bytes_append ds es b);
      onward = subst (Onward order s) (sym (map-append ds es)) (onward_rows order s (map call ds) (map call es) (runs_append (map call ds) (map call es) s) on w.onward);
      stand = subst (Stand l₀ (app_after order cs b')) (sym same) w.stand;
    }

-- ---- what `taken` tells

pub tells : (l₀ : List ℕ) (b : Bytes) (s : State) → Stand l₀ b s → number_in s ≤ 1000000 → taken_now b ≡ number_in s
unfolding taken_on
tells l₀ b (state p (engine k q r d)) h small =
    let valid = ours_is p h.fit.0 b.table h.says b.round k q r d h.alike h.fit.1 in
    rw (valid, h.alike.number) (omega arith)

-- ---- one phone

module _ (s ps t₀ l₀ : List ℕ) (x : Sheet) (r : Prepared s ps t₀ l₀ x) (order : EventOrder) (short : length order ≤ 1000000) (cs : List AppCall) (o : All (Offered order) cs) where
  abbrev p : Program
  p = program_of ps x

  abbrev first : Bytes
  first = fresh_round_on s ps t₀ l₀

  w : Walked l₀ order first (begun p) cs
  w = walked l₀ order cs first (begun p) (stands_fresh s ps t₀ l₀ x r) (omega arith) o

  abbrev list_of : List Call
  list_of = app_lists order cs first

  told : taken_now (app_after order cs first) ≡ number_in (after p (map call list_of))
  told = tells l₀ (app_after order cs first) (after p (map call list_of)) w.stand (omega (arith, w.onward.within))

  pub one_phone : OnePhone p first order (app_after order cs first)
  unfolding entries_from
  one_phone = record {
    list = list_of;
    leaves = w.leaves;
    taken_in = rw told w.onward.taken;
    within = rw told w.onward.within;
    next = λ some declared eight right commits room.
        let v : State = after p (map call list_of) in
        let n = taken_now (app_after order cs first) in
        let q : in_force v ≡ p = in_force_calls list_of (begun p) in
        subst (λ (m : ℕ). TakesIn (app_after order cs first) m (entry_event order n) (entry_player order n) commits (longest p * 3 / 2)) (sym told)
        (subst (λ (y : Program). TakesIn (app_after order cs first) (number_in v) (entry_event order n) (entry_player order n) commits (longest y * 3 / 2)) q
        (stand_takes l₀ (app_after order cs first) v w.stand (entry_event order n) (entry_player order n) commits (rw q declared) eight (rw q right)
        (omega (arith, told)) room));
  }

  pub list_is : one_phone.list ≡ app_lists order cs first
  unfolding one_phone
  list_is = refl

-- ---- two phones

pub two_phones : (C : List ℕ → List ℕ → Program → List Arrival → Type 0) → TwoCallsWhere (λ s ps p cs. C s ps p (taken_in_by p (map call cs))) → TwoPhonesWhere C
two_phones C hold s ps qs t₀ l₀ t₁ l₁ x r order short cs ds oc od same c ic id =
    let p : Program = program_of ps x in
    let a = one_phone s ps t₀ l₀ x r.one order short cs oc in
    let b = one_phone s qs t₁ l₁ x r.other order short ds od in
    let tb : taken_in_by p (map call b.list) ≡ first_entries (taken_now (app_after order ds (fresh_round_on s qs t₁ l₁))) order =
    subst (λ (q : Program). taken_in_by q (map call b.list) ≡ first_entries (taken_now (app_after order ds (fresh_round_on s qs t₁ l₁))) order) r.filled b.taken_in in
    let events_same : events_of (taken_in_by p (map call a.list)) ≡ events_of (taken_in_by p (map call b.list)) =
    ap events_of (a.taken_in ∙ ap (λ (k : ℕ). first_entries k order) same ∙ sym tb) in
    ap (λ (y : Bytes). board_of p y.round) a.leaves
    ∙ hold s ps qs t₀ l₀ t₁ l₁ x r a.list b.list events_same (subst (C s ps p) (sym a.taken_in) c) (subst IdleNow a.leaves ic) (subst IdleNow b.leaves id)
    ∙ sym (ap (λ (y : Bytes). board_of p y.round) b.leaves)

pub in_order : SharedOrder
in_order = record {
  one = λ s ps t₀ l₀ x r order short cs o. one_phone s ps t₀ l₀ x r order short cs o;
  agreed = two_phones (λ s ps p l. agree_on s ps ≡ 0) phones_agree;
  apart = two_phones (λ s ps p l. ApartIn p l) two_only_calls_hold;
}
