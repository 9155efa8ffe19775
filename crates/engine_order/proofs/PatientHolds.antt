-- An app that delivers to idle rounds alone hands its arrivals in one by one: the steps that a delivery makes leave an
-- idle round as it is, so that its arrival finds it idle too.
use Rattle.lib_base.proofs.Prelude.{ℕ, suc, zero, ◌≡◌, refl, ◌∙◌, sym, ap, subst, List, [], ◌∷◌, ◌++◌, map, eqb}
use Rattle.lib_base.specs.Basics.{All}
use Rattle.lib_base.proofs.Tools.{split}
use Rattle.spec_language.specs.Syntax.{Program}
use Rattle.spec_model.specs.Model.{Call, arrive, step, board, call}
use Rattle.spec_model.specs.Claims.{taken_in_by, events_of}
use Rattle.back_compile.specs.Compiled.{program_of}
use Rattle.run_frame.specs.Frame.{frame_on}
use Rattle.run_step.proofs.Still.{idle_stays}
use Rattle.run_deliver.specs.Deliver.{deliver_on}
use Rattle.refine_calls.specs.Refinement.{call_on, calls, Bytes, bytes, turn_on_bytes, bytes_after}
use Rattle.refine_frames.specs.Frames.{steps_made, ended_by, step_calls}
use Rattle.refine_lists.specs.Lists.{board_of, IdleNow, fresh_round_on}
use Rattle.refine_deliver.specs.Deliveries.{delivery_steps}
use Rattle.engine_order.specs.Orders.{EventOrder, entry_event, entry_player, first_entries, AppCall, delivers, frames, steps, reads, Offered, app_round, app_after, taken_now}
use Rattle.engine_order.specs.Remedies.{Patiently, PatientApp, PatientPhones, Remedies}
use Rattle.engine_order.proofs.PhonesHold.{calls_leave, app_calls, app_round_law, app_lists, one_phone, list_is}
use Rattle.engine_order.proofs.RemediesHold.{same_commits, as_handed_in, both}

-- ---- rows

rows_patient : (cs ds : List Call) (b : Bytes) → Patiently cs b → Patiently ds (bytes_after (map calls cs) b) → Patiently (cs ++ ds) b
unfolding bytes_after turn_on_bytes
rows_patient [] ds b p q = q
rows_patient (arrive e who ∷ cs) ds b p q = (p.0, rows_patient cs ds (bytes b.table (call_on b.table (arrive e who) b.round).1) p.1 q)
rows_patient (step ∷ cs) ds b p q = rows_patient cs ds (bytes b.table (call_on b.table step b.round).1) p q
rows_patient (board i who ∷ cs) ds b p q = rows_patient cs ds (bytes b.table (call_on b.table (board i who) b.round).1) p q

steps_patient : (k : ℕ) (b : Bytes) → Patiently (step_calls k) b
steps_patient zero b = tt
steps_patient (suc k) b = steps_patient k (bytes b.table (call_on b.table step b.round).1)

-- steps leave an idle round as it is
steps_leave : (k : ℕ) (b : Bytes) → IdleNow b → bytes_after (map calls (step_calls k)) b ≡ b
unfolding bytes_after turn_on_bytes call_on
steps_leave zero b i = refl
steps_leave (suc k) b i =
    let same : bytes b.table (call_on b.table step b.round).1 ≡ b = ap (bytes b.table) (idle_stays b.table b.round i) in
    ap (bytes_after (map calls (step_calls k))) same ∙ steps_leave k b i

then_arrives : (k e who : ℕ) (b : Bytes) → IdleNow b → Patiently (step_calls k ++ (arrive e who ∷ [])) b
then_arrives k e who b i =
    rows_patient (step_calls k) (arrive e who ∷ []) b (steps_patient k b) (subst (Patiently (arrive e who ∷ [])) (sym (steps_leave k b i)) (i, tt))

-- ---- the app's calls

app_patient : (order : EventOrder) (c : AppCall) (cs : List AppCall) (b : Bytes) → PatientApp order (c ∷ cs) b
    → Patiently (app_calls b.table order c b.round) b × PatientApp order cs (bytes b.table (app_round b.table order c b.round))
unfolding app_calls
app_patient order (delivers n c) cs b p =
    let e = entry_event order n in
    let who = entry_player order n in
    let v = (deliver_on b.table b.round n e who c).0 in
    let k = delivery_steps v in (
      split (eqb (ended_by v) 1)
          (λ q. subst (λ (ds : List Call). Patiently (step_calls k ++ ds) b) (sym (rw q)) (then_arrives k e who b p.0))
          (λ q. subst (λ (ds : List Call). Patiently (step_calls k ++ ds) b) (sym (rw q)) (rows_patient (step_calls k) [] b (steps_patient k b) tt)),
      p.1,
    )
app_patient order (frames k c) cs b p = (steps_patient (steps_made (frame_on b.table b.round k c).0) b, p)
app_patient order steps cs b p = (tt, p)
app_patient order (reads i who) cs b p = (tt, p)

list_patient : (order : EventOrder) (cs : List AppCall) (b : Bytes) → All (Offered order) cs → PatientApp order cs b → Patiently (app_lists order cs b) b
unfolding app_lists
list_patient order [] b o p = tt
list_patient order (c ∷ cs) b o p =
    let a = app_patient order c cs b p in
    let t = b.table in
    let here : bytes_after (map calls (app_calls t order c b.round)) b ≡ bytes t (app_round t order c b.round) =
    calls_leave t (app_calls t order c b.round) b.round ∙ ap (bytes t) (sym (app_round_law t order c b.round o.0)) in
    rows_patient (app_calls t order c b.round) (app_lists order cs (bytes t (app_round t order c b.round))) b a.0
    (subst (Patiently (app_lists order cs (bytes t (app_round t order c b.round)))) (sym here) (list_patient order cs (bytes t (app_round t order c b.round)) o.1 a.1))

-- ---- two of them

patient_phones : PatientPhones
patient_phones s ps qs t₀ l₀ t₁ l₁ x r order short cs ds oc od pc pd same ic id =
    let p : Program = program_of ps x in
    let A : Bytes = fresh_round_on s ps t₀ l₀ in
    let B : Bytes = fresh_round_on s qs t₁ l₁ in
    let a = one_phone s ps t₀ l₀ x r.one order short cs oc in
    let b = one_phone s qs t₁ l₁ x r.other order short ds od in
    let tb : taken_in_by p (map call b.list) ≡ first_entries (taken_now (app_after order ds B)) order =
    subst (λ (q : Program). taken_in_by q (map call b.list) ≡ first_entries (taken_now (app_after order ds B)) order) r.filled b.taken_in in
    let events_same : events_of (taken_in_by p (map call a.list)) ≡ events_of (taken_in_by p (map call b.list)) =
    ap events_of (a.taken_in ∙ ap (λ (k : ℕ). first_entries k order) same ∙ sym tb) in
    ap (λ (y : Bytes). board_of p y.round) a.leaves
    ∙ both s ps qs t₀ l₀ t₁ l₁ x r a.list b.list (subst (λ (es : List Call). Patiently es A) (sym (list_is s ps t₀ l₀ x r.one order short cs oc)) (list_patient order cs A oc pc))
    (subst (λ (es : List Call). Patiently es B) (sym (list_is s qs t₁ l₁ x r.other order short ds od)) (list_patient order ds B od pd)) events_same
    (subst IdleNow a.leaves ic) (subst IdleNow b.leaves id)
    ∙ sym (ap (λ (y : Bytes). board_of p y.round) b.leaves)

pub remedies : Remedies
remedies = record { same_commits = same_commits; as_handed_in = as_handed_in; both = both; in_order = patient_phones }
