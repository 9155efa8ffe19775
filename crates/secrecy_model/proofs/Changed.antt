-- A change to programs alike keeps two such states so, and is answered alike: the tests of a change look at the control
-- alone, and the carried stores agree on what the player sees, since the same behaviours were hidden before.
use Rattle.lib_base.proofs.Prelude.{ℕ, ◌<◌, ◌≡◌, refl, ◌∙◌, sym, ap, subst, true, false, Bool, ◌&&◌, inr, inl, List, []}
use Rattle.lib_base.proofs.Prelude.{◌∷◌, ltb, arith}
use Rattle.lib_base.specs.Basics.{pick}
use Rattle.lib_base.proofs.Tools.{by_two, split}
use Rattle.spec_language.specs.Syntax.{Behaviour, passive, active, Program}
use Rattle.spec_language.specs.Rights.{may_see}
use Rattle.spec_language.specs.Dependence.{size, events, no_event, behaviour_at, is_active}
use Rattle.spec_language.specs.Valid.{Valid}
use Rattle.spec_language.specs.Refusals as refusals
use Rattle.spec_semantics.specs.Meaning.{first_phase, at}
use Rattle.spec_execution.specs.Execution.{emptied}
use Rattle.spec_model.specs.Carried.{is_active_in, carried_start, carried_actives, carried}
use Rattle.spec_model.specs.Model.{Arrival, rest, Engine, engine, queue, Answer, refused, change, state, says, carried_over, TurnOutcome, turn_outcome, declared_in, carried_to, turn}
use Rattle.spec_model.specs.Claims.{in_queue, copy_back_in}
use Rattle.spec_model.proofs.Carries.{active_below, length_actives, actives_at, length_carried}
use Rattle.spec_model.proofs.History.{all_declared, reached_carried}
use Rattle.spec_model.proofs.Boards.{carried_done}
use Rattle.secrecy_model.specs.Sight.{Sealed, SameHidden, EitherMakes}
use Rattle.secrecy_model.proofs.Programs.{BehaviourAlike, Alike, events_same}
use Rattle.secrecy_model.proofs.Stores.{sealed_direct, first_agree}
use Rattle.secrecy_model.proofs.Control.{control, copy_back_both}
use Rattle.secrecy_model.proofs.Twins.{Agree, Twin, TwinStates, store_here, store_there}

-- ---- what the actives begin with

active_same : (seen : Bool) (b c : Behaviour) → BehaviourAlike seen b c → is_active b ≡ is_active c
active_same seen (passive x) (passive y) h = refl
active_same seen (passive x) (active t hs) h = absurd h
active_same seen (active s hs) (passive y) h = absurd h
active_same seen (active s hs) (active t gs) h = refl

pick_begins : (k : Bool) (v u c d : ℕ) → c ≡ d → (k ≡ true → v ≡ u) → pick k v c ≡ pick k u d
pick_begins true v u c d e h = h refl
pick_begins false v u c d e h = e

begins_same : (k : Bool) (v u : ℕ) (b c : Behaviour) → BehaviourAlike true b c → (k ≡ true → v ≡ u) → carried_start k v b ≡ carried_start k u c
begins_same k v u (passive x) (passive y) h e = refl
begins_same k v u (passive x) (active t hs) h e = absurd h
begins_same k v u (active s hs) (passive y) h e = absurd h
begins_same k v u (active s hs) (active t gs) h e = pick_begins k v u s t (h.0 refl) e

-- ---- the tests of a change

-- a change with these outcomes of its two tests
abbrev changed_by : Bool → Bool → Program → Program → Engine → TurnOutcome
changed_by settling known p q w =
    pick settling (turn_outcome (says (refused refusals.settling)) (state p w))
    (pick known (turn_outcome carried_over (state q (carried_to p q w))) (turn_outcome (says (refused refusals.undeclared_in_hand)) (state p w)))

changed_by_law : (p q : Program) (w : Engine) → turn (change q) (state p w) ≡ changed_by (copy_back_in p w) (declared_in q (in_queue w)) p q w
unfolding turn
changed_by_law p q (engine t waiting r d) = refl

-- both rounds refuse it alike, or one of them makes it
pub refused_or_made : (p : Program) (w : Engine) (q : Program) (x : Engine) → copy_back_in p w ≡ copy_back_in q x → (p' q' : Program) (P : TurnOutcome → TurnOutcome → Type 0)
    → ((a : Answer) → P (turn_outcome (says a) (state p w)) (turn_outcome (says a) (state q x)))
    → (EitherMakes (change p') (state p w) (change q') (state q x) → P (turn (change p') (state p w)) (turn (change q') (state q x)))
    → P (turn (change p') (state p w)) (turn (change q') (state q x))
refused_or_made p w q x same p' q' P refuse make =
    let one = changed_by_law p p' w in
    let other = changed_by_law q q' x in
    let both : (y z : TurnOutcome) → turn (change p') (state p w) ≡ y → turn (change q') (state q x) ≡ z → P y z → P (turn (change p') (state p w)) (turn (change q') (state q x)) = λ y z e f h.
    subst (λ (a : TurnOutcome). P a (turn (change q') (state q x))) (sym e) (subst (P y) (sym f) h) in
    split (copy_back_in p w)
    (λ h.
    both (turn_outcome (says (refused refusals.settling)) (state p w)) (turn_outcome (says (refused refusals.settling)) (state q x))
    (one ∙ rw h refl) (other ∙ rw (sym same ∙ h) refl) (refuse (refused refusals.settling)))
    (λ h. split (declared_in p' (in_queue w))
    (λ k.
    let e : turn (change p') (state p w) ≡ turn_outcome carried_over (state p' (carried_to p p' w)) = one ∙ rw (h, k) refl in
    make (inl (ap (λ (o : TurnOutcome). o.reply) e)))
    (λ k. split (declared_in q' (in_queue x))
    (λ l.
    let e : turn (change q') (state q x) ≡ turn_outcome carried_over (state q' (carried_to q q' x)) = other ∙ rw (sym same ∙ h, l) refl in
    make (inr (ap (λ (o : TurnOutcome). o.reply) e)))
    (λ l.
    both (turn_outcome (says (refused refusals.undeclared_in_hand)) (state p w)) (turn_outcome (says (refused refusals.undeclared_in_hand)) (state q x))
    (one ∙ rw (h, k) refl) (other ∙ rw (sym same ∙ h, l) refl) (refuse (refused refusals.undeclared_in_hand)))))

-- by the number of events alone
declared_same : (q r : Program) → events q ≡ events r → (l : List Arrival) → declared_in q l ≡ declared_in r l
declared_same q r e [] = refl
declared_same q r e (a ∷ l) = λ i. pick (ltb a.event (e i)) (declared_same q r e l i) false

queue_control : (w : Engine) → in_queue w ≡ in_queue (control w)
queue_control (engine t waiting r d) = refl

-- the control after a change
abbrev rested : Engine → Engine
rested (engine t waiting r d) = engine t (queue waiting r) rest (emptied [])

rested_control : (p q : Program) (w : Engine) → control (carried_to p q w) ≡ rested (control w)
rested_control p q (engine t waiting r d) = refl

module _ (player : ℕ) (p : Program) (w : Engine) (q : Program) (x : Engine) (twin : Twin player p w q x)
    (p' q' : Program) (alike : Alike player p' q') (sealed : Sealed p' player) (hidden : SameHidden player p p') (v : Valid p') (u : Valid q') where
  in_both : (i : ℕ) → is_active_in p i ≡ is_active_in q i
  in_both i = λ z. ltb i (twin.alike.sizes z) && active_same (may_see p player i) (behaviour_at p i) (behaviour_at q i) (twin.alike.each i) z

  -- what is seen now was seen before
  value_same : (i : ℕ) → i < size p' → may_see p' player i ≡ true → is_active_in p i ≡ true → at twin.here i ≡ at twin.there i
  value_same i b m k =
      let l : i < size p = (active_below p i k).0 in
      twin.agree i l (hidden i l b ∙ m)

  actives_agree : Agree player p' (carried_actives p p' twin.here) (carried_actives q q' twin.there)
  actives_agree i b m =
      actives_at p p' twin.here i b
      ∙ begins_same (is_active_in p i) (at twin.here i) (at twin.there i) (behaviour_at p' i) (behaviour_at q' i)
      (subst (λ (k : Bool). BehaviourAlike k (behaviour_at p' i) (behaviour_at q' i)) m (alike.each i)) (value_same i b m)
      ∙ ap (λ (k : Bool). carried_start k (at twin.there i) (behaviour_at q' i)) (in_both i)
      ∙ sym (actives_at q q' twin.there i (omega (arith, alike.sizes)))

  carried_agree : Agree player p' (carried p p' twin.here) (carried q q' twin.there)
  unfolding carried
  carried_agree =
      subst (λ (n : ℕ). Agree player p' (first_phase p' (no_event p') (carried_actives p p' twin.here)) (first_phase q' n (carried_actives q q' twin.there)))
      (events_same player p' q' alike)
      (first_agree player p' q' alike (sealed_direct p' player sealed) v u (no_event p') (omega arith) (carried_actives p p' twin.here) (carried_actives q q' twin.there)
      (length_actives p p' twin.here) (length_actives q q' twin.there) actives_agree)

  -- ---- a change that is made

  hand_same : in_queue w ≡ in_queue x
  hand_same = queue_control w ∙ ap in_queue twin.together ∙ sym (queue_control x)

  known_same : declared_in p' (in_queue w) ≡ declared_in q' (in_queue x)
  known_same = declared_same p' q' (events_same player p' q' alike) (in_queue w) ∙ ap (declared_in q') hand_same

  twin_made : copy_back_in p w ≡ false → declared_in p' (in_queue w) ≡ true → Twin player p' (carried_to p p' w) q' (carried_to q q' x)
  twin_made h k = record {
    alike = alike;
    sealed = sealed;
    one = (v, reached_carried p p' w twin.one.1 (all_declared p' (in_queue w) k));
    other = (u, reached_carried q q' x twin.other.1 (all_declared q' (in_queue x) (sym known_same ∙ k)));
    together = rested_control p p' w ∙ ap rested twin.together ∙ sym (rested_control q q' x);
    here = carried p p' twin.here;
    there = carried q q' twin.there;
    sized = length_carried p p' twin.here;
    sized_other = length_carried q q' twin.there;
    done = carried_done p p' p w twin.here (store_here player p w q x twin h);
    done_other = carried_done q q' q x twin.there (store_there player p w q x twin h);
    agree = carried_agree;
  }

  -- ---- a change

  abbrev TwinOutcomes : TurnOutcome → TurnOutcome → Type 0
  TwinOutcomes y z = (y.reply ≡ z.reply) × TwinStates player y.after z.after

  tests_same : turn (change q') (state q x) ≡ changed_by (copy_back_in p w) (declared_in p' (in_queue w)) q q' x
  tests_same =
      changed_by_law q q' x
      ∙ (λ i. changed_by (sym (copy_back_both player p q twin.alike w x twin.together) i) (sym known_same i) q q' x)

  by_tests : TwinOutcomes (changed_by (copy_back_in p w) (declared_in p' (in_queue w)) p p' w) (changed_by (copy_back_in p w) (declared_in p' (in_queue w)) q q' x)
  by_tests =
      by_two TwinOutcomes (copy_back_in p w) (λ h. (refl, twin))
      (λ h. by_two TwinOutcomes (declared_in p' (in_queue w)) (λ k. (refl, twin_made h k)) (λ k. (refl, twin)))

  pub twin_change : ((turn (change p') (state p w)).reply ≡ (turn (change q') (state q x)).reply)
      × TwinStates player (turn (change p') (state p w)).after (turn (change q') (state q x)).after
  twin_change = subst (λ (y : TurnOutcome). TwinOutcomes y (turn (change q') (state q x))) (sym (changed_by_law p p' w))
      (subst (λ (z : TurnOutcome). TwinOutcomes (changed_by (copy_back_in p w) (declared_in p' (in_queue w)) p p' w) z) (sym tests_same) by_tests)
