-- The rule for a player holds: two fresh rounds are twins, and each turn keeps them so, a change that neither round
-- makes leaving them as they were. To the host nothing is hidden: both rounds are in one state. By induction on the
-- turns.
use Rattle.lib_base.proofs.Prelude.{ℕ, ◌≡◌, refl, ◌∙◌, sym, ap, subst, false, some, List, [], ◌∷◌, map, zip_with, eqb}
use Rattle.lib_base.proofs.Prelude.{eqb-true}
use Rattle.lib_base.proofs.Tools.{split}
use Rattle.spec_language.specs.Syntax.{Program}
use Rattle.spec_language.specs.Sheet.{Sheet, fill}
use Rattle.spec_language.specs.Valid.{Accepted}
use Rattle.spec_semantics.specs.Meaning.{fresh}
use Rattle.spec_semantics.proofs.Lengths.{length_fresh}
use Rattle.spec_execution.specs.Execution.{emptied}
use Rattle.spec_model.specs.Model.{Engine, TurnOutcome, change, State, state, Reply, turn, run_turns, replies, begun}
use Rattle.spec_model.specs.Claims.{forecast, in_force, engine_in, after}
use Rattle.spec_model.specs.Told.{previewed}
use Rattle.spec_model.proofs.History.{begun_fits}
use Rattle.secrecy_model.specs.Sight.{Sealed, AlikeBut, Pair, both, each, in_one, in_other, SameHidden, EitherMakes, AtChanges}
use Rattle.secrecy_model.specs.ModelRule.{Condition, ConditionAt, as_reply, hears_of, heard_of, EqualReplies, PlayersRule}
use Rattle.secrecy_model.proofs.Programs.{Alike, sheets_alike}
use Rattle.secrecy_model.proofs.Stores.{sealed_direct, fresh_agree}
use Rattle.secrecy_model.proofs.Answered.{host_same, valid}
use Rattle.secrecy_model.proofs.Twins.{Twin, TwinStates, twin_call, call_heard, forecast_heard, preview_heard}
use Rattle.secrecy_model.proofs.Changed.{refused_or_made, twin_change}
use Rattle.secrecy_model.proofs.Control.{copy_back_both}

-- ---- what is asked of a pair in these states, and of those after it

abbrev Asked : ℕ → Pair → State → State → Type 0
Asked player (both c) x y = Unit {0}
Asked player (each v w s t) x y = EitherMakes (change (fill v s)) x (change (fill w t)) y → ConditionAt player (in_force x) v w s t

asked_first : (player : ℕ) (c : Pair) (l : List Pair) (x y : State) → AtChanges (ConditionAt player) (c ∷ l) x y → Asked player c x y
asked_first player (both c) l x y f = tt
asked_first player (each v w s t) l x y f = f.0

asked_after : (player : ℕ) (c : Pair) (l : List Pair) (x y : State) → AtChanges (ConditionAt player) (c ∷ l) x y
    → AtChanges (ConditionAt player) l (turn (in_one c) x).after (turn (in_other c) y).after
asked_after player (both c) l x y f = f
asked_after player (each v w s t) l x y f = f.1

-- ---- what each turn keeps holds after every list, and what is heard of each is heard of the list

module _ (player : ℕ) (R : State → State → Type 0)
    (go : (c : Pair) (x y : State) → R x y → Asked player c x y
    → (hears_of player (in_one c) (turn (in_one c) x).reply ≡ hears_of player (in_other c) (turn (in_other c) y).reply)
    × R (turn (in_one c) x).after (turn (in_other c) y).after) where
  runs : (l : List Pair) (x y : State) → R x y → AtChanges (ConditionAt player) l x y → R (run_turns (map in_one l) x) (run_turns (map in_other l) y)
  unfolding run_turns
  runs [] x y r f = r
  runs (c ∷ l) x y r f =
      runs l (turn (in_one c) x).after (turn (in_other c) y).after (go c x y r (asked_first player c l x y f)).1 (asked_after player c l x y f)

  all_heard : (l : List Pair) (x y : State) → R x y → AtChanges (ConditionAt player) l x y → heard_of player (map in_one l) x ≡ heard_of player (map in_other l) y
  unfolding replies zip_with
  all_heard [] x y r f = refl
  all_heard (c ∷ l) x y r f =
      let k = go c x y r (asked_first player c l x y f) in
      let h = all_heard l (turn (in_one c) x).after (turn (in_other c) y).after k.1 (asked_after player c l x y f) in
      λ z. k.0 z ∷ h z

-- ---- a player who is not the host

module _ (player : ℕ) (guest : eqb player 0 ≡ false) where
  abbrev Both : TurnOutcome → TurnOutcome → Type 0
  Both a b = (a.reply ≡ b.reply) × TwinStates player a.after b.after

  made : (v w : ℕ → ℕ) (s t : Sheet) (p : Program) (x : Engine) (q : Program) (y : Engine) → Twin player p x q y → Condition player v w s t → SameHidden player p (fill v s)
      → Both (turn (change (fill v s)) (state p x)) (turn (change (fill w t)) (state q y))
  made v w s t p x q y h c hidden =
      subst (λ (r : Program). Both (turn (change (fill v s)) (state p x)) (turn (change r) (state q y))) (sym c.filled)
      (twin_change player p x q y h (fill v s) (fill v t) (sheets_alike v player s t c.alike) c.sealed hidden (valid (fill v s) c.one) (valid (fill v t) c.other))

  twin_turn : (c : Pair) (x y : State) → TwinStates player x y → Asked player c x y
      → (hears_of player (in_one c) (turn (in_one c) x).reply ≡ hears_of player (in_other c) (turn (in_other c) y).reply)
      × TwinStates player (turn (in_one c) x).after (turn (in_other c) y).after
  unfolding turn
  twin_turn (both c) (state p x) (state q y) h f = (ap as_reply (call_heard player p x q y h guest c), twin_call player p x q y h c)
  twin_turn (each v w s t) (state p x) (state q y) h f =
      let k : Both (turn (change (fill v s)) (state p x)) (turn (change (fill w t)) (state q y)) =
      refused_or_made p x q y (copy_back_both player p q h.alike x y h.together) (fill v s) (fill w t) Both (λ a. (refl, h))
      (λ m. let g = f m in made v w s t p x q y h g.0 g.1) in
      (ap (λ (r : Reply). some r) k.0, k.1)

  preview_in : (x y : State) → TwinStates player x y → (e i : ℕ) → previewed (in_force x) (engine_in x) e i player ≡ previewed (in_force y) (engine_in y) e i player
  preview_in (state p w) (state q x) h = preview_heard player p w q x h

  forecast_in_law : (x y : State) → TwinStates player x y → forecast (in_force x) (engine_in x) ≡ forecast (in_force y) (engine_in y)
  forecast_in_law (state p w) (state q x) h = forecast_heard player p w q x h

  fresh_twins : (v : ℕ → ℕ) (s t : Sheet) → AlikeBut player s t → Sealed (fill v s) player → Accepted (fill v s) → Accepted (fill v t)
      → TwinStates player (begun (fill v s)) (begun (fill v t))
  unfolding emptied
  fresh_twins v s t like sealed one other =
      let p : Program = fill v s in
      let q : Program = fill v t in
      let alike : Alike player p q = sheets_alike v player s t like in
      let vp = valid p one in
      let vq = valid q other in
      record {
        alike = alike;
        sealed = sealed;
        one = begun_fits p vp;
        other = begun_fits q vq;
        together = refl;
        here = fresh p;
        there = fresh q;
        sized = length_fresh p;
        sized_other = length_fresh q;
        done = refl;
        done_other = refl;
        agree = fresh_agree player p q alike (sealed_direct p player sealed) vp vq;
      }

  guest_replies : (v w : ℕ → ℕ) (s t : Sheet) → Condition player v w s t → (l : List Pair) → AtChanges (ConditionAt player) l (begun (fill v s)) (begun (fill w t))
      → EqualReplies player (fill v s) (fill w t) l
  guest_replies v w s t c l f =
      let start : TwinStates player (begun (fill v s)) (begun (fill w t)) =
      subst (λ (q : Program). TwinStates player (begun (fill v s)) (begun q)) (sym c.filled) (fresh_twins v s t c.alike c.sealed c.one c.other) in
      let late = runs player (TwinStates player) twin_turn l (begun (fill v s)) (begun (fill w t)) start f in
      record {
        turns = all_heard player (TwinStates player) twin_turn l (begun (fill v s)) (begun (fill w t)) start f;
        preview = preview_in (after (fill v s) (map in_one l)) (after (fill w t) (map in_other l)) late;
        forecast = forecast_in_law (after (fill v s) (map in_one l)) (after (fill w t) (map in_other l)) late;
      }

-- ---- the host sees every behaviour

host_sheets : (v w : ℕ → ℕ) (s t : Sheet) → Condition 0 v w s t → fill v s ≡ fill w t
host_sheets v w s t c = host_same (fill v s) (fill v t) (sheets_alike v 0 s t c.alike) ∙ sym c.filled

abbrev Same : TurnOutcome → TurnOutcome → Type 0
Same a b = (a.reply ≡ b.reply) × (a.after ≡ b.after)

host_here : (c : Pair) (x : State) → Asked 0 c x x
    → (hears_of 0 (in_one c) (turn (in_one c) x).reply ≡ hears_of 0 (in_other c) (turn (in_other c) x).reply) × ((turn (in_one c) x).after ≡ (turn (in_other c) x).after)
host_here (both c) x f = (refl, refl)
host_here (each v w s t) (state p x) f =
    let k : Same (turn (change (fill v s)) (state p x)) (turn (change (fill w t)) (state p x)) =
    refused_or_made p x p x refl (fill v s) (fill w t) Same (λ a. (refl, refl))
    (λ m. subst (λ (r : Program). Same (turn (change (fill v s)) (state p x)) (turn (change r) (state p x))) (host_sheets v w s t (f m).0) (refl, refl)) in
    (ap (λ (r : Reply). some r) k.0, k.1)

host_turn : (c : Pair) (x y : State) → x ≡ y → Asked 0 c x y
    → (hears_of 0 (in_one c) (turn (in_one c) x).reply ≡ hears_of 0 (in_other c) (turn (in_other c) y).reply) × ((turn (in_one c) x).after ≡ (turn (in_other c) y).after)
host_turn c x y e =
    subst (λ (z : State). Asked 0 c x z → (hears_of 0 (in_one c) (turn (in_one c) x).reply ≡ hears_of 0 (in_other c) (turn (in_other c) z).reply)
    × ((turn (in_one c) x).after ≡ (turn (in_other c) z).after)) e (host_here c x)

host_replies : (v w : ℕ → ℕ) (s t : Sheet) → Condition 0 v w s t → (l : List Pair) → AtChanges (ConditionAt 0) l (begun (fill v s)) (begun (fill w t)) → EqualReplies 0 (fill v s) (fill w t) l
host_replies v w s t c l f =
    let start : begun (fill v s) ≡ begun (fill w t) = ap begun (host_sheets v w s t c) in
    let late : after (fill v s) (map in_one l) ≡ after (fill w t) (map in_other l) = runs 0 (λ (x y : State). x ≡ y) host_turn l (begun (fill v s)) (begun (fill w t)) start f in
    record {
      turns = all_heard 0 (λ (x y : State). x ≡ y) host_turn l (begun (fill v s)) (begun (fill w t)) start f;
      preview = λ e i. ap (λ (x : State). previewed (in_force x) (engine_in x) e i 0) late;
      forecast = ap (λ (x : State). forecast (in_force x) (engine_in x)) late;
    }

-- ---- everybody

pub players_rule : PlayersRule
players_rule player v w s t c l f =
    split (eqb player 0)
    (λ z.
    let host : player ≡ 0 = eqb-true player 0 z in
    subst (λ (k : ℕ). Condition k v w s t → AtChanges (ConditionAt k) l (begun (fill v s)) (begun (fill w t)) → EqualReplies k (fill v s) (fill w t) l) (sym host)
    (λ d g. host_replies v w s t d l g) c f)
    (λ z. guest_replies player z v w s t c l f)
