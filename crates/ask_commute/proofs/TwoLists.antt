-- Two lists of turns on one sheet that take in the same events in the same order, when both are idle: where no two
-- events of unequal priority meet in a set that depends on nothing outside it, the values there are equal, whatever the
-- rest of the store does. The commits are the same, in two orders, and are confluent up to agreement on the set.
use Rattle.lib_base.proofs.Prelude.{ℕ, ◌<◌, ◌≡◌, refl, ◌∙◌, sym, List, [], ◌∷◌, arith}
use Rattle.lib_base.specs.Basics.{All}
use Rattle.spec_language.specs.Syntax.{Program}
use Rattle.spec_language.specs.Valid.{Valid}
use Rattle.spec_language.specs.Dependence.{size}
use Rattle.spec_model.specs.Model.{Arrival, Turn}
use Rattle.spec_model.specs.Claims.{events_of, taken_in_by, history_of, after, IdleIn, History, last, then_change, committed_by}
use Rattle.spec_model.specs.Sound.{Sound}
use Rattle.spec_model.proofs.States.{store_in}
use Rattle.spec_model.proofs.Confluence.{Declared, Likeness, CommuteBy}
use Rattle.spec_model.proofs.Histories.{OneSheet, CommuteEach}
use Rattle.spec_model.proofs.Replaying.{Known, known}
use Rattle.spec_model.proofs.SameBoard.{same_likeness}
use Rattle.ask_commute.specs.Meets.{Cone}
use Rattle.ask_commute.proofs.OnSet.{Closed, Agree, event_on}
use Rattle.ask_commute.proofs.CommuteOn.{commute_on}
use Rattle.ask_commute.proofs.Cones.{Settled, all_commute}

-- a relation of every two members, from what holds of every two that are declared
module _ (p : Program) (R : List ℕ → List ℕ → Type 0) (swap : (a b : Arrival) → Declared p a → Declared p b → CommuteBy p R a b) where
  with_each : (a : Arrival) → Declared p a → (l : List Arrival) → All (Declared p) l → All (CommuteBy p R a) l
  with_each a d [] h = tt
  with_each a d (b ∷ l) h = (swap a b d h.0, with_each a d l h.1)

  each_with : (l m : List Arrival) → All (Declared p) l → All (Declared p) m → All (λ a. All (CommuteBy p R a) m) l
  each_with [] m h k = tt
  each_with (a ∷ l) m h k = (with_each a h.0 m k, each_with l m h.1 k)

  pub each_pair : (l : List Arrival) → All (Declared p) l → All (λ a. All (CommuteBy p R a) l) l
  each_pair l h = each_with l l h h

declared_one : (p : Program) (c : History) → OneSheet c → Known p c → All (Declared p) (committed_by c)
declared_one p (last l) g k = k.1
declared_one p (then_change l q c) g k = absurd g

module _ (p : Program) (v : Valid p) (D : ℕ → Type 0) (closed : Closed p D) where
  on_set : Likeness p (Agree p D)
  on_set = record {
    same = λ i b m. refl;
    back = λ r i b m. sym (r i b m);
    join = λ r q i b m. r i b m ∙ q i b m;
    kept = λ e d s t n m r. event_on p v D closed e (omega arith) s t n m r;
  }

  swap_on : Settled p D → (a b : Arrival) → Declared p a → Declared p b → CommuteBy p (Agree p D) a b
  swap_on h a b d c u s n =
      commute_on p v D closed s n a.event b.event (omega arith) (omega arith) (h a.event b.event d c u)
      (h b.event a.event c d (λ q. u (sym q)))

  pub same_values : Settled p D → (ts us : List Turn) → All Sound ts → All Sound us → events_of (taken_in_by p ts) ≡ events_of (taken_in_by p us)
      → OneSheet (history_of p ts) → OneSheet (history_of p us) → IdleIn (after p ts) → IdleIn (after p us)
      → Agree p D (store_in (after p ts)) (store_in (after p us))
  same_values h ts us gt gu same ot ou it iu =
      let c : History = history_of p ts in
      same_likeness p v ts us gt gu same it iu (Agree p D) on_set ot ou
      (each_pair p (Agree p D) (swap_on h) (committed_by c) (declared_one p c ot (known p v ts gt)))

-- ---- with changes, where no two events of unequal priority meet in any cone of any sheet

abbrev pub SettledAll : Program → Type 0
SettledAll p = (b : ℕ) → b < size p → Settled p (Cone p b)

abbrev pub SettledEach : Program → History → Type 0
SettledEach p (last l) = SettledAll p
SettledEach p (then_change l q c) = SettledAll p × SettledEach q c

swap_all : (p : Program) → Valid p → SettledAll p → (a b : Arrival) → Declared p a → Declared p b → CommuteBy p (λ s t. s ≡ t) a b
swap_all p v h a b d c u s n = all_commute p v h a.event b.event d c u s n

pub settled_commute : (p : Program) (c : History) → Known p c → SettledEach p c → CommuteEach p c
settled_commute p (last l) k h = each_pair p (λ s t. s ≡ t) (swap_all p k.0 h) l k.1
settled_commute p (then_change l q c) k h = (each_pair p (λ s t. s ≡ t) (swap_all p k.0 h.0) l k.1, settled_commute q c k.2 h.1)
