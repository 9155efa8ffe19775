-- Unless a copy-back is under way, the store is that of the history: each commit under its sheet, each change at its
-- place. The running event has done its first instructions from that store and left it alone, so a change carries that
-- store.
use Rattle.lib_base.proofs.Prelude.{ℕ, ◌≡◌, refl, ◌∙◌, sym, ap, subst, false, List, [], ◌∷◌, ◌++◌, length}
use Rattle.lib_base.specs.Basics.{All}
use Rattle.spec_language.specs.Syntax.{Program}
use Rattle.spec_language.specs.Valid.{Valid}
use Rattle.spec_language.specs.Dependence.{size}
use Rattle.spec_semantics.specs.Meaning.{fresh}
use Rattle.spec_semantics.specs.Event.{event}
use Rattle.spec_semantics.proofs.Lengths.{length_fresh}
use Rattle.spec_execution.specs.Execution.{emptied}
use Rattle.spec_execution.specs.CodeFacts.{CodeFacts}
use Rattle.spec_execution.proofs.CodeRight.{code_facts}
use Rattle.spec_model.specs.Carried.{carried}
use Rattle.spec_model.specs.Model.{Arrival, Engine, engine, Call, Turn, State, state, carried_to}
use Rattle.spec_model.specs.Claims.{copy_back_in, store_of, in_force, engine_in, after, history_of}
use Rattle.spec_model.specs.Sound.{Sound}
use Rattle.spec_model.specs.Evaluated.{replayed, BoardOfCommits}
use Rattle.spec_model.proofs.Moments.{Moment, commits, changes, moments_of, store_by, replayed_is}
use Rattle.spec_model.proofs.States.{store_in}
use Rattle.spec_model.proofs.Carries.{length_carried}
use Rattle.spec_model.proofs.Moves.{Effect, nothing, took, commit, cases_imp}
use Rattle.spec_model.proofs.Reached.{DoneIn, onto, still, Computes, computes}
use Rattle.spec_model.proofs.History.{noted, Fit, fits, last_of, Kept, Keeps, always}

-- ---- a history with one more moment

pub replay_commit : (p : Program) (h : List Moment) (a : Arrival) (s : List ℕ)
    → store_by p (h ++ (commits a ∷ [])) s ≡ event (last_of p h) a.event (store_by p h s)
unfolding store_by last_of
replay_commit p [] a s = refl
replay_commit p (commits b ∷ h) a s = replay_commit p h a (event p b.event s)
replay_commit p (changes q ∷ h) a s = replay_commit q h a (carried p q s)

replay_change : (p : Program) (h : List Moment) (q : Program) (s : List ℕ) → store_by p (h ++ (changes q ∷ [])) s ≡ carried (last_of p h) q (store_by p h s)
unfolding store_by last_of
replay_change p [] q s = refl
replay_change p (commits b ∷ h) q s = replay_change p h q (event p b.event s)
replay_change p (changes r ∷ h) q s = replay_change r h q (carried p r s)

module _ (p₀ : Program) where
  abbrev pub store_after : List Moment → List ℕ
  store_after h = store_by p₀ h (fresh p₀)

  noted_store : (x : Effect) (h : List Moment) (p : Program) → last_of p₀ h ≡ p → onto p x (store_after h) ≡ store_after (noted x h)
  noted_store nothing h p e = refl
  noted_store (took a) h p e = refl
  noted_store (commit a) h p e = ap (λ (q : Program). event q a.event (store_after h)) (sym e) ∙ sym (replay_commit p₀ h a (fresh p₀))

  -- the values are those of the running event's first instructions over the store of the history
  abbrev pub Stored : List Turn → List Moment → List Arrival → State → Type 0
  Stored past h taken s = (length (store_after h) ≡ size (in_force s)) × DoneIn (in_force s) (store_after h) (engine_in s)

  keeps_call : (p : Program) (facts : CodeFacts p) (c : Call) (w : Engine) (x : Effect) (v : Engine) → Computes p facts c w x v → Kept p₀ Stored p c w x v
  keeps_call p facts c w x v h = λ r past k taken e here i.
      subst (λ (s : List ℕ). (length s ≡ size p) × DoneIn p s v) (noted_store x k p e) (h r.fine (store_after k) i.0 i.1)

  pub carried_done : (q p : Program) (w : Engine) (s : List ℕ) → store_of w ≡ s → DoneIn q (carried p q s) (carried_to p q w)
  unfolding emptied
  carried_done q p (engine t waiting r d) s e = ap (carried p q) e

  keeps : Keeps p₀ Stored
  keeps = record {
    calls = λ p facts. cases_imp p (Computes p facts) (Kept p₀ Stored p) (keeps_call p facts) (computes p facts);
    refuses = λ q past h taken s i. i;
    carries = λ p q w v z r u f past h taken e i.
        let s : store_of w ≡ store_after h = still p (code_facts p v) (store_after h) w i.0 r.fine u i.1 in
        let same : carried p q (store_after h) ≡ store_after (h ++ (changes q ∷ [])) =
        ap (λ (x : Program). carried x q (store_after h)) (sym e) ∙ sym (replay_change p₀ h q (fresh p₀)) in
        subst (λ (x : List ℕ). (length x ≡ size q) × DoneIn q x (carried_to p q w)) same
        (length_carried p q (store_after h), carried_done q p w (store_after h) s);
  }

  module _ (v : Valid p₀) where
    pub stored : (ts : List Turn) → All Sound ts → Stored ts (moments_of p₀ ts) [] (after p₀ ts)
    unfolding store_by emptied
    stored ts g = always p₀ Stored keeps v (length_fresh p₀, refl) ts g

    store_of_law : (s : State) (h : List Moment) → Fit s → Stored [] h [] s → copy_back_in (in_force s) (engine_in s) ≡ false → store_in s ≡ store_after h
    store_of_law (state p w) h f i u = still p (code_facts p f.0) (store_after h) w i.0 f.1.fine u i.1

    pub board_of_commits : (ts : List Turn) → All Sound ts → BoardOfCommits p₀ ts
    board_of_commits ts g u =
        store_of_law (after p₀ ts) (moments_of p₀ ts) (fits p₀ v ts g) (stored ts g) u ∙ sym (replayed_is p₀ ts (fresh p₀))

    pub replayed_sized : (ts : List Turn) → All Sound ts → length (replayed p₀ (history_of p₀ ts) (fresh p₀)) ≡ size (in_force (after p₀ ts))
    replayed_sized ts g = rw (replayed_is p₀ ts (fresh p₀)) (stored ts g).0
