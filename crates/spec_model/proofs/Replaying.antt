-- By the rules of Figure 1 a history leads to the store that it replays, and to no other: every commit's event is
-- declared in the program in force, which each turn keeps, and rules and evaluator agree under each sheet and at each
-- change. By induction on the history.
use Rattle.lib_base.proofs.Prelude.{ℕ, ◌<◌, ◌≡◌, ◌∙◌, sym, ap, subst, List, [], ◌∷◌, ◌++◌, length}
use Rattle.lib_base.specs.Basics.{All}
use Rattle.spec_language.specs.Syntax.{Program}
use Rattle.spec_language.specs.Valid.{Valid}
use Rattle.spec_language.specs.Dependence.{size, events}
use Rattle.spec_semantics.specs.Meaning.{fresh}
use Rattle.spec_semantics.specs.Event.{play}
use Rattle.spec_semantics.proofs.Lengths.{length_fresh}
use Rattle.spec_semantics.proofs.PlaysLaws.{plays, plays_alone}
use Rattle.spec_execution.specs.CodeFacts.{CodeFacts}
use Rattle.spec_model.specs.Carried.{carried}
use Rattle.spec_model.specs.Model.{Arrival, Turn, State}
use Rattle.spec_model.specs.Claims.{after, history_of, Replays, History, last, then_change, onward, events_of}
use Rattle.spec_model.specs.Sound.{Sound}
use Rattle.spec_model.specs.Evaluated.{replayed, BoardByRules}
use Rattle.spec_model.proofs.Moments.{Moment, commits, changes, moments_of, by_sheets, history_of_law}
use Rattle.spec_model.proofs.States.{store_in}
use Rattle.spec_model.proofs.Carries.{length_carried, carries, carries_alone}
use Rattle.spec_model.proofs.Moves.{Cases}
use Rattle.spec_model.proofs.History.{last_of, Kept, Keeps, always}
use Rattle.spec_model.proofs.Boards.{board_of_commits}

-- ---- the rules on a history whose events are declared

-- every commit's event is declared in the program in force, and every change is to a valid program
abbrev pub Proper : Program → List Moment → Type 0
Proper p [] = Unit {0}
Proper p (commits a ∷ h) = (a.event < events p) × Proper p h
Proper p (changes q ∷ h) = Valid q × Proper q h

-- by sheets: each program is valid, and each event is declared in the program that it is committed under
abbrev pub Known : Program → History → Type 0
Known p (last l) = Valid p × All (λ (a : Arrival). a.event < events p) l
Known p (then_change l q h) = Valid p × All (λ (a : Arrival). a.event < events p) l × Known q h

known_onward : (p : Program) (a : Arrival) (h : History) → a.event < events p → Known p h → Known p (onward a h)
known_onward p a (last l) b k = (k.0, (b, k.1))
known_onward p a (then_change l q h) b k = (k.0, (b, k.1), k.2)

sheets_known : (p : Program) (h : List Moment) → Valid p → Proper p h → Known p (by_sheets h)
unfolding by_sheets
sheets_known p [] v k = (v, tt)
sheets_known p (commits a ∷ h) v k = known_onward p a (by_sheets h) k.0 (sheets_known p h v k.1)
sheets_known p (changes q ∷ h) v k = (v, tt, sheets_known q h k.0 k.1)

known_valid : (p : Program) (h : History) → Known p h → Valid p
known_valid p (last l) k = k.0
known_valid p (then_change l q h) k = k.0

pub events_declared_law : (p : Program) (l : List Arrival) → All (λ (a : Arrival). a.event < events p) l → All (λ e. e < events p) (events_of l)
events_declared_law p [] k = tt
events_declared_law p (a ∷ l) k = (k.0, events_declared_law p l k.1)

pub replays : (p : Program) (h : History) → Known p h → (s : List ℕ) → length s ≡ size p → Replays p h s (replayed p h s)
unfolding replayed
replays p (last l) k s n = plays p k.0 (events_of l) (events_declared_law p l k.1) s n
replays p (then_change l q h) k s n =
    let s' : List ℕ = play p (events_of l) s in (
      s',
      carried p q s',
      plays p k.0 (events_of l) (events_declared_law p l k.1) s n,
      carries p q (known_valid q h k.2) s',
      replays q h k.2 (carried p q s') (length_carried p q s'),
    )

pub replays_alone : (p : Program) (h : History) → Known p h → (s t : List ℕ) → length s ≡ size p → Replays p h s t → t ≡ replayed p h s
unfolding replayed
replays_alone p (last l) k s t n r = plays_alone p k.0 (events_of l) (events_declared_law p l k.1) s t n r
replays_alone p (then_change l q h) k s t n (s', s'', r, c, r'') =
    let same : s' ≡ play p (events_of l) s = plays_alone p k.0 (events_of l) (events_declared_law p l k.1) s s' n r in
    let then : s'' ≡ carried p q s' = carries_alone p q (known_valid q h k.2) s' s'' c in
    replays_alone q h k.2 s'' t c.sized r'' ∙ ap (replayed q h) (then ∙ ap (carried p q) same)

-- ---- the history of a list of turns is one

proper_commit : (p : Program) (h : List Moment) (a : Arrival) → Proper p h → a.event < events (last_of p h) → Proper p (h ++ (commits a ∷ []))
unfolding last_of
proper_commit p [] a k b = (b, tt)
proper_commit p (commits x ∷ h) a k b = (k.0, proper_commit p h a k.1 b)
proper_commit p (changes q ∷ h) a k b = (k.0, proper_commit q h a k.1 b)

proper_change : (p : Program) (h : List Moment) (q : Program) → Proper p h → Valid q → Proper p (h ++ (changes q ∷ []))
proper_change p [] q k v = (v, tt)
proper_change p (commits x ∷ h) q k v = (k.0, proper_change p h q k.1 v)
proper_change p (changes r ∷ h) q k v = (k.0, proper_change r h q k.1 v)

module _ (p₀ : Program) where
  abbrev Told : List Turn → List Moment → List Arrival → State → Type 0
  Told past h taken s = Proper p₀ h

  calls : (p : Program) → CodeFacts p → Cases p (Kept p₀ Told p)
  calls p facts = record {
    refuses = λ e who w r past h taken l here i. i;
    takes = λ e who t waiting r d k eight m n reach past h taken l here i. i;
    reads = λ j who w r past h taken l here i. i;
    idles = λ t d r past h taken l here i. i;
    starts = λ t b m d r past h taken l here i. i;
    preempts = λ t b m a n d u o r past h taken l here i. i;
    runs = λ t waiting a n d k u r past h taken l here i. i;
    commits = λ t waiting a n d k u r past h taken l here i. proper_commit p₀ h a i (rw l r.fine.0.1);
  }

  keeps : Keeps p₀ Told
  keeps = record {
    calls = calls;
    refuses = λ q past h taken s i. i;
    carries = λ p q w v z r u f past h taken l i. proper_change p₀ h q i z;
  }

  module _ (v : Valid p₀) where
    pub proper : (ts : List Turn) → All Sound ts → Proper p₀ (moments_of p₀ ts)
    proper ts g = always p₀ Told keeps v tt ts g

    pub known : (ts : List Turn) → All Sound ts → Known p₀ (history_of p₀ ts)
    known ts g = subst (Known p₀) (sym (history_of_law p₀ ts)) (sheets_known p₀ (moments_of p₀ ts) v (proper ts g))

    pub board_by_rules : (ts : List Turn) → All Sound ts → BoardByRules p₀ ts
    board_by_rules ts g u =
        let k = known ts g in
        let b : store_in (after p₀ ts) ≡ replayed p₀ (history_of p₀ ts) (fresh p₀) = board_of_commits p₀ v ts g u in (
          subst (Replays p₀ (history_of p₀ ts) (fresh p₀)) (sym b) (replays p₀ (history_of p₀ ts) k (fresh p₀) (length_fresh p₀)),
          λ s r. replays_alone p₀ (history_of p₀ ts) k (fresh p₀) s (length_fresh p₀) r ∙ sym b,
        )
