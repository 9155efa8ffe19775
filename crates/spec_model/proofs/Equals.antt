-- Commits of equal priority are in order of number, by the priorities in force at the first of them: the running one
-- has the lowest number of its priority, so what is committed stands before the hand, and stays so when the sheet
-- changes, since it was said of the old priorities.
use Rattle.lib_base.proofs.Prelude.{ℕ, ◌<◌, ◌+◌, ◌≡◌, refl, sym, ap, subst, ◌≢◌, List, [], ◌∷◌, ◌++◌, List-as-Permᴰ}
use Rattle.lib_base.proofs.Prelude.{List-as-Nodup, Pairwise·nil, Pairwise, arith}
use mathlib.Core.HLevel.{→_prop}
use mathlib.Core.List.{Pairwise-append, Pairwise-singleton}
use native.Mathlib.Bridge.{le_prop}
use Rattle.lib_base.specs.Basics.{All}
use Rattle.lib_base.proofs.Tools.{all_perm, all_imp, all_join, all_mem}
use Rattle.spec_language.specs.Syntax.{Program}
use Rattle.spec_language.specs.Valid.{Valid}
use Rattle.spec_execution.specs.CodeFacts.{CodeFacts}
use Rattle.spec_model.specs.Model.{Arrival, arrival, Running, Engine, engine, queue, Chosen, aside, choose, Turn, State, state, carried_to, rest, busy, rank}
use Rattle.spec_model.specs.Claims.{number, in_queue, EqualsInOrder, History, EachLater, taken_in_by, after}
use Rattle.spec_model.specs.Sound.{Sound}
use Rattle.spec_model.proofs.Moments.{Moment, commits, changes, moments_of, history_of_law, Commit, commit_under, commits_under, each_later}
use Rattle.spec_model.proofs.States.{number_in, hand_in}
use Rattle.spec_model.proofs.Choice.{numbers, distinct_numbers, no_other, choose_perm, choose_first, Leads}
use Rattle.spec_model.proofs.Moves.{Cases}
use Rattle.spec_model.proofs.Reached.{back_perm, Fine}
use Rattle.spec_model.proofs.Once.{joins}
use Rattle.spec_model.proofs.History.{last_of, Kept, Keeps, always}

-- ---- numbers under one program

module _ (p : Program) where
  -- of equal priority, a has the lower number
  abbrev pub Sooner : Arrival → Arrival → Type 0
  Sooner a b = rank p a ≡ rank p b → a.number < b.number

  pub sooner_prop : (a b : Arrival) → IsProp (Sooner a b)
  sooner_prop a b = →_prop le_prop

  -- the running one, of its priority
  abbrev pub First : List Arrival → Running → Type 0
  First waiting rest = Unit {0}
  First waiting (busy a c) = All (Sooner a) waiting

  -- a leader with a number of its own is strictly sooner
  pub strictly : (a : Arrival) (l : List Arrival) → All (Leads p a) l → All (λ x. a.number ≢ x.number) l → All (Sooner a) l
  strictly a [] h k = tt
  strictly a (b ∷ l) h k = ((λ e. omega (arith, h.0.1 (sym e))), strictly a l h.1 k.1)

  pub newer_first : (e who t : ℕ) (waiting : List Arrival) (r : Running) → All (Fine p t) (queue waiting r) → First waiting r → First (arrival t e who ∷ waiting) r
  newer_first e who t waiting rest f h = tt
  newer_first e who t waiting (busy a c) f h = ((λ _. f.0.0), h)

-- ---- commits with one more moment

pub under_commit : (p : Program) (h : List Moment) (a : Arrival) (q : Program) → last_of p h ≡ q → commits_under p (h ++ (commits a ∷ [])) ≡ commits_under p h ++ (commit_under q a ∷ [])
unfolding commits_under last_of
under_commit p [] a q e = ap (λ (x : Program). commit_under x a ∷ []) e
under_commit p (commits b ∷ h) a q e = ap (λ (l : List Commit). commit_under p b ∷ l) (under_commit p h a q e)
under_commit p (changes r ∷ h) a q e = under_commit r h a q e

pub under_change : (p : Program) (h : List Moment) (q : Program) → commits_under p (h ++ (changes q ∷ [])) ≡ commits_under p h
unfolding commits_under
under_change p [] q = refl
under_change p (commits b ∷ h) q = ap (λ (l : List Commit). commit_under p b ∷ l) (under_change p h q)
under_change p (changes r ∷ h) q = under_change r h q

-- ---- what is kept

abbrev SoonerTo : Commit → Arrival → Type 0
SoonerTo x b = Sooner x.under x.what b

abbrev SoonerThan : Commit → Commit → Type 0
SoonerThan x y = SoonerTo x y.what

than_prop : (x y : Commit) → IsProp (SoonerThan x y)
than_prop x y = →_prop le_prop

one_more : (l : List Commit) (a : Commit) → Pairwise SoonerThan l → All (λ y. SoonerThan y a) l → Pairwise SoonerThan (l ++ (a ∷ []))
one_more l a h k =
    (Pairwise-append than_prop).1
    (h, Pairwise-singleton SoonerThan a, λ y m b n. all_mem (SoonerThan y) (than_prop y) (a ∷ []) (all_mem _ (λ x. than_prop x a) l k y m, tt) b n)

abbrev FirstIn : State → Type 0
FirstIn (state p (engine t waiting r d)) = First p waiting r

-- of the commits, the number taken in and the hand
abbrev Behind : List Commit → ℕ → List Arrival → Type 0
Behind log t hand = All (λ x. x.what.number < t) log × Pairwise SoonerThan log × All (λ x. All (SoonerTo x) hand) log

behind_perm : (log : List Commit) (t : ℕ) {q r : List Arrival} → List-as-Permᴰ q r → Behind log t q → Behind log t r
behind_perm log t d h = (h.0, h.1, all_imp _ _ (λ y k. all_perm (SoonerTo y) d k) log h.2)

-- a newcomer is later than whatever has a number
newer : (e who t : ℕ) (waiting : List Arrival) (r : Running) (log : List Commit) → All (λ x. x.what.number < t) log
    → All (λ x. All (SoonerTo x) (queue waiting r)) log → All (λ x. All (SoonerTo x) (queue (arrival t e who ∷ waiting) r)) log
newer e who t waiting r [] s b = tt
newer e who t waiting r (a ∷ l) s b = (all_perm (SoonerTo a) (joins (arrival t e who) waiting r) ((λ _. s.0), b.0), newer e who t waiting r l s.1 b.1)

behind_new : (e who t : ℕ) (waiting : List Arrival) (r : Running) (log : List Commit) → Behind log t (queue waiting r) → Behind log (t + 1) (queue (arrival t e who ∷ waiting) r)
behind_new e who t waiting r log h =
    (all_imp (λ x. x.what.number < t) (λ x. x.what.number < t + 1) (λ x y. omega arith) log h.0, h.1, newer e who t waiting r log h.0 h.2)

-- the running one commits
behind_commit : (p : Program) (t : ℕ) (a : Arrival) (waiting : List Arrival) (log : List Commit) → a.number < t → All (Sooner p a) waiting → Behind log t (a ∷ waiting)
    → Behind (log ++ (commit_under p a ∷ [])) t waiting
behind_commit p t a waiting log b f h = (
  all_join (λ x. x.what.number < t) log (commit_under p a ∷ []) h.0 (b, tt),
  one_more log (commit_under p a) h.1 (all_imp _ _ (λ y k. k.0) log h.2),
  all_join (λ x. All (SoonerTo x) waiting) log (commit_under p a ∷ []) (all_imp _ _ (λ y k. k.1) log h.2) (f, tt),
)

-- the next is the first of its priority
leads_first : (p : Program) (q : List Arrival) (c : Chosen) → List-as-Permᴰ q (c.next ∷ c.others) → All (Leads p c.next) c.others → List-as-Nodup (numbers q)
    → All (Sooner p c.next) c.others
leads_first p q c d f h = strictly p c.next c.others f (no_other c.next.number c.others (distinct_numbers d h))

carried_behind : (p q : Program) (w : Engine) (log : List Commit) → Behind log (number w) (in_queue w)
    → Behind log (number (carried_to p q w)) (in_queue (carried_to p q w)) × FirstIn (state q (carried_to p q w))
carried_behind p q (engine t waiting r d) log h = (h, tt)

module _ (p₀ : Program) where
  abbrev pub Ordered : List Turn → List Moment → List Arrival → State → Type 0
  Ordered past h taken s = Behind (commits_under p₀ h) (number_in s) (hand_in s) × FirstIn s

  calls : (p : Program) → CodeFacts p → Cases p (Kept p₀ Ordered p)
  calls p facts = record {
    refuses = λ e who w r past h taken l here i. i;
    takes = λ e who t waiting r d k eight m n reach past h taken l here i.
        (behind_new e who t waiting r (commits_under p₀ h) i.0, newer_first p e who t waiting r reach.fine i.1);
    reads = λ j who w r past h taken l here i. i;
    idles = λ t d r past h taken l here i. i;
    starts = λ t b m d r past h taken l here i. (
      behind_perm (commits_under p₀ h) t (choose_perm p b m) i.0,
      leads_first p (b ∷ m) (choose p b m) (choose_perm p b m) (choose_first p b m).1 r.distinct,
    );
    preempts = λ t b m a n d u o r past h taken l here i.
        let f : All (Leads p (choose p b m).next) (a ∷ (choose p b m).others) = ((omega arith, λ e. absurd (omega arith)), (choose_first p b m).1) in (
          behind_perm (commits_under p₀ h) t (back_perm p a b m) i.0,
          leads_first p (a ∷ (b ∷ m)) (aside p a (choose p b m)) (back_perm p a b m) f r.distinct,
        );
    runs = λ t waiting a n d k u r past h taken l here i. i;
    commits = λ t waiting a n d k u r past h taken l here i.
        (rw (under_commit p₀ h a p l) (behind_commit p t a waiting (commits_under p₀ h) r.fine.0.0 i.1 i.0), tt);
  }

  keeps : Keeps p₀ Ordered
  keeps = record {
    calls = calls;
    refuses = λ q past h taken s i. i;
    carries = λ p q w v z r u f past h taken l i. rw (under_change p₀ h q) (carried_behind p q w (commits_under p₀ h) i.0);
  }

  module _ (v : Valid p₀) where
    ordered : (ts : List Turn) → All Sound ts → Ordered ts (moments_of p₀ ts) (taken_in_by p₀ ts) (after p₀ ts)
    unfolding commits_under
    ordered ts g = always p₀ Ordered keeps v ((tt, Pairwise·nil, tt), tt) ts g

    -- each commit and the later ones, with the program in force
    pub commits_in_order : (ts : List Turn) → All Sound ts → Pairwise SoonerThan (commits_under p₀ (moments_of p₀ ts))
    commits_in_order ts g = (ordered ts g).0.1

    pub equals_in_order : (ts : List Turn) → All Sound ts → EqualsInOrder p₀ ts
    equals_in_order ts g =
        subst (λ (h : History). EachLater Sooner p₀ h (hand_in (after p₀ ts))) (sym (history_of_law p₀ ts))
        (each_later Sooner p₀ (moments_of p₀ ts) (hand_in (after p₀ ts)) (commits_in_order ts g) (ordered ts g).0.2)
