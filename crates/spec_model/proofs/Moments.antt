-- The history moment by moment, as turns add to it: a list of commits and changes, which the inductions on turns go by.
-- Read by sheets it is the claim's history: by induction on the turns. So what it does to a store, what it commits and
-- what holds of each commit and the later ones are the same: by induction on the moments.
use Rattle.lib_base.proofs.Prelude.{ℕ, ◌≡◌, refl, ◌∙◌, sym, ap, List, [], ◌∷◌, ◌++◌, map, append_assoc}
use Rattle.lib_base.proofs.Prelude.{Pairwise·of-cons, Pairwise, Pairwise-cons}
use Rattle.lib_base.specs.Basics.{All}
use Rattle.lib_base.proofs.Tools.{all_of_mem, all_join}
use Rattle.spec_language.specs.Syntax.{Program}
use Rattle.spec_semantics.specs.Event.{event, play}
use Rattle.spec_model.specs.Carried.{carried}
use Rattle.spec_model.specs.Model.{Arrival, Answer, refused, told_taken_in, shows, idle, ran, started, preempted, committed, Turn, call, change, State, Reply, says, carried_over, replies, begun}
use Rattle.spec_model.specs.Claims.{History, last, then_change, onward, if_commits, with_turn, history_by, history_from, history_of, committed_by, committed_in, EachLater}
use Rattle.spec_model.specs.Evaluated.{replayed}

-- an arrival is committed, or the sheet is changed to this program
pub data Moment : Type 0 where
  commits : Arrival → Moment
  changes : Program → Moment

abbrev pub answered : Answer → List Moment → List Moment
answered (refused n) l = l
answered told_taken_in l = l
answered (shows v) l = l
answered idle l = l
answered ran l = l
answered (started a) l = l
answered (preempted a) l = l
answered (committed a m) l = commits a ∷ l

abbrev pub moment_of : Turn → Reply → List Moment → List Moment
moment_of (call c) (says a) l = answered a l
moment_of (call c) carried_over l = l
moment_of (change q) (says a) l = l
moment_of (change q) carried_over l = changes q ∷ l

unfoldable pub moments : List Turn → List Reply → List Moment
moments [] l = []
moments (t ∷ ts) [] = []
moments (t ∷ ts) (r ∷ l) = moment_of t r (moments ts l)

abbrev pub moments_of : Program → List Turn → List Moment
moments_of p ts = moments ts (replies ts (begun p))

-- ---- by sheets

unfoldable pub by_sheets : List Moment → History
by_sheets [] = last []
by_sheets (commits a ∷ h) = onward a (by_sheets h)
by_sheets (changes q ∷ h) = then_change [] q (by_sheets h)

answer_sheets : (x : Answer) (h : List Moment) → if_commits x (by_sheets h) ≡ by_sheets (answered x h)
unfolding by_sheets
answer_sheets (refused n) h = refl
answer_sheets told_taken_in h = refl
answer_sheets (shows v) h = refl
answer_sheets idle h = refl
answer_sheets ran h = refl
answer_sheets (started a) h = refl
answer_sheets (preempted a) h = refl
answer_sheets (committed a m) h = refl

turn_sheets : (t : Turn) (r : Reply) (h : List Moment) → with_turn t r (by_sheets h) ≡ by_sheets (moment_of t r h)
unfolding by_sheets
turn_sheets (call c) (says x) h = answer_sheets x h
turn_sheets (call c) carried_over h = refl
turn_sheets (change q) (says x) h = refl
turn_sheets (change q) carried_over h = refl

pub history_by_law : (ts : List Turn) (l : List Reply) → history_by ts l ≡ by_sheets (moments ts l)
unfolding history_by moments by_sheets
history_by_law [] l = refl
history_by_law (t ∷ ts) [] = refl
history_by_law (t ∷ ts) (r ∷ l) = ap (with_turn t r) (history_by_law ts l) ∙ turn_sheets t r (moments ts l)

pub history_from_law : (s : State) (ts : List Turn) → history_from s ts ≡ by_sheets (moments ts (replies ts s))
history_from_law s ts = history_by_law ts (replies ts s)

pub history_of_law : (p : Program) (ts : List Turn) → history_of p ts ≡ by_sheets (moments_of p ts)
history_of_law p ts = history_from_law (begun p) ts

-- commits alone are all under one sheet
pub one_sheet : (l : List Arrival) → by_sheets (map commits l) ≡ last l
unfolding by_sheets
one_sheet [] = refl
one_sheet (a ∷ l) = ap (onward a) (one_sheet l)

-- ---- what they do to a store

unfoldable pub store_by : Program → List Moment → List ℕ → List ℕ
store_by p [] s = s
store_by p (commits a ∷ h) s = store_by p h (event p a.event s)
store_by p (changes q ∷ h) s = store_by q h (carried p q s)

replayed_onward : (p : Program) (a : Arrival) (h : History) (s : List ℕ) → replayed p (onward a h) s ≡ replayed p h (event p a.event s)
unfolding replayed play
replayed_onward p a (last l) s = refl
replayed_onward p a (then_change l q h) s = refl

store_replayed : (p : Program) (h : List Moment) (s : List ℕ) → store_by p h s ≡ replayed p (by_sheets h) s
unfolding store_by replayed by_sheets play
store_replayed p [] s = refl
store_replayed p (commits a ∷ h) s = store_replayed p h (event p a.event s) ∙ sym (replayed_onward p a (by_sheets h) s)
store_replayed p (changes q ∷ h) s = store_replayed q h (carried p q s)

pub replayed_is : (p : Program) (ts : List Turn) (s : List ℕ) → replayed p (history_of p ts) s ≡ store_by p (moments_of p ts) s
replayed_is p ts s = ap (λ (h : History). replayed p h s) (history_of_law p ts) ∙ sym (store_replayed p (moments_of p ts) s)

-- ---- the arrivals committed, in order of commitment

abbrev pub arrivals_committed : List Moment → List Arrival
arrivals_committed [] = []
arrivals_committed (commits a ∷ h) = a ∷ arrivals_committed h
arrivals_committed (changes q ∷ h) = arrivals_committed h

committed_onward : (a : Arrival) (h : History) → committed_by (onward a h) ≡ a ∷ committed_by h
committed_onward a (last l) = refl
committed_onward a (then_change l q h) = refl

pub committed_sheets : (h : List Moment) → committed_by (by_sheets h) ≡ arrivals_committed h
unfolding by_sheets
committed_sheets [] = refl
committed_sheets (commits a ∷ h) = committed_onward a (by_sheets h) ∙ ap (λ (l : List Arrival). a ∷ l) (committed_sheets h)
committed_sheets (changes q ∷ h) = committed_sheets h

pub committed_from_law : (s : State) (ts : List Turn) → committed_by (history_from s ts) ≡ arrivals_committed (moments ts (replies ts s))
committed_from_law s ts = ap committed_by (history_from_law s ts) ∙ committed_sheets (moments ts (replies ts s))

pub committed_in_law : (p : Program) (ts : List Turn) → committed_in p ts ≡ arrivals_committed (moments_of p ts)
committed_in_law p ts = committed_from_law (begun p) ts

-- ---- commits with the program in force, in order

pub record Commit : Type 0 where
  pub under : Program
  pub what : Arrival

-- arrival a, committed with p in force
abbrev pub commit_under : Program → Arrival → Commit
commit_under p a = record { under = p; what = a }

unfoldable pub commits_under : Program → List Moment → List Commit
commits_under p [] = []
commits_under p (commits a ∷ h) = commit_under p a ∷ commits_under p h
commits_under p (changes q ∷ h) = commits_under q h

-- what holds of the arrivals of commits, whatever the program, holds of the arrivals committed
all_committed : (P : Arrival → Type 0) (p : Program) (h : List Moment) → All (λ (x : Commit). P x.what) (commits_under p h) → All P (arrivals_committed h)
unfolding commits_under
all_committed P p [] k = tt
all_committed P p (commits a ∷ h) k = (k.0, all_committed P p h k.1)
all_committed P p (changes q ∷ h) k = all_committed P q h k

module _ (R : Program → Arrival → Arrival → Type 0) where
  later_onward : (p : Program) (a : Arrival) (h : History) (hand : List Arrival) → All (R p a) (committed_by h ++ hand) → EachLater R p h hand
      → EachLater R p (onward a h) hand
  later_onward p a (last l) hand k i = (k, i)
  later_onward p a (then_change l q h) hand k i = ((rw (← append_assoc l (committed_by h) hand) k, i.0), i.1)

  -- R of each commit and a later one, and of each and one in hand
  pub each_later : (p : Program) (h : List Moment) (hand : List Arrival)
      → Pairwise (λ (x y : Commit). R x.under x.what y.what) (commits_under p h)
      → All (λ (x : Commit). All (R x.under x.what) hand) (commits_under p h) → EachLater R p (by_sheets h) hand
  unfolding commits_under by_sheets
  each_later p [] hand k i = tt
  each_later p (commits a ∷ h) hand k i =
      later_onward p a (by_sheets h) hand
      (rw (committed_sheets h)
      (all_join (R p a) (arrivals_committed h) hand
      (all_committed (R p a) p h (all_of_mem (λ (x : Commit). R p a x.what) (commits_under p h) (Pairwise-cons.0 k).0)) i.0))
      (each_later p h hand (Pairwise·of-cons k) i.1)
  each_later p (changes q ∷ h) hand k i = (tt, each_later q h hand k i)
