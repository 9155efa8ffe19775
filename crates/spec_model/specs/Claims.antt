-- Demand 3 in terms of the model engine: what is said of every list of turns, calls and changes of sheets, from the
-- initial engine of a program. 02, M-100, M-101, M-112 and M-113. A list of calls alone is a case of it.
use Rattle.std.specs.Prelude.{ℕ, suc, ◌+◌, ◌*◌, ◌≤◌, ◌<◌, max, Bool, true, ◌≡◌, ◌≢◌, length, take, replicate, leb}
use mathlib.Core.List.{List, [], ◌∷◌, ◌++◌, map, Permᴰ, Memᴰ, Nodup, foldr, sum}
use Rattle.lib_base.specs.Basics.{pick, All}
use Rattle.spec_language.specs.Syntax.{Program}
use Rattle.spec_language.specs.Dependence.{size, events, Independent}
use Rattle.spec_language.specs.Rights.{may_see}
use Rattle.spec_language.specs.Code.{code}
use Rattle.spec_language.specs.Order.{up_to}
use Rattle.spec_semantics.specs.Meaning.{at}
use Rattle.spec_semantics.specs.Plays.{Plays}
use Rattle.spec_execution.specs.Execution.{copying_back_after}
use Rattle.spec_model.specs.Carried.{Carries}
use Rattle.spec_model.specs.Model.{Arrival, arrival, rest, busy, Engine, engine, queue, Call, arrive, step, board}
use Rattle.spec_model.specs.Model.{Answer, refused, told_taken_in, shows, idle, ran, started, preempted, committed}
use Rattle.spec_model.specs.Model.{rank, in_copy_back, act, run, Turn, call, change, State, state, Reply, says}
use Rattle.spec_model.specs.Model.{carried_over, turn, run_turns, replies, begun}

-- ---- what an engine says: the number taken in, the hand, the board, and whether a copy-back is under way

abbrev pub number : Engine → ℕ
number (engine t waiting r d) = t

abbrev pub in_queue : Engine → List Arrival
in_queue (engine t waiting r d) = queue waiting r

abbrev pub store_of : Engine → List ℕ
store_of (engine t waiting r d) = d.store

abbrev pub copy_back_in : Program → Engine → Bool
copy_back_in p (engine t waiting r d) = in_copy_back p r

-- the copy-back of a is under way
abbrev pub CopyingBack : Program → Arrival → Engine → Type 0
CopyingBack p a (engine t waiting rest d) = ⊥
CopyingBack p a (engine t waiting (busy b c) d) = (b ≡ a) × (copying_back_after (take c (code p a.event)) ≡ true)

-- the events of arrivals, whoever sent them
abbrev pub events_of : List Arrival → List ℕ
events_of l = map (λ (a : Arrival). a.event) l

-- the calls that take in an event and step it to its commit: the start, and each instruction
abbrev pub alone_calls : Program → ℕ → ℕ → List Call
alone_calls p e who = arrive e who ∷ step ∷ replicate (length (code p e)) step

-- ---- numbers of steps

-- the longest event's instructions, over all events
unfoldable pub longest : Program → ℕ
longest p = foldr max 0 (up_to (events p) (λ e. length (code p e)))

-- 01's count: "(k + 1) × (L + 1) steps .., k being the number in hand .., L the longest event's instructions"
abbrev pub count_of : ℕ → ℕ → ℕ
count_of k longest-event = (k + 1) * (longest-event + 1)

abbrev pub count_in : Program → Engine → ℕ
count_in p w = count_of (length (in_queue w)) (longest p)

-- the sum, over arrivals, of each event's instruction count plus one
unfoldable pub steps_of : Program → List Arrival → ℕ
steps_of p l = sum ◌+◌ 0 (map (λ (a : Arrival). length (code p a.event) + 1) l)

-- nothing runs
abbrev pub AtRest : Engine → Type 0
AtRest (engine t waiting rest d) = Unit {0}
AtRest (engine t waiting (busy a c) d) = ⊥

-- ---- the calls that leave a round as it is: 02, M-100 and M-101

-- "The same number is offered as a call of its own on a round .. While something runs, that call gives 01's bound."
abbrev pub forecast : Program → Engine → ℕ
forecast p (engine t waiting rest d) = steps_of p waiting
forecast p (engine t waiting (busy a c) d) = count_in p (engine t waiting (busy a c) d)

-- the value on the board after that many steps
abbrev pub shown_after : Program → Engine → ℕ → Answer
shown_after p w i = shows (at (store_of (run p (replicate (count_in p w) step) w)) i)

-- "the value that the board would show after this arrival and everything in hand had been run to idle", where the
-- arrival is taken in; turned down "then by 18". 02, M-107: "A preview needs both rights .. 25 when the right is
-- missing, .. after 18 for a behaviour"
abbrev pub foreseen : Program → Engine → ℕ → ℕ → ℕ → Answer
foreseen p w e i who =
    pick (leb (size p) i) (refused 18)
    (pick (may_see p who i) (shown_after p (act p (arrive e who) w).after i) (refused 25))

-- ---- what the replies say

-- the history of a board, by sheets: the arrivals committed under the one in force, in order; then, if it is changed,
-- the program that it is changed to and what follows
pub data History : Type 0 where
  last : List Arrival → History
  then_change : List Arrival → Program → History → History

-- a is committed, and the history goes on as h
abbrev pub onward : Arrival → History → History
onward a (last l) = last (a ∷ l)
onward a (then_change l q h) = then_change (a ∷ l) q h

-- "committed when a step's answer says so"
abbrev pub if_commits : Answer → History → History
if_commits (refused n) h = h
if_commits told_taken_in h = h
if_commits (shows v) h = h
if_commits idle h = h
if_commits ran h = h
if_commits (started a) h = h
if_commits (preempted a) h = h
if_commits (committed a m) h = onward a h

abbrev pub with_turn : Turn → Reply → History → History
with_turn (call c) (says a) h = if_commits a h
with_turn (call c) carried_over h = h
with_turn (change q) (says a) h = h
with_turn (change q) carried_over h = then_change [] q h

unfoldable pub history_by : List Turn → List Reply → History
history_by [] l = last []
history_by (t ∷ ts) [] = last []
history_by (t ∷ ts) (r ∷ l) = with_turn t r (history_by ts l)

-- the arrivals committed, in order of commitment
abbrev pub committed_by : History → List Arrival
committed_by (last l) = l
committed_by (then_change l q h) = l ++ committed_by h

-- the arrivals taken in, numbered from n on: "An arrival is taken in if its call wasn't refused": of a call
abbrev pub if_taken : Call → Answer → ℕ → (ℕ → List Arrival) → List Arrival
if_taken (arrive e who) (refused k) n l = l n
if_taken (arrive e who) told_taken_in n l = arrival n e who ∷ l (suc n)
if_taken (arrive e who) (shows v) n l = l n
if_taken (arrive e who) idle n l = l n
if_taken (arrive e who) ran n l = l n
if_taken (arrive e who) (started a) n l = l n
if_taken (arrive e who) (preempted a) n l = l n
if_taken (arrive e who) (committed a m) n l = l n
if_taken step a n l = l n
if_taken (board i who) a n l = l n

abbrev pub if_taken_in : Turn → Reply → ℕ → (ℕ → List Arrival) → List Arrival
if_taken_in (call c) (says a) n l = if_taken c a n l
if_taken_in (call c) carried_over n l = l n
if_taken_in (change q) r n l = l n

unfoldable pub taken_turns : List Turn → List Reply → ℕ → List Arrival
taken_turns [] l n = []
taken_turns (t ∷ ts) [] n = []
taken_turns (t ∷ ts) (r ∷ l) n = if_taken_in t r n (taken_turns ts l)

-- ---- what a state says

abbrev pub in_force : State → Program
in_force (state p w) = p

abbrev pub engine_in : State → Engine
engine_in (state p w) = w

-- "Idle: a step called now would answer idle."
abbrev pub IdleIn : State → Type 0
IdleIn s = (act (in_force s) step (engine_in s)).answer ≡ idle

-- the history of turns from a state
abbrev pub history_from : State → List Turn → History
history_from s ts = history_by ts (replies ts s)

-- ---- of a list of turns from a fresh round of p

abbrev pub after : Program → List Turn → State
after p ts = run_turns ts (begun p)

-- the program in force, and the engine
abbrev pub program_after : Program → List Turn → Program
program_after p ts = in_force (after p ts)

abbrev pub engine_after : Program → List Turn → Engine
engine_after p ts = engine_in (after p ts)

abbrev pub history_of : Program → List Turn → History
history_of p ts = history_from (begun p) ts

abbrev pub committed_in : Program → List Turn → List Arrival
committed_in p ts = committed_by (history_of p ts)

abbrev pub taken_in_by : Program → List Turn → List Arrival
taken_in_by p ts = taken_turns ts (replies ts (begun p)) 0

-- ---- the board. "Commits before the change follow the old sheet and later ones the new"

-- by Figure 1's rules, p being in force, the history leads from the store s to the store t: the events committed under
-- p, one by one, undivided, in order; then the change, and what follows under the next program
abbrev pub Replays : Program → History → List ℕ → List ℕ → Type 0
Replays p (last l) s t = Plays p (events_of l) s t
Replays p (then_change l q h) s t = (s' : List ℕ) × (s'' : List ℕ) × Plays p (events_of l) s s' × Carries p q s' s'' × Replays q h s'' t

-- ---- order

-- "Each arrival taken in is committed at most once, exactly once when idle"
abbrev pub OnceEach : Program → List Turn → Type 0
OnceEach p ts =
    Permᴰ (taken_in_by p ts) (committed_in p ts ++ in_queue (engine_after p ts))
    × Nodup (map (λ (a : Arrival). a.number) (taken_in_by p ts))
    × (IdleIn (after p ts) → Permᴰ (taken_in_by p ts) (committed_in p ts))

-- R holds of each arrival of l and each that comes later, in l or in the list that follows it
abbrev pub EachIn : (Arrival → Arrival → Type 0) → List Arrival → List Arrival → Type 0
EachIn R [] following = Unit {0}
EachIn R (a ∷ l) following = All (R a) (l ++ following) × EachIn R l following

-- R holds of each commit and a later one, and of each and one still in hand, by the program in force at the first:
-- "between two events, ranks are those in force when the first commits"
abbrev pub EachLater : (Program → Arrival → Arrival → Type 0) → Program → History → List Arrival → Type 0
EachLater R p (last l) hand = EachIn (R p) l hand
EachLater R p (then_change l q h) hand = EachIn (R p) l (committed_by h ++ hand) × EachLater R q h hand

-- "and after every earlier one of equal rank"
abbrev pub EqualsInOrder : Program → List Turn → Type 0
EqualsInOrder p ts = EachLater (λ q a b. rank q a ≡ rank q b → a.number < b.number) p (history_of p ts) (in_queue (engine_after p ts))

-- b was taken in after the copy-back of a began: at some moment it is under way, and b's number is not yet given
pub record TakenInLater (p : Program) (ts : List Turn) (a b : Arrival) : Type 0 where
  pub past : List Turn
  pub rest_of : List Turn
  pub moment : ts ≡ past ++ rest_of
  pub copying : CopyingBack (program_after p past) a (engine_after p past)
  pub not_yet : number (engine_after p past) ≤ b.number

-- "A lower rank precedes a higher one only if the higher was taken in after the lower's copy-back began."
abbrev pub LowerFirst : Program → List Turn → Type 0
LowerFirst p ts = EachLater (λ q a b. rank q a < rank q b → TakenInLater p ts a b) p (history_of p ts) (in_queue (engine_after p ts))

-- ---- counts of steps. "counts of steps, M-100's too, run from the last" change: the turns us after ts change no
-- sheet, L and the instruction counts being those of the program in force

-- "no sheet is changed": every change among them is refused
abbrev pub Unchanged : List Turn → State → Type 0
Unchanged us s = All (λ r. r ≢ carried_over) (replies us s)

-- the steps among turns
unfoldable pub steps_among : List Turn → ℕ
steps_among [] = 0
steps_among (call (arrive e who) ∷ ts) = steps_among ts
steps_among (call step ∷ ts) = suc (steps_among ts)
steps_among (call (board i who) ∷ ts) = steps_among ts
steps_among (change q ∷ ts) = steps_among ts

-- "Once no more are taken in, the round is idle within 01's count of steps"; "k = 0 is idle already"
abbrev pub IdleWithin : Program → List Turn → Type 0
IdleWithin p ts =
    ((us : List Turn) → Unchanged us (after p ts) → number (engine_after p (ts ++ us)) ≡ number (engine_after p ts)
    → count_in (program_after p ts) (engine_after p ts) ≤ steps_among us → IdleIn (after p (ts ++ us)))
    × (length (in_queue (engine_after p ts)) ≡ 0 → IdleIn (after p ts))

-- M-100: "with nothing running and no further arrivals, idle shall come after exactly the sum, over the hand, of each
-- event's instruction count plus one"
abbrev pub QuietExactly : Program → List Turn → Type 0
QuietExactly p ts =
    AtRest (engine_after p ts) → (us : List Turn) → Unchanged us (after p ts) → number (engine_after p (ts ++ us)) ≡ number (engine_after p ts)
    → (steps_among us < steps_of (program_after p ts) (in_queue (engine_after p ts)) → IdleIn (after p (ts ++ us)) → ⊥)
    × (steps_of (program_after p ts) (in_queue (engine_after p ts)) ≤ steps_among us → IdleIn (after p (ts ++ us)))

-- M-113: "If during the next (k + 1) × (L + 1) steps nothing of higher rank arrives and no sheet is changed, that
-- arrival is committed by the end of them."
abbrev pub NobodyWaits : Program → List Turn → Type 0
NobodyWaits p ts =
    (us : List Turn) (a : Arrival) → Memᴰ a (in_queue (engine_after p ts)) → Unchanged us (after p ts)
    → All (λ b. rank (program_after p ts) b ≤ rank (program_after p ts) a) (taken_turns us (replies us (after p ts)) (number (engine_after p ts)))
    → count_in (program_after p ts) (engine_after p ts) ≤ steps_among us → Memᴰ a (committed_by (history_from (after p ts) us))

-- ---- M-101, with the program in force

-- whichever way the round is then run to idle, no further arrival taken in and no sheet changed, the board shows the
-- value foreseen
abbrev pub PreviewRight : Program → List Turn → Type 0
PreviewRight p ts =
    (e i who : ℕ) (us : List Turn) → i < size (program_after p ts) → may_see (program_after p ts) who i ≡ true
    → (turn (call (arrive e who)) (after p ts)).reply ≡ says told_taken_in
    → Unchanged (call (arrive e who) ∷ us) (after p ts)
    → number (engine_after p (ts ++ (call (arrive e who) ∷ us))) ≡ number (engine_after p ts) + 1
    → IdleIn (after p (ts ++ (call (arrive e who) ∷ us)))
    → foreseen (program_after p ts) (engine_after p ts) e i who ≡ shows (at (store_of (engine_after p (ts ++ (call (arrive e who) ∷ us)))) i)

-- ---- two lists. "equal boards on two phones need independence in each sheet and the same change after the same
-- commits"

-- an arrival whoever sent it: as if the host had (02, M-107: "Arrivals in hand commit as before, whoever sent them")
abbrev pub unsigned : Arrival → Arrival
unsigned a = arrival a.number a.event 0

-- "the same change after the same commits": in any order
abbrev pub SameChanges : History → History → Type 0
SameChanges (last l) (last m) = Unit {0}
SameChanges (last l) (then_change m r k) = ⊥
SameChanges (then_change l q h) (last m) = ⊥
SameChanges (then_change l q h) (then_change m r k) = Permᴰ (map unsigned l) (map unsigned m) × (q ≡ r) × SameChanges h k

-- "those of unequal rank being independent", in each sheet: of the commits under it
abbrev pub ApartIn : Program → List Arrival → Type 0
ApartIn p l = All (λ a. All (λ b. rank p a ≢ rank p b → Independent p a.event b.event) l) l

abbrev pub ApartEach : Program → History → Type 0
ApartEach p (last l) = ApartIn p l
ApartEach p (then_change l q h) = ApartIn p l × ApartEach q h

-- ---- every sentence about one list

pub record Sentences (p : Program) (ts : List Turn) : Type 0 where
  pub once : OnceEach p ts
  pub equals : EqualsInOrder p ts
  pub lower : LowerFirst p ts
  pub within : IdleWithin p ts
  pub quiet : QuietExactly p ts
  pub nobody_waits : NobodyWaits p ts
  pub previews : PreviewRight p ts
