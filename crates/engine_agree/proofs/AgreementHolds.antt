-- On a sheet that `agree` answers 0 for, any two events of unequal rank are independent, which is the condition of
-- demand 3's last sentence; with changes, of every sheet of the history.
use Rattle.lib_base.proofs.Prelude.{ℕ, ◌<◌, ◌≡◌, sym, subst, ◌≢◌, List, [], ◌∷◌, map, Forall₂·nil, Forall₂·cons, length}
use Rattle.lib_base.specs.Basics.{All}
use Rattle.lib_word.specs.Word.{get}
use Rattle.spec_language.specs.Syntax.{Program}
use Rattle.spec_language.specs.Sheet.{Sheet}
use Rattle.spec_language.specs.Dependence.{Independent}
use Rattle.spec_language.specs.Grammar.{encode}
use Rattle.spec_language.specs.Accepted.{SheetAccepted}
use Rattle.spec_model.specs.Model.{Arrival, Answer, refused, told_taken_in, shows, idle, ran, started, preempted, committed, rank, Turn, call, change, Reply, says, carried_over, replies, begun}
use Rattle.spec_model.specs.Claims.{History, last, then_change, onward, if_commits, with_turn, history_by, history_of, taken_in_by, ApartIn, ApartEach}
use Rattle.back_compile.specs.Compiled.{program_of}
use Rattle.refine_lists.specs.Lists.{SheetTurn, calling, mending, Compiles, Means, AllMean, Prepared}
use Rattle.refine_lists.proofs.Sheets.{program_accepted}
use Rattle.refine_lists.proofs.FromSheets.{prepared_bytes, two_lists_hold, two_only_calls_hold}
use Rattle.ask_agree.specs.Agree.{agree_on}
use Rattle.ask_agree.specs.Claims.{Unequal}
use Rattle.ask_agree.proofs.Answers.{answers}
use Rattle.ask_agree.proofs.Undeclared.{any_two}
use Rattle.engine_agree.specs.Agreement.{PhonesAgree, AgreesToo, RoundsAgree}

-- ---- any two events of unequal rank are independent

abbrev Good : Program → Type 0
Good p = (e f : ℕ) → Unequal p e f → Independent p e f

good : (s ps : List ℕ) → All (λ b. b < 256) s → All (λ b. b < 256) ps → (x : Sheet) → encode x ≡ s → SheetAccepted (get ps) (length ps) x → agree_on s ps ≡ 0 → Good (program_of ps x)
good s ps bytes words x e taken z =
    any_two (program_of ps x) (program_accepted ps words x taken).fits.each (((answers s ps bytes words).0 x e taken).only_if z)

prepared_good : (s ps t l : List ℕ) (x : Sheet) → Prepared s ps t l x → agree_on s ps ≡ 0 → Good (program_of ps x)
prepared_good s ps t l x r z = good s ps (prepared_bytes s ps t l x r) r.param_bytes x r.sent_as r.taken z

all_of : {A : Type 0} (P : A → Type 0) → ((x : A) → P x) → (l : List A) → All P l
all_of P h [] = tt
all_of P h (x ∷ l) = (h x, all_of P h l)

good_in : (p : Program) → Good p → (l : List Arrival) → ApartIn p l
good_in p g l =
    all_of (λ a. All (λ b. rank p a ≢ rank p b → Independent p a.event b.event) l)
    (λ a. all_of (λ b. rank p a ≢ rank p b → Independent p a.event b.event) (λ b u. g a.event b.event u) l) l

-- ---- two lists of calls

pub phones_agree : PhonesAgree
phones_agree s ps qs t₀ l₀ t₁ l₁ x two cs ds same z i j =
    let p = program_of ps x in
    let g = prepared_good s ps t₀ l₀ x two.one z in
    two_only_calls_hold s ps qs t₀ l₀ t₁ l₁ x two cs ds same (good_in p g (taken_in_by p (map call cs))) i j

-- ---- with changes: every program of the history is good

abbrev GoodTurn : Turn → Type 0
GoodTurn (call c) = Unit {0}
GoodTurn (change q) = Good q

abbrev GoodHistory : History → Type 0
GoodHistory (last l) = Unit {0}
GoodHistory (then_change l q h) = Good q × GoodHistory h

onward_good : (a : Arrival) (h : History) → GoodHistory h → GoodHistory (onward a h)
onward_good a (last l) g = tt
onward_good a (then_change l q h) g = g

commits_good : (a : Answer) (h : History) → GoodHistory h → GoodHistory (if_commits a h)
commits_good (refused n) h g = g
commits_good told_taken_in h g = g
commits_good (shows v) h g = g
commits_good idle h g = g
commits_good ran h g = g
commits_good (started a) h g = g
commits_good (preempted a) h g = g
commits_good (committed a m) h g = onward_good a h g

with_good : (t : Turn) (r : Reply) (h : History) → GoodTurn t → GoodHistory h → GoodHistory (with_turn t r h)
with_good (call c) (says a) h k g = commits_good a h g
with_good (call c) carried_over h k g = g
with_good (change q) (says a) h k g = g
with_good (change q) carried_over h k g = (k, g)

history_good : (ts : List Turn) (rs : List Reply) → All GoodTurn ts → GoodHistory (history_by ts rs)
unfolding history_by
history_good [] rs g = tt
history_good (t ∷ ts) [] g = tt
history_good (t ∷ ts) (r ∷ rs) g = with_good t r (history_by ts rs) g.0 (history_good ts rs g.1)

apart_each : (p : Program) (h : History) → Good p → GoodHistory h → ApartEach p h
apart_each p (last l) g k = good_in p g l
apart_each p (then_change l q h) g k = (good_in p g l, apart_each q h k.0 k.1)

turn_good : (x : SheetTurn) (t : Turn) → Means x t → Compiles x → AgreesToo x → GoodTurn t
turn_good (calling c) (call d) m k a = tt
turn_good (calling c) (change q) m k a = absurd m
turn_good (mending s ps t) (call d) m k a = tt
turn_good (mending s ps t) (change q) m k a = subst Good (sym m.3) (good s ps k.0 k.1 m.0 m.1 m.2 a)

turns_good : {xs : List SheetTurn} {ts : List Turn} → AllMean xs ts → All Compiles xs → All AgreesToo xs → All GoodTurn ts
turns_good Forall₂·nil k a = tt
turns_good (Forall₂·cons {a = x} {b = t} {l₁ = xs} {l₂ = ts} m ms) k a = (turn_good x t m k.0 a.0, turns_good {xs = xs} {ts = ts} ms k.1 a.1)

pub rounds_agree : RoundsAgree
rounds_agree s ps qs t₀ l₀ t₁ l₁ x two xs ys k l ts us m n same alike z i j =
    let p = program_of ps x in
    let g = prepared_good s ps t₀ l₀ x two.one z.0 in
    two_lists_hold s ps qs t₀ l₀ t₁ l₁ x two xs ys k l ts us m n same alike
    (apart_each p (history_of p ts) g (history_good ts (replies ts (begun p)) (turns_good m k z.1))) i j
