-- What a player gets of the numbers is a function of what it gets of the model engine's replies: a number that is told
-- without its mark is the same whether the mark was set or not. Turn by turn, and by induction on the list.
use Rattle.lib_base.proofs.Prelude.{ℕ, ◌≡◌, refl, ◌∙◌, ap, true, false, Option, some, none, List, [], ◌∷◌, map}
use Rattle.lib_base.proofs.Prelude.{Forall₂·nil, Forall₂·cons, zip_with, eqb, arith}
use Rattle.lib_base.specs.Basics.{pick}
use Rattle.lib_base.proofs.Tools.{by_two, split}
use Rattle.spec_model.specs.Model.{Call, arrive, step, board, Answer, refused, told_taken_in, shows, idle, ran, started, preempted, committed, Turn, call, change, Reply, says, carried_over}
use Rattle.spec_model.specs.Told.{told_to, unmarked}
use Rattle.refine_calls.specs.Refinement.{coded_reply, coded, told_on}
use Rattle.refine_lists.specs.Lists.{SheetTurn, calling, mending, Means, AllMean}
use Rattle.secrecy_model.specs.Sight.{Pair, both, each, in_one, in_other}
use Rattle.secrecy_model.specs.ModelRule.{hears, as_reply, hears_of}
use Rattle.secrecy_engine.specs.Heard.{hears_on, hears_in}

told_coded : (a : Answer) → told_on (coded a) ≡ told_on (coded (unmarked a))
told_coded (refused n) = refl
told_coded told_taken_in = refl
told_coded (shows v) = refl
told_coded idle = refl
told_coded ran = refl
told_coded (started a) = refl
told_coded (preempted a) = refl
told_coded (committed a true) = omega arith
told_coded (committed a false) = refl

abbrev tells : ℕ → ℕ → ℕ
tells player v = pick (eqb player 0) v (told_on v)

tells_coded : (player : ℕ) (a : Answer) → tells player (coded a) ≡ tells player (coded (told_to player a))
tells_coded player a = split (eqb player 0) (λ z. rw z) (λ z. rw z (told_coded a))

-- the number of what is heard
abbrev pub recoded : ℕ → Call → Option Answer → Option ℕ
recoded player c none = none
recoded player (arrive e who) (some a) = some (coded a)
recoded player step (some a) = some (tells player (coded a))
recoded player (board i who) (some a) = some (coded a)

pub one_recoded : (player : ℕ) (c : Call) (a : Answer) → hears_on player c (coded a) ≡ recoded player c (hears player c a)
one_recoded player (arrive e who) a = by_two (λ x y. x ≡ recoded player (arrive e who) y) (eqb who player) (λ z. refl) (λ z. refl)
one_recoded player step a = ap (λ (n : ℕ). some n) (tells_coded player a)
one_recoded player (board i who) a = by_two (λ x y. x ≡ recoded player (board i who) y) (eqb who player) (λ z. refl) (λ z. refl)

-- the number of what is heard of a turn
abbrev pub renumbered : ℕ → Turn → Option Reply → Option ℕ
renumbered player (call c) none = none
renumbered player (call c) (some (says a)) = recoded player c (some a)
renumbered player (call c) (some carried_over) = hears_on player c 0
renumbered player (change q) none = none
renumbered player (change q) (some r) = some (coded_reply r)

said_renumbered : (player : ℕ) (c : Call) (a : Option Answer) → recoded player c a ≡ renumbered player (call c) (as_reply a)
said_renumbered player c none = refl
said_renumbered player c (some a) = refl

turn_heard : (player : ℕ) (x : SheetTurn) (t : Turn) → Means x t → (r : Reply) → hears_in player x (coded_reply r) ≡ renumbered player t (hears_of player t r)
turn_heard player (calling d) (call c) m (says a) =
    ap (λ (b : Call). hears_on player b (coded a)) m ∙ one_recoded player c a ∙ said_renumbered player c (hears player c a)
turn_heard player (calling d) (call c) m carried_over = ap (λ (b : Call). hears_on player b 0) m
turn_heard player (calling d) (change q) m r = absurd m
turn_heard player (mending s ps t) (call c) m r = absurd m
turn_heard player (mending s ps t) (change q) m r = refl

pub turns_heard : (player : ℕ) {xs : List SheetTurn} {ts : List Turn} → AllMean xs ts → (rs : List Reply)
    → zip_with (hears_in player) xs (map coded_reply rs) ≡ zip_with (renumbered player) ts (zip_with (hears_of player) ts rs)
unfolding zip_with
turns_heard player Forall₂·nil rs = refl
turns_heard player (Forall₂·cons m ms) [] = refl
turns_heard player (Forall₂·cons {a = x} {b = t} {l₁ = xs} {l₂ = ts} m ms) (r ∷ rs) =
    λ z. turn_heard player x t m r z ∷ turns_heard player {xs = xs} {ts = ts} ms rs z

-- a pair's turns are of one kind
one_kind : (player : ℕ) (c : Pair) (r : Option Reply) → renumbered player (in_one c) r ≡ renumbered player (in_other c) r
one_kind player (both c) r = refl
one_kind player (each v w s t) none = refl
one_kind player (each v w s t) (some r) = refl

pub same_kinds : (player : ℕ) (l : List Pair) (h : List (Option Reply)) → zip_with (renumbered player) (map in_one l) h ≡ zip_with (renumbered player) (map in_other l) h
unfolding zip_with
same_kinds player [] h = refl
same_kinds player (c ∷ l) [] = refl
same_kinds player (c ∷ l) (r ∷ h) = λ z. one_kind player c r z ∷ same_kinds player l h z
