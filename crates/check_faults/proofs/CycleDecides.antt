-- `known` and `cyclic` decide what they are named for. Names: by induction. Cycles: the closed matrix decides what is
-- reached among the behaviours, and a program whose names are known depends on nothing else.
use Rattle.lib_base.proofs.Prelude.{ℕ, ◌≤◌, ◌<◌, ◌+◌, ◌*◌, ◌%◌, ◌/◌, ◌≡◌, refl, ◌∙◌, sym, true, false, Bool, true≢false}
use Rattle.lib_base.proofs.Prelude.{◌&&◌, and-eq-true_iff, List, [], ◌∷◌, lt-ltb, ltb-true, arith}
use Rattle.lib_base.specs.Basics.{All}
use Rattle.lib_base.proofs.Tools.{split}
use Rattle.spec_language.specs.Syntax.{Expr, con, name, app1, app2, app3, Handler, handler, Behaviour, passive, active, Program}
use Rattle.spec_language.specs.Dependence.{size, events, depends_on, Reach, NoCycle}
use Rattle.spec_language.specs.Accepted.{NamesIn, HandlerNamesIn, BehaviourNamesIn, Known}
use Rattle.spec_language.proofs.Laws.{depends_within}
use Rattle.check_graph.specs.Matrix.{cell, cell_below, closed}
use Rattle.check_graph.proofs.Closure.{below_says, below_is, reach_map, reach_within, closed_decides}
use Rattle.check_faults.specs.Faults.{known_in, known_handlers, known_behaviour, known_behaviours, known, matrix_of, cyclic_under, cyclic}
use Rattle.check_graph.proofs.Any.{any_none, any_never}
use Rattle.check_faults.proofs.MatrixAgrees.{length_matrix_of, matrix_of_at}
use Rattle.check_faults.proofs.RowLaws.{one_set}

-- ---- names

in_says : (n : ℕ) (x : Expr) → known_in n x ≡ true → NamesIn n x
unfolding known_in
in_says n (con w) e = tt
in_says n (name i) e = ltb-true i n e
in_says n (app1 f a) e = in_says n a e
in_says n (app2 f a b) e = let q = (and-eq-true_iff (known_in n a) (known_in n b)).0 e in (in_says n a q.0, in_says n b q.1)
in_says n (app3 f a b c) e =
    let q = (and-eq-true_iff (known_in n a) (known_in n b && known_in n c)).0 e in
    let r = (and-eq-true_iff (known_in n b) (known_in n c)).0 q.1 in
    (in_says n a q.0, in_says n b r.0, in_says n c r.1)

in_is : (n : ℕ) (x : Expr) → NamesIn n x → known_in n x ≡ true
unfolding known_in
in_is n (con w) h = refl
in_is n (name i) h = lt-ltb i n h
in_is n (app1 f a) h = in_is n a h
in_is n (app2 f a b) h = (and-eq-true_iff (known_in n a) (known_in n b)).1 (in_is n a h.0, in_is n b h.1)
in_is n (app3 f a b c) h =
    (and-eq-true_iff (known_in n a) (known_in n b && known_in n c)).1
    (in_is n a h.0, (and-eq-true_iff (known_in n b) (known_in n c)).1 (in_is n b h.1, in_is n c h.2))

handlers_say : (n : ℕ) (hs : List Handler) → known_handlers n hs ≡ true → All (HandlerNamesIn n) hs
unfolding known_handlers
handlers_say n [] e = tt
handlers_say n (handler f φ x ∷ hs) e =
    let q = (and-eq-true_iff (known_in n x) (known_handlers n hs)).0 e in (in_says n x q.0, handlers_say n hs q.1)

handlers_are : (n : ℕ) (hs : List Handler) → All (HandlerNamesIn n) hs → known_handlers n hs ≡ true
unfolding known_handlers
handlers_are n [] h = refl
handlers_are n (handler f φ x ∷ hs) h = (and-eq-true_iff (known_in n x) (known_handlers n hs)).1 (in_is n x h.0, handlers_are n hs h.1)

behaviour_says : (n : ℕ) (b : Behaviour) → known_behaviour n b ≡ true → BehaviourNamesIn n b
behaviour_says n (passive x) e = in_says n x e
behaviour_says n (active s hs) e = handlers_say n hs e

behaviour_is : (n : ℕ) (b : Behaviour) → BehaviourNamesIn n b → known_behaviour n b ≡ true
behaviour_is n (passive x) h = in_is n x h
behaviour_is n (active s hs) h = handlers_are n hs h

pub behaviours_say : (n : ℕ) (bs : List Behaviour) → known_behaviours n bs ≡ true → All (BehaviourNamesIn n) bs
unfolding known_behaviours
behaviours_say n [] e = tt
behaviours_say n (b ∷ bs) e =
    let q = (and-eq-true_iff (known_behaviour n b) (known_behaviours n bs)).0 e in (behaviour_says n b q.0, behaviours_say n bs q.1)

pub behaviours_are : (n : ℕ) (bs : List Behaviour) → All (BehaviourNamesIn n) bs → known_behaviours n bs ≡ true
unfolding known_behaviours
behaviours_are n [] h = refl
behaviours_are n (b ∷ bs) h = (and-eq-true_iff (known_behaviour n b) (known_behaviours n bs)).1 (behaviour_is n b h.0, behaviours_are n bs h.1)

pub known_decides : (p : Program) → ((known p ≡ true → Known p) × (Known p → known p ≡ true))
known_decides p = (behaviours_say (size p) p.behaviours, behaviours_are (size p) p.behaviours)

-- ---- cycles

pub cell_is : (p : Program) (e i j : ℕ) → i < 64 → j < 64 → cell (matrix_of p e) i j ≡ depends_on p e i j
cell_is p e i j h k =
    let a : (i * 64 + j) / 64 ≡ i = omega arith in
    let b : (i * 64 + j) % 64 ≡ j = omega arith in
    let s : i * 64 + j < 4096 = omega arith in
    rw (matrix_of_at p e (i * 64 + j) s, a, b) (one_set (depends_on p e i j))

-- the closed matrix says that i reaches itself
abbrev reaches : Program → ℕ → ℕ → Bool
reaches p e i = cell (closed (matrix_of p e) (size p)) i i

module _ (p : Program) (k : Known p) (few : size p ≤ 64) (e : ℕ) where
  to_below : (i j : ℕ) → depends_on p e i j ≡ true → cell_below (size p) (matrix_of p e) i j ≡ true
  to_below i j h =
      let w = depends_within p k e i j h in
      below_is (size p) (matrix_of p e) i j w.0 w.1 (cell_is p e i j (omega arith) (omega arith) ∙ h)

  from_below : (i j : ℕ) → cell_below (size p) (matrix_of p e) i j ≡ true → depends_on p e i j ≡ true
  from_below i j h = let w = below_says (size p) (matrix_of p e) i j h in sym (cell_is p e i j (omega arith) (omega arith)) ∙ w.2

  reach_marks : (i : ℕ) → Reach (depends_on p e) i i → (i < size p) × (reaches p e i ≡ true)
  reach_marks i r =
      let s = reach_map to_below r in
      let w = reach_within (size p) (matrix_of p e) s in
      (w.0, (closed_decides (matrix_of p e) (size p) (length_matrix_of p e) few i i w.0 w.0).1 s)

  mark_reaches : (i : ℕ) → i < size p → reaches p e i ≡ true → Reach (depends_on p e) i i
  mark_reaches i h t = reach_map from_below ((closed_decides (matrix_of p e) (size p) (length_matrix_of p e) few i i h h).0 t)

pub cyclic_decides : (p : Program) → Known p → size p ≤ 64 → ((cyclic p ≡ false → NoCycle p) × (NoCycle p → cyclic p ≡ false))
unfolding cyclic cyclic_under
cyclic_decides p k few = (
  (λ h e b i r. let w = reach_marks p k few e i r in
      true≢false (sym w.1 ∙ any_never (size p) (reaches p e) (any_never (events p + 1) (cyclic_under p) h e (omega arith)) i w.0)),
  (λ h. any_none (events p + 1) (cyclic_under p) (λ e b. any_none (size p) (reaches p e)
      (λ i s. split (reaches p e i) (λ t. absurd (h e (omega arith) i (mark_reaches p k few e i s t))) (λ t. t)))),
)
