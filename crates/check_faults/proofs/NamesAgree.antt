-- The pass over the nodes finds what `known` says of the program: a list of nodes is judged part by part, as the
-- expressions are.
use Rattle.lib_base.proofs.Prelude.{ℕ, ◌≤◌, ◌<◌, ◌+◌, suc, zero, ◌^◌, ◌≡◌, refl, ◌∙◌, true, false, Bool, ◌&&◌, not}
use Rattle.lib_base.proofs.Prelude.{and-false, and-true, List, [], ◌∷◌, ◌++◌, length, get_or, take, take-suc, ltb, leb}
use Rattle.lib_base.proofs.Prelude.{ne_eqb, ltb-false, ltb-true, lt-leb, le-leb, arith}
use mathlib.Core.Bool.{and_assoc}
use Rattle.std.specs.List.{list_any}
use Rattle.lib_base.specs.Basics.{All}
use Rattle.lib_base.proofs.Tools.{split}
use Rattle.spec_language.specs.Syntax.{Expr, Handler, handler, Behaviour, passive, active}
use Rattle.spec_language.specs.Grammar.{Arity, unary, ternary, binary}
use Rattle.spec_language.specs.Fits.{Nested, n_con, n_name, n_app1, n_app2, n_app3, HandlersFit, BehaviourFits}
use Rattle.draft_form.specs.Draft.{nodes, handler_nodes, behaviour_nodes, program_nodes}
use Rattle.draft_form.specs.Entry.{node_tag, node_word}
use Rattle.check_faults.specs.Faults.{known_in, known_handlers, known_behaviour, known_behaviours}
use Rattle.check_faults.specs.Checks.{stray, names_known}

-- none of these nodes has an unknown name
unfoldable fine : ℕ → List ℕ → Bool
fine b [] = true
fine b (x ∷ l) = not (stray x b) && fine b l

fine_join : (b : ℕ) (l m : List ℕ) → fine b (l ++ m) ≡ fine b l && fine b m
unfolding fine
fine_join b [] m = refl
fine_join b (x ∷ l) m = rw (fine_join b l m, and_assoc (not (stray x b)) (fine b l) (fine b m))

-- ---- one node

not_unknown : (b x : ℕ) → (node_tag x ≡ 17 → ⊥) → stray x b ≡ false
unfolding stray
not_unknown b x h = rw (ne_eqb (node_tag x) 17 h)

con_fine : (b w : ℕ) → w < 2 ^ 32 → fine b ((68719476736 + w) ∷ []) ≡ true
unfolding fine
con_fine b w h = rw (not_unknown b (68719476736 + w) (λ e. omega arith), fine)

app_fine : (b f n : ℕ) → Arity f n → fine b ((77309411328 + f) ∷ []) ≡ true
unfolding fine
app_fine b f n unary = rw (not_unknown b (77309411328 + f) (λ e. omega arith), fine)
app_fine b f n ternary = rw (not_unknown b (77309411328 + f) (λ e. omega arith), fine)
app_fine b f n (binary h k q) = rw (not_unknown b (77309411328 + f) (λ e. omega arith), fine)

not_leb : (i n : ℕ) → not (leb n i) ≡ ltb i n
not_leb i n = split (ltb i n) (λ t. rw (t, lt-leb n i (ltb-true i n t))) (λ t. rw (t, le-leb n i (ltb-false i n t)))

name_fine : (b i : ℕ) → i < 256 → fine b ((73014444032 + i) ∷ []) ≡ ltb i b
unfolding fine stray
name_fine b i h =
    let t : node_tag (73014444032 + i) ≡ 17 = omega arith in
    let w : node_word (73014444032 + i) ≡ i = omega arith in
    rw (t, w, and-true) (not_leb i b)

-- ---- the nodes of a program

nodes_fine : (b : ℕ) {k : ℕ} {x : Expr} → Nested k x → fine b (nodes x) ≡ known_in b x
unfolding nodes known_in
nodes_fine b (n_con {w = w} h) = con_fine b w h
nodes_fine b (n_name {i = i} h) = name_fine b i h
nodes_fine b (n_app1 {f = f} {a = a} h ha) =
    rw (fine_join b (nodes a) ((77309411328 + f) ∷ []), app_fine b f 1 h, and-true) (nodes_fine b ha)
nodes_fine b (n_app2 {f = f} {a = x} {b = y} h hx hy) =
    rw (
      fine_join b (nodes x) (nodes y ++ ((77309411328 + f) ∷ [])),
      fine_join b (nodes y) ((77309411328 + f) ∷ []),
      app_fine b f 2 h,
      and-true,
      nodes_fine b hx,
      nodes_fine b hy,
    )
nodes_fine b (n_app3 {f = f} {a = x} {b = y} {c = z} h hx hy hz) =
    rw (
      fine_join b (nodes x) (nodes y ++ (nodes z ++ ((77309411328 + f) ∷ []))),
      fine_join b (nodes y) (nodes z ++ ((77309411328 + f) ∷ [])),
      fine_join b (nodes z) ((77309411328 + f) ∷ []),
      app_fine b f 3 h,
      and-true,
      nodes_fine b hx,
      nodes_fine b hy,
      nodes_fine b hz,
    )

handlers_fine : (b m : ℕ) (hs : List Handler) → HandlersFit m hs → fine b (handler_nodes hs) ≡ known_handlers b hs
unfolding fine handler_nodes known_handlers
handlers_fine b m [] h = refl
handlers_fine b m (handler e φ x ∷ hs) h = rw (fine_join b (nodes x) (handler_nodes hs), nodes_fine b h.1, handlers_fine b m hs h.3)

behaviour_fine : (b m : ℕ) (y : Behaviour) → BehaviourFits m y → fine b (behaviour_nodes y) ≡ known_behaviour b y
behaviour_fine b m (passive x) h = nodes_fine b h
behaviour_fine b m (active s hs) h = handlers_fine b m hs h.1

program_fine : (b m : ℕ) (ys : List Behaviour) → All (BehaviourFits m) ys → fine b (program_nodes ys) ≡ known_behaviours b ys
unfolding fine program_nodes known_behaviours
program_fine b m [] h = refl
program_fine b m (y ∷ ys) h = rw (fine_join b (behaviour_nodes y) (program_nodes ys), behaviour_fine b m y h.0, program_fine b m ys h.1)

-- ---- the pass

pass_fine : (d : List ℕ) (b n : ℕ) → n ≤ length d → names_known d b n ≡ fine b (take n d)
unfolding names_known fine
pass_fine d b zero h = refl
pass_fine d b (suc n) h =
    let ih = pass_fine d b n (omega arith) in
    let e : fine b (take (suc n) d) ≡ fine b (take n d) && not (stray (get_or d n 0) b) =
    rw (take-suc d n 0 (omega arith), fine_join b (take n d) (get_or d n 0 ∷ []), fine, and-true) in
    split (stray (get_or d n 0) b)
    (λ t. rw (e, t, names_known, and-false (fine b (take n d))))
    (λ t. rw (e, t, names_known, and-true) ih)

-- as the code asks it
fine_any : (b : ℕ) (l : List ℕ) → fine b l ≡ not (list_any (λ x. stray x b) l)
unfolding fine
fine_any b [] = refl
fine_any b (x ∷ l) = split (stray x b) (λ t. rw t refl) (λ t. rw t (fine_any b l))

pub pass_any : (d : List ℕ) (b n : ℕ) → n ≤ length d → names_known d b n ≡ not (list_any (λ x. stray x b) (take n d))
pass_any d b n h = pass_fine d b n h ∙ fine_any b (take n d)

-- of n nodes that are those of the behaviours ys
pub names_known_is : (d : List ℕ) (b n m : ℕ) (ys : List Behaviour) → n ≤ length d → take n d ≡ program_nodes ys → All (BehaviourFits m) ys → names_known d b n ≡ known_behaviours b ys
names_known_is d b n m ys h e f = pass_fine d b n h ∙ rw e (program_fine b m ys f)
