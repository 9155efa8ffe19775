-- Two programs side by side are valid where both are: names stay inside their part, and a chain of dependence never
-- leaves the part that it begins in. Rank and rights are those that both give.
use Rattle.lib_base.proofs.Prelude.{ℕ, ◌≤◌, ◌<◌, ◌+◌, ◌-◌, suc, zero, ◌≡◌, refl, ◌∙◌, sym, ap, subst, true, by_cases}
use Rattle.lib_base.proofs.Prelude.{List, [], ◌∷◌, map, length, dec_lt, arith}
use Rattle.lib_base.specs.Basics.{All}
use Rattle.lib_base.proofs.Tools.{all_imp, all_join, all_at_or}
use Rattle.spec_language.specs.Syntax.{Expr, con, name, app1, app2, app3, Handler, handler, Behaviour, passive, active, Program}
use Rattle.spec_language.specs.Dependence.{respond, size, events, no_event, behaviour_at, needs, depends_on, Reach, one, more, Acyclic}
use Rattle.spec_language.specs.Fits.{Nested, n_con, n_name, n_app1, n_app2, n_app3, NoneFor, HandlersFit, BehaviourFits}
use Rattle.spec_language.specs.Accepted.{NamesIn, HandlerNamesIn, BehaviourNamesIn, Known}
use Rattle.spec_language.specs.Valid.{Valid}
use Rattle.spec_language.proofs.Laws.{depends_within}
use Rattle.spec_semantics.proofs.Handlers.{undeclared_keeps}
use Rattle.link_pooled.specs.Pooled.{merged_by_number}
use Rattle.link_pooled.specs.Together.{move_expr, move_handlers, move_behaviour, together}
use Rattle.link_pooled.proofs.Moving.{Part, depends_moved, size_together, first_part, second_part_law}

-- ---- as many events as the longer list

pub shared_first : {A : Type 0} (f : A → A → A) (k l : List A) → length k ≤ length (merged_by_number f k l)
unfolding merged_by_number
shared_first f [] l = omega arith
shared_first f (a ∷ k) [] = omega arith
shared_first f (a ∷ k) (b ∷ l) = omega (arith, shared_first f k l)

pub shared_second : {A : Type 0} (f : A → A → A) (k l : List A) → length l ≤ length (merged_by_number f k l)
unfolding merged_by_number
shared_second f [] l = omega arith
shared_second f (a ∷ k) [] = omega arith
shared_second f (a ∷ k) (b ∷ l) = omega (arith, shared_second f k l)

-- and no more
pub shared_most : {A : Type 0} (f : A → A → A) (k l : List A) (n : ℕ) → length k ≤ n → length l ≤ n → length (merged_by_number f k l) ≤ n
unfolding merged_by_number
shared_most f [] l n h g = g
shared_most f (a ∷ k) [] n h g = h
shared_most f (a ∷ k) (b ∷ l) zero h g = absurd (omega arith)
shared_most f (a ∷ k) (b ∷ l) (suc n) h g = omega (arith, shared_most f k l n (omega arith) (omega arith))

-- ---- limits, with more events declared and with names moved

module _ (m n : ℕ) (le : m ≤ n) where
  handlers_more : (hs : List Handler) → HandlersFit m hs → HandlersFit n hs
  handlers_more [] h = tt
  handlers_more (handler e φ x ∷ hs) h = (omega (arith, h.0), h.1, h.2, handlers_more hs h.3)

  pub behaviour_more : (b : Behaviour) → BehaviourFits m b → BehaviourFits n b
  behaviour_more (passive x) h = h
  behaviour_more (active s hs) h = (h.0, handlers_more hs h.1)

  names_more : (x : Expr) → NamesIn m x → NamesIn n x
  names_more (con w) h = tt
  names_more (name i) h = omega arith
  names_more (app1 f a) h = names_more a h
  names_more (app2 f a b) h = (names_more a h.0, names_more b h.1)
  names_more (app3 f a b c) h = (names_more a h.0, names_more b h.1, names_more c h.2)

  handler_names_more : (h : Handler) → HandlerNamesIn m h → HandlerNamesIn n h
  handler_names_more (handler e φ x) k = names_more x k

  pub behaviour_names_more : (b : Behaviour) → BehaviourNamesIn m b → BehaviourNamesIn n b
  behaviour_names_more (passive x) h = names_more x h
  behaviour_names_more (active s hs) h = all_imp (HandlerNamesIn m) (HandlerNamesIn n) handler_names_more hs h

-- k names, moved up by n
module _ (n k : ℕ) where
  names_moved : (x : Expr) → NamesIn k x → NamesIn (n + k) (move_expr n x)
  unfolding move_expr
  names_moved (con w) h = tt
  names_moved (name i) h = omega arith
  names_moved (app1 f a) h = names_moved a h
  names_moved (app2 f a b) h = (names_moved a h.0, names_moved b h.1)
  names_moved (app3 f a b c) h = (names_moved a h.0, names_moved b h.1, names_moved c h.2)

  handler_names_moved : (hs : List Handler) → All (HandlerNamesIn k) hs → All (HandlerNamesIn (n + k)) (move_handlers n hs)
  unfolding move_handlers
  handler_names_moved [] h = tt
  handler_names_moved (handler e φ x ∷ hs) h = (names_moved x h.0, handler_names_moved hs h.1)

  behaviour_names_moved : (b : Behaviour) → BehaviourNamesIn k b → BehaviourNamesIn (n + k) (move_behaviour n b)
  behaviour_names_moved (passive x) h = names_moved x h
  behaviour_names_moved (active s hs) h = handler_names_moved hs h

  pub known_moved : (bs : List Behaviour) → All (BehaviourNamesIn k) bs → All (BehaviourNamesIn (n + k)) (map (move_behaviour n) bs)
  known_moved [] h = tt
  known_moved (b ∷ bs) h = (behaviour_names_moved b h.0, known_moved bs h.1)

  module _ (small : n + k ≤ 256) where
    nested_moved : {d : ℕ} {x : Expr} → Nested d x → NamesIn k x → Nested d (move_expr n x)
    unfolding move_expr
    nested_moved (n_con w) h = n_con w
    nested_moved (n_name {i = i} w) h = let b : n + i < 256 = omega arith in n_name b
    nested_moved (n_app1 r a) h = n_app1 r (nested_moved a h)
    nested_moved (n_app2 r a b) h = n_app2 r (nested_moved a h.0) (nested_moved b h.1)
    nested_moved (n_app3 r a b c) h = n_app3 r (nested_moved a h.0) (nested_moved b h.1) (nested_moved c h.2)

    none_moved : (e : ℕ) (hs : List Handler) → NoneFor e hs → NoneFor e (move_handlers n hs)
    unfolding move_handlers
    none_moved e [] h = tt
    none_moved e (handler f φ x ∷ hs) h = (h.0, none_moved e hs h.1)

    handlers_moved : (m : ℕ) (hs : List Handler) → HandlersFit m hs → All (HandlerNamesIn k) hs → HandlersFit m (move_handlers n hs)
    unfolding move_handlers
    handlers_moved m [] h w = tt
    handlers_moved m (handler e φ x ∷ hs) h w = (h.0, nested_moved h.1 w.0, none_moved e hs h.2, handlers_moved m hs h.3 w.1)

    behaviour_moved : (m : ℕ) (b : Behaviour) → BehaviourFits m b → BehaviourNamesIn k b → BehaviourFits m (move_behaviour n b)
    behaviour_moved m (passive x) h w = nested_moved h w
    behaviour_moved m (active s hs) h w = (h.0, handlers_moved m hs h.1 w)

    pub behaviours_moved : (m : ℕ) (bs : List Behaviour) → All (BehaviourFits m) bs → All (BehaviourNamesIn k) bs → All (BehaviourFits m) (map (move_behaviour n) bs)
    behaviours_moved m [] h w = tt
    behaviours_moved m (b ∷ bs) h w = (behaviour_moved m b h.0 w.0, behaviours_moved m bs h.1 w.1)

-- ---- cycles

-- an event that is not declared is as none
undeclared_same : (m e : ℕ) → m ≤ e → (b : Behaviour) → BehaviourFits m b → respond e b ≡ respond m b
undeclared_same m e h (passive x) f = refl
undeclared_same m e h (active s hs) f = undeclared_keeps m e hs h f.1 ∙ sym (undeclared_keeps m m hs (omega arith) f.1)

module _ (p : Program) (v : Valid p) where
  same_need : (e : ℕ) → events p ≤ e → (a b : ℕ) → depends_on p e a b ≡ depends_on p (no_event p) a b
  same_need e h a b =
      ap (needs a b) (undeclared_same (events p) e h (behaviour_at p a) (all_at_or (BehaviourFits (events p)) p.behaviours a (active 0 []) v.each (omega arith, tt)))

  as_none : (e : ℕ) → events p ≤ e → {a b : ℕ} → Reach (depends_on p e) a b → Reach (depends_on p (no_event p)) a b
  as_none e h {a} {b} (one d) = one (sym (same_need e h a b) ∙ d)
  as_none e h (more {b} {c} k d) = more (as_none e h k) (sym (same_need e h b c) ∙ d)

  -- no event, declared or not, has a cycle
  acyclic_any : (e : ℕ) → Acyclic p e
  acyclic_any e i c = by_cases (dec_lt (no_event p) e) (λ h. v.acyclic (no_event p) (omega arith) i (as_none e (omega arith) c)) (λ h. v.acyclic e (omega arith) i c)

  reach_below : (e : ℕ) {a b : ℕ} → Reach (depends_on p e) a b → (a < size p) × (b < size p)
  reach_below e {a} {b} (one d) = depends_within p v.known e a b d
  reach_below e (more {b} {c} k d) = ((reach_below e k).0, (depends_within p v.known e b c d).1)

module _ {p r : Program} {n : ℕ} (part : Part p r n) (v : Valid p) where
  reach_part : (e i : ℕ) → i < size p → {b : ℕ} → Reach (depends_on r e) (n + i) b → (n ≤ b) × Reach (depends_on p e) i (b - n)
  reach_part e i h {b} (one d) = let m = depends_moved part e i b h d in (m.0, one m.1)
  reach_part e i h (more {b} {c} k d) =
      let m = reach_part e i h k in
      let z : b ≡ n + (b - n) = omega (arith, m.0) in
      let d' : depends_on r e (n + (b - n)) c ≡ true = sym (ap (λ (j : ℕ). depends_on r e j c) z) ∙ d in
      let w = depends_moved part e (b - n) c (reach_below p v e m.1).1 d' in
      (w.0, more m.1 w.1)

  pub part_acyclic : (e i : ℕ) → i < size p → Reach (depends_on r e) (n + i) (n + i) → ⊥
  part_acyclic e i h c =
      let m = reach_part e i h c in
      let z : n + i - n ≡ i = omega arith in
      acyclic_any p v e i (subst (Reach (depends_on p e) i) z m.1)

-- ---- two together

module _ (p q : Program) (vp : Valid p) (vq : Valid q) (few : size p + size q ≤ 256) where
  together_known : Known (together p q)
  together_known =
      rw (size_together p q)
      (all_join (BehaviourNamesIn (size p + size q)) p.behaviours (map (move_behaviour (size p)) q.behaviours)
      (all_imp (BehaviourNamesIn (size p)) (BehaviourNamesIn (size p + size q)) (behaviour_names_more (size p) (size p + size q) (omega arith)) p.behaviours vp.known)
      (known_moved (size p) (size q) q.behaviours vq.known))

  together_each : All (BehaviourFits (events (together p q))) (together p q).behaviours
  together_each =
      let n : ℕ = events (together p q) in
      all_join (BehaviourFits n) p.behaviours (map (move_behaviour (size p)) q.behaviours)
      (all_imp (BehaviourFits (events p)) (BehaviourFits n) (behaviour_more (events p) n (shared_first (λ a b. a) p.priorities q.priorities)) p.behaviours vp.each)
      (behaviours_moved (size p) (size q) few n q.behaviours
      (all_imp (BehaviourFits (events q)) (BehaviourFits n) (behaviour_more (events q) n (shared_second (λ a b. a) p.priorities q.priorities)) q.behaviours vq.each)
      vq.known)

  first_depends : (e : ℕ) {a b : ℕ} → Reach (depends_on (together p q) e) a b → a < size (together p q)
  first_depends e {a} {b} (one d) = (depends_within (together p q) together_known e a b d).0
  first_depends e (more k d) = first_depends e k

  pub together_valid : Valid (together p q)
  together_valid = record {
    each = together_each;
    known = together_known;
    acyclic = λ e h i c. by_cases (dec_lt i (size p))
        (λ b. let z : i ≡ 0 + i = omega arith in part_acyclic (first_part p q) vp e i b (subst (λ (j : ℕ). Reach (depends_on (together p q) e) j j) z c))
        (λ b.
        let z : i ≡ size p + (i - size p) = omega arith in
        part_acyclic (second_part_law p q) vq e (i - size p) (omega (arith, first_depends e c, size_together p q)) (subst (λ (j : ℕ). Reach (depends_on (together p q) e) j j) z c));
  }
