-- A program that is part of another, its names moved up: what each of its behaviours does on an event, needs and gives
-- is the same, moved. By induction on expressions and handlers.
use Rattle.lib_base.proofs.Prelude.{ℕ, ◌≤◌, ◌<◌, ◌+◌, ◌-◌, ◌≡◌, refl, ◌∙◌, sym, ap, true, ◌||◌, false≢true, not}
use Rattle.lib_base.proofs.Prelude.{and-eq-true_iff, ◌⊎◌, ⊎_elim, List, [], ◌∷◌, map, get_or, length-append, length-map}
use Rattle.lib_base.proofs.Prelude.{List·getD-append, get_or-append-add, eqb, ne_eqb, eqb-true, eq-eqb, eqb-false, arith}
use lib.ListN.{get_or-map}
use Rattle.lib_base.proofs.Tools.{split, or_either}
use Rattle.spec_language.specs.Syntax.{Expr, con, name, app1, app2, app3, Phase, immediate, later, Handler, handler, Behaviour, passive, active, Program}
use Rattle.spec_language.specs.Dependence.{Response, follows, takes, defers, keeps, in_phase, handled, respond, size, behaviour_at, response, mentions, needs, depends_on}
use Rattle.spec_semantics.specs.Meaning.{value, at}
use Rattle.spec_semantics.proofs.Solution.{own, first_of, second_of, value_same, or_first, or_second}
use Rattle.link_pooled.specs.Together.{move_expr, move_handlers, move_behaviour, together}

-- behaviour i of p is behaviour n + i of r, its names moved up by n
pub record Part (p r : Program) (n : ℕ) : Type 0 where
  pub inside : n + size p ≤ size r
  pub moved : (i : ℕ) → i < size p → behaviour_at r (n + i) ≡ move_behaviour n (behaviour_at p i)

abbrev pub move_response : ℕ → Response → Response
move_response n (follows x) = follows (move_expr n x)
move_response n (takes x) = takes (move_expr n x)
move_response n (defers x) = defers (move_expr n x)
move_response n keeps = keeps

eqb_moved : (n i j : ℕ) → eqb (n + i) (n + j) ≡ eqb i j
eqb_moved n i j = split (eqb i j) (λ t. rw t (eq-eqb (n + i) (n + j) (omega (arith, eqb-true i j t)))) (λ t. rw t (ne_eqb (n + i) (n + j) (λ e. eqb-false i j t (omega arith))))

module _ (n : ℕ) where
  -- ---- what it does on an event

  phase_moved : (φ : Phase) (x : Expr) → in_phase φ (move_expr n x) ≡ move_response n (in_phase φ x)
  phase_moved immediate x = refl
  phase_moved later x = refl

  handled_moved : (e : ℕ) (hs : List Handler) → handled e (move_handlers n hs) ≡ move_response n (handled e hs)
  unfolding handled move_handlers
  handled_moved e [] = refl
  handled_moved e (handler f φ x ∷ hs) = split (eqb e f) (λ t. rw (t, handled) (phase_moved φ x)) (λ t. rw (t, handled) (handled_moved e hs))

  respond_moved : (e : ℕ) (b : Behaviour) → respond e (move_behaviour n b) ≡ move_response n (respond e b)
  respond_moved e (passive x) = refl
  respond_moved e (active s hs) = handled_moved e hs

  -- ---- what it gives

  pub value_moved : (look : ℕ → ℕ) (x : Expr) → value look (move_expr n x) ≡ value (λ j. look (n + j)) x
  unfolding value move_expr
  value_moved look (con w) = refl
  value_moved look (name i) = refl
  value_moved look (app1 f a) = rw (value_moved look a)
  value_moved look (app2 f a b) = rw (value_moved look a, value_moved look b)
  value_moved look (app3 f a b c) = rw (value_moved look a, value_moved look b, value_moved look c)

  own_moved : (i old : ℕ) (look : ℕ → ℕ) (j : ℕ) → own (n + i) old look (n + j) ≡ own i old (λ k. look (n + k)) j
  own_moved i old look j = rw (eqb_moved n i j)

  pub first_moved : (s t : List ℕ) (look : ℕ → ℕ) (i : ℕ) (r : Response) → at t (n + i) ≡ at s i → first_of t look (n + i) (move_response n r) ≡ first_of s (λ j. look (n + j)) i r
  first_moved s t look i (follows x) h = value_moved look x
  first_moved s t look i (takes x) h =
      value_moved (own (n + i) (at t (n + i)) look) x
      ∙ value_same _ (own i (at s i) (λ k. look (n + k))) x (λ j m. own_moved i (at t (n + i)) look j ∙ ap (λ (o : ℕ). own i o (λ k. look (n + k)) j) h)
  first_moved s t look i (defers x) h = h
  first_moved s t look i keeps h = h

  pub second_moved : (s t : List ℕ) (first look : ℕ → ℕ) (i : ℕ) (r : Response) → at t (n + i) ≡ at s i
      → second_of t first look (n + i) (move_response n r) ≡ second_of s (λ j. first (n + j)) (λ j. look (n + j)) i r
  second_moved s t first look i (follows x) h = value_moved look x
  second_moved s t first look i (takes x) h = refl
  second_moved s t first look i (defers x) h = value_moved first x
  second_moved s t first look i keeps h = h

  -- ---- what it needs

  -- a name in what was moved is a moved one
  mentions_moved : (j : ℕ) (x : Expr) → mentions j (move_expr n x) ≡ true → (n ≤ j) × (mentions (j - n) x ≡ true)
  unfolding mentions move_expr
  mentions_moved j (con w) h = absurd (false≢true h)
  mentions_moved j (name i) h = let q = eqb-true (n + i) j h in (omega arith, eq-eqb i (j - n) (omega arith))
  mentions_moved j (app1 f a) h = mentions_moved j a h
  mentions_moved j (app2 f a b) h =
      ⊎_elim (λ u. let r = mentions_moved j a u in (r.0, or_first (mentions (j - n) a) _ r.1)) (λ u. let r = mentions_moved j b u in (r.0, or_second (mentions (j - n) a) _ r.1))
      (or_either (mentions j (move_expr n a)) (mentions j (move_expr n b)) h)
  mentions_moved j (app3 f a b c) h =
      ⊎_elim (λ u. let r = mentions_moved j a u in (r.0, or_first (mentions (j - n) a) _ r.1))
      (λ u. ⊎_elim (λ w. let r = mentions_moved j b w in (r.0, or_second (mentions (j - n) a) _ (or_first (mentions (j - n) b) _ r.1)))
      (λ w. let r = mentions_moved j c w in (r.0, or_second (mentions (j - n) a) _ (or_second (mentions (j - n) b) _ r.1)))
      (or_either (mentions j (move_expr n b)) (mentions j (move_expr n c)) u))
      (or_either (mentions j (move_expr n a)) (mentions j (move_expr n b) || mentions j (move_expr n c)) h)

  needs_moved : (i j : ℕ) (r : Response) → needs (n + i) j (move_response n r) ≡ true → (n ≤ j) × (needs i (j - n) r ≡ true)
  needs_moved i j (follows x) h = mentions_moved j x h
  needs_moved i j (takes x) h =
      let q = (and-eq-true_iff (mentions j (move_expr n x)) (not (eqb (n + i) j))).0 h in
      let m = mentions_moved j x q.0 in
      let b : n ≤ j = m.0 in
      let e : eqb i (j - n) ≡ eqb (n + i) j = sym (eqb_moved n i (j - n)) ∙ ap (eqb (n + i)) (omega arith) in
      (b, rw (m.1, e) q.1)
  needs_moved i j (defers x) h = absurd (false≢true h)
  needs_moved i j keeps h = absurd (false≢true h)

module _ {p r : Program} {n : ℕ} (part : Part p r n) where
  pub response_moved : (e i : ℕ) → i < size p → response r e (n + i) ≡ move_response n (response p e i)
  response_moved e i b = ap (respond e) (part.moved i b) ∙ respond_moved n e (behaviour_at p i)

  -- what a behaviour of the part needs lies in the part
  pub depends_moved : (e i j : ℕ) → i < size p → depends_on r e (n + i) j ≡ true → (n ≤ j) × (depends_on p e i (j - n) ≡ true)
  depends_moved e i j b h = needs_moved n i j (response p e i) (sym (ap (needs (n + i) j) (response_moved e i b)) ∙ h)

-- ---- the two parts

get_d_moved : (n i : ℕ) (l : List Behaviour) → get_or (map (move_behaviour n) l) i (active 0 []) ≡ move_behaviour n (get_or l i (active 0 []))
unfolding move_handlers
get_d_moved n i l = get_or-map (move_behaviour n) l i (active 0 [])

expr_same : (x : Expr) → move_expr 0 x ≡ x
unfolding move_expr
expr_same (con w) = refl
expr_same (name i) = ap name (omega arith)
expr_same (app1 f a) = rw (expr_same a)
expr_same (app2 f a b) = rw (expr_same a, expr_same b)
expr_same (app3 f a b c) = rw (expr_same a, expr_same b, expr_same c)

handlers_same : (hs : List Handler) → move_handlers 0 hs ≡ hs
unfolding move_handlers
handlers_same [] = refl
handlers_same (handler e φ x ∷ hs) = rw (expr_same x, handlers_same hs)

behaviour_same : (b : Behaviour) → move_behaviour 0 b ≡ b
behaviour_same (passive x) = ap passive (expr_same x)
behaviour_same (active s hs) = ap (active s) (handlers_same hs)

module _ (p q : Program) where
  pub size_together : size (together p q) ≡ size p + size q
  size_together = length-append p.behaviours (map (move_behaviour (size p)) q.behaviours) ∙ ap (λ (m : ℕ). size p + m) (length-map q.behaviours (move_behaviour (size p)))

  pub first_part : Part p (together p q) 0
  first_part = record {
    inside = omega (arith, size_together);
    moved = λ i b. let z : 0 + i ≡ i = omega arith in
        rw z (List·getD-append p.behaviours (map (move_behaviour (size p)) q.behaviours) (active 0 []) i b ∙ sym (behaviour_same (behaviour_at p i)));
  }

  pub second_part_law : Part q (together p q) (size p)
  second_part_law = record {
    inside = omega (arith, size_together);
    moved = λ i b. get_or-append-add p.behaviours (map (move_behaviour (size p)) q.behaviours) i (active 0 []) ∙ get_d_moved (size p) i q.behaviours;
  }
