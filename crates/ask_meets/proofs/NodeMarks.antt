-- The marks that the code works out on an expression's nodes are those of the expression: what its nodes put on the
-- stack is its mark, as long as the stack has room for its depth. By induction on the expression.
use Rattle.lib_base.proofs.Prelude.{ℕ, ◌≤◌, ◌<◌, ◌+◌, suc, zero, ◌*◌, ◌^◌, ◌≡◌, refl, ◌∙◌, ap, true, Bool}
use Rattle.lib_base.proofs.Prelude.{List, [], ◌∷◌, ◌++◌, length, get_or, take, drop, length-drop, get_or-drop, take-suc}
use Rattle.lib_base.proofs.Prelude.{take_all, ne_eqb, arith}
use Rattle.lib_signature.specs.Numbers.{not_fn, if_fn}
use Rattle.lib_signature.specs.Signature.{last}
use Rattle.lib_signature.proofs.Laws.{two_is}
use Rattle.spec_language.specs.Syntax.{Expr, Program}
use Rattle.spec_language.specs.Grammar.{unary, ternary, binary}
use Rattle.spec_language.specs.Fits.{Nested, n_con, n_name, n_app1, n_app2, n_app3}
use Rattle.spec_language.specs.Accepted.{NamesIn}
use Rattle.draft_form.specs.Draft.{nodes}
use Rattle.draft_form.specs.Entry.{node_tag, node_word}
use Rattle.check_reads.specs.Named.{through_passives}
use Rattle.ask_meets.specs.Marks.{name_mark, one_mark, two_mark, if_mark, mark_of, push_mark, applied_mark, mark_step, marks_among, marks_packed}

-- ---- a list of nodes

unfoldable pub marks_over : (ℕ → Bool) → ℕ → List ℕ → List ℕ → List ℕ
marks_over leads b s [] = s
marks_over leads b s (x ∷ l) = marks_over leads b (mark_step leads b s x) l

over_join : (leads : ℕ → Bool) (b : ℕ) (s l m : List ℕ) → marks_over leads b s (l ++ m) ≡ marks_over leads b (marks_over leads b s l) m
unfolding marks_over
over_join leads b s [] m = refl
over_join leads b s (x ∷ l) m = over_join leads b (mark_step leads b s x) l m

pub over_nodes : (leads : ℕ → Bool) (b : ℕ) (d : List ℕ) (start k : ℕ) → start + k ≤ length d
    → marks_among leads b d start k ≡ marks_over leads b [] (take k (drop start d))
unfolding marks_among marks_over
over_nodes leads b d start zero h = refl
over_nodes leads b d start (suc k) h =
    let r : k < length (drop start d) = rw length-drop (omega arith) in
    rw (take-suc (drop start d) k 0 r, over_join leads b [] (take k (drop start d)) (get_or (drop start d) k 0 ∷ []), get_or-drop start d k 0, marks_over)
    (ap (λ (s : List ℕ). mark_step leads b s (get_or d (start + k) 0)) (over_nodes leads b d start k (omega arith)))

-- with room a mark is put on the stack
pushes : (s : List ℕ) (m : ℕ) → length s < 32 → push_mark s m ≡ m ∷ s
unfolding push_mark
pushes s m h = ap (λ (l : List ℕ). m ∷ l) (take_all 31 s (omega arith))

-- ---- a node

module _ (leads : ℕ → Bool) (b : ℕ) where
  con_step : (s : List ℕ) (w : ℕ) → w < 2 ^ 32 → length s < 32 → mark_step leads b s (68719476736 + w) ≡ 0 ∷ s
  unfolding mark_step
  con_step s w h r =
      let a : node_tag (68719476736 + w) ≡ 16 = omega arith in
      rw a (pushes s 0 r)

  name_step : (s : List ℕ) (i : ℕ) → i < 256 → length s < 32 → mark_step leads b s (73014444032 + i) ≡ name_mark leads b i ∷ s
  unfolding mark_step
  name_step s i h r =
      let a : node_tag (73014444032 + i) ≡ 17 = omega arith in
      let c : node_word (73014444032 + i) ≡ i = omega arith in
      rw (a, c) (pushes s (name_mark leads b i) r)

  app_step : (s : List ℕ) (f : ℕ) → f ≤ last → mark_step leads b s (77309411328 + f) ≡ applied_mark f s
  unfolding mark_step
  app_step s f h =
      let a : node_tag (77309411328 + f) ≡ 18 = omega arith in
      let c : node_word (77309411328 + f) ≡ f = omega arith in
      rw (a, c)

applied_not : (s : List ℕ) (x : ℕ) → length s < 32 → applied_mark not_fn (x ∷ s) ≡ one_mark x ∷ s
unfolding applied_mark
applied_not s x r = pushes s (one_mark x) r

applied_two : (f : ℕ) (s : List ℕ) (x y : ℕ) → (f ≡ not_fn → ⊥) → (f ≡ if_fn → ⊥) → length s < 32 → applied_mark f (y ∷ (x ∷ s)) ≡ two_mark f x y ∷ s
unfolding applied_mark
applied_two f s x y n m r = rw (ne_eqb f not_fn n, ne_eqb f if_fn m) (pushes s (two_mark f x y) r)

applied_if : (s : List ℕ) (x y z : ℕ) → length s < 32 → applied_mark if_fn (z ∷ (y ∷ (x ∷ s))) ≡ if_mark x y z ∷ s
unfolding applied_mark
applied_if s x y z r = pushes s (if_mark x y z) r

-- ---- an expression: nested k deep it takes at most 2 * k - 1 places

module _ (p : Program) (n : ℕ) (leads : ℕ → Bool) (b : ℕ) (same : (j : ℕ) → j < n → leads j ≡ through_passives p j b) where
  name_same : (i : ℕ) → i < n → name_mark leads b i ≡ name_mark (λ k. through_passives p k b) b i
  unfolding name_mark
  name_same i h = rw (same i h)

  over_expr : {k : ℕ} {x : Expr} → Nested k x → NamesIn n x → (s : List ℕ) → length s + 2 * k ≤ 33 → marks_over leads b s (nodes x) ≡ mark_of p b x ∷ s
  unfolding marks_over nodes mark_of
  over_expr (n_con {k = k} {w = w} h) m s r = con_step leads b s w h (omega arith)
  over_expr (n_name {k = k} {i = i} h) m s r = name_step leads b s i h (omega arith) ∙ ap (λ (z : ℕ). z ∷ s) (name_same i m)
  over_expr (n_app1 {k = k} {f = f} {a = x} unary hx) m s r =
      over_join leads b s (nodes x) ((77309411328 + not_fn) ∷ [])
      ∙ rw (over_expr hx m s (omega arith), marks_over) (app_step leads b (mark_of p b x ∷ s) not_fn (omega arith) ∙ applied_not s (mark_of p b x) (omega arith))
  over_expr (n_app2 {k = k} {f = f} {a = x} {b = y} (binary h1 h2 h3) hx hy) m s r =
      let two = two_is f h3 in
      over_join leads b s (nodes x) (nodes y ++ ((77309411328 + f) ∷ []))
      ∙ ap (λ (t : List ℕ). marks_over leads b t (nodes y ++ ((77309411328 + f) ∷ []))) (over_expr hx m.0 s (omega arith))
      ∙ over_join leads b (mark_of p b x ∷ s) (nodes y) ((77309411328 + f) ∷ [])
      ∙ ap (λ (t : List ℕ). marks_over leads b t ((77309411328 + f) ∷ [])) (over_expr hy m.1 (mark_of p b x ∷ s) (omega arith))
      ∙ app_step leads b (mark_of p b y ∷ (mark_of p b x ∷ s)) f (omega arith)
      ∙ applied_two f s (mark_of p b x) (mark_of p b y) two.0 two.1 (omega arith)
  over_expr (n_app3 {k = k} {f = f} {a = x} {b = y} {c = z} ternary hx hy hz) m s r =
      over_join leads b s (nodes x) (nodes y ++ (nodes z ++ ((77309411328 + if_fn) ∷ [])))
      ∙ ap (λ (t : List ℕ). marks_over leads b t (nodes y ++ (nodes z ++ ((77309411328 + if_fn) ∷ [])))) (over_expr hx m.0 s (omega arith))
      ∙ over_join leads b (mark_of p b x ∷ s) (nodes y) (nodes z ++ ((77309411328 + if_fn) ∷ []))
      ∙ ap (λ (t : List ℕ). marks_over leads b t (nodes z ++ ((77309411328 + if_fn) ∷ []))) (over_expr hy m.1 (mark_of p b x ∷ s) (omega arith))
      ∙ over_join leads b (mark_of p b y ∷ (mark_of p b x ∷ s)) (nodes z) ((77309411328 + if_fn) ∷ [])
      ∙ ap (λ (t : List ℕ). marks_over leads b t ((77309411328 + if_fn) ∷ [])) (over_expr hz m.2 (mark_of p b y ∷ (mark_of p b x ∷ s)) (omega arith))
      ∙ app_step leads b (mark_of p b z ∷ (mark_of p b y ∷ (mark_of p b x ∷ s))) if_fn (omega arith)
      ∙ applied_if s (mark_of p b x) (mark_of p b y) (mark_of p b z) (omega arith)

  -- from an empty stack
  pub expr_mark : (x : Expr) → Nested 16 x → NamesIn n x → marks_over leads b [] (nodes x) ≡ mark_of p b x ∷ []
  expr_mark x h m = over_expr h m [] (omega arith)

-- one mark alone is its number
pub alone_is : (m : ℕ) → marks_packed (m ∷ []) ≡ m
unfolding marks_packed
alone_is m = omega arith
