-- The reader by positions finds the fault of the tree reader, or puts the nodes of its expression into the draft.
-- By induction on the levels left; within an application each argument moves both readers on alike.
use Rattle.std.specs.Prelude.{Ok, Err, IsErrAnd}
use Rattle.std.proofs.lemmas.Result.{err_from_is_err_and}
use Rattle.spec_language.specs.Numbers.{refusal_number}
use Rattle.spec_language.specs.declared.refusals.Refusal.TheVariants.{WrongLength, OffScale, TooDeep}
use Rattle.lib_base.proofs.Prelude.{ℕ, ◌≤◌, ◌+◌, ◌-◌, suc, zero, ◌*◌, ◌≡◌, refl, ◌∙◌, sym, true, false, ◌||◌, List, []}
use Rattle.lib_base.proofs.Prelude.{◌∷◌, ◌++◌, length, get_or, drop, set, length-drop, drop-drop, sets, eqb, ltb}
use Rattle.lib_base.proofs.Prelude.{eqb·suc-zero, eqb-true, arith}
use Rattle.lib_base.specs.Basics.{pick}
use Rattle.lib_base.proofs.Tools.{split, by_two}
use Rattle.lib_word.specs.Word.{get_at}
use Rattle.lib_signature.specs.Signature.{arity, last}
use Rattle.lib_signature.specs.Numbers.{not_fn, if_fn}
use Rattle.spec_language.specs.Syntax.{Expr}
use Rattle.spec_language.specs.Sheet.{Term, literal, variable, param, apply1, apply2, apply3, fill_term}
use Rattle.spec_language.specs.Code.{size_of}
use Rattle.spec_language.specs.Refusals.{off_scale}
use Rattle.spec_language.specs.Reading.{Got, bad, got, then, sized, filling, byte_in, args_of, term_in, is_term, expr_at}
use Rattle.front_field.specs.Expression.{HeadRead, done, head_at, head_from, head_of, Out, out, go_on_after, read_arguments, close_at, read_body, expr_of}
use Rattle.front_field.specs.declared.Head.TheVariants.{Leaf, Apply}
use Rattle.draft_form.specs.Draft.{nodes, unfilled}
use Rattle.draft_form.proofs.DraftLaws.{length_nodes}
use Rattle.front_correct.proofs.Fields.{value_in, span, by_either, term_tag, same_field, value_length, rest_drop, whole_at}
use Rattle.front_correct.proofs.Stores.{sets_append}

-- ---- nodes

-- an expression as it stands in the draft, its parameters not filled in
abbrev pub raw : Term → Expr
raw x = fill_term unfilled x

-- the nodes of an expression, then others
sets_nodes : (x : Expr) (l : List ℕ) (i : ℕ) (ys : List ℕ) → sets l i (nodes x ++ ys) ≡ sets (sets l i (nodes x)) (i + size_of x) ys
sets_nodes x l i ys = sets_append l i (nodes x) ys ∙ rw (length_nodes x)

-- ---- both readers

-- what both say of an expression at the front of s that takes `size` bytes, with n nodes in the draft d before it
abbrev pub SameExpr : List ℕ → ℕ → List ℕ → ℕ → Got Term → Out → Type 0
SameExpr s size d n (bad k) o = IsErrAnd o.0 (λ r. refusal_number r ≡ k)
SameExpr s size d n (got x r) o =
    (r ≡ drop size s) × (size ≤ length s) × (size_of (raw x) * 4 ≤ size) × (o ≡ out (done size (n + size_of (raw x))) (sets d n (nodes (raw x))))

-- an application's value is v, of the field at the front of s
module _ (arg : List ℕ → Got Term) (rd : List ℕ → List ℕ → ℕ → Out)
    (ih : (u d : List ℕ) (n : ℕ) → SameExpr u (span u) d n (arg u) (rd u d n))
    (s : List ℕ) (size : ℕ) (d₀ : List ℕ) (n₀ : ℕ) (r : List ℕ) (after : r ≡ drop size s) (fits : size ≤ length s) where
  abbrev Same : Got Term → Out → Type 0
  Same = SameExpr s size d₀ n₀

  module _ (f : ℕ) (v : List ℕ) (full : length v + 3 ≡ size) where
    abbrev close : Out → Out
    close o = go_on_after o.0 o.1 (λ at m. close_at f (length v) at o.1 m)

    -- one argument, from `at` on
    step_on_law : (k at : ℕ) (d : List ℕ) (m : ℕ) (F : Term → List ℕ → Got Term) → at ≤ length v
        → ((a : Term) (next : ℕ) → next ≤ length v → at + size_of (raw a) * 4 ≤ next → Same (filling (F a (drop next v)) r) (close (read_arguments rd k v next (sets d m (nodes (raw a))) (m + size_of (raw a)))))
        → (g : Got Term) (o : Out) → SameExpr (drop at v) (span (drop at v)) d m g o
        → Same (filling (then g F) r) (close (go_on_after o.0 o.1 (λ size m. read_arguments rd k v (at + size) o.1 m)))
    step_on_law k at d m F h go (bad j) o e = let p = err_from_is_err_and o.0 e in rw p.1 p.2
    step_on_law k at d m F h go (got a u) o e =
        let q : length (drop at v) ≡ length v - at = length-drop at v in
        let p : u ≡ drop (at + span (drop at v)) v = e.0 ∙ drop-drop (span (drop at v)) at v in
        rw (e.3, p) (go a (at + span (drop at v)) (omega arith) (omega arith))

    step : (k at : ℕ) (d : List ℕ) (m : ℕ) (F : Term → List ℕ → Got Term) → at ≤ length v
        → ((a : Term) (next : ℕ) → next ≤ length v → at + size_of (raw a) * 4 ≤ next → Same (filling (F a (drop next v)) r) (close (read_arguments rd k v next (sets d m (nodes (raw a))) (m + size_of (raw a)))))
        → Same (filling (then (arg (drop at v)) F) r) (close (read_arguments rd (suc k) v at d m))
    unfolding read_arguments
    step k at d m F h go = rw (rest_drop at v) (step_on_law k at d m F h go (arg (drop at v)) (rd (drop at v) d m) (ih (drop at v) d m))

    -- the end of the arguments
    end : (at : ℕ) (d : List ℕ) (m : ℕ) (x : Term) → at ≤ length v → size_of (raw x) * 4 ≤ at + 3
        → m + 1 ≡ n₀ + size_of (raw x) → set d m (77309411328 + f) ≡ sets d₀ n₀ (nodes (raw x))
        → Same (sized 0 (drop at v) (got x r)) (close (read_arguments rd 0 v at d m))
    unfolding read_arguments close_at
    end at d m x h few count same =
        whole_at Same (got x r) v at _ _ h (λ e. (after, fits, omega arith, (let q : at + 3 ≡ size = omega arith in rw (q, count, same)))) refl

  module _ (f : ℕ) (w : List ℕ) (full : length (f ∷ w) + 3 ≡ size) where
    one_arg : eqb f not_fn ≡ true → Same (filling (args_of arg f w) r) (read_body rd (Ok (Apply f)) (f ∷ w) d₀ n₀)
    unfolding arity fill_term nodes size_of
    one_arg e =
        let q : arity f ≡ 1 = rw e in
        rw q
        (step f (f ∷ w) full 0 1 d₀ n₀ _ (omega arith)
        (λ a i h k. rw e (end f (f ∷ w) full i (sets d₀ n₀ (nodes (raw a))) (n₀ + size_of (raw a)) (apply1 f a) h (omega arith) (omega arith)
        (sym (sets_nodes (raw a) d₀ n₀ ((77309411328 + f) ∷ []))))))

    two_args : eqb f not_fn ≡ false → eqb f if_fn ≡ false → Same (filling (args_of arg f w) r) (read_body rd (Ok (Apply f)) (f ∷ w) d₀ n₀)
    unfolding arity fill_term nodes size_of
    two_args e c =
        let q : arity f ≡ 2 = rw (e, c) in
        rw q
        (step f (f ∷ w) full 1 1 d₀ n₀ _ (omega arith)
        (λ a i h k. rw e (step f (f ∷ w) full 0 i (sets d₀ n₀ (nodes (raw a))) (n₀ + size_of (raw a)) _ h
        (λ b j h₁ k₁. rw c (end f (f ∷ w) full j (sets (sets d₀ n₀ (nodes (raw a))) (n₀ + size_of (raw a)) (nodes (raw b))) (n₀ + size_of (raw a) + size_of (raw b)) (apply2 f a b) h₁ (omega arith) (omega arith)
        (sym (sets_nodes (raw a) d₀ n₀ (nodes (raw b) ++ ((77309411328 + f) ∷ [])) ∙ sets_nodes (raw b) (sets d₀ n₀ (nodes (raw a))) (n₀ + size_of (raw a)) ((77309411328 + f) ∷ []))))))))

    three_args : eqb f not_fn ≡ false → eqb f if_fn ≡ true → Same (filling (args_of arg f w) r) (read_body rd (Ok (Apply f)) (f ∷ w) d₀ n₀)
    unfolding arity fill_term nodes size_of
    three_args e c =
        let q : arity f ≡ 3 = rw (e, c) in
        rw q
        (step f (f ∷ w) full 2 1 d₀ n₀ _ (omega arith)
        (λ a i h k. rw e (step f (f ∷ w) full 1 i (sets d₀ n₀ (nodes (raw a))) (n₀ + size_of (raw a)) _ h
        (λ b j h₁ k₁. rw c (step f (f ∷ w) full 0 j (sets (sets d₀ n₀ (nodes (raw a))) (n₀ + size_of (raw a)) (nodes (raw b))) (n₀ + size_of (raw a) + size_of (raw b)) _ h₁
        (λ x l h₂ k₂. end f (f ∷ w) full l (sets (sets (sets d₀ n₀ (nodes (raw a))) (n₀ + size_of (raw a)) (nodes (raw b))) (n₀ + size_of (raw a) + size_of (raw b)) (nodes (raw x)))
        (n₀ + size_of (raw a) + size_of (raw b) + size_of (raw x)) (apply3 f a b x) h₂ (omega arith) (omega arith)
        (sym (sets_nodes (raw a) d₀ n₀ (nodes (raw b) ++ (nodes (raw x) ++ ((77309411328 + f) ∷ [])))
        ∙ sets_nodes (raw b) (sets d₀ n₀ (nodes (raw a))) (n₀ + size_of (raw a)) (nodes (raw x) ++ ((77309411328 + f) ∷ []))
        ∙ sets_nodes (raw x) (sets (sets d₀ n₀ (nodes (raw a))) (n₀ + size_of (raw a)) (nodes (raw b))) (n₀ + size_of (raw a) + size_of (raw b)) ((77309411328 + f) ∷ [])))))))))

    args : Same (filling (args_of arg f w) r) (read_body rd (Ok (Apply f)) (f ∷ w) d₀ n₀)
    args = split (eqb f not_fn) one_arg (λ e. split (eqb f if_fn) (three_args e) (two_args e))

  -- by the tag, with the value w
  abbrev Begins : List ℕ → Got Term → HeadRead → Type 0
  Begins w g h = Same (filling g r) (read_body rd h w d₀ n₀)

  -- a leaf of a fixed length
  leaf_begins : (w : List ℕ) (g : Got Term) (h : HeadRead) (z : ℕ) → (length w ≡ z → Begins w g h) → Begins w (sized z w g) (pick (eqb (length w) z) h (Err WrongLength))
  leaf_begins w g h z good = by_two (Begins w) (eqb (length w) z) (λ e. good (eqb-true (length w) z e)) (λ e. refl)

  leaf : (w : List ℕ) (x : Term) (node z : ℕ) → length w + 3 ≡ size → length w ≡ z → size_of (raw x) ≡ 1 → nodes (raw x) ≡ node ∷ [] → 1 ≤ z → Begins w (got x []) (Ok (Leaf node (z + 3)))
  leaf w x node z full e one is some =
      let q : z + 3 ≡ size = omega arith in
      rw (one, is, q) (after, fits, omega arith, refl)

  app_begins : (w : List ℕ) → length w + 3 ≡ size
      → Begins w (byte_in w (λ f u. pick (eqb f 0 || ltb last f) (bad off_scale) (args_of arg f u)))
      (pick (eqb (length w) 0) (Err WrongLength) (pick (eqb (get_or w 0 0) 0) (Err OffScale) (pick (ltb last (get_or w 0 0)) (Err OffScale) (Ok (Apply (get_or w 0 0))))))
  app_begins [] full = refl
  app_begins (f ∷ w) full =
      rw (eqb·suc-zero (length w)) (by_either (Begins (f ∷ w)) (eqb f 0) (ltb last f) refl (λ e c. args f w full))

  begins : (left t : ℕ) (w : List ℕ) → length w + 3 ≡ size → Begins w (term_in arg t w) (head_at (suc left) t w)
  unfolding head_at fill_term nodes size_of
  begins left t w full =
      rw (eqb·suc-zero left)
      (by_two (Begins w) (eqb t 16)
      (λ e. leaf_begins w (got (literal (get_at w 0)) []) (Ok (Leaf (68719476736 + get_at w 0) 7)) 4
      (λ z. leaf w (literal (get_at w 0)) (68719476736 + get_at w 0) 4 full z refl refl (omega arith)))
      (λ e. by_two (Begins w) (eqb t 17)
      (λ c. leaf_begins w (got (variable (get_or w 0 0)) []) (Ok (Leaf (73014444032 + get_or w 0 0) 4)) 1
      (λ z. leaf w (variable (get_or w 0 0)) (73014444032 + get_or w 0 0) 1 full z refl refl (omega arith)))
      (λ c. by_two (Begins w) (eqb t 19)
      (λ b. leaf_begins w _ _ 1
      (λ z. by_two (Begins w) (ltb 7 (get_or w 0 0)) (λ a. refl)
      (λ a.
      let p : 68719476736 + (12884901888 + get_or w 0 0) ≡ 81604378624 + get_or w 0 0 = omega arith in
      leaf w (param (get_or w 0 0)) (81604378624 + get_or w 0 0) 1 full z refl (rw p) (omega arith))))
      (λ b. app_begins w full))))

pub same_expr : (left : ℕ) (s d : List ℕ) (n : ℕ) → SameExpr s (span s) d n (expr_at left s) (expr_of left s d n)
unfolding expr_at expr_of head_of head_at
same_expr zero s d n =
    same_field (SameExpr s (span s) d n) is_term 16 19 s _ (λ f v. read_body (λ s' p m. (Err TooDeep, p)) (head_from 0 f v) v d n) (term_tag (get_or s 0 0)) (λ k. refl) (λ fits due. refl)
same_expr (suc left) s d n =
    same_field (SameExpr s (span s) d n) is_term 16 19 s (term_in (expr_at left)) (λ f v. read_body (expr_of left) (head_from (suc left) f v) v d n) (term_tag (get_or s 0 0)) (λ k. refl)
    (λ fits due. begins (expr_at left) (expr_of left) (same_expr left) s (span s) d n (drop (span s) s) refl fits left (get_or s 0 0) (value_in s) (value_length s fits))
