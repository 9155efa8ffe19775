-- Expressions: every encoding of nesting at most k is read with k levels left, and what is read is such an encoding.
-- The first by induction on the nesting; the second by induction on the levels left, with `Says` of each argument.
use Rattle.lib_base.proofs.Prelude.{ℕ, ◌≤◌, ◌<◌, suc, zero, ◌≡◌, refl, ◌∙◌, ap, true, false, ◌||◌, and-eq-true_iff, ◌≢◌}
use Rattle.lib_base.proofs.Prelude.{List, [], ◌∷◌, ◌++◌, append-nil, length, get_or, eqb, ltb, leb, ne_eqb, eqb-true}
use Rattle.lib_base.proofs.Prelude.{le-ltb, eq-eqb, ltb-false, eqb-false, leb-true, arith}
use Rattle.lib_base.specs.Basics.{pick}
use Rattle.lib_base.proofs.Tools.{by_test, none_of, all_split}
use Rattle.lib_signature.specs.Numbers.{not_fn, if_fn}
use Rattle.lib_signature.specs.Signature.{last}
use Rattle.lib_signature.proofs.Laws.{two_is, is_two}
use Rattle.spec_language.specs.Refusals.{off_scale}
use Rattle.spec_language.specs.Sheet.{Term, apply1, apply2, apply3}
use Rattle.spec_language.specs.Grammar.{field, word, encode_expr, Arity, unary, ternary, binary, TermFits, t_literal, t_variable, t_param, t_apply1, t_apply2, t_apply3}
use Rattle.spec_language.specs.Reading.{Got, bad, got, sized, filling, byte_in, args_of, term_in, is_term, expr_at}
use Rattle.spec_grammar.proofs.Fields.{Bytes, field-reads, field_of, field_bytes_law}
use Rattle.spec_grammar.proofs.Results.{Says, one_byte, word_bytes, word_back, then_of, sized_of, whole_of, byte_of}

-- ---- reading back

arity_one : {f n : ℕ} → Arity f n → n ≡ 1 → f ≡ not_fn
arity_one unary e = refl
arity_one ternary e = absurd (omega arith)
arity_one (binary a b c) e = absurd (omega arith)

arity_three : {f n : ℕ} → Arity f n → n ≡ 3 → f ≡ if_fn
arity_three unary e = absurd (omega arith)
arity_three ternary e = refl
arity_three (binary a b c) e = absurd (omega arith)

arity_two : {f n : ℕ} → Arity f n → n ≡ 2 → (0 < f) × (f ≤ last) × (f ≢ not_fn) × (f ≢ if_fn)
arity_two unary e = absurd (omega arith)
arity_two ternary e = absurd (omega arith)
arity_two (binary {f = f} a b c) e = let k = two_is f c in (a, b, k.0, k.1)

-- with one level of nesting less left, its arguments' reader is `arg`
app-reads : (k f : ℕ) (v rest : List ℕ) → 0 < f → f ≤ last → expr_at (suc k) (field 18 (f ∷ v) ++ rest) ≡ filling (args_of (expr_at k) f v) rest
unfolding expr_at
app-reads k f v rest lo hi =
    field-reads is_term 18 (f ∷ v) rest (term_in (expr_at k)) refl ∙ rw (ne_eqb f 0 (omega arith), le-ltb last f hi)

pub expr-reads : {k : ℕ} {x : Term} → TermFits k x → (rest : List ℕ) → expr_at k (encode_expr x ++ rest) ≡ got x rest
unfolding expr_at encode_expr
expr-reads (t_literal {k} {w} h) rest = field-reads is_term 16 (word w) rest (term_in (expr_at k)) refl ∙ rw (word_back w)
expr-reads (t_variable {k} {i} h) rest = field-reads is_term 17 (i ∷ []) rest (term_in (expr_at k)) refl
expr-reads (t_param {k} {n} h) rest = field-reads is_term 19 (n ∷ []) rest (term_in (expr_at k)) refl ∙ rw (le-ltb 7 n (omega arith))
expr-reads (t_apply1 {k} {f} {a} r p) rest =
    let e : f ≡ not_fn = arity_one r refl in
    let ih : expr_at k (encode_expr a) ≡ got a [] = rw (append-nil (encode_expr a)) at (expr-reads p []) in
    app-reads k f (encode_expr a) rest (omega arith) (omega arith) ∙ rw (ih, eq-eqb f not_fn e)
expr-reads (t_apply2 {k} {f} {a} {b} r p q) rest =
    let e : (0 < f) × (f ≤ last) × (f ≢ not_fn) × (f ≢ if_fn) = arity_two r refl in
    let ih : expr_at k (encode_expr b) ≡ got b [] = rw (append-nil (encode_expr b)) at (expr-reads q []) in
    app-reads k f (encode_expr a ++ encode_expr b) rest (omega arith) (omega arith)
    ∙ rw (expr-reads p (encode_expr b), ne_eqb f not_fn e.2, ih, ne_eqb f if_fn e.3)
expr-reads (t_apply3 {k} {f} {a} {b} {c} r p q t) rest =
    let e : f ≡ if_fn = arity_three r refl in
    let ih : expr_at k (encode_expr c) ≡ got c [] = rw (append-nil (encode_expr c)) at (expr-reads t []) in
    app-reads k f (encode_expr a ++ (encode_expr b ++ encode_expr c)) rest (omega arith) (omega arith)
    ∙ rw (expr-reads p (encode_expr b ++ encode_expr c), ne_eqb f not_fn (omega arith), expr-reads q (encode_expr c), eq-eqb f if_fn e, ih)

pub expr_alone : {k : ℕ} {x : Term} → TermFits k x → expr_at k (encode_expr x) ≡ got x []
expr_alone {k} {x} h = rw (append-nil (encode_expr x)) at (expr-reads h [])

-- ---- what is read

abbrev pub SaysExpr : ℕ → List ℕ → Got Term → Type 0
SaysExpr k = Says encode_expr (TermFits k)

-- bytes of a function, and of arguments read in turn
tail_bytes : (t f : ℕ) (v rest s : List ℕ) → Bytes s → s ≡ field t (f ∷ v) ++ rest → Bytes v
tail_bytes t f v rest s b e = (field_bytes_law t (f ∷ v) rest s b e).0.1

arity_of_two : (f : ℕ) → 0 < f → f ≤ last → eqb f not_fn ≡ false → eqb f if_fn ≡ false → Arity f 2
arity_of_two f lo hi e d = binary lo hi (is_two f (eqb-false f not_fn e) (eqb-false f if_fn d))

module _ (k : ℕ) (arg : List ℕ → Got Term) (ih : (v : List ℕ) → SaysExpr k v (arg v)) (f : ℕ) (s v rest : List ℕ)
    (lo : 0 < f) (hi : f ≤ last) (h : Bytes s → s ≡ field 18 (f ∷ v) ++ rest) where
  one_says : (a : Term) (v₁ : List ℕ) → SaysExpr k v (got a v₁) → eqb f not_fn ≡ true → SaysExpr (suc k) s (sized 0 v₁ (got (apply1 f a) rest))
  unfolding encode_expr
  one_says a v₁ ra e =
      whole_of (SaysExpr (suc k) s) v₁ (got (apply1 f a) rest) (omega arith)
      (λ z b.
      let r = ra (tail_bytes 18 f v rest s b (h b)) in
      let q : f ≡ not_fn = eqb-true f not_fn e in
      (h b ∙ rw (r.0, z, append-nil (encode_expr a)), t_apply1 (rw q unary) r.1))

  two_says : (a b : Term) (v₁ v₂ : List ℕ) → SaysExpr k v (got a v₁) → SaysExpr k v₁ (got b v₂) → Arity f 2 → SaysExpr (suc k) s (sized 0 v₂ (got (apply2 f a b) rest))
  unfolding encode_expr
  two_says a b v₁ v₂ ra rb ar =
      whole_of (SaysExpr (suc k) s) v₂ (got (apply2 f a b) rest) (omega arith)
      (λ z y.
      let bv = tail_bytes 18 f v rest s y (h y) in
      let r = ra bv in
      let q = rb (all_split (λ b. b < 256) (encode_expr a) v₁ (rw r.0 at bv)).1 in
      (h y ∙ rw (r.0, q.0, z, append-nil (encode_expr b)), t_apply2 ar r.1 q.1))

  three_says : (a b : Term) (v₁ v₂ : List ℕ) → SaysExpr k v (got a v₁) → SaysExpr k v₁ (got b v₂) → eqb f if_fn ≡ true
      → (c : Term) (v₃ : List ℕ) → SaysExpr k v₂ (got c v₃) → SaysExpr (suc k) s (sized 0 v₃ (got (apply3 f a b c) rest))
  unfolding encode_expr
  three_says a b v₁ v₂ ra rb e c v₃ rc =
      whole_of (SaysExpr (suc k) s) v₃ (got (apply3 f a b c) rest) (omega arith)
      (λ z y.
      let bv = tail_bytes 18 f v rest s y (h y) in
      let r = ra bv in
      let bv₁ = (all_split (λ b. b < 256) (encode_expr a) v₁ (rw r.0 at bv)).1 in
      let q = rb bv₁ in
      let p = rc (all_split (λ b. b < 256) (encode_expr b) v₂ (rw q.0 at bv₁)).1 in
      let d : f ≡ if_fn = eqb-true f if_fn e in
      (h y ∙ rw (r.0, q.0, p.0, z, append-nil (encode_expr c)), t_apply3 (rw d ternary) r.1 q.1 p.1))

  abbrev Filled : Got Term → Type 0
  Filled g = SaysExpr (suc k) s (filling g rest)

  args_says : Filled (args_of arg f v)
  args_says =
      then_of Filled (SaysExpr k v) _ (λ n g. g)
      (λ a v₁ ra. by_test Filled (eqb f not_fn) (one_says a v₁ ra)
      (λ e. then_of Filled (SaysExpr k v₁) _ (λ n g. g)
      (λ b v₂ rb. by_test Filled (eqb f if_fn)
      (λ d. then_of Filled (SaysExpr k v₂) _ (λ n g. g) (three_says a b v₁ v₂ ra rb d) (arg v₂) (ih v₂))
      (λ d. two_says a b v₁ v₂ ra rb (arity_of_two f lo hi e d))) (arg v₁) (ih v₁))) (arg v) (ih v)

-- the tags due
term_tag : (t : ℕ) → is_term t ≡ true → (16 ≤ t) × (t ≤ 19)
term_tag t e = let r = (and-eq-true_iff (leb 16 t) (leb t 19)).0 e in (leb-true 16 t r.0, leb-true t 19 r.1)

module _ (k : ℕ) (arg : List ℕ → Got Term) (ih : (v : List ℕ) → SaysExpr k v (arg v)) (s : List ℕ) where
  app_says : (v rest : List ℕ) → (Bytes s → s ≡ field 18 v ++ rest)
      → SaysExpr (suc k) s (filling (byte_in v (λ f w. pick (eqb f 0 || ltb last f) (bad off_scale) (args_of arg f w))) rest)
  app_says v rest h =
      byte_of (λ (g : Got Term). SaysExpr (suc k) s (filling g rest)) v _ (omega arith)
      (λ f w q. by_test (λ (g : Got Term). SaysExpr (suc k) s (filling g rest)) (eqb f 0 || ltb last f) (λ e. omega arith)
      (λ e. let r = none_of (eqb f 0) (ltb last f) e in
      args_says k arg ih f s w rest (omega (arith, eqb-false f 0 r.0)) (ltb-false last f r.1) (λ b. rw q at (h b))))

  -- a leaf of one byte
  byte_there : (t : ℕ) (v rest : List ℕ) → length v ≡ 1 → Bytes s → s ≡ field t v ++ rest → (s ≡ field t (get_or v 0 0 ∷ []) ++ rest) × (get_or v 0 0 < 256)
  byte_there t v rest z b q =
      let y : s ≡ field t (get_or v 0 0 ∷ []) ++ rest = q ∙ ap (λ (u : List ℕ). field t u ++ rest) (one_byte v z) in
      (y, (field_bytes_law t (get_or v 0 0 ∷ []) rest s b y).0.0)

  term_says : (t : ℕ) (v rest : List ℕ) → is_term t ≡ true → (Bytes s → s ≡ field t v ++ rest) → SaysExpr (suc k) s (filling (term_in arg t v) rest)
  unfolding encode_expr
  term_says t v rest due h =
      let P : Got Term → Type 0 = λ g. SaysExpr (suc k) s (filling g rest) in
      by_test P (eqb t 16)
      (λ e. sized_of P 4 v _ (omega arith)
      (λ z b.
      let q : s ≡ field 16 v ++ rest = rw (eqb-true t 16 e) at (h b) in
      let r = word_bytes v z (field_bytes_law 16 v rest s b q).0 in
      (q ∙ ap (λ (u : List ℕ). field 16 u ++ rest) r.0, t_literal r.1)))
      (λ e. by_test P (eqb t 17)
      (λ d. sized_of P 1 v _ (omega arith)
      (λ z b. let r = byte_there 17 v rest z b (rw (eqb-true t 17 d) at (h b)) in (r.0, t_variable r.1)))
      (λ d. by_test P (eqb t 19)
      (λ c. sized_of P 1 v _ (omega arith)
      (λ z. by_test P (ltb 7 (get_or v 0 0)) (λ g. omega arith)
      (λ g b. ((byte_there 19 v rest z b (rw (eqb-true t 19 c) at (h b))).0, t_param (omega (arith, ltb-false 7 (get_or v 0 0) g))))))
      (λ c.
      let q : t ≡ 18 = omega (arith, term_tag t due, eqb-false t 16 e, eqb-false t 17 d, eqb-false t 19 c) in
      app_says v rest (λ b. rw q at (h b)))))

pub expr_says : (k : ℕ) (s : List ℕ) → SaysExpr k s (expr_at k s)
unfolding expr_at
expr_says zero s = field_of (SaysExpr 0 s) is_term s _ (λ m a b. (a, b)) (λ t v rest due h. omega arith)
expr_says (suc k) s = field_of (SaysExpr (suc k) s) is_term s (term_in (expr_at k)) (λ m a b. (a, b)) (term_says k (expr_at k) (expr_says k) s)
