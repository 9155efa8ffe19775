-- The levels' functions read exactly what the grammar derives. What they read is derived: by induction on the bound,
-- level by level (`Sound`). What is derived is read: by induction on the derivation; after it the level's function
-- stands in its `operator_chain`, which ends where what follows is no operator as tight (`reach`).
use Rattle.lib_base.proofs.Prelude.{ℕ, ◌≤◌, ◌<◌, suc, zero, ◌≡◌, refl, ◌∙◌, sym, List, [], ◌∷◌, ◌++◌, append_assoc}
use Rattle.lib_base.proofs.Prelude.{append-nil, length, length-append, eqb, ne_eqb, eqb-true, eq-eqb, arith}
use Rattle.lib_base.proofs.Tools.{by_test}
use Rattle.lib_signature.specs.Signature.{level}
use Rattle.lib_signature.specs.Numbers.{not_fn, if_fn}
use Rattle.spec_language.specs.Syntax.{Expr, app2}
use Rattle.text_formula.specs.Tokens.{Token, number, behaviour, function, opening, closing, comma}
use Rattle.text_formula.specs.Grammar.{Operator, operator, Derives, tighter, two_sided, negated, a_number, a_name, bracketed, choice}
use Rattle.text_formula.specs.Reader.{level_of, operator_of, bracket_of, Parsed, unparsed, parsed, then_parse, past, operator_chain, tower, bracketed_of, choice_of, operand_of, operand_at, read_at}

-- ---- the levels of operators

pub level_of_law : {l f : ℕ} → Operator l f → level f ≡ l
level_of_law (operator h) = h

pub operator_of_law : (l f : ℕ) → level f ≡ suc l → Operator (suc l) f
operator_of_law l f h = operator h

-- ---- what is read is derived

pub record Front (l : ℕ) (ts : List Token) (e : Expr) (rest : List Token) : Type 0 where
  pub taken : List Token
  pub joined : ts ≡ taken ++ rest
  pub derived : Derives l taken e

abbrev pub Sound : ℕ → List Token → Parsed → Type 0
Sound l ts unparsed = Unit {0}
Sound l ts (parsed e rest) = Front l ts e rest

module _ (P : Parsed → Type 0) where
  then_of : (Q : Parsed → Type 0) (f : Expr → List Token → Parsed) → P unparsed → ((e : Expr) (rest : List Token) → Q (parsed e rest) → P (f e rest)) → (g : Parsed) → Q g → P (then_parse g f)
  then_of Q f a b unparsed h = a
  then_of Q f a b (parsed e rest) h = b e rest h

  past_of : (m : ℕ) (f : List Token → Parsed) → P unparsed → (ts : List Token) → ((t : Token) (us : List Token) → ts ≡ t ∷ us → bracket_of t ≡ m → P (f us)) → P (past m f ts)
  past_of m f a [] b = a
  past_of m f a (t ∷ us) b = by_test P (eqb (bracket_of t) m) (λ e. b t us refl (eqb-true (bracket_of t) m e)) (λ e. a)

is_opening : (t : Token) → bracket_of t ≡ 1 → t ≡ opening
is_opening (number n) e = absurd (omega arith)
is_opening (behaviour i) e = absurd (omega arith)
is_opening (function f) e = absurd (omega arith)
is_opening opening e = refl
is_opening closing e = absurd (omega arith)
is_opening comma e = absurd (omega arith)

is_closing : (t : Token) → bracket_of t ≡ 2 → t ≡ closing
is_closing (number n) e = absurd (omega arith)
is_closing (behaviour i) e = absurd (omega arith)
is_closing (function f) e = absurd (omega arith)
is_closing opening e = absurd (omega arith)
is_closing closing e = refl
is_closing comma e = absurd (omega arith)

is_comma : (t : Token) → bracket_of t ≡ 3 → t ≡ comma
is_comma (number n) e = absurd (omega arith)
is_comma (behaviour i) e = absurd (omega arith)
is_comma (function f) e = absurd (omega arith)
is_comma opening e = absurd (omega arith)
is_comma closing e = absurd (omega arith)
is_comma comma e = refl

joined_by : {l : ℕ} (t : Token) {ts us : List Token} {a b : Expr} → level_of t ≡ suc l → Derives (suc l) ts a → Derives l us b
    → Derives (suc l) (ts ++ (t ∷ us)) (app2 (operator_of t) a b)
joined_by (number n) h p q = absurd (omega arith)
joined_by (behaviour i) h p q = absurd (omega arith)
joined_by (function f) h p q = two_sided (operator_of_law _ f h) p q
joined_by opening h p q = absurd (omega arith)
joined_by closing h p q = absurd (omega arith)
joined_by comma h p q = absurd (omega arith)

module _ (l : ℕ) (next : List Token → Parsed) (ih : (ts : List Token) → Sound l ts (next ts)) (ts : List Token) where
  chain_sound : (k : ℕ) (a : Expr) (us : List Token) → Front (suc l) ts a us → Sound (suc l) ts (operator_chain (suc l) next k a us)
  unfolding operator_chain
  chain_sound zero a us h = h
  chain_sound (suc k) a [] h = h
  chain_sound (suc k) a (t ∷ us) h =
      by_test (Sound (suc l) ts) (eqb (level_of t) (suc l))
      (λ e. then_of (Sound (suc l) ts) (Sound l us) _ tt
      (λ b vs r. chain_sound k (app2 (operator_of t) a b) vs
      record {
        taken = h.taken ++ (t ∷ r.taken);
        joined = h.joined ∙ rw r.joined (sym (append_assoc h.taken (t ∷ r.taken) vs));
        derived = joined_by t (eqb-true (level_of t) (suc l) e) h.derived r.derived;
      }) (next us) (ih us))
      (λ e. h)

module _ (operand : List Token → Parsed) (k : ℕ) (ih : (ts : List Token) → Sound 0 ts (operand ts)) where
  tower_sound : (l : ℕ) (ts : List Token) → Sound l ts (tower operand k l ts)
  unfolding tower
  tower_sound zero ts = ih ts
  tower_sound (suc l) ts =
      then_of (Sound (suc l) ts) (Sound l ts) _ tt
      (λ a us h. chain_sound l (tower operand k l) (tower_sound l) ts k a us
      record { taken = h.taken; joined = h.joined; derived = tighter h.derived }) (tower operand k l ts) (tower_sound l ts)

module _ (all : List Token → Parsed) (ih : (ts : List Token) → Sound 6 ts (all ts)) where
  brackets_sound : (ts : List Token) → Sound 0 (opening ∷ ts) (bracketed_of all (opening ∷ ts))
  unfolding bracketed_of
  brackets_sound ts =
      then_of (Sound 0 (opening ∷ ts)) (Sound 6 ts) _ tt
      (λ e vs h. past_of (Sound 0 (opening ∷ ts)) 2 _ tt vs
      (λ t ws q m.
      record {
        taken = opening ∷ (h.taken ++ (closing ∷ []));
        joined = rw (h.joined, q, is_closing t m, append_assoc h.taken (closing ∷ []) ws);
        derived = bracketed h.derived;
      })) (all ts) (ih ts)

  choice_sound : (ts : List Token) → Sound 0 (function if_fn ∷ ts) (choice_of all ts)
  unfolding choice_of
  choice_sound ts =
      past_of S 1 _ tt ts (λ t us q m.
      then_of S (Sound 6 us) _ tt (λ a vs h.
      past_of S 3 _ tt vs (λ u ws r n.
      then_of S (Sound 6 ws) _ tt (λ b xs i.
      past_of S 3 _ tt xs (λ v ys s o.
      then_of S (Sound 6 ys) _ tt (λ c zs j.
      past_of S 2 _ tt zs (λ w rest x p.
      record {
        taken = function if_fn ∷ opening ∷ (h.taken ++ (comma ∷ (i.taken ++ (comma ∷ (j.taken ++ (closing ∷ []))))));
        joined = rw (q, is_opening t m, h.joined, r, is_comma u n, i.joined, s, is_comma v o, j.joined, x, is_closing w p) (simp append_assoc);
        derived = choice h.derived i.derived j.derived;
      })) (all ys) (ih ys))) (all ws) (ih ws))) (all us) (ih us))
    where
      S : Parsed → Type 0
      S = Sound 0 (function if_fn ∷ ts)

  module _ (operand : List Token → Parsed) (jh : (ts : List Token) → Sound 0 ts (operand ts)) where
    operand_sound : (ts : List Token) → Sound 0 ts (operand_of operand all ts)
    operand_sound [] = tt
    operand_sound (number n ∷ ts) = record { taken = number n ∷ []; joined = refl; derived = a_number }
    operand_sound (behaviour i ∷ ts) = record { taken = behaviour i ∷ []; joined = refl; derived = a_name }
    operand_sound (function f ∷ ts) =
        by_test (Sound 0 (function f ∷ ts)) (eqb f not_fn)
        (λ e. let q : f ≡ not_fn = eqb-true f not_fn e in
        then_of (Sound 0 (function f ∷ ts)) (Sound 0 ts) _ tt
        (λ a us h. record { taken = function not_fn ∷ h.taken; joined = rw (q, h.joined); derived = negated h.derived }) (operand ts) (jh ts))
        (λ e. by_test (Sound 0 (function f ∷ ts)) (eqb f if_fn)
        (λ d. let q : f ≡ if_fn = eqb-true f if_fn d in rw q (choice_sound ts))
        (λ d. tt))
    operand_sound (opening ∷ ts) = brackets_sound ts
    operand_sound (closing ∷ ts) = tt
    operand_sound (comma ∷ ts) = tt

operands_sound : (k : ℕ) (ts : List Token) → Sound 0 ts (operand_at k ts)
unfolding operand_at
operands_sound zero ts = tt
operands_sound (suc k) ts =
    operand_sound (tower (operand_at k) k 6) (tower_sound (operand_at k) k (operands_sound k) 6) (operand_at k) (operands_sound k) ts

pub reads_only : (l k : ℕ) (ts : List Token) → Sound l ts (read_at l k ts)
reads_only l k ts = tower_sound (operand_at k) k (operands_sound k) l ts

-- ---- what is derived is read

-- what follows does not begin with a two-sided operator tighter than level l
abbrev Calm : ℕ → List Token → Type 0
Calm l [] = Unit {0}
Calm l (t ∷ ts) = (j : ℕ) → 0 < j → j < l → level_of t ≡ j → ⊥

calm_less : (l : ℕ) (ts : List Token) → Calm (suc l) ts → Calm l ts
calm_less l [] h = tt
calm_less l (t ∷ ts) h = λ j a b e. h j a (omega arith) e

calm_none : (ts : List Token) → Calm 0 ts
calm_none [] = tt
calm_none (t ∷ ts) = λ j a b e. omega arith

-- where level l's function stands, once the operand e is read
abbrev onward : ℕ → ℕ → ℕ → Expr → List Token → Parsed
onward zero k j e rest = parsed e rest
onward (suc l) k j e rest = operator_chain (suc l) (read_at l k) j e rest

calm_ends : (l k j : ℕ) (e : Expr) (rest : List Token) → Calm (suc l) rest → onward l k j e rest ≡ parsed e rest
unfolding operator_chain
calm_ends zero k j e rest h = refl
calm_ends (suc l) k zero e rest h = refl
calm_ends (suc l) k (suc j) e [] h = refl
calm_ends (suc l) k (suc j) e (t ∷ rest) h = rw (ne_eqb (level_of t) (suc l) (h (suc l) (omega arith) (omega arith)))

record Reached (l k : ℕ) (ts : List Token) (e : Expr) (rest : List Token) : Type 0 where
  pub left : ℕ
  pub enough : length rest ≤ left
  pub is : read_at l k (ts ++ rest) ≡ onward l k left e rest

-- a step of the chain
chain_step : (l j f : ℕ) (a b : Expr) (us rest : List Token) → level f ≡ l → suc (length rest) ≤ j → (next : List Token → Parsed) → next us ≡ parsed b rest
    → (i : ℕ) × ((length rest ≤ i) × (operator_chain l next j a (function f ∷ us) ≡ operator_chain l next i (app2 f a b) rest))
unfolding operator_chain
chain_step l zero f a b us rest h m next e = absurd (omega arith)
chain_step l (suc j) f a b us rest h m next e = (j, (omega arith, rw (eq-eqb (level f) l h, e)))

two_step : (l k f : ℕ) (ts us : List Token) (a b : Expr) (rest : List Token) → level f ≡ suc l → Calm (suc l) rest
    → Reached (suc l) k ts a (function f ∷ (us ++ rest)) → Reached l k us b rest → Reached (suc l) k (ts ++ (function f ∷ us)) (app2 f a b) rest
two_step l k f ts us a b rest o c r t =
    let s = chain_step (suc l) r.left f a b (us ++ rest) rest o (omega (arith, r.enough, length-append us rest)) (read_at l k)
    (t.is ∙ calm_ends l k t.left b rest c) in
    record { left = s.0; enough = s.1.0; is = rw (append_assoc ts (function f ∷ us) rest) (r.is ∙ s.1.1) }

-- a formula in front of what is no operator is read
whole_at : (k : ℕ) (ts : List Token) (e : Expr) (rest : List Token) → Calm 7 rest → Reached 6 k ts e rest → read_at 6 k (ts ++ rest) ≡ parsed e rest
whole_at k ts e rest c r = r.is ∙ calm_ends 6 k r.left e rest c

less : {m n : ℕ} → suc m ≤ suc n → m ≤ n
less h = omega arith

reach : {l : ℕ} {ts : List Token} {e : Expr} → Derives l ts e → (k : ℕ) (rest : List Token) → length (ts ++ rest) ≤ k → Calm l rest → Reached l k ts e rest
unfolding tower operand_at bracketed_of choice_of
reach {ts = ts} (tighter {l} d) k rest h c =
    let r = reach d k rest h (calm_less l rest c) in
    record { left = k; enough = omega (arith, length-append ts rest); is = rw (r.is ∙ calm_ends l k r.left _ rest c) }
reach (two_sided {l} {f} {ts} {us} {a} {b} o p q) k rest h c =
    let n : length (ts ++ (function f ∷ (us ++ rest))) ≤ k = simp append_assoc at h in
    let m : length (us ++ rest) ≤ k = omega (arith, length-append ts (function f ∷ (us ++ rest))) in
    two_step l k f ts us a b rest (level_of_law o) c (reach p k (function f ∷ (us ++ rest)) n (λ j x y z. omega (arith, level_of_law o))) (reach q k rest m (calm_less l rest c))
reach (negated d) zero rest h c = absurd (omega arith)
reach (negated {ts} {a} d) (suc k) rest h c =
    let r = reach d k rest (omega arith) (calm_none rest) in
    record { left = length rest; enough = omega arith; is = rw r.is }
reach a_number zero rest h c = absurd (omega arith)
reach a_number (suc k) rest h c = record { left = length rest; enough = omega arith; is = refl }
reach a_name zero rest h c = absurd (omega arith)
reach a_name (suc k) rest h c = record { left = length rest; enough = omega arith; is = refl }
reach (bracketed d) zero rest h c = absurd (omega arith)
reach (bracketed {ts} {e} d) (suc k) rest h c =
    let n : length (ts ++ (closing ∷ rest)) ≤ k = simp append_assoc at (less h) in
    let q = whole_at k ts e (closing ∷ rest) (λ j x y z. omega arith) (reach d k (closing ∷ rest) n (λ j x y z. omega arith)) in
    record { left = length rest; enough = omega arith; is = rw (append_assoc ts (closing ∷ []) rest, q) }
reach (choice p q r) zero rest h c = absurd (omega arith)
reach (choice {ts} {us} {vs} {a} {b} {c} p q r) (suc k) rest h z =
    let last : List Token = closing ∷ rest in
    let n : suc (length (ts ++ (comma ∷ (us ++ (comma ∷ (vs ++ last)))))) ≤ k = simp append_assoc at (less h) in
    let g = length-append ts (comma ∷ (us ++ (comma ∷ (vs ++ last)))) in
    let i = length-append us (comma ∷ (vs ++ last)) in
    let x = whole_at k ts a (comma ∷ (us ++ (comma ∷ (vs ++ last)))) (λ j u v w. omega arith) (reach p k (comma ∷ (us ++ (comma ∷ (vs ++ last)))) (omega arith) (λ j u v w. omega arith)) in
    let y = whole_at k us b (comma ∷ (vs ++ last)) (λ j u v w. omega arith) (reach q k (comma ∷ (vs ++ last)) (omega arith) (λ j u v w. omega arith)) in
    let t = whole_at k vs c last (λ j u v w. omega arith) (reach r k last (omega arith) (λ j u v w. omega arith)) in
    let s : (ts ++ (comma ∷ (us ++ (comma ∷ (vs ++ (closing ∷ [])))))) ++ rest ≡ ts ++ (comma ∷ (us ++ (comma ∷ (vs ++ last)))) = simp append_assoc in
    record { left = length rest; enough = omega arith; is = rw (s, x, y, t) }

pub reads_all : {ts : List Token} {e : Expr} → Derives 6 ts e → read_at 6 (length ts) ts ≡ parsed e []
reads_all {ts} {e} d = rw (append-nil ts) at (whole_at (length ts) ts e [] tt (reach d (length ts) [] (simp append-nil (omega arith)) tt))
