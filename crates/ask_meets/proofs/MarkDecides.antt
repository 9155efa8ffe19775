-- A mark decides how an expression stands to b: 0 exactly if it does not name b, 3 exactly if it adds to b. By
-- induction on the expression, case by case of its parts' marks.
use Rattle.lib_base.proofs.Prelude.{ℕ, ◌≤◌, ◌<◌, ◌≡◌, refl, ◌∙◌, sym, subst, true, ◌||◌, false≢true, true≢false, ◌≢◌}
use Rattle.lib_base.proofs.Prelude.{◌⊎◌, ⊎_elim, inr, inl, eqb, eqb-true, eq-eqb, eqb-false}
use Rattle.lib_base.specs.Basics.{pick, All}
use Rattle.lib_base.proofs.Tools.{by_test, or_either}
use Rattle.lib_signature.specs.Numbers.{if_fn, add_fn, subtract_fn}
use Rattle.spec_language.specs.Syntax.{Expr, con, name, app1, app2, app3, Program}
use Rattle.spec_language.specs.Dependence.{Response, follows, takes, defers, keeps, size, events, response, mentions}
use Rattle.spec_language.specs.Grammar.{ternary}
use Rattle.spec_language.specs.Fits.{Nested, n_con, n_name, n_app1, n_app2, n_app3, BehaviourFits}
use Rattle.spec_language.specs.Accepted.{NamesIn, Known}
use Rattle.spec_language.proofs.Laws.{ResponseNested, response_nested, ResponseNamesIn, response_names}
use Rattle.spec_semantics.proofs.Solution.{or_first, or_second}
use Rattle.check_reads.specs.Named.{through_passives}
use Rattle.ask_commute.specs.Meets.{Via, itself, Refers, Adds, bare, plus, minus, added_to, either_way, AddsIn, AddsTo}
use Rattle.ask_meets.specs.Marks.{name_mark, one_mark, two_mark, if_mark, mark_of, adds_by, adds_of}
use Rattle.ask_meets.proofs.Leading.{via_says, via_is}

module _ (p : Program) (b : ℕ) where
  -- what adding says of an expression's parts
  abbrev Parts : Expr → Type 0
  Parts (con w) = ⊥
  Parts (name i) = i ≡ b
  Parts (app1 f x) = ⊥
  Parts (app2 f x y) =
      ((f ≡ add_fn) × Adds p b x × (Refers p y b → ⊥)) ⊎ (((f ≡ subtract_fn) × Adds p b x × (Refers p y b → ⊥)) ⊎ ((f ≡ add_fn) × (Refers p x b → ⊥) × Adds p b y))
  Parts (app3 f c x y) = (Refers p c b → ⊥) × Adds p b x × Adds p b y

  parts : {x : Expr} → Adds p b x → Parts x
  parts bare = refl
  parts (plus a n) = inl (refl, a, n)
  parts (minus a n) = inr (inl (refl, a, n))
  parts (added_to n a) = inr (inr (refl, n, a))
  parts (either_way n a d) = (n, a, d)

  -- how x stands to b, by its mark
  data Stands (x : Expr) : ℕ → Type 0 where
    apart : (Refers p x b → ⊥) → Stands x 0
    naming : Refers p x b → (Adds p b x → ⊥) → Stands x 2
    adding : Refers p x b → Adds p b x → Stands x 3

  -- ---- names of the parts are names

  in_one : (f : ℕ) (x : Expr) → Refers p x b → Refers p (app1 f x) b
  unfolding mentions
  in_one f x r = r

  of_one : (f : ℕ) (x : Expr) → Refers p (app1 f x) b → Refers p x b
  unfolding mentions
  of_one f x r = r

  in_left : (f : ℕ) (x y : Expr) → Refers p x b → Refers p (app2 f x y) b
  unfolding mentions
  in_left f x y (k, m, u) = (k, or_first (mentions k x) (mentions k y) m, u)

  in_right : (f : ℕ) (x y : Expr) → Refers p y b → Refers p (app2 f x y) b
  unfolding mentions
  in_right f x y (k, m, u) = (k, or_second (mentions k x) (mentions k y) m, u)

  of_two : (f : ℕ) (x y : Expr) → Refers p (app2 f x y) b → Refers p x b ⊎ Refers p y b
  unfolding mentions
  of_two f x y (k, m, u) = ⊎_elim (λ t. inl (k, t, u)) (λ t. inr (k, t, u)) (or_either (mentions k x) (mentions k y) m)

  in_first_law : (f : ℕ) (c x y : Expr) → Refers p c b → Refers p (app3 f c x y) b
  unfolding mentions
  in_first_law f c x y (k, m, u) = (k, or_first (mentions k c) _ m, u)

  in_second : (f : ℕ) (c x y : Expr) → Refers p x b → Refers p (app3 f c x y) b
  unfolding mentions
  in_second f c x y (k, m, u) = (k, or_second (mentions k c) _ (or_first (mentions k x) (mentions k y) m), u)

  in_third : (f : ℕ) (c x y : Expr) → Refers p y b → Refers p (app3 f c x y) b
  unfolding mentions
  in_third f c x y (k, m, u) = (k, or_second (mentions k c) _ (or_second (mentions k x) (mentions k y) m), u)

  of_three : (f : ℕ) (c x y : Expr) → Refers p (app3 f c x y) b → Refers p c b ⊎ (Refers p x b ⊎ Refers p y b)
  unfolding mentions
  of_three f c x y (k, m, u) =
      ⊎_elim (λ t. inl (k, t, u)) (λ t. inr (⊎_elim (λ s. inl (k, s, u)) (λ s. inr (k, s, u)) (or_either (mentions k x) (mentions k y) t)))
      (or_either (mentions k c) (mentions k x || mentions k y) m)

  -- ---- functions

  one : (f : ℕ) (x : Expr) {m : ℕ} → Stands x m → Stands (app1 f x) (one_mark m)
  unfolding one_mark
  one f x (apart h) = apart (λ r. h (of_one f x r))
  one f x (naming r h) = naming (in_one f x r) (λ a. parts a)
  one f x (adding r h) = naming (in_one f x r) (λ a. parts a)

  -- a function of two that names b and adds only as the marks say
  module _ (f : ℕ) (x y : Expr) where
    abbrev Mine : ℕ → Type 0
    Mine = Stands (app2 f x y)

    -- no way to add
    never : Refers p (app2 f x y) b → (Adds p b (app2 f x y) → ⊥) → Mine (pick (eqb f add_fn) 2 (pick (eqb f subtract_fn) 2 2))
    never r h = by_test Mine (eqb f add_fn) (λ _. naming r h) (λ _. by_test Mine (eqb f subtract_fn) (λ _. naming r h) (λ _. naming r h))

    -- both name b
    both_name : Refers p x b → Refers p y b → Adds p b (app2 f x y) → ⊥
    both_name r s a = ⊎_elim (λ t. t.2 s) (λ t. ⊎_elim (λ u. u.2 s) (λ u. u.1 r) t) (parts a)

    -- neither adds
    none_adds : (Adds p b x → ⊥) → (Adds p b y → ⊥) → Adds p b (app2 f x y) → ⊥
    none_adds h k a = ⊎_elim (λ t. h t.1) (λ t. ⊎_elim (λ u. h u.1) (λ u. k u.2) t) (parts a)

    sum_of : f ≡ add_fn → Adds p b (app2 add_fn x y) → Adds p b (app2 f x y)
    sum_of q a = subst (λ (g : ℕ). Adds p b (app2 g x y)) (sym q) a

    difference_of : f ≡ subtract_fn → Adds p b (app2 subtract_fn x y) → Adds p b (app2 f x y)
    difference_of q a = subst (λ (g : ℕ). Adds p b (app2 g x y)) (sym q) a

  -- an expression that adds names b
  adds_names : {x : Expr} → Adds p b x → Refers p x b
  unfolding mentions
  adds_names bare = (b, eq-eqb b b refl, itself)
  adds_names (plus {x = x} {y = y} a n) = in_left 4 x y (adds_names a)
  adds_names (minus {x = x} {y = y} a n) = in_left 5 x y (adds_names a)
  adds_names (added_to {x = x} {y = y} n a) = in_right 4 x y (adds_names a)
  adds_names (either_way {c = c} {x = x} {y = y} n a d) = in_second if_fn c x y (adds_names a)

  two : (f : ℕ) (x y : Expr) {m n : ℕ} → Stands x m → Stands y n → Stands (app2 f x y) (two_mark f m n)
  unfolding two_mark
  two f x y (apart h) (apart k) = apart (λ r. ⊎_elim h k (of_two f x y r))
  two f x y (apart h) (naming s k) = never f x y (in_right f x y s) (none_adds f x y (λ a. h (adds_names a)) k)
  two f x y (apart h) (adding s k) =
      let r : Refers p (app2 f x y) b = in_right f x y s in
      let other : f ≢ add_fn → Adds p b (app2 f x y) → ⊥ = λ n a. ⊎_elim (λ t. n t.0) (λ t. ⊎_elim (λ u. h (adds_names u.1)) (λ u. n u.0) t) (parts a) in
      by_test (Stands (app2 f x y)) (eqb f add_fn) (λ e. adding r (sum_of f x y (eqb-true f add_fn e) (added_to h k)))
      (λ e. by_test (Stands (app2 f x y)) (eqb f subtract_fn) (λ _. naming r (other (eqb-false f add_fn e))) (λ _. naming r (other (eqb-false f add_fn e))))
  two f x y (naming r h) (apart k) = never f x y (in_left f x y r) (none_adds f x y h (λ a. k (adds_names a)))
  two f x y (naming r h) (naming s k) = never f x y (in_left f x y r) (both_name f x y r s)
  two f x y (naming r h) (adding s k) = never f x y (in_left f x y r) (both_name f x y r s)
  two f x y (adding r h) (apart k) =
      let q : Refers p (app2 f x y) b = in_left f x y r in
      by_test (Stands (app2 f x y)) (eqb f add_fn) (λ e. adding q (sum_of f x y (eqb-true f add_fn e) (plus h k)))
      (λ e. by_test (Stands (app2 f x y)) (eqb f subtract_fn) (λ g. adding q (difference_of f x y (eqb-true f subtract_fn g) (minus h k)))
      (λ g. naming q (λ a. ⊎_elim (λ t. eqb-false f add_fn e t.0) (λ t. ⊎_elim (λ u. eqb-false f subtract_fn g u.0) (λ u. eqb-false f add_fn e u.0) t) (parts a))))
  two f x y (adding r h) (naming s k) = never f x y (in_left f x y r) (both_name f x y r s)
  two f x y (adding r h) (adding s k) = never f x y (in_left f x y r) (both_name f x y r s)

  -- ---- `if`

  three : (c x y : Expr) {l m n : ℕ} → Stands c l → Stands x m → Stands y n → Stands (app3 if_fn c x y) (if_mark l m n)
  unfolding if_mark
  three c x y (apart g) (apart h) (apart k) = apart (λ r. ⊎_elim g (λ t. ⊎_elim h k t) (of_three if_fn c x y r))
  three c x y (apart g) (apart h) (naming s k) = naming (in_third if_fn c x y s) (λ a. k (parts a).2)
  three c x y (apart g) (apart h) (adding s k) = naming (in_third if_fn c x y s) (λ a. h (adds_names (parts a).1))
  three c x y (apart g) (naming r h) (apart k) = naming (in_second if_fn c x y r) (λ a. h (parts a).1)
  three c x y (apart g) (naming r h) (naming s k) = naming (in_second if_fn c x y r) (λ a. h (parts a).1)
  three c x y (apart g) (naming r h) (adding s k) = naming (in_second if_fn c x y r) (λ a. h (parts a).1)
  three c x y (apart g) (adding r h) (apart k) = naming (in_second if_fn c x y r) (λ a. k (adds_names (parts a).2))
  three c x y (apart g) (adding r h) (naming s k) = naming (in_second if_fn c x y r) (λ a. k (parts a).2)
  three c x y (apart g) (adding r h) (adding s k) = adding (in_second if_fn c x y r) (either_way g h k)
  three c x y (naming q g) (apart h) (apart k) = naming (in_first_law if_fn c x y q) (λ a. (parts a).0 q)
  three c x y (naming q g) (apart h) (naming s k) = naming (in_first_law if_fn c x y q) (λ a. (parts a).0 q)
  three c x y (naming q g) (apart h) (adding s k) = naming (in_first_law if_fn c x y q) (λ a. (parts a).0 q)
  three c x y (naming q g) (naming r h) (apart k) = naming (in_first_law if_fn c x y q) (λ a. (parts a).0 q)
  three c x y (naming q g) (naming r h) (naming s k) = naming (in_first_law if_fn c x y q) (λ a. (parts a).0 q)
  three c x y (naming q g) (naming r h) (adding s k) = naming (in_first_law if_fn c x y q) (λ a. (parts a).0 q)
  three c x y (naming q g) (adding r h) (apart k) = naming (in_first_law if_fn c x y q) (λ a. (parts a).0 q)
  three c x y (naming q g) (adding r h) (naming s k) = naming (in_first_law if_fn c x y q) (λ a. (parts a).0 q)
  three c x y (naming q g) (adding r h) (adding s k) = naming (in_first_law if_fn c x y q) (λ a. (parts a).0 q)
  three c x y (adding q g) (apart h) (apart k) = naming (in_first_law if_fn c x y q) (λ a. (parts a).0 q)
  three c x y (adding q g) (apart h) (naming s k) = naming (in_first_law if_fn c x y q) (λ a. (parts a).0 q)
  three c x y (adding q g) (apart h) (adding s k) = naming (in_first_law if_fn c x y q) (λ a. (parts a).0 q)
  three c x y (adding q g) (naming r h) (apart k) = naming (in_first_law if_fn c x y q) (λ a. (parts a).0 q)
  three c x y (adding q g) (naming r h) (naming s k) = naming (in_first_law if_fn c x y q) (λ a. (parts a).0 q)
  three c x y (adding q g) (naming r h) (adding s k) = naming (in_first_law if_fn c x y q) (λ a. (parts a).0 q)
  three c x y (adding q g) (adding r h) (apart k) = naming (in_first_law if_fn c x y q) (λ a. (parts a).0 q)
  three c x y (adding q g) (adding r h) (naming s k) = naming (in_first_law if_fn c x y q) (λ a. (parts a).0 q)
  three c x y (adding q g) (adding r h) (adding s k) = naming (in_first_law if_fn c x y q) (λ a. (parts a).0 q)

  -- ---- an expression of a program

  module _ (each : All (BehaviourFits (events p)) p.behaviours) (known : Known p) (few : size p ≤ 64) (within : b < size p) where
    no_con : (w : ℕ) → Refers p (con w) b → ⊥
    unfolding mentions
    no_con w (k, m, u) = false≢true m

    a_name : (i : ℕ) → i < size p → Stands (name i) (name_mark (λ k. through_passives p k b) b i)
    unfolding mentions name_mark
    a_name i h =
        by_test (Stands (name i)) (eqb i b)
        (λ e. let q : i ≡ b = eqb-true i b e in
        adding (i, eq-eqb i i refl, subst (Via p i) q itself) (subst (λ (j : ℕ). Adds p b (name j)) (sym q) bare))
        (λ e. by_test (Stands (name i)) (through_passives p i b)
        (λ t. naming (i, eq-eqb i i refl, via_says p each known few i b h within t) (λ a. eqb-false i b e (parts a)))
        (λ t. apart (λ r.
        let q : i ≡ r.0 = eqb-true i r.0 r.1 in
        ⊎_elim (λ z. eqb-false i b e z) (λ z. true≢false (sym z ∙ t)) (via_is p each known few i b h within (subst (λ (j : ℕ). Via p j b) (sym q) r.2)))))

    stands : {k : ℕ} {x : Expr} → Nested k x → NamesIn (size p) x → Stands x (mark_of p b x)
    unfolding mark_of
    stands (n_con {w = w} h) m = apart (no_con w)
    stands (n_name {i = i} h) m = a_name i m
    stands (n_app1 {f = f} {a = x} h hx) m = one f x (stands hx m)
    stands (n_app2 {f = f} {a = x} {b = y} h hx hy) m = two f x y (stands hx m.0) (stands hy m.1)
    stands (n_app3 {a = c} {b = x} {c = y} ternary hc hx hy) m = three c x y (stands hc m.0) (stands hx m.1) (stands hy m.2)

    says_adds : {x : Expr} {m : ℕ} → Stands x m → eqb m 3 ≡ true → Adds p b x
    says_adds (apart h) e = absurd (false≢true e)
    says_adds (naming r h) e = absurd (false≢true e)
    says_adds (adding r h) e = h

    is_adds : {x : Expr} {m : ℕ} → Stands x m → Adds p b x → eqb m 3 ≡ true
    is_adds (apart h) a = absurd (h (adds_names a))
    is_adds (naming r h) a = absurd (h a)
    is_adds (adding r h) a = refl

    response_says : (r : Response) → ResponseNested r → ResponseNamesIn (size p) r → adds_by p b r ≡ true → AddsIn p b r
    response_says (follows x) n m h = absurd (false≢true h)
    response_says (takes x) n m h = says_adds (stands n m) h
    response_says (defers x) n m h = says_adds (stands n m) h
    response_says keeps n m h = absurd (false≢true h)

    response_is : (r : Response) → ResponseNested r → ResponseNamesIn (size p) r → AddsIn p b r → adds_by p b r ≡ true
    response_is (follows x) n m a = absurd a
    response_is (takes x) n m a = is_adds (stands n m) a
    response_is (defers x) n m a = is_adds (stands n m) a
    response_is keeps n m a = absurd a

    pub adds_says : (e : ℕ) → adds_of p e b ≡ true → AddsTo p e b
    unfolding adds_of
    adds_says e h = response_says (response p e b) (response_nested p each e b) (response_names p known e b) h

    pub adds_is : (e : ℕ) → AddsTo p e b → adds_of p e b ≡ true
    unfolding adds_of
    adds_is e a = response_is (response p e b) (response_nested p each e b) (response_names p known e b) a
