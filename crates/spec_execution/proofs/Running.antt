-- Running a list of instructions: lists one after the other, a part for each number, and that an expression's code
-- pushes its value, marks what ran over in it and changes nothing else. By induction on the list, the number and the
-- expression.
use Rattle.lib_base.proofs.Prelude.{ℕ, ◌≤◌, ◌<◌, suc, zero, ◌≡◌, refl, sym, true, false, Bool, ◌||◌, or_assoc, List, []}
use Rattle.lib_base.proofs.Prelude.{◌∷◌, ◌++◌, append_assoc, flatten, eqb, arith}
use Rattle.lib_base.specs.Basics.{pick}
use Rattle.lib_base.proofs.Tools.{split}
use Rattle.lib_signature.specs.Signature.{arity, last}
use Rattle.lib_signature.specs.Numbers.{not_fn, if_fn}
use Rattle.lib_arith.specs.Functions.{result_of, over}
use Rattle.spec_language.specs.Syntax.{Expr, con, name, app1, app2, app3}
use Rattle.spec_language.specs.Grammar.{Arity, unary, ternary, binary}
use Rattle.spec_language.specs.Fits.{Nested, n_con, n_name, n_app1, n_app2, n_app3}
use Rattle.spec_language.specs.Accepted.{NamesIn}
use Rattle.spec_language.specs.Order.{up_to}
use Rattle.spec_language.specs.Code.{Instr, load, fetch, apply, postfix}
use Rattle.spec_semantics.specs.Meaning.{value, at}
use Rattle.spec_semantics.specs.OverMeaning.{over_in}
use Rattle.spec_execution.specs.Execution.{Values, held_at, on_arguments, applied, pushed, execute}
use Rattle.spec_execution.specs.Runs.{execute_all}

pub execute_append : (xs ys : List Instr) (d : Values) → execute_all (xs ++ ys) d ≡ execute_all ys (execute_all xs d)
unfolding execute_all
execute_append [] ys d = refl
execute_append (x ∷ xs) ys d = execute_append xs ys (execute x d)

-- what each number's part takes from one place of a chain to the next, all of them take from its start to its end
pub parts : (n : ℕ) (f : ℕ → List Instr) (Inv : ℕ → Values → Type 0) → ((i : ℕ) → i < n → (d : Values) → Inv i d → Inv (suc i) (execute_all (f i) d))
    → (d : Values) → Inv 0 d → Inv n (execute_all (flatten (up_to n f)) d)
unfolding up_to flatten execute_all
parts zero f Inv step d h = h
parts (suc n) f Inv step d h =
    rw (execute_append (f 0) (flatten (up_to n (λ i. f (suc i)))) d)
    (parts n (λ i. f (suc i)) (λ i. Inv (suc i)) (λ i b. step (suc i) (omega arith)) (execute_all (f 0) d) (step 0 (omega arith) d h))

-- what a name means: scratch where c says so, else the store
abbrev pub looked : (ℕ → Bool) → Values → ℕ → ℕ
looked c d i = pick (c i) (held_at d.scratch i) (at d.store i)

-- ---- functions with the arguments that they need

pub arity_is : {f k : ℕ} → Arity f k → (arity f ≡ k) × (0 < f) × (f ≤ last)
unfolding arity
arity_is unary = (refl, omega arith, omega arith)
arity_is ternary = (refl, omega arith, omega arith)
arity_is (binary h g n) = (n, h, g)

module _ (f : ℕ) where
  one_argument : (a : ℕ) (st : List ℕ) → arity f ≡ 1 → applied f (a ∷ st) ≡ result_of f a 0 0 ∷ st
  unfolding arity
  one_argument a st h = split (eqb f not_fn) (λ t. rw t) (λ t. split (eqb f if_fn) (λ u. absurd (omega (arith, (rw (t, u) at h)))) (λ u. absurd (omega (arith, (rw (t, u) at h)))))

  two_arguments : (a b : ℕ) (st : List ℕ) → arity f ≡ 2 → applied f (b ∷ (a ∷ st)) ≡ result_of f a b 0 ∷ st
  unfolding arity
  two_arguments a b st h = split (eqb f not_fn) (λ t. absurd (omega (arith, (rw t at h)))) (λ t. split (eqb f if_fn) (λ u. absurd (omega (arith, (rw (t, u) at h)))) (λ u. rw (t, u)))

  three_arguments : (a b c : ℕ) (st : List ℕ) → arity f ≡ 3 → applied f (c ∷ (b ∷ (a ∷ st))) ≡ result_of f a b c ∷ st
  unfolding arity
  three_arguments a b c st h = split (eqb f not_fn) (λ t. absurd (omega (arith, (rw t at h)))) (λ t. split (eqb f if_fn) (λ u. rw (t, u)) (λ u. absurd (omega (arith, (rw (t, u) at h)))))

  one_over : (a : ℕ) (st : List ℕ) → arity f ≡ 1 → on_arguments (over f) f (a ∷ st) ≡ over f a 0 0
  unfolding arity
  one_over a st h = split (eqb f not_fn) (λ t. rw t) (λ t. split (eqb f if_fn) (λ u. absurd (omega (arith, (rw (t, u) at h)))) (λ u. absurd (omega (arith, (rw (t, u) at h)))))

  two_over : (a b : ℕ) (st : List ℕ) → arity f ≡ 2 → on_arguments (over f) f (b ∷ (a ∷ st)) ≡ over f a b 0
  unfolding arity
  two_over a b st h = split (eqb f not_fn) (λ t. absurd (omega (arith, (rw t at h)))) (λ t. split (eqb f if_fn) (λ u. absurd (omega (arith, (rw (t, u) at h)))) (λ u. rw (t, u)))

  three_over : (a b c : ℕ) (st : List ℕ) → arity f ≡ 3 → on_arguments (over f) f (c ∷ (b ∷ (a ∷ st))) ≡ over f a b c
  unfolding arity
  three_over a b c st h = split (eqb f not_fn) (λ t. absurd (omega (arith, (rw t at h)))) (λ t. split (eqb f if_fn) (λ u. rw (t, u)) (λ u. absurd (omega (arith, (rw (t, u) at h)))))

-- ---- marks one after the other

-- one more mark
abbrev pub noted : Bool → Values → Values
noted m d = record { store = d.store; scratch = d.scratch; stack = d.stack; deferred = d.deferred; mark = m || d.mark }

or_two : (o a b m : Bool) → o || (b || (a || m)) ≡ (o || (a || b)) || m
or_two true a b m = refl
or_two false true true m = refl
or_two false true false m = refl
or_two false false b m = refl

or_three : (o a b c m : Bool) → o || (c || (b || (a || m))) ≡ (o || (a || (b || c))) || m
or_three true a b c m = refl
or_three false true true true m = refl
or_three false true true false m = refl
or_three false true false true m = refl
or_three false true false false m = refl
or_three false false b c m = or_two false b c m

-- ---- an expression's code

execute_name : (b : Bool) (i : ℕ) (d : Values) → execute (pick b (fetch i) (load i)) d ≡ pushed (pick b (held_at d.scratch i) (at d.store i)) d
unfolding execute
execute_name true i d = refl
execute_name false i d = refl

module _ (c : ℕ → Bool) where
  pub run_postfix : {k : ℕ} {x : Expr} → Nested k x → (rest : List Instr) (d : Values)
      → execute_all (postfix c x ++ rest) d ≡ execute_all rest (noted (over_in (looked c d) x) (pushed (value (looked c d) x) d))
  unfolding execute execute_all value over_in postfix
  run_postfix (n_con h) rest d = refl
  run_postfix (n_name {i = i} h) rest d = rw (execute_name (c i) i d)
  run_postfix (n_app1 {f = f} {a = a} r ha) rest d =
      let va = value (looked c d) a in
      let oa = over_in (looked c d) a in
      rw (
        append_assoc (postfix c a) (apply f ∷ []) rest,
        run_postfix ha (apply f ∷ rest) d,
        one_argument f va d.stack (arity_is r).0,
        one_over f va d.stack (arity_is r).0,
        sym (or_assoc (over f va 0 0) oa d.mark),
      )
  run_postfix (n_app2 {f = f} {a = a} {b = b} r ha hb) rest d =
      let va = value (looked c d) a in
      let vb = value (looked c d) b in
      let oa = over_in (looked c d) a in
      let ob = over_in (looked c d) b in
      rw (
        append_assoc (postfix c a) (postfix c b ++ (apply f ∷ [])) rest,
        append_assoc (postfix c b) (apply f ∷ []) rest,
        run_postfix ha (postfix c b ++ (apply f ∷ rest)) d,
        run_postfix hb (apply f ∷ rest) (noted oa (pushed va d)),
        two_arguments f va vb d.stack (arity_is r).0,
        two_over f va vb d.stack (arity_is r).0,
        or_two (over f va vb 0) oa ob d.mark,
      )
  run_postfix (n_app3 {f = f} {a = a} {b = b} {c = g} r ha hb hc) rest d =
      let va = value (looked c d) a in
      let vb = value (looked c d) b in
      let vg = value (looked c d) g in
      let oa = over_in (looked c d) a in
      let ob = over_in (looked c d) b in
      let og = over_in (looked c d) g in
      rw (
        append_assoc (postfix c a) (postfix c b ++ (postfix c g ++ (apply f ∷ []))) rest,
        append_assoc (postfix c b) (postfix c g ++ (apply f ∷ [])) rest,
        append_assoc (postfix c g) (apply f ∷ []) rest,
        run_postfix ha (postfix c b ++ (postfix c g ++ (apply f ∷ rest))) d,
        run_postfix hb (postfix c g ++ (apply f ∷ rest)) (noted oa (pushed va d)),
        run_postfix hc (apply f ∷ rest) (noted ob (pushed vb (noted oa (pushed va d)))),
        three_arguments f va vb vg d.stack (arity_is r).0,
        three_over f va vb vg d.stack (arity_is r).0,
        or_three (over f va vb vg) oa ob og d.mark,
      )

-- ---- a value hangs on the names in its expression alone, and so does what runs over there
pub value_same : (n : ℕ) (f g : ℕ → ℕ) → ((i : ℕ) → i < n → f i ≡ g i) → (x : Expr) → NamesIn n x → value f x ≡ value g x
unfolding value
value_same n f g h (con w) k = refl
value_same n f g h (name i) k = h i k
value_same n f g h (app1 o a) k = rw (value_same n f g h a k)
value_same n f g h (app2 o a b) k = rw (value_same n f g h a k.0, value_same n f g h b k.1)
value_same n f g h (app3 o a b c) k = rw (value_same n f g h a k.0, value_same n f g h b k.1, value_same n f g h c k.2)

pub over_same : (n : ℕ) (f g : ℕ → ℕ) → ((i : ℕ) → i < n → f i ≡ g i) → (x : Expr) → NamesIn n x → over_in f x ≡ over_in g x
unfolding over_in
over_same n f g h (con w) k = refl
over_same n f g h (name i) k = refl
over_same n f g h (app1 o a) k = rw (value_same n f g h a k, over_same n f g h a k)
over_same n f g h (app2 o a b) k =
    rw (value_same n f g h a k.0, value_same n f g h b k.1, over_same n f g h a k.0, over_same n f g h b k.1)
over_same n f g h (app3 o a b c) k =
    rw (
      value_same n f g h a k.0,
      value_same n f g h b k.1,
      value_same n f g h c k.2,
      over_same n f g h a k.0,
      over_same n f g h b k.1,
      over_same n f g h c k.2,
    )
