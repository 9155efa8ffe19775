-- The stack of marks as one number, two bits a mark, and each step of the list as a step of that number: a mark is put
-- on by * 4 on what is left of the number below 4^31, and taken by / 4 and % 4. So what the nodes of any draft leave is
-- a number that needs no list (`number_among`).
use Rattle.lib_base.proofs.Prelude.{ℕ, ◌≤◌, ◌<◌, ◌+◌, suc, zero, ◌*◌, ◌%◌, ◌/◌, ◌^◌, ◌≡◌, refl, ◌∙◌, sym, ap, Bool}
use Rattle.lib_base.proofs.Prelude.{List, [], ◌∷◌, get_or, take, drop, eqb, pow-suc, arith}
use Rattle.std.proofs.Math.Arith.{mod-mul}
use Rattle.std.proofs.Math.Nat.{zero-mod}
use Rattle.lib_base.specs.Basics.{pick, All}
use Rattle.lib_base.proofs.Tools.{by_test, by_two}
use Rattle.lib_signature.specs.Numbers.{not_fn, if_fn, add_fn, subtract_fn}
use Rattle.draft_form.specs.Entry.{node_tag, node_word}
use Rattle.ask_meets.specs.Marks.{name_mark, one_mark, two_mark, if_mark, push_mark, applied_mark, mark_step, marks_among, marks_packed}

-- ---- marks are below 4

abbrev pub Small : List ℕ → Type 0
Small s = All (λ m. m < 4) s

one_small : (a : ℕ) → one_mark a < 4
unfolding one_mark
one_small a = by_test (λ x. x < 4) (eqb a 0) (λ _. omega arith) (λ _. omega arith)

two_small : (f a b : ℕ) → two_mark f a b < 4
unfolding two_mark
two_small f a b =
    by_test (λ x. x < 4) (eqb (a + b) 0) (λ _. omega arith)
    (λ _. by_test (λ x. x < 4) (eqb f add_fn) (λ _. by_test (λ x. x < 4) (eqb (a + b) 3) (λ _. omega arith) (λ _. omega arith))
    (λ _. by_test (λ x. x < 4) (eqb f subtract_fn)
    (λ _. by_test (λ x. x < 4) (eqb a 3) (λ _. by_test (λ x. x < 4) (eqb b 0) (λ _. omega arith) (λ _. omega arith)) (λ _. omega arith)) (λ _. omega arith)))

if_small : (c a b : ℕ) → if_mark c a b < 4
unfolding if_mark
if_small c a b =
    by_test (λ x. x < 4) (eqb (c + (a + b)) 0) (λ _. omega arith)
    (λ _. by_test (λ x. x < 4) (eqb c 0) (λ _. by_test (λ x. x < 4) (eqb (a + b) 6) (λ _. omega arith) (λ _. omega arith)) (λ _. omega arith))

name_small : (leads : ℕ → Bool) (b j : ℕ) → name_mark leads b j < 4
unfolding name_mark
name_small leads b j = by_test (λ x. x < 4) (eqb j b) (λ _. omega arith) (λ _. by_test (λ x. x < 4) (leads j) (λ _. omega arith) (λ _. omega arith))

take_small : (n : ℕ) (s : List ℕ) → Small s → Small (take n s)
take_small zero s h = tt
take_small (suc n) [] h = tt
take_small (suc n) (m ∷ s) h = (h.0, take_small n s h.1)

drop_small : (n : ℕ) (s : List ℕ) → Small s → Small (drop n s)
drop_small zero s h = h
drop_small (suc n) [] h = tt
drop_small (suc n) (m ∷ s) h = drop_small n s h.1

push_small : (s : List ℕ) (m : ℕ) → Small s → m < 4 → Small (push_mark s m)
unfolding push_mark
push_small s m h l = (l, take_small 31 s h)

applied_small : (f : ℕ) (s : List ℕ) → Small s → Small (applied_mark f s)
unfolding applied_mark
applied_small f s h =
    by_test Small (eqb f not_fn) (λ _. push_small _ _ (drop_small 1 s h) (one_small _))
    (λ _. by_test Small (eqb f if_fn) (λ _. push_small _ _ (drop_small 3 s h) (if_small _ _ _)) (λ _. push_small _ _ (drop_small 2 s h) (two_small f _ _)))

step_small : (leads : ℕ → Bool) (b : ℕ) (s : List ℕ) (x : ℕ) → Small s → Small (mark_step leads b s x)
unfolding mark_step
step_small leads b s x h =
    by_test Small (eqb (node_tag x) 17) (λ _. push_small s _ h (name_small leads b _))
    (λ _. by_test Small (eqb (node_tag x) 18) (λ _. applied_small (node_word x) s h) (λ _. push_small s 0 h (omega arith)))

among_small : (leads : ℕ → Bool) (b : ℕ) (d : List ℕ) (start n : ℕ) → Small (marks_among leads b d start n)
unfolding marks_among
among_small leads b d start zero = tt
among_small leads b d start (suc k) = step_small leads b (marks_among leads b d start k) (get_or d (start + k) 0) (among_small leads b d start k)

-- ---- what is taken and what is left, by division

top_is : (s : List ℕ) → Small s → get_or s 0 0 ≡ marks_packed s % 4
unfolding marks_packed
top_is [] h = refl
top_is (m ∷ s) h = let l : m < 4 = h.0 in omega arith

rest_is : (s : List ℕ) → Small s → marks_packed (drop 1 s) ≡ marks_packed s / 4
unfolding marks_packed
rest_is [] h = refl
rest_is (m ∷ s) h = let l : m < 4 = h.0 in omega arith

second_is : (s : List ℕ) → Small s → get_or s 1 0 ≡ marks_packed s / 4 % 4
unfolding marks_packed
second_is [] h = refl
second_is (m ∷ s) h = let l : m < 4 = h.0 in let q : (marks_packed s * 4 + m) / 4 ≡ marks_packed s = omega arith in rw q (top_is s h.1)

rest_of_two : (s : List ℕ) → Small s → marks_packed (drop 2 s) ≡ marks_packed s / 16
unfolding marks_packed
rest_of_two [] h = refl
rest_of_two (m ∷ s) h = let l : m < 4 = h.0 in rest_is s h.1 ∙ omega arith

third_is : (s : List ℕ) → Small s → get_or s 2 0 ≡ marks_packed s / 16 % 4
unfolding marks_packed
third_is [] h = refl
third_is (m ∷ s) h = let l : m < 4 = h.0 in let q : (marks_packed s * 4 + m) / 16 ≡ marks_packed s / 4 = omega arith in rw q (second_is s h.1)

rest_of_three : (s : List ℕ) → Small s → marks_packed (drop 3 s) ≡ marks_packed s / 64
unfolding marks_packed
rest_of_three [] h = refl
rest_of_three (m ∷ s) h = let l : m < 4 = h.0 in rest_of_two s h.1 ∙ omega arith

-- ---- what stays of a stack

four_positive : (k : ℕ) → 0 < 4 ^ k
four_positive zero = omega arith
four_positive (suc k) = omega (arith, pow-suc 4 k, four_positive k)

take_is : (n : ℕ) (s : List ℕ) → Small s → marks_packed (take n s) ≡ marks_packed s % 4 ^ n
unfolding marks_packed
take_is zero s h = omega arith
take_is (suc n) [] h = sym (zero-mod (4 ^ suc n))
take_is (suc n) (m ∷ s) h =
    let l : m < 4 = h.0 in
    let q : (marks_packed s * 4 + m) / 4 ≡ marks_packed s = omega arith in
    let r : (marks_packed s * 4 + m) % 4 ≡ m = omega arith in
    rw (take_is n s h.1, pow-suc 4 n, mod-mul (marks_packed s * 4 + m) {m = 4 ^ n} {c = 4} (four_positive n) (omega arith), q, r)

-- ---- the steps

unfoldable pub number_pushed : ℕ → ℕ → ℕ
number_pushed s m = s % 4611686018427387904 * 4 + m

unfoldable pub number_applied : ℕ → ℕ → ℕ
number_applied f s =
    pick (eqb f not_fn) (number_pushed (s / 4) (one_mark (s % 4)))
    (pick (eqb f if_fn) (number_pushed (s / 64) (if_mark (s / 16 % 4) (s / 4 % 4) (s % 4)))
    (number_pushed (s / 16) (two_mark f (s / 4 % 4) (s % 4))))

unfoldable pub number_step : (ℕ → Bool) → ℕ → ℕ → ℕ → ℕ
number_step leads b s x =
    pick (eqb (node_tag x) 17) (number_pushed s (name_mark leads b (node_word x)))
    (pick (eqb (node_tag x) 18) (number_applied (node_word x) s) (number_pushed s 0))

unfoldable pub number_among : (ℕ → Bool) → ℕ → List ℕ → ℕ → ℕ → ℕ
number_among leads b d start zero = 0
number_among leads b d start (suc k) = number_step leads b (number_among leads b d start k) (get_or d (start + k) 0)

pub push_is : (s : List ℕ) (m : ℕ) → Small s → marks_packed (push_mark s m) ≡ marks_packed s % 4611686018427387904 * 4 + m
unfolding push_mark marks_packed
push_is s m h = rw (take_is 31 s h)

pushed_is : (s : List ℕ) (m : ℕ) → Small s → marks_packed (push_mark s m) ≡ number_pushed (marks_packed s) m
unfolding number_pushed
pushed_is s m h = push_is s m h

abbrev Is : List ℕ → ℕ → Type 0
Is s n = marks_packed s ≡ n

applied_is : (f : ℕ) (s : List ℕ) → Small s → marks_packed (applied_mark f s) ≡ number_applied f (marks_packed s)
unfolding applied_mark number_applied
applied_is f s h =
    by_two Is (eqb f not_fn) (λ _. pushed_is (drop 1 s) _ (drop_small 1 s h) ∙ rw (rest_is s h, top_is s h))
    (λ _. by_two Is (eqb f if_fn) (λ _. pushed_is (drop 3 s) _ (drop_small 3 s h) ∙ rw (rest_of_three s h, third_is s h, second_is s h, top_is s h))
    (λ _. pushed_is (drop 2 s) _ (drop_small 2 s h) ∙ rw (rest_of_two s h, second_is s h, top_is s h)))

step_is : (leads : ℕ → Bool) (b : ℕ) (s : List ℕ) (x : ℕ) → Small s → marks_packed (mark_step leads b s x) ≡ number_step leads b (marks_packed s) x
unfolding mark_step number_step
step_is leads b s x h =
    by_two Is (eqb (node_tag x) 17) (λ _. pushed_is s _ h)
    (λ _. by_two Is (eqb (node_tag x) 18) (λ _. applied_is (node_word x) s h) (λ _. pushed_is s 0 h))

-- of the nodes of any draft
pub among_is : (leads : ℕ → Bool) (b : ℕ) (d : List ℕ) (start n : ℕ) → marks_packed (marks_among leads b d start n) ≡ number_among leads b d start n
unfolding marks_among number_among marks_packed
among_is leads b d start zero = refl
among_is leads b d start (suc k) =
    step_is leads b (marks_among leads b d start k) (get_or d (start + k) 0) (among_small leads b d start k)
    ∙ ap (λ (s : ℕ). number_step leads b s (get_or d (start + k) 0)) (among_is leads b d start k)
