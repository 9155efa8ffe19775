-- An adding handler's value is its behaviour's plus an amount, on 32 bits, and the amount is the same on two boards
-- that agree on what else it names: by induction on how it adds. So two that add commute.
use Rattle.lib_base.proofs.Prelude.{ℕ, ◌<◌, ◌+◌, ◌-◌, ◌%◌, ◌^◌, ◌≡◌, refl, ◌∙◌, sym, ap, true, false, Bool, by_cases}
use Rattle.lib_base.proofs.Prelude.{dec_lt, le-ltb, arith}
use Rattle.lib_base.specs.Basics.{pick}
use Rattle.lib_base.proofs.Tools.{by_test}
use Rattle.lib_signature.specs.Numbers.{add_fn, subtract_fn, if_fn}
use Rattle.lib_arith.specs.Exact.{signed, wrapped}
use Rattle.lib_arith.specs.Functions.{is_true, exact, result_of}
use Rattle.lib_arith.proofs.ArithLaws.{wrapped_signed, wrapped_word}
use Rattle.lib_arith.proofs.Laws.{view, sum, less}
use Rattle.spec_language.specs.Syntax.{Expr, app2, Program}
use Rattle.spec_language.specs.Dependence.{mentions}
use Rattle.spec_semantics.specs.Meaning.{value}
use Rattle.spec_semantics.proofs.Solution.{value_same, or_first, or_second}
use Rattle.ask_commute.specs.Meets.{Via, Refers, Adds, bare, plus, minus, added_to, either_way}

-- ---- what the functions see of a number: the word that it is read as

unfoldable pub word : ℕ → ℕ
word a = wrapped (signed a)

word_low : (a : ℕ) → word a < 2 ^ 32
unfolding word
word_low a = wrapped_word (signed a)

word_is : (a : ℕ) → a < 2 ^ 32 → word a ≡ a
unfolding word
word_is a h = wrapped_signed a h

signed_word : (a : ℕ) → signed (word a) ≡ signed a
unfolding word
signed_word a =
    by_cases (dec_lt a (2 ^ 32)) (λ h. ap signed (wrapped_signed a h))
    (λ h. let k : 2 ^ 32 - 1 - a ≡ 0 = omega arith in rw (le-ltb a (2 ^ 31) (omega arith), k))

plus_is : (a b : ℕ) → result_of add_fn a b 0 ≡ (word a + word b) % 2 ^ 32
unfolding result_of exact
plus_is a b =
    rw (← signed_word a, ← signed_word b) (sym (sum (view (word a) (word_low a)) (view (word b) (word_low b)) ((word a + word b) % 2 ^ 32) refl))

minus_is : (a b : ℕ) → result_of subtract_fn a b 0 ≡ (word a + (2 ^ 32 - word b)) % 2 ^ 32
unfolding result_of exact
minus_is a b =
    rw (← signed_word a, ← signed_word b)
    (sym (less (view (word a) (word_low a)) (view (word b) (word_low b)) ((word a + (2 ^ 32 - word b)) % 2 ^ 32) (omega arith)
    (omega (arith, word_low a, word_low b))))

turned : (m n : ℕ) → (m + n) % 2 ^ 32 ≡ (n + m) % 2 ^ 32
turned m n = omega arith

if_is : (c a b : ℕ) → result_of if_fn c a b ≡ pick (is_true (signed c)) (word a) (word b)
unfolding result_of exact word
if_is c a b = by_test (λ z. wrapped z ≡ pick (is_true (signed c)) (wrapped (signed a)) (wrapped (signed b))) (is_true (signed c)) (λ t. rw t) (λ t. rw t)

-- ---- two values of an expression, over two values of b: b's own, or b's plus the same amount

pub data Shift (v w a b : ℕ) : Type 0 where
  plain : v ≡ a → w ≡ b → Shift v w a b
  by : (k : ℕ) → v ≡ (word a + k) % 2 ^ 32 → w ≡ (word b + k) % 2 ^ 32 → Shift v w a b

pub shift_over : {v w a b v' w' a' b' : ℕ} → v ≡ v' → w ≡ w' → a ≡ a' → b ≡ b' → Shift v w a b → Shift v' w' a' b'
shift_over p q r t (plain x y) = plain (sym p ∙ x ∙ r) (sym q ∙ y ∙ t)
shift_over p q r t (by k x y) =
    by k (sym p ∙ x ∙ ap (λ (n : ℕ). (word n + k) % 2 ^ 32) r) (sym q ∙ y ∙ ap (λ (n : ℕ). (word n + k) % 2 ^ 32) t)

more : (v w a b k : ℕ) → Shift v w a b → Shift ((word v + k) % 2 ^ 32) ((word w + k) % 2 ^ 32) a b
more v w a b k (plain p q) = by k (rw p) (rw q)
more v w a b k (by j p q) =
    by (j + k) (rw (word_is v (omega arith)) (omega arith)) (rw (word_is w (omega arith)) (omega arith))

again : (v w a b : ℕ) → Shift v w a b → Shift (word v) (word w) a b
again v w a b (plain p q) = by 0 (rw p (omega (arith, word_low a))) (rw q (omega (arith, word_low b)))
again v w a b (by j p q) = by j (rw (word_is v (omega arith)) p) (rw (word_is w (omega arith)) q)

chosen : (t : Bool) (v w x y a b : ℕ) → Shift v w a b → Shift x y a b → Shift (pick t v x) (pick t w y) a b
chosen true v w x y a b h k = h
chosen false v w x y a b h k = k

module _ (p : Program) (b : ℕ) (f g : ℕ → ℕ) where
  -- the two agree on the names in x that do not lead to b
  abbrev pub SameBut : Expr → Type 0
  SameBut x = (j : ℕ) → mentions j x ≡ true → (Via p j b → ⊥) → f j ≡ g j

  -- what does not name b has one value
  one_value : (x : Expr) → (Refers p x b → ⊥) → SameBut x → value f x ≡ value g x
  one_value x h s = value_same f g x (λ j m. s j m (λ u. h (j, m, u)))

  left_of : (x y : Expr) (k : ℕ) → SameBut (app2 k x y) → SameBut x
  unfolding mentions
  left_of x y k s j m = s j (or_first (mentions j x) (mentions j y) m)

  right_of : (x y : Expr) (k : ℕ) → SameBut (app2 k x y) → SameBut y
  unfolding mentions
  right_of x y k s j m = s j (or_second (mentions j x) (mentions j y) m)

  pub adds_shift : {x : Expr} → Adds p b x → SameBut x → Shift (value f x) (value g x) (f b) (g b)
  unfolding value mentions
  adds_shift bare s = plain refl refl
  adds_shift (plus {x = x} {y = y} a n) s =
      rw (one_value y n (right_of x y 4 s), plus_is (value f x) (value g y), plus_is (value g x) (value g y))
      (more (value f x) (value g x) (f b) (g b) (word (value g y)) (adds_shift a (left_of x y 4 s)))
  adds_shift (minus {x = x} {y = y} a n) s =
      rw (one_value y n (right_of x y 5 s), minus_is (value f x) (value g y), minus_is (value g x) (value g y))
      (more (value f x) (value g x) (f b) (g b) (2 ^ 32 - word (value g y)) (adds_shift a (left_of x y 5 s)))
  adds_shift (added_to {x = x} {y = y} n a) s =
      rw (one_value x n (left_of x y 4 s), plus_is (value g x) (value f y), plus_is (value g x) (value g y), turned (word (value g x)) (word (value f y)), turned (word (value g x)) (word (value g y)))
      (more (value f y) (value g y) (f b) (g b) (word (value g x)) (adds_shift a (right_of x y 4 s)))
  adds_shift (either_way {c = c} {x = x} {y = y} n a d) s =
      rw (one_value c n (λ j m. s j (or_first (mentions j c) _ m)), if_is (value g c) (value f x) (value f y), if_is (value g c) (value g x) (value g y))
      (chosen (is_true (signed (value g c))) (word (value f x)) (word (value g x)) (word (value f y)) (word (value g y)) (f b) (g b)
      (again (value f x) (value g x) (f b) (g b) (adds_shift a (λ j m. s j (or_second (mentions j c) _ (or_first (mentions j x) (mentions j y) m)))))
      (again (value f y) (value g y) (f b) (g b) (adds_shift d (λ j m. s j (or_second (mentions j c) _ (or_second (mentions j x) (mentions j y) m))))))

-- ---- two that add: one takes a to v and y to z, the other a to y and v to w

pub shifts_commute : (a v z y w : ℕ) → Shift v z a y → Shift y w a v → z ≡ w
shifts_commute a v z y w (plain p q) (plain r s) = q ∙ r ∙ sym p ∙ sym s
shifts_commute a v z y w (plain p q) (by k r s) = q ∙ r ∙ sym (s ∙ ap (λ (n : ℕ). (word n + k) % 2 ^ 32) p)
shifts_commute a v z y w (by j p q) (plain r s) = q ∙ ap (λ (n : ℕ). (word n + j) % 2 ^ 32) r ∙ sym (s ∙ p)
shifts_commute a v z y w (by j p q) (by k r s) =
    let d : word v ≡ v = word_is v (omega arith) in
    let c : word y ≡ y = word_is y (omega arith) in
    omega arith
