-- The exact sum, difference, product, quotient and order of two words, in natural numbers: by the cases of the two
-- signs (`View`), each by `omega`.
use Rattle.lib_base.proofs.Prelude.{ℕ, ◌≤◌, ◌<◌, ◌+◌, ◌-◌, suc, zero, ◌*◌, ◌%◌, ◌^◌, ◌≡◌, refl, ◌∙◌, sym, ap, true}
use Rattle.lib_base.proofs.Prelude.{false, Bool, ◌||◌, ◌&&◌, not, eqb, ltb, ne_eqb, le-ltb, lt-ltb, eq-eqb, ltb-false}
use Rattle.lib_base.proofs.Prelude.{ltb-true, arith}
use Rattle.std.proofs.Common.{cond, ℤ, pos, negsuc, ◌+ℤ◌, ◌-ℤ◌, ◌*ℤ◌, neg_ℤ}
use mathlib.Core.Bool.{not-not}
use lib.IntN.{sub_ℕ}
use lib.Signed.{lt_z}
use Rattle.lib_base.specs.Basics.{pick}
use Rattle.lib_arith.specs.Exact.{signed, wrapped, beyond}
use Rattle.lib_arith.specs.Marked.{reported}
use Rattle.lib_arith.specs.Functions.{is_true, truth}
use Rattle.lib_arith.proofs.ArithLaws.{wrapped_signed, is_true_signed, word_within}

-- a word below 2^31 is itself, and another -(x + 1), with x + a = 2^32 - 1
pub data View (a : ℕ) : ℤ → Type 0 where
  low : a < 2 ^ 31 → View a (pos a)
  high : (x : ℕ) → x + a ≡ 2 ^ 32 - 1 → 2 ^ 31 ≤ a → View a (negsuc x)

pub view : (a : ℕ) → a < 2 ^ 32 → View a (signed a)
view a h = go (ltb a (2 ^ 31)) refl
  where
    go : (t : Bool) → ltb a (2 ^ 31) ≡ t → View a (pick t (pos a) (negsuc (2 ^ 32 - 1 - a)))
    go true e = low (ltb-true a (2 ^ 31) e)
    go false e = high (2 ^ 32 - 1 - a) (omega arith) (ltb-false a (2 ^ 31) e)

difference : (a b r : ℕ) → r < 2 ^ 32 → (r + b) % 2 ^ 32 ≡ a % 2 ^ 32 → r ≡ wrapped (sub_ℕ a b)
difference a b r h e = go (ltb a b) refl
  where
    go : (t : Bool) → ltb a b ≡ t → r ≡ wrapped (cond t (negsuc (b - suc a)) (pos (a - b)))
    go true t = omega (arith, ltb-true a b t)
    go false t = omega (arith, ltb-false a b t)

pub negative : (n r : ℕ) → r < 2 ^ 32 → (r + n) % 2 ^ 32 ≡ 0 → r ≡ wrapped (neg_ℤ (pos n))
negative zero r h e = omega arith
negative (suc n) r h e = omega arith

pub sum : {a b : ℕ} {z w : ℤ} → View a z → View b w → (r : ℕ) → r ≡ (a + b) % 2 ^ 32 → r ≡ wrapped (z +ℤ w)
sum (low p) (low q) r e = e
sum {a} (low p) (high y f _) r e = difference a (suc y) r (omega arith) (omega arith)
sum {b} (high x f _) (low q) r e = difference b (suc x) r (omega arith) (omega arith)
sum (high x f _) (high y g _) r e = omega arith

pub less : {a b : ℕ} {z w : ℤ} → View a z → View b w → (r : ℕ) → r < 2 ^ 32 → (r + b) % 2 ^ 32 ≡ a → r ≡ wrapped (z -ℤ w)
less {a} {b = zero} (low p) (low q) r h e = omega arith
less {a} {b = suc b} (low p) (low q) r h e = difference a (suc b) r h (omega arith)
less (low p) (high y g _) r h e = omega arith
less {b = zero} (high x f _) (low q) r h e = difference 0 (suc x) r h (omega arith)
less {b = suc b} (high x f _) (low q) r h e = omega arith
less (high x f _) (high y g _) r h e = difference (suc y) (suc x) r h (omega arith)

-- the product of the opposites of two words differs from the words' product by multiples of 2^32
opposite : (a b x y : ℕ) → x + a ≡ 2 ^ 32 - 1 → y + b ≡ 2 ^ 32 - 1 → a * b + 2 ^ 32 * (y + 1) ≡ suc x * suc y + 2 ^ 32 * a
opposite a b x y f g = omega (arith, ap (λ (k : ℕ). a * k) g, ap (λ (k : ℕ). k * y) f)

same_rest : (m n j k : ℕ) → m + 2 ^ 32 * j ≡ n + 2 ^ 32 * k → m % 2 ^ 32 ≡ n % 2 ^ 32
same_rest m n j k e = omega arith

pub product : {a b : ℕ} {z w : ℤ} → View a z → View b w → (r : ℕ) → r ≡ (a * b) % 2 ^ 32 → r ≡ wrapped (z *ℤ w)
product (low p) (low q) r e = e
product {a} {b} (low p) (high y g _) r e = negative (a * suc y) r (omega arith) (omega (arith, ap (λ (k : ℕ). a * k) g))
product {a} {b} (high x f _) (low q) r e = negative (suc x * b) r (omega arith) (omega (arith, ap (λ (k : ℕ). k * b) f))
product {a} {b} (high x f _) (high y g _) r e = e ∙ same_rest (a * b) (suc x * suc y) (y + 1) a (opposite a b x y f g)

turned : (a b x y : ℕ) → x + a ≡ y + b → ltb a b ≡ ltb y x
turned a b x y e = go (ltb a b) refl
  where
    go : (t : Bool) → ltb a b ≡ t → t ≡ ltb y x
    go true t = sym (lt-ltb y x (omega (arith, ltb-true a b t)))
    go false t = sym (le-ltb y x (omega (arith, ltb-false a b t)))

-- two words are equal when neither is below the other
by_order_law : (a b : ℕ) → eqb a b ≡ not (ltb a b) && not (ltb b a)
by_order_law a b = go (ltb a b) (ltb b a) refl refl
  where
    go : (t u : Bool) → ltb a b ≡ t → ltb b a ≡ u → eqb a b ≡ not t && not u
    go true u e f = ne_eqb a b (omega (arith, ltb-true a b e))
    go false true e f = ne_eqb a b (omega (arith, ltb-true b a f))
    go false false e f = eq-eqb a b (omega (arith, ltb-false a b e, ltb-false b a f))

pub same_words : {a b : ℕ} {z w : ℤ} → View a z → View b w → eqb a b ≡ not (lt_z z w) && not (lt_z w z)
same_words {a} {b} (low p) (low q) = by_order_law a b
same_words {a} {b} (low p) (high y g n) = ne_eqb a b (omega arith)
same_words {a} {b} (high x f n) (low q) = ne_eqb a b (omega arith)
same_words {a} {b} (high x f n) (high y g o) = rw (← turned a b x y (omega arith), ← turned b a y x (omega arith)) (by_order_law a b)

both_no : (t u : Bool) → not (not t && not u) ≡ t || u
both_no true u = refl
both_no false true = refl
both_no false false = refl

pub other_words : {a b : ℕ} {z w : ℤ} → View a z → View b w → not (eqb a b) ≡ lt_z z w || lt_z w z
other_words {z = z} {w = w} v u = ap not (same_words v u) ∙ both_no (lt_z z w) (lt_z w z)

-- what a word stands for, reported, is the word with no mark
word_reported : (a : ℕ) → a < 2 ^ 32 → a ≡ reported (signed a)
word_reported a h = rw (word_within a h) (sym (wrapped_signed a h))

-- `||`, `&&`, `!` and `if` by the first word's being 0
pub or_first_false : (a b r : ℕ) → a ≡ 0 → r ≡ reported (truth (not (eqb b 0))) → r ≡ reported (truth (is_true (signed a) || is_true (signed b)))
or_first_false a b r e p = rw (is_true_signed a, is_true_signed b, eq-eqb a 0 e) p

pub or_first_true : (a b : ℕ) → (a ≡ 0 → ⊥) → 1 ≡ reported (truth (is_true (signed a) || is_true (signed b)))
unfolding beyond
or_first_true a b n = rw (is_true_signed a, ne_eqb a 0 n)

pub and_first_false : (a b : ℕ) → a ≡ 0 → 0 ≡ reported (truth (is_true (signed a) && is_true (signed b)))
unfolding beyond
and_first_false a b e = rw (is_true_signed a, eq-eqb a 0 e)

pub and_first_true : (a b r : ℕ) → (a ≡ 0 → ⊥) → r ≡ reported (truth (not (eqb b 0))) → r ≡ reported (truth (is_true (signed a) && is_true (signed b)))
and_first_true a b r n p = rw (is_true_signed a, is_true_signed b, ne_eqb a 0 n) p

pub not_of : (a : ℕ) → eqb a 0 ≡ not (is_true (signed a))
not_of a = rw (is_true_signed a) (sym (not-not (eqb a 0)))

pub third_if : (a b c : ℕ) → a ≡ 0 → c < 2 ^ 32 → c ≡ reported (pick (is_true (signed a)) (signed b) (signed c))
third_if a b c e h = rw (is_true_signed a, eq-eqb a 0 e) (word_reported c h)

pub second_if : (a b c : ℕ) → (a ≡ 0 → ⊥) → b < 2 ^ 32 → b ≡ reported (pick (is_true (signed a)) (signed b) (signed c))
second_if a b c n h = rw (is_true_signed a, ne_eqb a 0 n) (word_reported b h)
