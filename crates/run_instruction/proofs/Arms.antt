-- An instruction's definition, arm by arm of the code: a function's application is asked for its arguments, and what
-- applies no function may run just where its own test passes. By the operation.
use Rattle.lib_base.proofs.Prelude.{ℕ, ◌≤◌, ◌<◌, ◌+◌, ◌-◌, ◌%◌, ◌/◌, ◌≡◌, refl, ◌∙◌, true, false, Bool, ◌≢◌, ◌⊎◌}
use Rattle.lib_base.proofs.Prelude.{⊎_elim, inr, inl, List, eqb, ltb, leb, ne_eqb, eqb-true, le-ltb, lt-ltb, ltb-false}
use Rattle.lib_base.proofs.Prelude.{eqb-false, ltb-true, lt-leb, le-leb, arith}
use Rattle.lib_base.specs.Basics.{pick}
use Rattle.lib_base.proofs.Tools.{split}
use Rattle.lib_word.specs.Word.{get, put}
use Rattle.lib_signature.specs.Signature.{arity, last}
use Rattle.lib_signature.specs.Numbers.{not_fn, if_fn}
use Rattle.lib_arith.specs.Functions.{result_of, over}
use Rattle.run_instruction.specs.Stack.{noted}
use Rattle.run_instruction.specs.Allowed.{applies, may_run}
use Rattle.run_instruction.specs.Execution.{Left, left, none, pushed_on, popped_to, called, applied_one, applied_two, applied_three, applied_on, moved_word, moved_in, operated, executed}

-- k values are asked for
asks : (k d : ℕ) (x n : Left) → pick (ltb d k) n x ≡ pick (leb k d) (pick (ltb d k) n x) n
asks k d x n = split (ltb d k) (λ e. rw (e, lt-leb k d (ltb-true d k e))) (λ e. rw (e, le-leb k d (ltb-false d k e)))

twice : (b : Bool) (x n : Left) → pick b x n ≡ pick b (pick b x n) n
twice true x n = refl
twice false x n = refl

-- what applies no function
module _ (l : List ℕ) (s w d : ℕ) where
  abbrev May : ℕ → Bool
  May op = pick (eqb op 0) false (pick (ltb op 5) true (pick (ltb op 8) (ltb d 64) (pick (eqb op 8) (applies s d) (pick (ltb op 11) (ltb 0 d) (eqb op 11)))))

  abbrev Goal : ℕ → Type 0
  Goal op = moved_word l op s w d ≡ pick (May op) (operated l op s w d) (none, l)

  high : (op : ℕ) → 12 ≤ op → Goal op
  unfolding moved_word operated
  high op h =
      rw (
        ne_eqb op 0 (omega arith),
        ne_eqb op 1 (omega arith),
        ne_eqb op 2 (omega arith),
        ne_eqb op 3 (omega arith),
        ne_eqb op 4 (omega arith),
        ne_eqb op 5 (omega arith),
        ne_eqb op 6 (omega arith),
        ne_eqb op 7 (omega arith),
        ne_eqb op 8 (omega arith),
        ne_eqb op 9 (omega arith),
        ne_eqb op 10 (omega arith),
        ne_eqb op 11 (omega arith),
        le-ltb op 5 (omega arith),
        le-ltb op 8 (omega arith),
        le-ltb op 11 (omega arith),
      )

  still : (op : ℕ) → op ≤ 4 → Goal op
  unfolding moved_word operated
  still op h =
      split (eqb op 0) (λ e. rw (eqb-true op 0 e))
      (λ a. split (eqb op 1) (λ e. rw (eqb-true op 1 e))
      (λ b. split (eqb op 2) (λ e. rw (eqb-true op 2 e))
      (λ c. split (eqb op 3) (λ e. rw (eqb-true op 3 e))
      (λ f. let q : op ≡ 4 = omega (arith, eqb-false op 0 a, eqb-false op 1 b, eqb-false op 2 c, eqb-false op 3 f) in rw q))))

  push_like : (op : ℕ) → 5 ≤ op → op ≤ 7 → Goal op
  unfolding moved_word operated pushed_on
  push_like op h k =
      split (eqb op 5) (λ e. rw (eqb-true op 5 e) (twice (ltb d 64) _ _))
      (λ a. split (eqb op 6) (λ e. rw (eqb-true op 6 e) (twice (ltb d 64) _ _))
      (λ b. let q : op ≡ 7 = omega (arith, eqb-false op 5 a, eqb-false op 6 b) in rw q (twice (ltb d 64) _ _)))

  middle : (op : ℕ) → 8 ≤ op → op < 12 → (op ≡ 8 → applies s d ≡ false) → Goal op
  unfolding moved_word operated popped_to
  middle op h below k =
      split (eqb op 8) (λ e. let q = eqb-true op 8 e in rw (q, k q))
      (λ a. split (eqb op 9) (λ e. rw (eqb-true op 9 e) (twice (ltb 0 d) _ _))
      (λ b. split (eqb op 10) (λ e. rw (eqb-true op 10 e) (twice (ltb 0 d) _ _))
      (λ c. let q : op ≡ 11 = omega (arith, eqb-false op 8 a, eqb-false op 9 b, eqb-false op 10 c) in rw q)))

  each : (op : ℕ) → (op ≡ 8 → applies s d ≡ false) → Goal op
  each op k =
      split (ltb op 5) (λ e. still op (omega (arith, ltb-true op 5 e)))
      (λ g. split (ltb op 8) (λ e. push_like op (ltb-false op 5 g) (omega (arith, ltb-true op 8 e)))
      (λ e. split (ltb op 12) (λ f. middle op (ltb-false op 8 e) (ltb-true op 12 f) k) (λ f. high op (ltb-false op 12 f))))

  plain : (op : ℕ) → (op ≡ 8 → applies s d ≡ false) → moved_in l op s w d ≡ pick (may_run op s d) (operated l op s w d) (none, l)
  unfolding moved_in may_run
  plain op k = split (ltb 63 s) (λ e. rw e) (λ e. rw e (each op k))

-- ---- the code's arms

-- no function has another number
no_function : (s d : ℕ) → (s ≡ 0) ⊎ (last < s) → applies s d ≡ false
unfolding applies
no_function s d h = ⊎_elim (λ e. rw e) (λ b. rw (ne_eqb s 0 (omega arith), lt-ltb last s b)) h

abbrev Outside : ℕ → ℕ → Type 0
Outside a k = (a ≤ 2048) ⊎ (k ≤ a)

next : (a k : ℕ) → a ≢ k → Outside a k → Outside a (k + 1)
next a k n h = ⊎_elim (λ p. inl p) (λ p. inr (omega arith)) h

first : (a : ℕ) → Outside a 2049
first a = split (ltb 2048 a) (λ e. inr (omega (arith, ltb-true 2048 a e))) (λ e. inl (ltb-false 2048 a e))

outside : (a : ℕ) → Outside a 2063 → a / 256 ≡ 8 → (a % 256 ≡ 0) ⊎ (last < a % 256)
outside a h e = ⊎_elim (λ p. inl (omega arith)) (λ p. inr (omega arith)) h

-- a word that is no function's
pub other : (l : List ℕ) (a w d : ℕ) → a ≢ 2049 → a ≢ 2050 → a ≢ 2051 → a ≢ 2052 → a ≢ 2053 → a ≢ 2054 → a ≢ 2055 → a ≢ 2056 → a ≢ 2057 → a ≢ 2058
    → a ≢ 2059 → a ≢ 2060 → a ≢ 2061 → a ≢ 2062 → {x : Left} → x ≡ moved_in l (a / 256) (a % 256) w d → x ≡ executed l a w d
unfolding executed
other l a w d n1 n2 n3 n4 n5 n6 n7 n8 n9 n10 n11 n12 n13 n14 e =
    let o1 = next a 2051 n3 (next a 2050 n2 (next a 2049 n1 (first a))) in
    let o2 = next a 2055 n7 (next a 2054 n6 (next a 2053 n5 (next a 2052 n4 o1))) in
    let o3 = next a 2059 n11 (next a 2058 n10 (next a 2057 n9 (next a 2056 n8 o2))) in
    let o4 = next a 2062 n14 (next a 2061 n13 (next a 2060 n12 o3)) in
    e ∙ plain l (a % 256) w d (a / 256) (λ q. no_function (a % 256) d (outside a o4 q))

-- a slot that is none of the 64, and one that is
pub high_slot : (l : List ℕ) (op s w d : ℕ) → 64 ≤ s → (none, l) ≡ moved_in l op s w d
unfolding moved_in
high_slot l op s w d h = rw (lt-ltb 63 s (omega arith))

pub low_slot : (l : List ℕ) (op s w d : ℕ) {x : Left} → s < 64 → x ≡ moved_word l op s w d → x ≡ moved_in l op s w d
unfolding moved_in
low_slot l op s w d h e = rw (le-ltb 63 s (omega arith)) e

-- an operation that is none of those
pub no_move : (l : List ℕ) (op s w d : ℕ) → op ≢ 1 → op ≢ 2 → op ≢ 3 → op ≢ 4 → op ≢ 5 → op ≢ 6 → op ≢ 7 → op ≢ 9 → op ≢ 10 → op ≢ 11
    → (none, l) ≡ moved_word l op s w d
unfolding moved_word
no_move l op s w d a b c e f g h i j k =
    rw (
      ne_eqb op 1 a,
      ne_eqb op 2 b,
      ne_eqb op 3 c,
      ne_eqb op 4 e,
      ne_eqb op 5 f,
      ne_eqb op 6 g,
      ne_eqb op 7 h,
      ne_eqb op 9 i,
      ne_eqb op 10 j,
      ne_eqb op 11 k,
    )

-- ---- what the parts do

module _ (l : List ℕ) (d : ℕ) where
  pub pushes : (v : ℕ) {m : List ℕ} → d < 64 → m ≡ put l (328 + d) v → left (d + 1) m ≡ pushed_on l d v
  unfolding pushed_on
  pushes v h e = rw (lt-ltb d 64 h, e)

  pub full : (v : ℕ) → 64 ≤ d → left none l ≡ pushed_on l d v
  unfolding pushed_on
  full v h = rw (le-ltb d 64 h)

  pub pops : (k v : ℕ) {m : List ℕ} → 0 < d → v ≡ get l (327 + d) → m ≡ put l k v → left (d - 1) m ≡ popped_to l d k
  unfolding popped_to
  pops k v h e f = rw (lt-ltb 0 d h, f, e)

  pub empty : (k : ℕ) → d ≤ 0 → left none l ≡ popped_to l d k
  unfolding popped_to
  empty k h = rw (le-ltb 0 d h)

  module _ (f : ℕ) where
    pub applies_one : {m n : List ℕ} {x v : ℕ} → 1 ≤ d → x ≡ get l (327 + d) → v ≡ result_of f x 0 0 → m ≡ noted l (over f x 0 0) → n ≡ put m (327 + d) v
        → left d n ≡ applied_one l d f
    unfolding applied_one called
    applies_one h e g i j = rw (le-ltb d 1 h, j, i, g, e)

    pub applies_two : {m n : List ℕ} {x y v : ℕ} → 2 ≤ d → x ≡ get l (326 + d) → y ≡ get l (327 + d) → v ≡ result_of f x y 0 → m ≡ noted l (over f x y 0)
        → n ≡ put m (326 + d) v → left (d - 1) n ≡ applied_two l d f
    unfolding applied_two called
    applies_two h e k g i j = rw (le-ltb d 2 h, j, i, g, e, k)

    pub applies_three : {m n : List ℕ} {x y z v : ℕ} → 3 ≤ d → x ≡ get l (325 + d) → y ≡ get l (326 + d) → z ≡ get l (327 + d) → v ≡ result_of f x y z
        → m ≡ noted l (over f x y z) → n ≡ put m (325 + d) v → left (d - 2) n ≡ applied_three l d f
    unfolding applied_three called
    applies_three h e k o g i j = rw (le-ltb d 3 h, j, i, g, e, k, o)

    pub too_few_one : d < 1 → left none l ≡ applied_one l d f
    unfolding applied_one
    too_few_one h = rw (lt-ltb d 1 h)

    pub too_few_two : d < 2 → left none l ≡ applied_two l d f
    unfolding applied_two
    too_few_two h = rw (lt-ltb d 2 h)

    pub too_few_three : d < 3 → left none l ≡ applied_three l d f
    unfolding applied_three
    too_few_three h = rw (lt-ltb d 3 h)

-- ---- a function's word

module _ (l : List ℕ) (a w d f : ℕ) (is : a ≡ 2048 + f) where
  operation : f < 256 → a / 256 ≡ 8
  operation h = omega arith

  slot : f < 256 → a % 256 ≡ f
  slot h = omega arith

  pub two_arguments : 0 < f → f ≤ last → f ≢ not_fn → f ≢ if_fn → {x : Left} → x ≡ applied_two l d f → x ≡ executed l a w d
  unfolding executed may_run applies arity operated applied_on applied_two
  two_arguments p q n m e =
      e
      ∙ rw (
        operation (omega arith),
        slot (omega arith),
        le-ltb 63 f (omega arith),
        ne_eqb f 0 (omega arith),
        le-ltb last f (omega arith),
        ne_eqb f not_fn n,
        ne_eqb f if_fn m,
      ) (asks 2 d (d - 1, called l (326 + d) f (get l (326 + d)) (get l (327 + d)) 0) (none, l))

pub one_argument : (l : List ℕ) (a w d : ℕ) → a ≡ 2051 → {x : Left} → x ≡ applied_one l d not_fn → x ≡ executed l a w d
unfolding executed may_run applies arity operated applied_on applied_one
one_argument l a w d is e = e ∙ rw is (asks 1 d (d, called l (327 + d) not_fn (get l (327 + d)) 0 0) (none, l))

pub three_arguments : (l : List ℕ) (a w d : ℕ) → a ≡ 2062 → {x : Left} → x ≡ applied_three l d if_fn → x ≡ executed l a w d
unfolding executed may_run applies arity operated applied_on applied_three
three_arguments l a w d is e =
    e ∙ rw is (asks 3 d (d - 2, called l (325 + d) if_fn (get l (325 + d)) (get l (326 + d)) (get l (327 + d))) (none, l))
