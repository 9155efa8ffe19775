-- How deep a stack is that holds a function's arguments, by the arity's cases; and what a function's answer says, by
-- its size.
use Rattle.lib_base.proofs.Prelude.{ℕ, ◌≤◌, ◌<◌, ◌-◌, ◌≡◌, refl, false, ◌≢◌, List, eqb, ne_eqb, arith}
use Rattle.lib_base.proofs.Tools.{split}
use Rattle.lib_word.specs.Word.{put}
use Rattle.lib_signature.specs.Signature.{arity}
use Rattle.lib_signature.specs.Numbers.{not_fn, if_fn}
use Rattle.lib_arith.specs.Functions.{result_of, over}
use Rattle.lib_arith.specs.Marked.{marked_result}
use Rattle.lib_arith.proofs.ArithLaws.{result_word, answer_low, answer_high}
use Rattle.run_instruction.specs.Stack.{noted}

pub arity_one : (f d : ℕ) → arity f ≤ d → 0 < d
unfolding arity
arity_one f d h =
    split (eqb f not_fn) (λ e. let k : 1 ≤ d = rw e at h in omega arith)
    (λ e. split (eqb f if_fn) (λ g. let k : 3 ≤ d = rw (e, g) at h in omega arith) (λ g. let k : 2 ≤ d = rw (e, g) at h in omega arith))

pub arity_two : (f d : ℕ) → arity f ≤ d → f ≢ not_fn → 1 < d
unfolding arity
arity_two f d h n =
    let e : eqb f not_fn ≡ false = ne_eqb f not_fn n in
    split (eqb f if_fn) (λ g. let k : 3 ≤ d = rw (e, g) at h in omega arith) (λ g. let k : 2 ≤ d = rw (e, g) at h in omega arith)

pub arity_three : (d : ℕ) → arity if_fn ≤ d → 2 < d
unfolding arity
arity_three d h = omega arith

-- an answer below 2^32 has no mark, and any other has one
pub unmarked : (l : List ℕ) (f a b c v : ℕ) → v ≡ marked_result f a b c → v < 4294967296 → (v ≡ result_of f a b c) × (l ≡ noted l (over f a b c))
unfolding noted
unmarked l f a b c v e h =
    let k = answer_low f a b c (rw e at h) in
    rw (e, k.1) (k.0, refl)

pub marked : (l : List ℕ) (f a b c v : ℕ) → v ≡ marked_result f a b c → 4294967296 ≤ v → (v - 4294967296 ≡ result_of f a b c) × (put l 7 1 ≡ noted l (over f a b c))
unfolding noted
marked l f a b c v e h =
    let k = answer_high f a b c (rw e at h) in
    rw (e, k.1) (k.0, refl)

-- what is left of it is a word
pub rest_word : (f a b c v : ℕ) → v ≡ marked_result f a b c → 4294967296 ≤ v → v - 4294967296 < 4294967296
rest_word f a b c v e h = rw (e, (answer_high f a b c (rw e at h)).0) (result_word f a b c)
