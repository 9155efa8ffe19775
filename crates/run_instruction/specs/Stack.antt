-- The evaluation stack in the round's bytes (layout: crate format_layout): its depth in word 6, its values from word
-- 328 on; and the mark in word 7. 01 "Handlers and steps", 02 M-104.
use Rattle.std.specs.Prelude.{ℕ, ◌+◌, ◌-◌, Bool, List, eqb}
use Rattle.lib_base.specs.Basics.{pick}
use Rattle.lib_word.specs.Word.{get, put}
use Rattle.lib_signature.specs.Numbers.{not_fn, if_fn}
use Rattle.lib_arith.specs.Functions.{result_of, over}

-- v on top of a stack of depth d
unfoldable pub push_on : List ℕ → ℕ → ℕ → List ℕ
push_on l d v = put (put l (328 + d) v) 6 (d + 1)

-- the top of a stack of depth d goes to word k
unfoldable pub pop_to : List ℕ → ℕ → ℕ → List ℕ
pop_to l d k = put (put l k (get l (327 + d))) 6 (d - 1)

-- the mark is set where m says so, and stays where it does not
unfoldable pub noted : List ℕ → Bool → List ℕ
noted l m = pick m (put l 7 1) l

-- function f takes its arguments from a stack of depth d, and puts its result; where it runs over, the mark is set
unfoldable pub apply_one : List ℕ → ℕ → ℕ → List ℕ
apply_one l d f = put (noted l (over f (get l (327 + d)) 0 0)) (327 + d) (result_of f (get l (327 + d)) 0 0)

unfoldable pub apply_two : List ℕ → ℕ → ℕ → List ℕ
apply_two l d f =
    put (put (noted l (over f (get l (326 + d)) (get l (327 + d)) 0)) (326 + d) (result_of f (get l (326 + d)) (get l (327 + d)) 0)) 6 (d - 1)

unfoldable pub apply_three : List ℕ → ℕ → ℕ → List ℕ
apply_three l d f =
    put (put (noted l (over f (get l (325 + d)) (get l (326 + d)) (get l (327 + d)))) (325 + d) (result_of f (get l (325 + d)) (get l (326 + d)) (get l (327 + d)))) 6
    (d - 2)

unfoldable pub apply_on : List ℕ → ℕ → ℕ → List ℕ
apply_on l d f = pick (eqb f not_fn) (apply_one l d f) (pick (eqb f if_fn) (apply_three l d f) (apply_two l d f))
