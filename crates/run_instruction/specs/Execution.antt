-- One instruction with the evaluation stack's depth by value: what `perform` does but for the depth's word, which the
-- caller writes. 01 "Handlers and steps".
use Rattle.std.specs.Prelude.{ℕ, ◌+◌, ◌-◌, ◌/◌, ◌%◌, List, ltb, eqb}
use Rattle.lib_base.specs.Basics.{pick}
use Rattle.lib_word.specs.Word.{get, put}
use Rattle.lib_signature.specs.Numbers.{not_fn, if_fn}
use Rattle.lib_arith.specs.Functions.{result_of, over}
use Rattle.run_instruction.specs.Stack.{noted}
use Rattle.run_instruction.specs.Allowed.{may_run}
use Rattle.run_instruction.specs.Instruction.{transfer}

-- the stack's depth after an instruction, and the round's bytes but for that depth's word
abbrev pub Left : Type 0
Left = ℕ × List ℕ

abbrev pub left : ℕ → List ℕ → Left
left d l = (d, l)

-- the depth of an instruction that may not run: one that no stack has, 2^32 - 1
abbrev pub none : ℕ
none = 4294967295

-- v on top of a stack of depth d; the top of one to word k
unfoldable pub pushed_on : List ℕ → ℕ → ℕ → Left
pushed_on l d v = pick (ltb d 64) (d + 1, put l (328 + d) v) (none, l)

unfoldable pub popped_to : List ℕ → ℕ → ℕ → Left
popped_to l d k = pick (ltb 0 d) (d - 1, put l k (get l (327 + d))) (none, l)

-- function f on its arguments a, b and c: its result in word k, and the mark where it runs over
unfoldable pub called : List ℕ → ℕ → ℕ → ℕ → ℕ → ℕ → List ℕ
called l k f a b c = put (noted l (over f a b c)) k (result_of f a b c)

-- on the one, two or three values on top of a stack of depth d
unfoldable pub applied_one : List ℕ → ℕ → ℕ → Left
applied_one l d f = pick (ltb d 1) (none, l) (d, called l (327 + d) f (get l (327 + d)) 0 0)

unfoldable pub applied_two : List ℕ → ℕ → ℕ → Left
applied_two l d f = pick (ltb d 2) (none, l) (d - 1, called l (326 + d) f (get l (326 + d)) (get l (327 + d)) 0)

unfoldable pub applied_three : List ℕ → ℕ → ℕ → Left
applied_three l d f =
    pick (ltb d 3) (none, l) (d - 2, called l (325 + d) f (get l (325 + d)) (get l (326 + d)) (get l (327 + d)))

unfoldable pub applied_on : List ℕ → ℕ → ℕ → Left
applied_on l d f = pick (eqb f not_fn) (applied_one l d f) (pick (eqb f if_fn) (applied_three l d f) (applied_two l d f))

-- operation op that applies no function, with slot s and constant w
unfoldable pub moved_word : List ℕ → ℕ → ℕ → ℕ → ℕ → Left
moved_word l op s w d =
    pick (eqb op 1) (d, l)
    (pick (eqb op 2) (d, l)
    (pick (eqb op 3) (d, transfer l (136 + s) (200 + s))
    (pick (eqb op 4) (d, transfer l (200 + s) (136 + s))
    (pick (eqb op 5) (pushed_on l d w)
    (pick (eqb op 6) (pushed_on l d (get l (136 + s)))
    (pick (eqb op 7) (pushed_on l d (get l (200 + s)))
    (pick (eqb op 9) (popped_to l d (200 + s))
    (pick (eqb op 10) (popped_to l d (264 + s))
    (pick (eqb op 11) (d, transfer l (264 + s) (200 + s))
    (none, l))))))))))

unfoldable pub moved_in : List ℕ → ℕ → ℕ → ℕ → ℕ → Left
moved_in l op s w d = pick (ltb 63 s) (none, l) (moved_word l op s w d)

-- the instruction of first word a and constant w, on a stack of depth d: what is done where it may run
unfoldable pub operated : List ℕ → ℕ → ℕ → ℕ → ℕ → Left
operated l op s w d = pick (eqb op 8) (applied_on l d s) (moved_word l op s w d)

unfoldable pub executed : List ℕ → ℕ → ℕ → ℕ → Left
executed l a w d = pick (may_run (a / 256) (a % 256) d) (operated l (a / 256) (a % 256) w d) (none, l)
