-- One instruction on the round's bytes (layout: crate format_layout). 01 "Handlers and steps". Operations: 1 off, 2 on,
-- 3 copy, 4 restore, 5 push, 6 load, 7 fetch, 8 apply (its slot is the function), 9 save, 10 defer, 11 move.
use Rattle.std.specs.Prelude.{ℕ, ◌+◌, List, eqb}
use Rattle.lib_base.specs.Basics.{pick}
use Rattle.lib_word.specs.Word.{get, put}
use Rattle.run_instruction.specs.Stack.{push_on, pop_to, apply_on}

-- word k to word j
unfoldable pub transfer : List ℕ → ℕ → ℕ → List ℕ
transfer l k j = put l j (get l k)

-- operation op with slot s and constant w, on a stack of depth d
unfoldable pub perform : List ℕ → ℕ → ℕ → ℕ → ℕ → List ℕ
perform l op s w d =
    pick (eqb op 3) (transfer l (136 + s) (200 + s))
    (pick (eqb op 4) (transfer l (200 + s) (136 + s))
    (pick (eqb op 5) (push_on l d w)
    (pick (eqb op 6) (push_on l d (get l (136 + s)))
    (pick (eqb op 7) (push_on l d (get l (200 + s)))
    (pick (eqb op 8) (apply_on l d s)
    (pick (eqb op 9) (pop_to l d (200 + s))
    (pick (eqb op 10) (pop_to l d (264 + s))
    (pick (eqb op 11) (transfer l (264 + s) (200 + s))
    l))))))))
