-- Which instructions may run. 01 "Why a call was turned down": foreign. Operations: see Instruction.antt.
use Rattle.std.specs.Prelude.{ℕ, Bool, true, false, ltb, leb, eqb}
use Rattle.lib_base.specs.Basics.{pick}
use Rattle.lib_signature.specs.Signature.{arity, last}

-- function f finds its arguments on a stack of depth d
unfoldable pub applies : ℕ → ℕ → Bool
applies f d = pick (eqb f 0) false (pick (ltb last f) false (leb (arity f) d))

-- not foreign: "an instruction not of this paper, with a slot above 63, or taking from an empty or adding to a full
-- stack"
unfoldable pub may_run : ℕ → ℕ → ℕ → Bool
may_run op s d =
    pick (ltb 63 s) false
    (pick (eqb op 0) false
    (pick (ltb op 5) true
    (pick (ltb op 8) (ltb d 64)
    (pick (eqb op 8) (applies s d)
    (pick (ltb op 11) (ltb 0 d)
    (eqb op 11))))))
