-- The bytes read the lowest first are, swapped, the definition's word.
use Rattle.std.proofs.Common.{◌+◌, ◌<◌, ℕ}
use Rattle.lib_base.proofs.Prelude.{arith, get_or}
use Rattle.lib_word.specs.Word.{get_at}
use Rattle.lib_word.proofs.Swap.{little, swap_little}
use Rattle.lib_word.proofs.get_little.Goals as goal

pub returns : goal.returns
unfolding get_at little
returns c =
    let small : (i : ℕ) → get_or c.args.bytes.now i 0 < 256 = λ i. omega (arith, c.type_inv.bytes i) in
    rw c.from_le_bytes.ensures
    (swap_little _ _ _ _ (small c.args.i) (small (c.args.i + 1)) (small (c.args.i + 2)))
