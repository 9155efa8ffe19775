-- The set gains j alone, and j only where it needs one of the others.
use Rattle.lib_base.proofs.Prelude.{◌∙◌, sym, refl, ap, Bool, true, false, ◌≡◌, ◌||◌, ◌&&◌, eqb}
use Rattle.lib_bits.specs.Bits.{bit}
use Rattle.lib_bits.proofs.BitLaws.{bit_none}
use Rattle.check_distance.proofs.add_leading.Goals as goal
use Rattle.check_distance.proofs.add_leading.Goals.{then-is_common, else-is_common}

pub returns : goal.returns
returns c x =
    c.union_of.ensures x
    ∙ ap (λ (b : Bool). bit c.args.set x || b)
    (elim c.if-is_common.branch [
      | then-is_common w ↦ ap (λ n. bit n x) w.own-is ∙ w.insert-own.ensures x ∙ rw (bit_none x, ← c.is_common.ensures, w.if-is_common.true) refl
      | else-is_common w ↦ ap (λ n. bit n x) w.own-is ∙ rw (bit_none x, ← c.is_common.ensures, w.if-is_common.false) refl
    ])
