use Rattle.lib_base.proofs.Prelude.{◌∙◌}
use Rattle.lib_bits.specs.Bits.{bit}
use Rattle.check_faults.proofs.RowLaws.{add_other, add_far, add_own, add_one_name}
use Rattle.check_faults.proofs.add_need.Goals as goal
use Rattle.check_faults.proofs.add_need.Goals.{else-j-n-via-then-j-n+else-j-but, else-j-n-via-else-j-n}

pub returns-in_default : goal.returns-in_default
returns-in_default c b = add_other _ _ _ b c.in_default.ensures _

pub returns-then-j-but : goal.returns-then-j-but
returns-then-j-but c b = c.insert.ensures b ∙ rw c.in-Some.ensures.1 (add_one_name _ _ c.args.x b c.in-Some.ensures.0 (rw c.in-Some.ensures.1 at c.if-j-n.true) (rw c.in-Some.ensures.1 at c.if-j-but.true) (bit c.args.set b))

pub returns : goal.returns
returns c b =
    elim c.else-j-n.branch [
      | else-j-n-via-then-j-n+else-j-but w ↦ add_own _ _ _ b (rw c.in-Some.ensures.1 at w.if-j-but.false) _
      | else-j-n-via-else-j-n w ↦ add_far _ _ _ b (rw c.in-Some.ensures.1 at w.if-j-n.false) _
    ]
