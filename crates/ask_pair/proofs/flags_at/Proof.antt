-- The sum is the definition's.
use Rattle.lib_base.proofs.Prelude.{rules, arith}
use Rattle.ask_pair.specs.Pair.{flags_at}
use Rattle.ask_pair.proofs.flags_at.Statement.{statement}
use Rattle.ask_pair.proofs.flags_at.Tie as tie

returns : tie.Need-returns
unfolding flags_at
returns c =
    let d = c.weight_of-d.ensures in
    let b3 = c.weight_of-c.ensures in
    let b2 = c.weight_of-b.ensures in
    let b1 = c.weight_of-a.ensures in
    (rw (d.0, b3.0, b2.0, b1.0), omega (arith, d.1, b3.1, b2.1, b1.1))

pub flags_at_spec : {M : Type 1} → statement M
flags_at_spec =
    tie.close
    (tie.spec (search rules) (search rules) (search rules) (search rules) (search rules) (search rules) (search rules) returns)
