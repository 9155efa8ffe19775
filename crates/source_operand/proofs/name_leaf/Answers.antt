-- The field of a name is what its meaning says.
use Rattle.lib_base.proofs.Prelude.{refl, arith}
use Rattle.spec_language.specs.Grammar.{encode_expr}
use Rattle.source_operand.proofs.name_leaf.Goals as goal

pub returns-in-Parameter-clause-leaf_as : goal.returns-in-Parameter-clause-leaf_as
unfolding encode_expr
returns-in-Parameter-clause-leaf_as c =
    let h = rw c.in-Parameter.is at c.requires.meaning_within in
    rw c.in-Parameter.is (refl, omega arith)

pub returns-in-Behaviour-clause-leaf_as : goal.returns-in-Behaviour-clause-leaf_as
unfolding encode_expr
returns-in-Behaviour-clause-leaf_as c =
    let h = rw c.in-Behaviour.is at c.requires.meaning_within in
    rw c.in-Behaviour.is (refl, omega arith)

pub returns-in-Row-clause-leaf_as : goal.returns-in-Row-clause-leaf_as
unfolding encode_expr
returns-in-Row-clause-leaf_as c =
    let h = rw c.in-Row.is at c.requires.meaning_within in
    rw c.in-Row.is (refl, omega arith)
