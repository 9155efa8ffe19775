-- Each arm's level is the rows'.
use Rattle.lib_base.proofs.Prelude.{arith, refl}
use Rattle.lib_base.proofs.Tools.{all_below}
use Rattle.lib_signature.specs.Signature.{level}
use Rattle.lib_signature.proofs.Laws.{level_at, level_in, level_out}
use Rattle.lib_signature.proofs.level_of.Goals as goal

pub returns-in-1 : goal.returns-in-1
unfolding all_below level_at level
returns-in-1 c = level_in 1 1 6 _ (omega arith) (omega arith) (omega arith) refl

pub returns-in-2 : goal.returns-in-2
unfolding all_below level_at level
returns-in-2 c = level_in 2 2 5 _ (omega arith) (omega arith) (omega arith) refl

pub returns-in-4 : goal.returns-in-4
unfolding all_below level_at level
returns-in-4 c = level_in 4 5 2 _ (omega arith) (omega arith) (omega arith) refl

pub returns-in-6 : goal.returns-in-6
unfolding all_below level_at level
returns-in-6 c = level_in 6 7 1 _ (omega arith) (omega arith) (omega arith) refl

pub returns-in-8 : goal.returns-in-8
unfolding all_below level_at level
returns-in-8 c = level_in 8 11 3 _ (omega arith) (omega arith) (omega arith) refl

pub returns-in-12 : goal.returns-in-12
unfolding all_below level_at level
returns-in-12 c = level_in 12 13 4 _ (omega arith) (omega arith) (omega arith) refl

pub returns-in_default : goal.returns-in_default
returns-in_default c = level_out _ (omega arith) (omega arith) (λ h. omega arith)

pub returns-in_default-2 : goal.returns-in_default-2
returns-in_default-2 c = level_out _ (omega arith) (omega arith) (λ h. omega arith)
