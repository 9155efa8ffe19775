-- A number that is no function's has no sign.
use Rattle.lib_base.proofs.Prelude.{inl, inr, arith}
use Rattle.source_terms.proofs.Writing.{wrote_none, wrote_as}
use Rattle.source_terms.proofs.Applied.{none_between}
use Rattle.source_terms.proofs.put_between.Goals as goal

pub returns-then-f-lt1 : goal.returns-then-f-lt1
returns-then-f-lt1 c = wrote_as (wrote_none _ c.requires) (none_between c.args.f (omega arith) (inl (omega arith)))

pub returns-else-f-lt14 : goal.returns-else-f-lt14
returns-else-f-lt14 c = wrote_as (wrote_none _ c.requires) (none_between c.args.f (omega arith) (inr (omega arith)))
