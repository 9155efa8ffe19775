-- One token of each kind.
use Rattle.source_pen.proofs.Pens.{one_token}
use Rattle.source_pen.proofs.Pen.put.Goals as goal

pub returns-in-Sign-clause-tokens : goal.returns-in-Sign-clause-tokens
returns-in-Sign-clause-tokens c = rw c.in-Sign.is (one_token _ c.put_sign.ensures.bytes)

pub returns-in-Number-clause-tokens : goal.returns-in-Number-clause-tokens
returns-in-Number-clause-tokens c = rw c.in-Number.is (one_token _ c.put_number.ensures.bytes)

pub returns-in-Name-clause-tokens : goal.returns-in-Name-clause-tokens
returns-in-Name-clause-tokens c = rw c.in-Name.is (one_token _ c.put_name.ensures.bytes)
