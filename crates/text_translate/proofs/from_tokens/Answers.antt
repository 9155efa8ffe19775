-- Brackets that do not match, a fault, or a reading that leaves tokens over is 21; else the field is delivered, by the
-- reader's agreement with the definition.
use Rattle.text_translate.proofs.Balance.{unbalanced}
use Rattle.text_translate.proofs.Laws.{read_part, read_whole}
use Rattle.text_translate.proofs.from_tokens.Goals as goal

pub returns-then-not-balanced : goal.returns-then-not-balanced
returns-then-not-balanced c = unbalanced _ _ _ c.balanced.ensures c.if-not-balanced.true

pub returns-then-read-ts : goal.returns-then-read-ts
returns-then-read-ts c =
    let w = c.in-Some.ensures.read_within in
    read_part _ _ _ _ _ c.disjunction.ensures.reading _ c.in-Some.is w.1 c.if-read-ts.true

pub returns : goal.returns
returns c =
    read_whole _ _ _ _ _ c.disjunction.ensures.reading _ _ _ c.in-Some.is c.if-read-ts.false c.any_large.ensures c.put_result.ensures
