-- compile's number, where it is not 0; else what is delivered.
use Rattle.lib_base.proofs.Prelude.{◌∙◌, sym}
use Rattle.source_describe.proofs.Texts.{describe_refused}
use Rattle.source_describe.proofs.describe_at.Goals as goal

pub returns-then-number-ne0 : goal.returns-then-number-ne0
returns-then-number-ne0 c = describe_refused _ _ _ c.compile_number-number.ensures c.if-number-ne0.true

pub put_result-requires : goal.put_result-requires
put_result-requires c = sym c.compile_number-number.ensures ∙ c.if-number-ne0.false
