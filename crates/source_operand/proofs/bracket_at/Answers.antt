-- Another byte behind the blanks and comments is no `[`.
use Rattle.lib_base.proofs.Prelude.{◌∙◌}
use Rattle.source_language.specs.Faults.{outside}
use Rattle.source_coding.specs.FaultWords.{fault_of}
use Rattle.source_operand.proofs.Leaves.{bracket_none}
use Rattle.source_operand.proofs.bracket_at.Goals as goal

pub returns-then-byte_at-ne91-clause-bracket_told : goal.returns-then-byte_at-ne91-clause-bracket_told
returns-then-byte_at-ne91-clause-bracket_told c =
    bracket_none _ _ _ c.pass_over-p.ensures (fault_of outside c.pass_over-p.result) (λ z. c.if-byte_at-ne91.true (c.byte_at.ensures ∙ z))
