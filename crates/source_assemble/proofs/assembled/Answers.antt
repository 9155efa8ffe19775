-- Over 65,536 bytes the fault is told; else the first run answers, with a hint that can be used.
use Rattle.lib_base.proofs.Prelude.{refl, arith}
use Rattle.source_assemble.proofs.Answers.{zeros_low, long_answer, hint_usable}
use Rattle.source_assemble.proofs.assembled.Goals as goal

pub returns-then-text-gt-TEXT_BYTES : goal.returns-then-text-gt-TEXT_BYTES
returns-then-text-gt-TEXT_BYTES c =
    (record { a_place = omega arith; low = omega arith }, long_answer c.args.text.now c.args.buffer.now c.if-text-gt-TEXT_BYTES.true)

pub hint_of-hint-requires-clause-starts_len : goal.hint_of-hint-requires-clause-starts_len
hint_of-hint-requires-clause-starts_len c = (refl, zeros_low 65)

pub first_run-requires-clause-names_usable : goal.first_run-requires-clause-names_usable
first_run-requires-clause-names_usable c =
    hint_usable c.hint_of-hint.result.params c.hint_of-hint.result.count _ _ c.hint_of-hint.ensures.names_len_2 c.hint_of-hint.ensures.hint_usable
