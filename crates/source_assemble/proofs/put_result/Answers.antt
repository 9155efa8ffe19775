-- The lengths are judged in the order of `sheet_answer`; the copy is of the sheet's bytes.
use Rattle.lib_base.proofs.Prelude.{arith}
use Rattle.lib_base.proofs.Pick.{code}
use Rattle.source_assemble.proofs.Answers.{tells, copied}
use Rattle.source_language.specs.Faults.{long_sheet_fault, short_buffer_fault}
use Rattle.source_assemble.proofs.put_result.Goals as goal

pub returns-then-n-gt-SHEET_BYTES : goal.returns-then-n-gt-SHEET_BYTES
returns-then-n-gt-SHEET_BYTES c = (tells long_sheet_fault _ _ (omega arith) c.requires.text_len_bound, search code depth 12)

pub returns-then-buffer-n : goal.returns-then-buffer-n
returns-then-buffer-n c = (tells short_buffer_fault _ _ (omega arith) c.requires.text_len_bound, search code depth 12)

pub returns : goal.returns
returns c = (
  c.if-n-gt-SHEET_BYTES.false,
  copied c.args.text.now c.args.buffer.now c.args.out.now c.copy_from_slice.new.self c.args.n c.if-n-gt-SHEET_BYTES.false
      c.if-buffer-n.false c.copy_from_slice.ensures.after,
)
