use Rattle.lib_base.proofs.Prelude.{refl, arith}
use Rattle.back_compile.proofs.ReadIs.{all_bytes}
use Rattle.source_describe.proofs.Texts.{describe_short, describe_done, describe_whole}
use Rattle.source_describe.proofs.put_result.Goals as goal

pub returns-then-buffer-ge-TEXT_BYTES-clause-answer : goal.returns-then-buffer-ge-TEXT_BYTES-clause-answer
returns-then-buffer-ge-TEXT_BYTES-clause-answer c =
    let sheet = c.args.sheet.now in
    describe_whole sheet (all_bytes sheet (λ i h. omega (arith, c.type_inv.sheet i))) refl c.requires c.args.buffer.now
    (omega (arith, c.if-buffer-ge-TEXT_BYTES.true)) c.put_text-size.ensures.text

pub returns-then-buffer-size-clause-answer : goal.returns-then-buffer-size-clause-answer
returns-then-buffer-size-clause-answer c =
    let sheet = c.args.sheet.now in
    describe_short sheet (all_bytes sheet (λ i h. omega (arith, c.type_inv.sheet i))) refl c.requires c.args.buffer.now
    c.put_text-size-2.ensures.text c.if-buffer-size.true

pub returns-clause-answer : goal.returns-clause-answer
returns-clause-answer c =
    let sheet = c.args.sheet.now in
    describe_done sheet (all_bytes sheet (λ i h. omega (arith, c.type_inv.sheet i))) refl c.requires c.args.buffer.now
    c.put_text-size-2.ensures.text c.if-buffer-size.false c.put_text.ensures.text
