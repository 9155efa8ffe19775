-- Each return is one branch of `delivered`; the last has the field copied.
use Rattle.lib_base.proofs.Prelude.{refl, take-length}
use Rattle.lib_base.proofs.Pick.{code}
use Rattle.text_translate.proofs.Laws.{copied}
use Rattle.text_translate.specs.Translate.{delivered}
use Rattle.text_translate.proofs.put_result.Goals as goal

pub returns-then-large : goal.returns-then-large
unfolding delivered
returns-then-large c = search code depth 12

pub returns-then-depth-gt-NESTING : goal.returns-then-depth-gt-NESTING
unfolding delivered
returns-then-depth-gt-NESTING c = search code depth 12

pub returns-then-buffer-field : goal.returns-then-buffer-field
unfolding delivered
returns-then-buffer-field c = search code depth 12

pub returns : goal.returns
returns c =
    copied c.args.large c.args.depth c.args.field.now c.args.buffer.now _ c.if-large.false c.if-depth-gt-NESTING.false
    c.if-buffer-field.false (rw (c.copy_from_slice.ensures.after, take-length c.args.field.now) refl)
