-- A header and the value behind it, where they fit.
use Rattle.lib_base.proofs.Prelude.{refl, ◌∙◌, sym, ◌+◌, length, arith}
use Rattle.std.proofs.lemmas.Slice.{put_mid-paste}
use Rattle.spec_language.specs.Grammar.{field}
use Rattle.sheet_write.proofs.Laws.{fits, value_pasted}
use Rattle.sheet_write.proofs.put_field.Goals as goal

pub returns : goal.returns
returns c =
    let a = c.args in
    put_mid-paste (a.n + 3) _ c.put_header.new.out _ a.value.now (length a.value.now) c.copy_from_slice.ensures.after (omega arith) refl
    ∙ rw c.put_header.ensures (value_pasted a.out.now a.n a.tag a.value.now (omega arith))
    ∙ sym (fits a.out.now a.n (field a.tag a.value.now) (omega arith))
