-- Two bytes in a row, where they fit.
use Rattle.lib_base.proofs.Prelude.{◌∙◌, sym, ◌+◌, [], ◌∷◌, arith}
use Rattle.sheet_write.proofs.Laws.{fits, handler_written}
use Rattle.sheet_write.proofs.put_handler.Goals as goal

pub returns : goal.returns
returns c =
    let a = c.args in
    handler_written a.out.now a.n a.event a.phase ∙ sym (fits a.out.now (a.n + 3) (a.event ∷ a.phase ∷ []) (omega arith))
