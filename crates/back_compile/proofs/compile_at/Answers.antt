-- Each answer of the judging is a branch of `compile_on`.
use Rattle.lib_base.proofs.Prelude.{◌∙◌, sym, ap, arith}
use Rattle.back_compile.specs.Compiled.{compiled}
use Rattle.back_compile.proofs.Judging.{not_passed}
use Rattle.back_compile.proofs.compile_at.Goals as goal

pub returns-in-Err : goal.returns-in-Err
returns-in-Err c = not_passed _ _ _ _ _ c.in-Err.ensures (omega arith) c.number-in-Err.ensures

pub write_table-requires-clause-planned : goal.write_table-requires-clause-planned
write_table-requires-clause-planned c = c.in-Ok.ensures.finding.planned

pub returns-in-Ok : goal.returns-in-Ok
returns-in-Ok c = ap (compiled 0) c.write_table.ensures ∙ sym (c.in-Ok.ensures.finding.compiles _ (omega arith))
