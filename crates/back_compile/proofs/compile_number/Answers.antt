use Rattle.lib_base.proofs.Prelude.{refl}
use Rattle.back_compile.proofs.Judging.{judged_number}
use Rattle.back_compile.proofs.compile_number.Goals as goal

pub returns-in-Ok : goal.returns-in-Ok
returns-in-Ok c = judged_number _ _ _ _ c.in-Ok.ensures refl

pub returns-in-Err : goal.returns-in-Err
returns-in-Err c = judged_number _ _ _ _ c.in-Err.ensures c.number.ensures
