use Rattle.lib_base.proofs.Prelude.{refl}
use Rattle.back_emit.proofs.WritingLaws.{wrote_one}
use Rattle.back_emit.proofs.Emitter.word.Goals as goal

pub returns : goal.returns
returns c = wrote_one c.put_word.ensures refl
