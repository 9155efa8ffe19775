use Rattle.lib_base.proofs.Prelude.{refl}
use Rattle.source_pen.proofs.Pens.{byte_past, byte_put}
use Rattle.source_pen.proofs.Pen.byte.Goals as goal
use Rattle.source_pen.proofs.Pen.byte.Goals.{then-self, else-self}

pub returns : goal.returns
returns c = elim c.if-self.branch [
  | then-self w ↦ rw w.self-is (byte_put _ _ _ w.if-self.true refl refl refl refl)
  | else-self w ↦ rw w.self-is (byte_past _ _ _ w.if-self.false refl refl refl)
]
