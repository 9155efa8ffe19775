-- The bytes before place b-index are written.
use Rattle.lib_base.proofs.Prelude.{take}
use Rattle.source_pen.specs.Written.{Penned}
use Rattle.source_pen.proofs.Pen.bytes.Given as goal

abbrev pub invariant-loop-b : goal.invariant-loop-b
invariant-loop-b l = Penned l.fn.self l.self (take l.b-index l.text)
