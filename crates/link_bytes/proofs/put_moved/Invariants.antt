-- The bytes that are passed stand in the buffer, their names moved up (`Moving`).
use Rattle.link_bytes.proofs.Laws.{Moving}
use Rattle.link_bytes.proofs.put_moved.Given as goal

abbrev pub invariant-loop-b : goal.invariant-loop-b
invariant-loop-b l = Moving l.b-items l.fn.out l.out l.m l.k l.b-index l.to l.scanner.tag l.scanner.left
