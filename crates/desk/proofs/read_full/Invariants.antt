-- What is read lies in the buffer; what is left to fill falls.
use Rattle.std.proofs.Common.{◌-◌, ◌≤◌, ◌<◌, ◌≡◌, ◌^◌, length}
use Rattle.desk.proofs.read_full.Given as goal

abbrev pub invariant-loop-done : goal.invariant-loop-done
invariant-loop-done l = record {
  same_length : length l.buf ≡ length l.initial.buf;
  in_bounds : l.done ≤ length l.buf;
  fits : length l.buf < 2 ^ 64;
}

abbrev pub decreases-loop-done : goal.decreases-loop-done
decreases-loop-done l = length l.buf - l.done
