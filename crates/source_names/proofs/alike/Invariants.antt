-- Whether the bytes passed are the same, as `same_bytes` counts them up.
use Rattle.std.proofs.Common.{◌≡◌}
use Rattle.source_names.specs.Bytes.{same_bytes}
use Rattle.source_names.proofs.alike.Given as goal

abbrev pub invariant-loop-k : goal.invariant-loop-k
invariant-loop-k l = l.r ≡ same_bytes l.text l.p l.q l.k
