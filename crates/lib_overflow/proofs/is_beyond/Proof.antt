-- A number is beyond where it is above the largest or below the least: by its sign.
use mir.Syntax.{w64}
use mir.Facts.{to_z-of_z}
use Rattle.lib_overflow.proofs.Laws.{outside}
use Rattle.lib_overflow.proofs.is_beyond.Statement.{statement}
use Rattle.lib_overflow.proofs.is_beyond.Tie as tie

pub is_beyond_spec : {M : Type 1} → statement M
is_beyond_spec = tie.close (tie.spec (λ c. rw (to_z-of_z {w = w64} c.ranges.z) (outside c.args.z)))
