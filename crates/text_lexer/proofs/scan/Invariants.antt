-- The tokens so far and those of the rest are the whole's.
use Rattle.std.proofs.Common.{◌-◌, length}
use Rattle.text_lexer.proofs.Laws.{Turn}
use Rattle.text_lexer.proofs.scan.Given as goal

abbrev pub invariant-loop-at : goal.invariant-loop-at
invariant-loop-at l = Turn l.text l.tokens l.at l.n

abbrev pub decreases-loop-at : goal.decreases-loop-at
decreases-loop-at l = length l.text - l.at
