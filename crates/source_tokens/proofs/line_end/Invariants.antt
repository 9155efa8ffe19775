-- The bytes passed are of the kind.
use Rattle.source_language.specs.Tokens.{in_comment}
use Rattle.source_tokens.proofs.Runs.{RunSoFar}
use Rattle.source_tokens.proofs.line_end.Given as goal

abbrev pub invariant-loop-i : goal.invariant-loop-i
invariant-loop-i l = RunSoFar in_comment l.text l.at l.i
