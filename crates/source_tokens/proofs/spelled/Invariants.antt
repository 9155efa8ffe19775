-- The bytes passed are the word's.
use Rattle.source_tokens.proofs.Spelling.{SpelledSoFar}
use Rattle.source_tokens.proofs.spelled.Given as goal

abbrev pub invariant-loop-i : goal.invariant-loop-i
invariant-loop-i l = SpelledSoFar l.text l.at l.n l.word l.i
