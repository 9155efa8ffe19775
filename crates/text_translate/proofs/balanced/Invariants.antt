-- The rest is to match what is open so far; each token opens one bracket at the most.
use Rattle.std.proofs.Common.{◌≡◌, ◌+◌, ◌≤◌, drop}
use Rattle.text_translate.specs.Translate.{balanced_from}
use Rattle.text_translate.proofs.balanced.Given as goal

abbrev pub invariant-loop-t : goal.invariant-loop-t
invariant-loop-t l = (balanced_from (l.open + 1) (drop l.t-index l.ts) ≡ balanced_from 1 l.ts) × (l.open ≤ l.t-index)
