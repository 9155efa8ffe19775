-- What the loop keeps is what a hint promises.
use Rattle.lib_base.proofs.Prelude.{◌≡◌, length}
use Rattle.source_hint.proofs.Laws.{Scanned}
use Rattle.source_hint.proofs.hint_of.Given as goal

abbrev pub invariant-loop-i : goal.invariant-loop-i
invariant-loop-i l = Scanned (length l.text) l.names l.starts l.hint.params l.hint.count l.cells l.at × (l.hint.count ≡ l.i)
