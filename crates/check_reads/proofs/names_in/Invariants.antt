-- The names passed are in the set.
use Rattle.lib_base.proofs.Prelude.{◌+◌, false, get_or}
use Rattle.draft_form.specs.Draft.{used_by}
use Rattle.draft_form.specs.Entry.{entry_start}
use Rattle.check_reads.specs.Sets.{is_name}
use Rattle.check_reads.proofs.Gathering.{Gathered}
use Rattle.check_reads.proofs.names_in.Given as goal

abbrev pub invariant-loop-node : goal.invariant-loop-node
invariant-loop-node l = Gathered 64 (λ j. false) (λ j k. is_name j (get_or (used_by l.d l.i) (entry_start l.v + k) 0)) l.set l.node-index
