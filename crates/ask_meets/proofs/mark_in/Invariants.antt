-- The marks of the nodes passed are on the stack.
use Rattle.lib_base.proofs.Prelude.{◌≡◌, get_or}
use Rattle.lib_bits.specs.Bits.{bit}
use Rattle.draft_form.specs.Draft.{used_by}
use Rattle.draft_form.specs.Entry.{entry_start}
use Rattle.ask_meets.specs.Marks.{marks_among}
use Rattle.ask_meets.specs.Marking.{standing}
use Rattle.ask_meets.proofs.mark_in.Given as goal

abbrev pub invariant-loop-node : goal.invariant-loop-node
invariant-loop-node l = standing l.stack.marks l.stack.depth ≡ marks_among (λ k. bit (get_or l.rows k 0) l.i) l.i (used_by l.d l.i) (entry_start l.v) l.node-index
