-- By the nesting left, which falls with each call.
use Rattle.source_terms.proofs.+put_term.Given as goal

abbrev pub decreases-put_term : goal.decreases-put_term
decreases-put_term c = c.due.room
