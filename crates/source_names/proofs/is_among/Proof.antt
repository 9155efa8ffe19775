-- It is where it has an index among them.
use borrow.Author.Rules.{rules}
use Rattle.source_names.proofs.Laws.{among_first}
use Rattle.source_names.proofs.is_among.Statement.{statement}
use Rattle.source_names.proofs.is_among.Tie as tie

returns : tie.Need-returns
returns c =
    let start = c.before.before.before.before in
    among_first _ _ start.args.places.now start.args.n _ start.requires c.index_of.ensures.0

pub is_among_spec : {M : Type 1} → statement M
is_among_spec =
    tie.close (tie.spec (λ c. search rules) (λ c. search rules) (λ c. search rules) (λ c κs. search rules) returns)
