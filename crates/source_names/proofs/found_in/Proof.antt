-- By halves among those in order, else one after another behind them.
use Rattle.lib_base.proofs.Prelude.{le-ltb, lt-ltb, rules}
use Rattle.source_names.specs.Search.{found_in}
use Rattle.source_names.proofs.found_in.Statement.{statement}
use Rattle.source_names.proofs.found_in.Tie as tie

returns : tie.Need-returns-then-k-sorted
unfolding found_in
returns c =
    let at_sought = c in
    rw (← at_sought.sought-k.ensures, lt-ltb at_sought.sought-k.result at_sought.args.sorted c.if-k-sorted.true)

returns_2 : tie.Need-returns
unfolding found_in
returns_2 c =
    let at_sought = c in
    rw (← at_sought.sought-k.ensures, le-ltb at_sought.sought-k.result at_sought.args.sorted c.if-k-sorted.false, c.index_of.ensures.0)

pub found_in_spec : {M : Type 1} → statement M
found_in_spec =
    tie.close
    (tie.spec (λ c κs. search rules) (λ c κs. search rules) returns (λ c. search rules) (λ c. search rules) (λ c. search rules)
    (λ c. search rules) (λ c κs. search rules) (λ c. search rules) returns_2)
