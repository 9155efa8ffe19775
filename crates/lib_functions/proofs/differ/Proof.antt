-- `!=`: two words differ exactly when one is below the other, carried through the callee's bit.
use Rattle.lib_base.proofs.Prelude.{◌∙◌, ap, Bool, rules, arith}
use Rattle.lib_arith.specs.Marked.{reported}
use Rattle.lib_arith.specs.Functions.{truth}
use Rattle.lib_arith.proofs.Laws.{view, other_words}
use Rattle.lib_functions.proofs.differ.Statement.{statement}
use Rattle.lib_functions.proofs.differ.Tie as tie

pub differ_spec : {M : Type 1} → statement M
differ_spec =
    tie.close
    (tie.spec
    (λ c κs. search rules)
    (λ c. c.truth.ensures ∙ ap (λ (t : Bool). reported (truth t)) (other_words (view c.before.args.a (omega arith)) (view c.before.args.b (omega arith)))))
