-- `==`: two words are equal exactly when neither is below the other, carried through the callee's bit.
use Rattle.lib_base.proofs.Prelude.{◌∙◌, ap, Bool, rules, arith}
use Rattle.lib_arith.specs.Marked.{reported}
use Rattle.lib_arith.specs.Functions.{truth}
use Rattle.lib_arith.proofs.Laws.{view, same_words}
use Rattle.lib_functions.proofs.same.Statement.{statement}
use Rattle.lib_functions.proofs.same.Tie as tie

pub same_spec : {M : Type 1} → statement M
same_spec =
    tie.close
    (tie.spec
    (λ c κs. search rules)
    (λ c. c.truth.ensures ∙ ap (λ (t : Bool). reported (truth t)) (same_words (view c.before.args.a (omega arith)) (view c.before.args.b (omega arith)))))
