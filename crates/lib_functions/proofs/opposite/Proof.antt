-- `!`: a word is false exactly when it is 0, carried through the callee's bit.
use Rattle.lib_base.proofs.Prelude.{◌∙◌, ap, Bool, rules}
use Rattle.lib_arith.specs.Marked.{reported}
use Rattle.lib_arith.specs.Functions.{truth}
use Rattle.lib_arith.proofs.Laws.{not_of}
use Rattle.lib_functions.proofs.opposite.Statement.{statement}
use Rattle.lib_functions.proofs.opposite.Tie as tie

pub opposite_spec : {M : Type 1} → statement M
opposite_spec =
    tie.close
    (tie.spec
    (λ c κs. search rules)
    (λ c. c.truth.ensures ∙ ap (λ (t : Bool). reported (truth t)) (not_of c.before.args.a)))
