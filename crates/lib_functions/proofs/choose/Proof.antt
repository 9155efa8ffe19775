-- `if` by whether the first word is 0; the word that is handed back is the word of the number that it stands for.
use native.Mathlib.Omega.{arith}
use Rattle.lib_arith.proofs.Laws.{second_if, third_if}
use Rattle.lib_functions.proofs.choose.Statement.{statement}
use Rattle.lib_functions.proofs.choose.Tie as tie

pub choose_spec : {M : Type 1} → statement M
choose_spec =
    tie.close
    (tie.spec
    (λ c. third_if c.before.args.a c.before.args.b c.before.args.c c.if-a-eq0.true (omega arith))
    (λ c. second_if c.before.args.a c.before.args.b c.before.args.c c.if-a-eq0.false (omega arith)))
