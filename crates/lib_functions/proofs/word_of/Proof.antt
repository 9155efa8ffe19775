-- The word is what an answer leaves by 2^32.
use Rattle.lib_base.proofs.Prelude.{ℕ, ◌%◌, ◌∙◌, ap, rules}
use Rattle.lib_arith.proofs.ArithLaws.{answer_rest}
use Rattle.lib_functions.proofs.word_of.Statement.{statement}
use Rattle.lib_functions.proofs.word_of.Tie as tie

pub word_of_spec : {M : Type 1} → statement M
word_of_spec =
    tie.close
    (tie.spec
    (λ c κs. search rules)
    (λ c. search rules)
    (λ c. ap (λ (v : ℕ). v % 4294967296) c.apply.ensures ∙ answer_rest _ _ _ _))
