-- Past the text there is no name; else it goes to the word's end.
use Rattle.lib_base.proofs.Prelude.{rules, arith}
use Rattle.source_coding.specs.Places.{name_at}
use Rattle.source_names.proofs.Laws.{name_inside}
use Rattle.source_names.proofs.name_size.Statement.{statement}
use Rattle.source_names.proofs.name_size.Tie as tie

returns : tie.Need-returns-then-text-p
returns c = let start = c.before.before.args in omega (arith, name_inside start.text.now start.p)

returns_2 : tie.Need-returns
unfolding name_at
returns_2 c = omega (arith, c.word_end.ensures)

pub name_size_spec : {M : Type 1} → statement M
name_size_spec = tie.close (tie.spec returns (λ c κs. search rules) (λ c. search rules) returns_2)
