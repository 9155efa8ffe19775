-- A last byte that differs tells; else all bytes do.
use borrow.Author.Rules.{rules}
use Rattle.source_names.proofs.Places.{last_unlike}
use Rattle.source_names.proofs.same_bytes.Statement.{statement}
use Rattle.source_names.proofs.same_bytes.Tie as tie

returns : tie.Need-returns-then-text-p
returns c = last_unlike _ _ _ _ c.before.before.before.before.requires.1.1 c.if-text-p.true

pub same_bytes_spec : {M : Type 1} → statement M
same_bytes_spec =
    tie.close
    (tie.spec (λ c. search rules) (λ c. search rules) (λ c. search rules) (λ c. search rules) (λ c. search rules) returns
    (λ c κs. search rules) (λ c. search rules))
