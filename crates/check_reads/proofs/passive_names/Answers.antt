use Rattle.lib_base.proofs.Prelude.{◌∙◌, sym, ne_eqb, eq-eqb}
use Rattle.lib_bits.proofs.BitLaws.{bit_none}
use Rattle.check_reads.proofs.passive_names.Goals as goal

pub returns-then-entry_kind-eq-PASSIVE : goal.returns-then-entry_kind-eq-PASSIVE
returns-then-entry_kind-eq-PASSIVE c j b = rw (eq-eqb _ 1 (sym c.entry_kind.ensures ∙ c.if-entry_kind-eq-PASSIVE.true)) (c.names_in.ensures j b)

pub returns : goal.returns
returns c j b = rw (ne_eqb _ 1 (λ q. c.if-entry_kind-eq-PASSIVE.false (c.entry_kind.ensures ∙ q))) (bit_none j)
