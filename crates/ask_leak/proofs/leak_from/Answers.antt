use Rattle.lib_base.proofs.Prelude.{◌∙◌, sym, arith}
use Rattle.lib_bits.specs.Bits.{bit}
use Rattle.ask_leak.proofs.LeakLaws.{from_hidden, from_seen}
use Rattle.ask_leak.proofs.leak_from.Goals as goal

pub returns-then-contains : goal.returns-then-contains
returns-then-contains c = from_hidden _ (bit _) _ _ (sym c.contains.ensures ∙ c.if-contains.true)

pub returns : goal.returns
returns c = from_seen _ _ _ _ _ _ _ (omega arith) (sym c.contains.ensures ∙ c.if-contains.false) c.names_of.ensures c.common.ensures c.least_leak.ensures
