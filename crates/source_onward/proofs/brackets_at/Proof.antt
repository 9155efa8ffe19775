-- A byte above `(` opens none; else the loop keeps `Opening`, and the place goes on within the text.
use Rattle.lib_base.proofs.Prelude.{◌-◌, length, rules, arith}
use Rattle.source_onward.proofs.Stands.{Opening, opening_start, opening_turn, opening_end, none_opens}
use Rattle.source_onward.proofs.brackets_at.Statement.{statement}
use Rattle.source_onward.proofs.brackets_at.Tie as tie

abbrev invariant-loop : tie.invariant-loop-at
invariant-loop text at first₀ opened₀ first opened = Opening text at first opened

abbrev decreases-loop : tie.decreases-loop-at
decreases-loop text at first₀ opened₀ first opened = length text - first

pub brackets_at_spec : {M : Type 1} → statement M
brackets_at_spec =
    tie.close
    (tie.spec
    invariant-loop
    decreases-loop
    (λ c κs. search rules)
    (λ c. let at_byte = c.before in none_opens _ _ at_byte.before.before.requires.1 (omega (arith, at_byte.byte_at.ensures, c.if-byte_at-gt40.true)))
    (λ c. opening_start _ _ c.before.before.before.requires.1)
    (λ c κs. (c.before.before.before.before.requires.0, c.loop-at.invariant.within))
    (λ c κs. c.before.before.loop-at.invariant.within)
    (λ c. opening_end c.before.before.before.loop-at.invariant _ c.before.before.opening_at-next.ensures c.before.if-next-eq0.true _ c.pass_over.ensures)
    (λ c. let at_loop = c.before.before in omega (arith, at_loop.loop-at.invariant.few, at_loop.loop-at.invariant.within, at_loop.before.before.before.before.requires.0))
    (λ c. let b = c.before.opening_at-next.ensures.onward c.if-next-eq0.false in omega arith)
    (λ c. opening_turn c.before.before.loop-at.invariant _ c.before.opening_at-next.ensures c.if-next-eq0.false))
