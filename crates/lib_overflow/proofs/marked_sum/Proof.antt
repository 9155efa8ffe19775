-- The word and the mark are the callees', by their contracts; the exact sum of two words fits 64 bits.
use Rattle.lib_base.proofs.Prelude.{rules, arith}
use mir.Syntax.{w64}
use mir.Facts.{to_z-of_z}
use Rattle.lib_arith.proofs.Laws.{view}
use Rattle.lib_arith.proofs.Wide.{number_back}
use Rattle.lib_overflow.proofs.Ranges.{sum_fits}
use Rattle.lib_overflow.proofs.marked_sum.Statement.{statement}
use Rattle.lib_overflow.proofs.marked_sum.Tie as tie

pub marked_sum_spec : {M : Type 1} → statement M
marked_sum_spec =
    tie.close
    (tie.spec (search rules) (search rules) (search rules)
    (λ c.
    let u = view c.before.before.before.args.a (omega arith) in
    let v = view c.before.before.before.args.b (omega arith) in
    rw (c.before.whole.ensures, c.whole-2.ensures, number_back u, number_back v) (sum_fits u v))
    (search rules) (search rules)
    (λ c.
    let numbers = c.before.before in
    let entry = numbers.before.before.before in
    let u = view entry.args.a (omega arith) in
    let v = view entry.args.b (omega arith) in
    rw (
      c.mark.ensures,
      c.before.is_beyond.ensures,
      numbers.before.whole.ensures,
      numbers.whole-2.ensures,
      number_back u,
      number_back v,
      to_z-of_z {w = w64} (sum_fits u v),
      numbers.before.before.add.ensures,
    )))
