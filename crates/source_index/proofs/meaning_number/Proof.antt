-- The two branches of `meaning_number`; the cells are those of the list.
use Rattle.lib_base.proofs.Prelude.{◌-◌, add-one, le-ltb, lt-ltb, rules, arith}
use Rattle.source_index.proofs.meaning_number.Statement.{statement}
use Rattle.source_index.proofs.meaning_number.Tie as tie

pub meaning_number_spec : {M : Type 1} → statement M
meaning_number_spec =
    tie.close
    (tie.spec
    (λ c. (rw (lt-ltb c.before.before.args.j c.before.before.args.params c.if-j-params.true), omega (arith, c.before.before.requires.0)))
    (λ c κs. search rules)
    (λ c. search rules)
    (λ c κs. search rules)
    (λ c κs. search rules)
    (λ c.
    let at_next = c.before in
    let at_first = at_next.before in
    let at_entry_lem = at_first.before.before.before in (
      rw (
        le-ltb at_entry_lem.args.j at_entry_lem.args.params at_first.before.if-j-params.false,
        ← at_first.cell_at-first.ensures.0,
        ← add-one (at_entry_lem.args.j - at_entry_lem.args.params),
        ← at_next.cell_at-next.ensures.0,
      ) c.cells_number.ensures.0,
      c.cells_number.ensures.1,
    )))
