-- Each branch follows the definition's test; the round written is the fresh one of the table's values.
use Rattle.lib_base.proofs.Prelude.{◌∙◌, ap}
use Rattle.lib_base.proofs.Pick.{code}
use Rattle.format_layout.specs.declared.round.Round.{Round}
use Rattle.format_layout.specs.Fresh.{fresh_of}
use Rattle.run_start.specs.Start.{image, fresh_bytes, start_on}
use Rattle.run_start.proofs.start_round.Goals as goal

pub returns-then-not-table_fits : goal.returns-then-not-table_fits
unfolding start_on fresh_bytes
returns-then-not-table_fits c = rw (← c.table_fits.ensures.value, c.if-not-table_fits.true)

pub returns-then-round-lt-BYTES : goal.returns-then-round-lt-BYTES
unfolding start_on fresh_bytes
returns-then-round-lt-BYTES c = rw (← c.table_fits.ensures.value, c.if-not-table_fits.false) (search code depth 12)

pub returns : goal.returns
unfolding start_on fresh_bytes
returns c =
    let made = c.fresh.ensures ∙ ap fresh_of c.first_values.ensures in
    let written = c.write_round.ensures ∙ ap (λ (r : Round). image r c.args.round.now) made in
    rw (← c.table_fits.ensures.value, c.if-not-table_fits.false, written) (search code depth 12)
