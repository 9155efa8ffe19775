-- The test of the events from the last on finds what the definition finds.
use Rattle.lib_base.proofs.Prelude.{◌∙◌, sym, arith}
use Rattle.format_layout.proofs.Codes.{not_fitting, fitting, none_left}
use Rattle.format_layout.proofs.codes_fit.Goals as goal

pub returns-then-not-code_fits : goal.returns-then-not-code_fits
returns-then-not-code_fits c =
    not_fitting _ c.loop-i.i c.event_word-start.result c.event_word.result c.code_fits.result (omega (arith, c.loop-i-test.true)) c.event_word-start.ensures
    c.event_word.ensures c.code_fits.ensures c.if-not-code_fits.true
    ∙ sym c.loop-i.invariant

pub loop-i-preserved : goal.loop-i-preserved
loop-i-preserved c =
    c.loop-i.invariant
    ∙ fitting _ c.loop-i.i c.event_word-start.result c.event_word.result c.code_fits.result (omega (arith, c.loop-i-test.true)) c.event_word-start.ensures
    c.event_word.ensures c.code_fits.ensures c.if-not-code_fits.false

pub returns : goal.returns
returns c = sym (c.loop-i.invariant ∙ none_left _ c.loop-i.i (omega (arith, c.loop-i-test.false)))
