-- The loop passes the bytes of a word.
use Rattle.lib_base.proofs.Prelude.{◌∙◌, sym, arith}
use Rattle.source_language.specs.Tokens.{in_word}
use Rattle.source_tokens.proofs.Runs.{run_start, run_turn, run_stop, run_end}
use Rattle.source_tokens.proofs.word_end.Goals as goal

pub loop-i-init : goal.loop-i-init
loop-i-init c = run_start in_word _ _ c.requires

pub returns-then-not-in_word : goal.returns-then-not-in_word
returns-then-not-in_word c =
    run_stop in_word _ c.loop-i.invariant c.loop-i-test.true (sym c.in_word.ensures ∙ c.if-not-in_word.true)

pub loop-i-preserved : goal.loop-i-preserved
loop-i-preserved c =
    run_turn in_word _ c.loop-i.invariant c.loop-i-test.true (sym c.in_word.ensures ∙ c.if-not-in_word.false)

pub returns : goal.returns
returns c = omega (arith, run_end in_word _ c.loop-i.invariant c.loop-i-test.false, c.loop-i.invariant.inside)
