-- The loop compares byte by byte, as `same` does.
use Rattle.source_tokens.proofs.Spelling.{spelling_start, spelling_other, spelling_turn, spelling_stop, spelling_end}
use Rattle.source_tokens.proofs.spelled.Goals as goal

pub returns-then-n-word : goal.returns-then-n-word
returns-then-n-word c = spelling_other c.args.text.now c.args.at c.args.n c.args.word.now _ _ c.if-n-word.true c.requires

pub loop-i-init : goal.loop-i-init
loop-i-init c = spelling_start _ _ _ _ c.if-n-word.false c.requires

pub returns-then-text-at : goal.returns-then-text-at
returns-then-text-at c = spelling_stop c.loop-i.invariant _ _ c.loop-i-test.true c.if-text-at.true

pub loop-i-preserved : goal.loop-i-preserved
loop-i-preserved c = spelling_turn c.loop-i.invariant c.loop-i-test.true c.if-text-at.false

pub returns : goal.returns
returns c = spelling_end c.loop-i.invariant _ _ c.loop-i-test.false
