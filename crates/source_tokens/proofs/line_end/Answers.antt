-- The loop passes the bytes of a comment.
use Rattle.lib_base.proofs.Prelude.{arith}
use Rattle.source_language.specs.Tokens.{in_comment}
use Rattle.source_tokens.proofs.Bytes.{comment_on, comment_ends}
use Rattle.source_tokens.proofs.Runs.{run_start, run_turn, run_stop, run_end}
use Rattle.source_tokens.proofs.line_end.Goals as goal

pub loop-i-init : goal.loop-i-init
loop-i-init c = run_start in_comment _ _ c.requires

pub returns-then-text-i-eq10 : goal.returns-then-text-i-eq10
returns-then-text-i-eq10 c = run_stop in_comment _ c.loop-i.invariant c.loop-i-test.true (comment_ends _ c.if-text-i-eq10.true)

pub loop-i-preserved : goal.loop-i-preserved
loop-i-preserved c = run_turn in_comment _ c.loop-i.invariant c.loop-i-test.true (comment_on _ c.if-text-i-eq10.false)

pub returns : goal.returns
returns c = omega (arith, run_end in_comment _ c.loop-i.invariant c.loop-i-test.false, c.loop-i.invariant.inside)
