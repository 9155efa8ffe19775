-- The loop takes tokens as `tokens_of` does.
use Rattle.lib_base.proofs.Prelude.{arith}
use Rattle.text_lexer.proofs.Laws.{scan_start, scan_space, scan_missing, scan_onward, scan_found, scan_end}
use Rattle.text_lexer.proofs.scan.Goals as goal

pub loop-at-init : goal.loop-at-init
loop-at-init c = scan_start _ _ c.requires c.told-tokens

pub loop-at-preserved-then-text-at-eq32 : goal.loop-at-preserved-then-text-at-eq32
loop-at-preserved-then-text-at-eq32 c = scan_space c.loop-at.invariant c.loop-at-test.true c.if-text-at-eq32.true

pub returns-in_err-found : goal.returns-in_err-found
returns-in_err-found c =
    let e = scan_missing c.loop-at.invariant c.loop-at-test.true _ c.if-text-at-eq32.false c.in_err-found.was c.token_at.ensures.scanned in
    rw (c.from_residual.ensures, e)

pub loop-at-smaller : goal.loop-at-smaller
loop-at-smaller c =
    let w = scan_onward c.loop-at.invariant c.loop-at-test.true _ _ c.in_ok-found.was c.token_at.ensures.scanned in omega arith

pub loop-at-preserved : goal.loop-at-preserved
loop-at-preserved c =
    scan_found c.loop-at.invariant c.loop-at-test.true _ _ c.if-text-at-eq32.false c.in_ok-found.was c.token_at.ensures.scanned

pub returns : goal.returns
returns c = scan_end c.loop-at.invariant c.loop-at-test.false
