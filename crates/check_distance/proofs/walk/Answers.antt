use Rattle.check_distance.proofs.LayerLaws.{first_onward}
use Rattle.check_distance.proofs.WalkLaws.{next_there, going_turn, going_end}
use Rattle.check_distance.proofs.walk.Goals as goal

pub unwrap-at-requires : goal.unwrap-at-requires
unwrap-at-requires c =
    let few = c.requires.rows_len.1 in
    next_there _ _ _ _ _ _ c.loop-t.invariant c.requires.r_nonzero.1 c.loop-t-test.true (first_onward _ _ few _ _ _ c.loop-t.invariant.here c.first_common.ensures)

pub loop-t-preserved : goal.loop-t-preserved
loop-t-preserved c =
    let p = c.requires.rows_len in
    going_turn _ _ _ _ _ c.loop-t.invariant p.3 p.1 p.2 c.requires.r_nonzero.1 c.loop-t-test.true
    (first_onward _ _ p.1 _ _ _ c.loop-t.invariant.here c.first_common.ensures) c.unwrap-at.ensures

pub returns : goal.returns
returns c = going_end _ _ _ _ _ c.loop-t.invariant c.requires.r_nonzero.0 c.loop-t-test.false
