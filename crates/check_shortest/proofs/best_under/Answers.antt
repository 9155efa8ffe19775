use Rattle.check_faults.proofs.RowLaws.{rows_cells}
use Rattle.check_shortest.proofs.SearchLaws.{back_as, back_none, next_none, next_walk, next_earliest_none, next_earliest}
use Rattle.check_shortest.proofs.best_under.Goals as goal

pub loop-i-preserved-in_default : goal.loop-i-preserved-in_default
loop-i-preserved-in_default c =
    let p = c.requires in
    let none = back_none _ _ _ _ _ (rows_cells _ c.told-d _ _ p.1 p.2 c.fill_rows.ensures) c.loop-i-test.true c.in_default.ensures in (
      λ ev t q f. next_earliest_none c.args.d.now _ ev _ t _ q c.loop-i-test.true _ (c.loop-i.invariant.0 ev t q f) none,
      λ ev t q f. next_none c.args.d.now _ ev _ t _ q c.loop-i-test.true _ (c.loop-i.invariant.1 ev t q f) none,
    )

pub loop-i-preserved : goal.loop-i-preserved
loop-i-preserved c =
    let p = c.requires in
    let back = c.in-Some.ensures in
    let steps = back_as _ _ _ _ (rows_cells _ c.told-d _ _ p.1 p.2 c.fill_rows.ensures) c.loop-i-test.true back in
    rw c.shorter.ensures (
      λ ev t q f. next_earliest c.args.d.now _ ev _ t _ q c.loop-i-test.true _ steps back.few _ (c.loop-i.invariant.0 ev t q f),
      λ ev t q f. next_walk c.args.d.now _ ev _ t _ q c.loop-i-test.true _ steps back.few _ (c.loop-i.invariant.1 ev t q f),
    )
