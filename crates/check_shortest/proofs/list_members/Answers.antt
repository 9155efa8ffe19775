use Rattle.check_faults.proofs.RowLaws.{rows_cells}
use Rattle.check_shortest.proofs.SearchLaws.{walk_there, back_ready, members_are}
use Rattle.check_shortest.proofs.list_members.Goals as goal

pub unwrap-r-requires : goal.unwrap-r-requires
unwrap-r-requires c =
    let p = c.requires.inside in
    let q = c.requires.reached in
    walk_there _ _ _ _ q.1 _ (rows_cells _ c.told-d _ _ p.1 p.2 c.fill_rows.ensures) q.0 _ _ c.steps_back.ensures

pub walk-requires-clause-r_nonzero : goal.walk-requires-clause-r_nonzero
walk-requires-clause-r_nonzero c =
    let p = c.requires.inside in
    let q = c.requires.reached in
    back_ready _ _ _ _ q.1 _ (rows_cells _ c.told-d _ _ p.1 p.2 c.fill_rows.ensures) q.0 (rw c.unwrap-r.ensures at c.steps_back.ensures)

pub returns-clause-members : goal.returns-clause-members
returns-clause-members c =
    let p = c.requires.inside in
    let q = c.requires.reached in
    members_are _ _ _ _ q.1 _ (rows_cells _ c.told-d _ _ p.1 p.2 c.fill_rows.ensures) q.0 (rw c.unwrap-r.ensures at c.steps_back.ensures) c.walk.ensures
