use Rattle.lib_base.proofs.Prelude.{arith}
use Rattle.check_shortest.proofs.SearchLaws.{found_some, fewest_of, best_is, found_is}
use Rattle.check_shortest.proofs.list_circle.Goals as goal

pub unwrap-walk-requires : goal.unwrap-walk-requires
unwrap-walk-requires c = found_some _ _ _ c.requires.inside.1 c.requires.wide.0 c.requires.wide.1 _ (fewest_of _ _ _ _ _ _ c.shortest.ensures)

pub list_members-count-requires-clause-inside : goal.list_members-count-requires-clause-inside
list_members-count-requires-clause-inside c =
    let p = c.requires.inside in
    let best = best_is _ _ _ p.1 c.requires.wide.0 _ (rw c.unwrap-walk.ensures at c.shortest.ensures).fewest in
    (omega (arith, best.event), p.1, p.2 _ best.event)

pub list_members-count-requires-clause-reached : goal.list_members-count-requires-clause-reached
list_members-count-requires-clause-reached c =
    let p = c.requires.inside in
    let best = best_is _ _ _ p.1 c.requires.wide.0 _ (rw c.unwrap-walk.ensures at c.shortest.ensures).fewest in
    (best.member, omega (arith, best.steps, best.few))

pub returns : goal.returns
returns c =
    let p = c.requires.inside in
    let wide = c.requires.wide.0 in
    let best = best_is _ _ _ p.1 wide _ (rw c.unwrap-walk.ensures at c.shortest.ensures).fewest in
    found_is _ _ _ p.1 wide best c.list_members-count.ensures.members c.hand_over.ensures c.event_number.ensures.value
