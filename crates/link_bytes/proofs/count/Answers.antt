use Rattle.lib_base.proofs.Prelude.{arith}
use Rattle.std.proofs.lemmas.List.{length_push}
use Rattle.sheet_walk.proofs.Places.{going_on, going_behind, going_within, going_ends}
use Rattle.link_bytes.proofs.Laws.{count_on, count_end}
use Rattle.link_bytes.proofs.count.Goals as goal

pub loop-at-preserved : goal.loop-at-preserved
loop-at-preserved c =
    let u = c.loop-at.invariant in
    let g = c.in-Some.ensures.steps in
    let next = going_on u.0 g.0 in
    let cells = c.cells_at-c.ensures in
    rw length_push (
      next,
      omega (arith, u.1, g.1),
      count_on (rw g.0.place u.2) (omega (arith, u.1, g.1)) (omega (arith, going_within u.0 g.0)) cells.value cells.upper_bound
          (going_behind u.0 g.0) next.inside,
    )

pub returns-clause-value : goal.returns-clause-value
returns-clause-value c =
    let u = c.loop-at.invariant in
    count_end u.2 (λ h. going_ends u.0 (c.in-None.ensures.steps (omega (arith, u.1, h))))
