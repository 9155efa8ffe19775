use Rattle.lib_base.proofs.Prelude.{◌-◌, ◌+◌, ◌≡◌, length, arith}
use Rattle.std.proofs.lemmas.List.{length_push}
use Rattle.sheet_walk.proofs.Places.{going_on, going_behind, going_within, going_left, going_ends}
use Rattle.source_walk.proofs.Heads.{heading_on, heading_ends}
use Rattle.source_walk.proofs.heads_from.Goals as goal

pub loop-at-preserved : goal.loop-at-preserved
loop-at-preserved c =
    let u = c.loop-at.invariant in
    let g = c.in-Some.ensures.steps in
    let less : length c.args.s.now - (length c.loop-at.yielded + 1) ≡ length c.args.s.now - length c.loop-at.yielded - 1 = omega arith in
    let cells = c.cells_at-n.ensures in
    let next = going_on u.0 g in
    rw length_push (
      next,
      rw less
          (heading_on (rw g.place u.1) (going_left u.0 g) (omega (arith, going_within u.0 g)) (omega arith) cells.value cells.upper_bound c.note_cells.ensures
          (going_behind u.0 g) next.inside),
    )

pub returns-in-None : goal.returns-in-None
returns-in-None c = heading_ends c.loop-at.invariant.1 (going_ends c.loop-at.invariant.0 c.in-None.ensures.steps)
