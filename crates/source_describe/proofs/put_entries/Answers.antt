use Rattle.lib_base.proofs.Prelude.{◌-◌, ◌+◌, ◌≡◌, length, arith}
use Rattle.std.proofs.lemmas.List.{length_push}
use Rattle.sheet_walk.proofs.Places.{going_on, going_behind, going_within, going_left, going_ends}
use Rattle.source_terms.proofs.Writing.{under_start}
use Rattle.source_describe.proofs.Turns.{describing_on, describing_full, describing_ends}
use Rattle.source_describe.proofs.put_entries.Goals as goal

pub loop-at-init : goal.loop-at-init
loop-at-init c =
    let walk = c.field_places-at-items.ensures in
    let bounds = c.requires in
    let all : length c.args.s.now - 0 ≡ length c.args.s.now = omega arith in
    rw c.into_iter-at-iterator.ensures.into_iter_gives (
      record { sheet = walk.sheet; passed = omega arith; inside = rw walk.place bounds.first_in_bounds.0 },
      rw (all, walk.place) record { underway = under_start c.args.pen.now _ bounds.at_le_pen_limit; inside = bounds.first_in_bounds.0; few = omega arith },
    )

pub returns-then-j-ge-BEHAVIOURS : goal.returns-then-j-ge-BEHAVIOURS
returns-then-j-ge-BEHAVIOURS c =
    let u = c.loop-at.invariant in
    let g = c.in-Some.ensures.steps in
    describing_full (rw (← g.place) at u.1) (going_left u.0 g) (omega (arith, going_within u.0 g)) (omega arith)

pub loop-at-preserved : goal.loop-at-preserved
loop-at-preserved c =
    let u = c.loop-at.invariant in
    let g = c.in-Some.ensures.steps in
    let less : length c.args.s.now - (length c.loop-at.yielded + 1) ≡ length c.args.s.now - length c.loop-at.yielded - 1 = omega arith in
    let next = going_on u.0 g in
    let cells = c.cells_at-j.ensures in
    rw length_push (
      next,
      rw less
          (describing_on (rw g.place u.1) (going_left u.0 g) (omega (arith, going_within u.0 g)) (omega arith) c.put_entry.ensures cells.value cells.upper_bound
          (going_behind u.0 g) next.inside),
    )

pub returns : goal.returns
returns c = describing_ends c.loop-at.invariant.1 (going_ends c.loop-at.invariant.0 c.in-None.ensures.steps)
