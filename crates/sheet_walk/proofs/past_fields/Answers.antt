-- One field less is left (`Passing`).
use Rattle.lib_base.proofs.Prelude.{◌≡◌, ◌+◌, ◌-◌, length, arith}
use Rattle.std.proofs.lemmas.List.{length_push}
use Rattle.sheet_walk.proofs.Places.{going_on, going_behind, going_left, going_ends, passing_on, passing_stops, passing_ends}
use Rattle.sheet_walk.proofs.past_fields.Goals as goal

pub returns-then-byte_from-tag-clause-s_value : goal.returns-then-byte_from-tag-clause-s_value
returns-then-byte_from-tag-clause-s_value c =
    let u = c.loop-at.invariant in
    let g = c.in-Some.ensures.steps in
    passing_stops (rw g.place u.1) (going_left u.0 g) c.byte_from.ensures c.if-byte_from-tag.true

pub loop-at-preserved : goal.loop-at-preserved
loop-at-preserved c =
    let u = c.loop-at.invariant in
    let g = c.in-Some.ensures.steps in
    let less : length c.args.s.now - (length c.loop-at.yielded + 1) ≡ length c.args.s.now - length c.loop-at.yielded - 1 = omega arith in
    let next = going_on u.0 g in
    rw length_push (
      next,
      rw less (passing_on (rw g.place u.1) (going_left u.0 g) c.byte_from.ensures c.if-byte_from-tag.false (going_behind u.0 g) next.inside),
    )

pub returns-clause-s_value : goal.returns-clause-s_value
returns-clause-s_value c = passing_ends c.loop-at.invariant.1 (going_ends c.loop-at.invariant.0 c.in-None.ensures.steps)
