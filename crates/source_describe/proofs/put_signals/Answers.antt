use Rattle.lib_base.proofs.Prelude.{◌∙◌, refl, ⊎_elim, arith}
use Rattle.std.proofs.lemmas.List.{length_push}
use Rattle.std.specs.Iterator.Adapters.{zip_first}
use Rattle.sheet_walk.proofs.Places.{going_on, going_behind, going_ends}
use Rattle.source_terms.proofs.Writing.{under_start}
use Rattle.source_describe.proofs.Turns.{Declaring, declaring_on, declaring_stops, declaring_ends}
use Rattle.source_describe.proofs.put_signals.Goals as goal

pub loop-i-init : goal.loop-i-init
loop-i-init c =
    let walk = c.field_places.ensures in
    rw (c.into_iter-i-iterator.ensures.into_iter_gives, c.zip-i-items.ensures.first, c.zip-i-items.ensures.second) (
      refl,
      refl,
      record { sheet = walk.sheet; passed = omega arith; inside = omega (arith, walk.place) },
      rw walk.place record { underway = under_start c.args.pen.now _ c.requires; inside = omega arith; few = omega arith },
    )

pub returns-then-byte_from-ne-EVENT : goal.returns-then-byte_from-ne-EVENT
returns-then-byte_from-ne-EVENT c =
    let u = c.loop-i.invariant in
    let g = c.in-Some.ensures.steps in
    let here : Declaring c.args.s.now c.args.pen.now c.loop-i.pen c.in-Some.at (zip_first c.loop-i.i-iterator).start = rw g.1.place u.3 in
    declaring_stops here (omega (arith, g.0.1, u.1)) c.byte_from.ensures c.if-byte_from-ne-EVENT.true

pub loop-i-preserved : goal.loop-i-preserved
loop-i-preserved c =
    let u = c.loop-i.invariant in
    let g = c.in-Some.ensures.steps in
    let here : Declaring c.args.s.now c.args.pen.now c.loop-i.pen c.in-Some.at (zip_first c.loop-i.i-iterator).start = rw g.1.place u.3 in
    let next = going_on u.2 g.1 in (
      omega (arith, g.0.1.2, u.0, length_push c.loop-i.yielded (c.in-Some.i, c.in-Some.at)),
      g.0.0 ∙ u.1,
      rw g.0.1.2 next,
      rw g.0.1.2
          (declaring_on here (omega (arith, g.0.1, u.1)) c.byte_from.ensures c.if-byte_from-ne-EVENT.false (rw g.0.1.1 at c.put_signal.ensures)
          (going_behind u.2 g.1) next.inside),
    )

pub returns : goal.returns
returns c =
    let u = c.loop-i.invariant in
    declaring_ends u.3
    (λ l. ⊎_elim (λ over. absurd (omega (arith, u.1, over.1.1.0))) (λ over. going_ends u.2 over.1) c.in-None.ensures.steps)
