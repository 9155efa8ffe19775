-- Each turn takes one byte.
use Rattle.lib_base.proofs.Prelude.{◌<◌, get_or-take, length-take-le, arith}
use Rattle.source_assemble.proofs.Lines.{walk_on, walk_ends}
use Rattle.source_assemble.proofs.place_told.Goals as goal

pub loop-b-preserved : goal.loop-b-preserved
loop-b-preserved c =
    let a = c.args in
    let inside : c.loop-b.b-index < a.place = omega (arith, length-take-le a.place a.text.now c.requires.place_in_bounds) in
    let same = get_or-take a.place a.text.now c.loop-b.b-index 0 inside in
    walk_on _ _ _ _ c.loop-b.b-index _ _ c.loop-b.invariant inside c.requires.place_in_bounds (rw same at c.line_after-line.ensures.value) c.line_after-line.ensures.upper_bound
    (rw same at c.column_after-column.ensures.value) c.column_after-column.ensures.upper_bound

pub returns-clause-value : goal.returns-clause-value
returns-clause-value c =
    let a = c.args in
    walk_ends _ _ _ _ _ c.loop-b.invariant (omega (arith, length-take-le a.place a.text.now c.requires.place_in_bounds))
