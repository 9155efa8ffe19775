-- A name's first cell is the one that is noted.
use Rattle.source_walk.proofs.Heads.{head_below}
use Rattle.source_terms.proofs.write_leaf.Goals as goal

pub put_cell-requires : goal.put_cell-requires
put_cell-requires c =
    let h = c.byte_from-i.type_inv in
    (c.requires.at_le_pen_limit, head_below c.requires.first_in_bounds.2 c.byte_from-i.result h, h)
