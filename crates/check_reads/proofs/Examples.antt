-- Worked example, by computation: b0 {0 ⇒ 1}, b1 {1 ⇒ b2}, b2 passive b0. Event 1 names b2, and b0 through it. 01: "It
-- reads the actives named in those handlers, directly or through passives."
use Rattle.lib_base.proofs.Prelude.{◌≡◌, refl, true, false, [], ◌∷◌}
use Rattle.spec_language.specs.Syntax.{con, name, immediate, handler, passive, active, Program}
use Rattle.spec_language.specs.Dependence.{handled, mentions}
use Rattle.spec_language.specs.Order.{up_to}
use Rattle.check_graph.specs.Matrix.{close_cell, close_row, close_through, close_rows, close_by, closed}
use Rattle.check_graph.specs.Any.{any_below}
use Rattle.check_faults.specs.Faults.{matrix_of}
use Rattle.check_reads.specs.Named.{named_directly, through_passives}

abbrev through_b2 : Program
through_b2 = record {
  priorities = 1 ∷ 2 ∷ [];
  senders = 255 ∷ 255 ∷ [];
  behaviours = active 0 (handler 0 immediate (con 1) ∷ []) ∷ active 0 (handler 1 immediate (name 2) ∷ []) ∷ passive (name 0) ∷ [];
  viewers = 255 ∷ 255 ∷ 255 ∷ [];
}

pub directly : (named_directly through_b2 1 2 ≡ true) × (named_directly through_b2 1 0 ≡ false) × (named_directly through_b2 0 2 ≡ false)
unfolding handled mentions any_below named_directly
directly = (refl, refl, refl)

pub through_the_passive : through_passives through_b2 2 0 ≡ true
unfolding handled mentions up_to matrix_of closed close_by close_rows close_through close_row close_cell through_passives
through_the_passive = refl

pub not_back : through_passives through_b2 0 2 ≡ false
unfolding handled mentions up_to matrix_of closed close_by close_rows close_through close_row close_cell through_passives
not_back = refl
