-- The answer of `circle` as a number, by computation, as engine.h takes it apart: 12, the event's number times 256, 255
-- for none, and the circle's length times 65,536. Of three behaviours in a sheet of two events, under event 1 and under
-- none; listed in three bytes of four, and not in two; and no longer than a circle under event 0.
use Rattle.lib_base.proofs.Prelude.{ℕ, ◌≤◌, ◌≡◌, List, ◌++◌, length, drop, arith}
use Rattle.spec_language.specs.Syntax.{Program}
use Rattle.spec_language.specs.Dependence.{depends_on}
use Rattle.check_distance.specs.Circle.{Circle}
use Rattle.check_shortest.specs.EventNumber.{event_number}
use Rattle.ask_circle.specs.Witness.{CircleListed}

module _ (p : Program) (two : length p.priorities ≡ 2) (list list' : List ℕ) (r : ℕ) (c : CircleListed p list r list') (three : length c.members ≡ 3) where
  pub under_event_1 : c.event ≡ 1 → r ≡ 196876
  unfolding event_number
  under_event_1 e = rw (e, two, three) at c.answer

  pub under_none : c.event ≡ 2 → r ≡ 261900
  unfolding event_number
  under_none e = rw (e, two, three) at c.answer

  pub listed : (length list ≡ 3 → list' ≡ c.members ++ drop (length c.members) list) × (length list ≡ 2 → list' ≡ list)
  listed = (λ h. c.bytes (omega arith), λ h. c.short (omega arith))

  pub no_shorter : (l : List ℕ) → Circle (depends_on p 0) l → 3 ≤ length l
  no_shorter l h = let n : length c.members ≤ length l = c.shortest 0 (omega arith) l h in omega arith
