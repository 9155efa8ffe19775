-- Worked examples, by evaluation: what two events share, as the number that `pair` answers. 2 ^ 32, the behaviour, and
-- 256 times 1 the first writes it, 2 the second writes it, 4 the first reads it, 8 the second reads it, 16 both only
-- add to it, 32 they meet there. And what is named is the least.
use Rattle.lib_base.proofs.Prelude.{ℕ, ◌≤◌, ◌≡◌, refl, true, false, [], ◌∷◌}
use Rattle.spec_language.specs.Syntax.{con, name, app2, app3, immediate, later, handler, active, Program}
use Rattle.spec_language.specs.Dependence.{handled, mentions}
use Rattle.spec_language.specs.Order.{up_to}
use Rattle.check_graph.specs.Matrix.{close_cell, close_row, close_through, close_rows, close_by, closed}
use Rattle.check_graph.specs.Any.{any_below}
use Rattle.check_faults.specs.Faults.{matrix_of}
use Rattle.check_reads.specs.First.{first_from}
use Rattle.check_reads.specs.Named.{named_directly, through_passives, named_by}
use Rattle.ask_agree.specs.Agree.{clashes}
use Rattle.ask_agree.specs.Claims.{SharedBehaviour}
use Rattle.ask_commute.specs.Meets.{MeetAt}
use Rattle.ask_meets.specs.Marks.{name_mark, two_mark, if_mark, mark_of, adds_of}
use Rattle.ask_meets.specs.Meeting.{refers_at, strict_at, strict_in, meeting, meets}
use Rattle.ask_pair.specs.Pair.{least_told, flags_at, packed_pair, pair_by, pair_of, pair_in}
use Rattle.ask_pair.specs.Claims.{AllOfThem, packed_told, PairNamed}

-- 01's sheet S: event 0 has b0 + b1 for b0, and b0 - b1 for b1 later; event 1 has 1 for b1
abbrev S : Program
S = record {
  priorities = 1 ∷ 2 ∷ [];
  senders = 255 ∷ 255 ∷ [];
  behaviours =
      active 1 (handler 0 immediate (app2 4 (name 0) (name 1)) ∷ [])
      ∷ active 1 (handler 0 later (app2 5 (name 0) (name 1)) ∷ handler 1 immediate (con 1) ∷ [])
      ∷ [];
  viewers = 255 ∷ 255 ∷ [];
}

-- they meet at b1: both write it, the first reads it; 39 is 1 + 2 + 4 + 32, and 43 is 1 + 2 + 8 + 32
S_0_and_1 : pair_in S 0 1 ≡ 4294977281
unfolding handled mentions up_to any_below matrix_of closed close_by close_rows close_through close_row close_cell first_from named_directly through_passives named_by clashes name_mark two_mark mark_of adds_of refers_at strict_at strict_in meeting meets least_told flags_at packed_pair pair_by pair_of pair_in
S_0_and_1 = refl

S_1_and_0 : pair_in S 1 0 ≡ 4294978305
unfolding handled mentions up_to any_below matrix_of closed close_by close_rows close_through close_row close_cell first_from named_directly through_passives named_by clashes name_mark two_mark mark_of adds_of refers_at strict_at strict_in meeting meets least_told flags_at packed_pair pair_by pair_of pair_in
S_1_and_0 = refl

-- the same number as the claim packs it
S_as_claimed : packed_told 1 true true true false false true ≡ 4294977281
unfolding packed_told
S_as_claimed = refl

-- event 2 is not declared
S_0_and_2 : pair_in S 0 2 ≡ 15
unfolding pair_in
S_0_and_2 = refl

-- a hit (event 0) is worth 10 points unless time is up (b0), a bonus (1) 50, and event 2 says that time is up
abbrev scores : Program
scores = record {
  priorities = 2 ∷ 9 ∷ 9 ∷ [];
  senders = 255 ∷ 255 ∷ 255 ∷ [];
  behaviours =
      active 0 (handler 2 immediate (con 1) ∷ [])
      ∷ active 0 (handler 0 immediate (app3 14 (name 0) (name 1) (app2 4 (name 1) (con 10))) ∷ handler 1 immediate (app2 4 (name 1) (con 50)) ∷ [])
      ∷ [];
  viewers = 255 ∷ 255 ∷ [];
}

-- hit and bonus only add to b1: 31 is 1 + 2 + 4 + 8 + 16
hit_and_bonus : pair_in scores 0 1 ≡ 4294975233
unfolding handled mentions up_to any_below matrix_of closed close_by close_rows close_through close_row close_cell first_from named_directly through_passives named_by clashes name_mark two_mark if_mark mark_of adds_of refers_at strict_at strict_in meeting meets least_told flags_at packed_pair pair_by pair_of pair_in
hit_and_bonus = refl

-- the hit reads b0, which event 2 writes: 38 is 2 + 4 + 32
hit_and_time_up : pair_in scores 0 2 ≡ 4294977024
unfolding handled mentions up_to any_below matrix_of closed close_by close_rows close_through close_row close_cell first_from named_directly through_passives named_by clashes name_mark two_mark if_mark mark_of adds_of refers_at strict_at strict_in meeting meets least_told flags_at packed_pair pair_by pair_of pair_in
hit_and_time_up = refl

-- two lights, of two ranks: independent
abbrev lights : Program
lights = record {
  priorities = 1 ∷ 2 ∷ [];
  senders = 255 ∷ 255 ∷ [];
  behaviours = active 0 (handler 0 immediate (con 1) ∷ []) ∷ active 0 (handler 1 immediate (con 1) ∷ []) ∷ [];
  viewers = 255 ∷ 255 ∷ [];
}

independent_lights : pair_in lights 0 1 ≡ 0
unfolding handled mentions up_to any_below matrix_of closed close_by close_rows close_through close_row close_cell first_from named_directly through_passives named_by clashes name_mark two_mark if_mark mark_of adds_of refers_at strict_at strict_in meeting meets least_told flags_at packed_pair pair_by pair_of pair_in
independent_lights = refl

-- no more than b3 where they meet there, or where they meet nowhere and share it
module _ (p : Program) (answer : ℕ) (a : PairNamed p 0 1 answer) where
  least_met : a.meet ≡ true → MeetAt p AllOfThem 0 1 3 → a.behaviour ≤ 3
  least_met m s = a.least_met m 3 s

  least_shared : a.meet ≡ false → SharedBehaviour p 0 1 3 → a.behaviour ≤ 3
  least_shared m s = a.least_shared m 3 s
