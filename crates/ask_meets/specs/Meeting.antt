-- Where two events meet in a set of behaviours, as tests that compute: they decide the definition (crate ask_commute,
-- Meets.antt). An event is strict about j where it reads j in a handler of one of the set other than that of j, or has
-- a handler of j that does not add. Two events meet at j of the set where one writes j and the other is strict about
-- it: if both write it and neither is strict, both only add to it.
use Rattle.std.specs.Prelude.{ℕ, Bool, not, ◌&&◌, ◌||◌, eqb}
use Rattle.lib_base.specs.Basics.{pick}
use Rattle.spec_language.specs.Syntax.{Program}
use Rattle.spec_language.specs.Dependence.{size, response, writes}
use Rattle.check_graph.specs.Any.{any_below}
use Rattle.check_reads.specs.Named.{through_passives}
use Rattle.check_reads.specs.InResponse.{in_response}
use Rattle.check_reads.specs.Sets.{closed_by}
use Rattle.ask_leak.specs.Leak.{behaviour_names}
use Rattle.ask_meets.specs.Marks.{adds_of}

-- j is in the cone of behaviour b: b itself, or what a chain of names leads to from b
unfoldable pub in_cone : Program → ℕ → ℕ → Bool
in_cone p b j = closed_by (size p) (behaviour_names p) b j || eqb j b

-- what i does on event e names j, directly or through passives
unfoldable pub refers_at : Program → ℕ → ℕ → ℕ → Bool
refers_at p e i j = in_response j (response p e i) || any_below (size p) (λ k. in_response k (response p e i) && through_passives p k j)

-- by its handler of i
unfoldable pub strict_at : Program → ℕ → ℕ → ℕ → Bool
strict_at p e i j = pick (eqb i j) (not (adds_of p e i)) (refers_at p e i j)

-- by its handlers of the set
unfoldable pub strict_in : Program → (ℕ → Bool) → ℕ → ℕ → Bool
strict_in p D e j = any_below (size p) (λ i. (D i && writes p e i) && strict_at p e i j)

-- by what two events write and are strict about
unfoldable pub meeting : Bool → Bool → Bool → Bool → Bool → Bool
meeting inside we se wf sf = inside && ((we && sf) || (wf && se))

unfoldable pub meets : Program → (ℕ → Bool) → ℕ → ℕ → ℕ → Bool
meets p D e f j = meeting (D j) (writes p e j) (strict_in p D e j) (writes p f j) (strict_in p D f j)
