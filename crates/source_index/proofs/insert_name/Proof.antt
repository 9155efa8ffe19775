-- The list keeps its length.
use Rattle.lib_base.proofs.Prelude.{◌≤◌, ◌≡◌, refl, length, length-set, rules, arith}
use Rattle.source_index.proofs.insert_name.Statement.{statement}
use Rattle.source_index.proofs.insert_name.Tie as tie

abbrev invariant-loop : tie.invariant-loop-i
invariant-loop text p places₀ k n i₀ places i = (length places ≡ length places₀) × (i ≤ k)

abbrev decreases-loop : tie.decreases-loop-i
decreases-loop text p places₀ k n i₀ places i = i

read_q : tie.Need-bounds-places-i invariant-loop decreases-loop
read_q c =
    let at_loop = c.before.before in
    let start = at_loop.before.before.before.before in
    omega (arith, at_loop.loop-i.invariant.0, at_loop.loop-i.invariant.1, start.requires)

write : tie.Need-bounds-places-i-then-not-belongs_before invariant-loop decreases-loop
write c =
    let at_loop = c.before.before.before.before in
    let start = at_loop.before.before.before.before in
    omega (arith, at_loop.loop-i.invariant.0, at_loop.loop-i.invariant.1, start.requires)

write_2 : tie.Need-bounds-places-i-in-loop-i invariant-loop decreases-loop
write_2 c =
    let at_loop = c.before.before.before.before in
    let start = at_loop.before.before.before.before in
    omega (arith, at_loop.loop-i.invariant.0, at_loop.loop-i.invariant.1, start.requires)

write_3 : tie.Need-bounds-places-0 invariant-loop decreases-loop
write_3 c =
    let at_loop = c.before in
    let start = at_loop.before.before.before.before in
    omega (arith, at_loop.loop-i.invariant.0, start.requires)

loop_again : tie.Need-loop-i-preserved invariant-loop decreases-loop
loop_again c = let inv = c.before.before.before.before.loop-i.invariant in (simp length-set inv.0, omega (arith, inv.1))

same_length : tie.Need-shape_of-places-then-not-belongs_before invariant-loop decreases-loop
same_length c = simp length-set c.before.before.before.before.loop-i.invariant.0

returns : tie.Need-returns-then-not-belongs_before invariant-loop decreases-loop
returns c = simp length-set c.before.before.before.before.loop-i.invariant.0

same_length_2 : tie.Need-shape_of-places invariant-loop decreases-loop
same_length_2 c = simp length-set c.before.loop-i.invariant.0

returns_2 : tie.Need-returns invariant-loop decreases-loop
returns_2 c = simp length-set c.before.loop-i.invariant.0

pub insert_name_spec : {M : Type 1} → statement M
insert_name_spec =
    tie.close
    (tie.spec invariant-loop decreases-loop (λ c κs. search rules) (λ c. (refl, omega arith)) (λ c. search rules) (λ c. search rules) read_q
    (λ c κs. c.before.before.before.name_size-n.ensures) (λ c. search rules) write same_length returns
    (λ c. search rules) write_2 (λ c. search rules) (λ c. omega arith) loop_again write_3 same_length_2 returns_2)
