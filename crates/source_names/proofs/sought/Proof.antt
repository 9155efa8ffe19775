-- Each turn of the loop is a step of `seek`.
use Rattle.lib_base.proofs.Prelude.{refl, ◌∙◌, sym, rules, arith}
use Rattle.source_coding.specs.Places.{name_at}
use Rattle.source_names.proofs.Halves.{SoughtSoFar, sought_start, sought_over, sought_none, sought_outside, sought_same, sought_before, sought_behind}
use Rattle.source_names.proofs.sought.Statement.{statement}
use Rattle.source_names.proofs.sought.Tie as tie

abbrev invariant-loop : tie.invariant-loop-steps
invariant-loop text p n places top lo₀ hi₀ steps₀ lo hi steps = SoughtSoFar text places (name_at text p) top steps lo hi

abbrev decreases-loop : tie.decreases-loop-steps
decreases-loop text p n places top lo₀ hi₀ steps₀ lo hi steps = steps

returns : tie.Need-returns-then-hi-lo invariant-loop decreases-loop
returns c = sought_none c.loop-steps.invariant c.loop-steps-test.true c.if-hi-lo.true

add_mid : tie.Need-overflow_add-mid invariant-loop decreases-loop
add_mid c = let at_loop = c in omega (arith, at_loop.loop-steps.invariant.within, at_loop.requires.1)

read_q : tie.Need-bounds-places-mid invariant-loop decreases-loop
read_q c = let at_loop = c in omega (arith, at_loop.loop-steps.invariant.within, at_loop.requires.1)

returns_2 : tie.Need-returns-then-text-q invariant-loop decreases-loop
returns_2 c =
    let at_half = c in
    let at_test = at_half in
    sought_outside at_test.loop-steps.invariant at_test.loop-steps-test.true _ _ refl refl at_half.if-hi-lo.false c.if-text-q.true

order_at_requires : tie.Need-order_at-requires invariant-loop decreases-loop
order_at_requires c κs = let at_loop = c in (at_loop.requires.0, c.if-text-q.false)

loop_again : tie.Need-loop-steps-preserved-in-Less invariant-loop decreases-loop
loop_again c =
    let at_order = c in
    let at_inside = at_order in
    let at_half = at_inside in
    let at_test = at_half in
    sought_before at_test.loop-steps.invariant at_test.loop-steps-test.true _ _ refl refl at_half.if-hi-lo.false at_inside.if-text-q.false
    (sym at_order.order_at.ensures ∙ c.in-Less.is)

returns_3 : tie.Need-returns-in-Equal invariant-loop decreases-loop
returns_3 c =
    let at_order = c in
    let at_inside = at_order in
    let at_half = at_inside in
    let at_test = at_half in
    sought_same at_test.loop-steps.invariant at_test.loop-steps-test.true _ _ refl refl at_half.if-hi-lo.false at_inside.if-text-q.false
    (sym at_order.order_at.ensures ∙ c.in-Equal.is)

add_lo : tie.Need-overflow_add-lo invariant-loop decreases-loop
add_lo c =
    let at_loop = c in
    omega (arith, at_loop.loop-steps.invariant.within, at_loop.requires.1)

loop_again_2 : tie.Need-loop-steps-preserved invariant-loop decreases-loop
loop_again_2 c =
    let at_order = c in
    let at_inside = at_order in
    let at_half = at_inside in
    let at_test = at_half in
    sought_behind at_test.loop-steps.invariant at_test.loop-steps-test.true _ _ refl refl at_half.if-hi-lo.false at_inside.if-text-q.false
    (sym at_order.order_at.ensures ∙ c.in-Greater.is)

pub sought_spec : {M : Type 1} → statement M
sought_spec =
    tie.close
    (tie.spec invariant-loop decreases-loop (λ c. sought_start _ _ _ _) returns add_mid (λ c. search rules) read_q returns_2 (λ c. search rules)
    order_at_requires (λ c. search rules) (λ c. omega arith) loop_again (λ c. search rules) returns_3 (λ c. search rules) add_lo
    (λ c. omega arith) loop_again_2 (λ c. sought_over c.loop-steps.invariant c.loop-steps-test.false))
