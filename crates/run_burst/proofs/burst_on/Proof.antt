-- `burst_on` is `burst_on`: the loop keeps what is left of the steps, made where it stands, equal to the whole.
use Rattle.lib_base.proofs.Prelude.{refl, sym, rules, arith}
use Rattle.run_burst.proofs.Glue.{Bursting, burst_spent, burst_ends, burst_goes_on}
use Rattle.run_burst.proofs.burst_on.Statement.{statement}
use Rattle.run_burst.proofs.burst_on.Tie as tie

abbrev invariant-loop : tie.invariant-loop-left
invariant-loop table round₀ most outranked₀ left₀ round outranked left = Bursting table most round₀ outranked left round

abbrev decreases-loop : tie.decreases-loop-left
decreases-loop table round₀ most outranked₀ left₀ round outranked left = left

pub burst_on_spec : {M : Type 1} → statement M
burst_on_spec =
    tie.close
    (tie.spec
    invariant-loop
    decreases-loop
    (λ c κs. search rules)
    (λ c. record { whole = refl; sound = c.requires; rank = sym c.is_outranked-outranked.ensures; as_long = refl })
    (λ c κs. (c.loop-left.invariant.sound, c.loop-left.invariant.rank, c.loop-left-test.true))
    (λ c κs. search rules)
    (λ c. omega (arith, c.loop-left.invariant.as_long))
    (λ c. burst_ends c.loop-left.invariant c.run_then_step-stop.ensures c.is_stop.ensures c.if-is_stop.true)
    (λ c κs. search rules)
    (λ c. (burst_goes_on c.loop-left.invariant c.run_then_step-stop.ensures c.is_stop.ensures c.if-is_stop.false c.is_outranked_after-outranked.ensures (search rules)).1)
    (λ c. (burst_goes_on c.loop-left.invariant c.run_then_step-stop.ensures c.is_stop.ensures c.if-is_stop.false c.is_outranked_after-outranked.ensures (search rules)).0)
    (λ c. c.loop-left.invariant.as_long)
    (λ c. burst_spent c.loop-left.invariant c.loop-left-test.false))
