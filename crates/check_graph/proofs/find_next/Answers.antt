use Rattle.lib_base.proofs.Prelude.{ℕ, ◌+◌, ◌-◌, ◌<◌, suc, ◌≡◌, ◌∙◌, sym, true, false, List, add-one, arith}
use Rattle.check_graph.specs.Placing.{ready_on, find_on}
use Rattle.check_graph.specs.Sets.{bytes_of, marks_of}
use Rattle.check_graph.proofs.SetLaws.{ready_is}
use Rattle.check_graph.proofs.find_next.Goals as goal
use Rattle.check_graph.proofs.find_next.Goals.{After-is_ready}

-- the search from i on, by whether i is ready
found : (m marks : List ℕ) {n i w : ℕ} → i < n → ready_on m marks n i ≡ true → find_on m marks n (n - i) i ≡ w → i ≡ w
unfolding find_on
found m marks {n} {i} h e w =
    let s : n - i ≡ suc (n - (i + 1)) = omega arith in
    let step : find_on m marks n (suc (n - (i + 1))) i ≡ i = rw (e, find_on) in
    sym step ∙ (rw s at w)

onward : (m marks : List ℕ) {n i w : ℕ} → i < n → ready_on m marks n i ≡ false → find_on m marks n (n - i) i ≡ w → find_on m marks n (n - (i + 1)) (i + 1) ≡ w
unfolding find_on
onward m marks {n} {i} h e w =
    let s : n - i ≡ suc (n - (i + 1)) = omega arith in
    let step : find_on m marks n (suc (n - (i + 1))) i ≡ find_on m marks n (n - (i + 1)) (suc i) = rw (e, find_on) in
    rw (← add-one i) at (sym step ∙ (rw s at w))

ready : (c : After-is_ready) → ready_on (bytes_of c.args.rows.now) (marks_of c.args.set) c.args.n c.loop-i.i ≡ c.is_ready.result
ready c =
    sym (ready_is _ _ c.loop-i.i (omega arith) c.args.n c.requires.0 (c.fits-rows c.loop-i.i) (λ j b. c.requires.1.none_past _ j (omega arith) b))
    ∙ sym c.is_ready.ensures

pub returns-then-is_ready : goal.returns-then-is_ready
returns-then-is_ready c = (omega arith, sym (found _ _ (omega arith) (ready (goal.at.returns-then-is_ready c).After-is_ready ∙ c.if-is_ready.true) c.loop-i.invariant))

pub loop-i-preserved : goal.loop-i-preserved
loop-i-preserved c = onward _ _ (omega arith) (ready (goal.at.loop-i-preserved c).After-is_ready ∙ c.if-is_ready.false) c.loop-i.invariant

pub returns : goal.returns
unfolding find_on
returns c = let s : c.args.n - c.loop-i.i ≡ 0 = omega arith in let e : c.loop-i.i ≡ c.args.n = omega arith in sym (rw s at c.loop-i.invariant) ∙ e
