use Rattle.lib_base.proofs.Prelude.{ℕ, ◌+◌, ◌-◌, ◌<◌, ◌≤◌, suc, ◌≡◌, ◌∙◌, sym, true, false, List, set, ltb, add-one, lt-ltb, le-ltb, arith}
use Rattle.check_graph.specs.Placing.{Placed, placed, find_on, order_on}
use Rattle.check_graph.proofs.SetLaws.{marks_set}
use Rattle.check_graph.proofs.arrange.Goals as goal

-- the placing from `count` on, by the number f that it finds
onward : (m marks out : List ℕ) {n count f : ℕ} {w : Placed} → count < n → f ≡ find_on m marks n n 0 → f < n
    → order_on m n (n - count) marks count out ≡ w → order_on m n (n - (count + 1)) (set marks f 1) (count + 1) (set out count f) ≡ w
unfolding order_on
onward m marks out {n} {count} {f} h e b w =
    let s : n - count ≡ suc (n - suc count) = omega arith in
    let d : ltb (find_on m marks n n 0) n ≡ true = rw (← e) (lt-ltb f n b) in
    let step : order_on m n (suc (n - suc count)) marks count out
    ≡ order_on m n (n - suc count) (set marks (find_on m marks n n 0) 1) (suc count) (set out count (find_on m marks n n 0)) = rw (d, order_on) in
    rw (e, add-one count) (sym step ∙ (rw s at w))

stop : (m marks out : List ℕ) {n count f : ℕ} {w : Placed} → count < n → f ≡ find_on m marks n n 0 → n ≤ f
    → order_on m n (n - count) marks count out ≡ w → placed count marks out ≡ w
unfolding order_on
stop m marks out {n} {count} {f} h e b w =
    let s : n - count ≡ suc (n - (count + 1)) = omega arith in
    let d : ltb (find_on m marks n n 0) n ≡ false = rw (← e) (le-ltb f n b) in
    let step : order_on m n (suc (n - (count + 1))) marks count out ≡ placed count marks out = rw (d, order_on) in
    sym step ∙ (rw s at w)

end : (m marks out : List ℕ) {n count : ℕ} {w : Placed} → count ≡ n → order_on m n (n - count) marks count out ≡ w → placed n marks out ≡ w
unfolding order_on
end m marks out {n} {count} e w = let s : n - count ≡ 0 = omega arith in rw (← e) (rw s at w)

pub returns-in_default : goal.returns-in_default
returns-in_default c = stop _ _ _ c.loop-count-test.true (sym c.in_default.ensures) (omega arith) c.loop-count.invariant

pub loop-count-preserved : goal.loop-count-preserved
loop-count-preserved c =
    let w = c.in-Some.ensures in
    rw (← marks_set c.loop-count.set c.insert-set.result c.in-Some.i (omega arith) c.insert-set.ensures)
    (onward _ _ _ c.loop-count-test.true (sym w.1) w.0 c.loop-count.invariant)

pub returns : goal.returns
returns c = end _ _ _ (omega arith) c.loop-count.invariant
