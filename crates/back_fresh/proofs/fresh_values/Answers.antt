use Rattle.lib_base.proofs.Prelude.{ℕ, ◌<◌, ◌≤◌, ◌+◌, ◌≡◌, refl, List, get_or, length, drop, drop-cons, add-one, arith}
use Rattle.std.proofs.lemmas.List.{drop_all}
use Rattle.back_fresh.specs.Evaluate.{turn_on, turns_on, fresh_on}
use Rattle.back_fresh.proofs.fresh_values.Goals as goal

turn : (d : List ℕ) (e : ℕ) (o v : List ℕ) (i : ℕ) {w a : List ℕ} → turns_on d e (drop i o) v ≡ a → i < length o → w ≡ turn_on d e (get_or o i 0) v
    → turns_on d e (drop (i + 1) o) w ≡ a
unfolding turns_on
turn d e o v i t b h = rw (h, add-one i) (rw (drop-cons o i 0 b) at t)

end : (d : List ℕ) (e : ℕ) (o v : List ℕ) (i : ℕ) {a : List ℕ} → turns_on d e (drop i o) v ≡ a → length o ≤ i → v ≡ a
unfolding turns_on
end d e o v i t b = rw (drop_all i o b) at t

pub loop-i-init : goal.loop-i-init
unfolding fresh_on
loop-i-init c = rw c.start_values-values.ensures refl

pub loop-i-preserved : goal.loop-i-preserved
loop-i-preserved c = turn _ _ c.args.order.now _ c.loop-i.i-index c.loop-i.invariant (omega arith) c.take_turn.ensures

pub returns : goal.returns
returns c = end _ _ c.args.order.now _ c.loop-i.i-index c.loop-i.invariant (omega arith)
