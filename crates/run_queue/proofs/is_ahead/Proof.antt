-- `is_ahead` is `ahead`: of two tests that exclude each other the code makes the second first.
use Rattle.lib_base.proofs.Prelude.{ℕ, ◌≤◌, ◌<◌, ◌≡◌, true, false, ltb, le-ltb, lt-ltb, arith}
use Rattle.run_queue.specs.Queue.{ahead}
use Rattle.run_queue.proofs.is_ahead.Statement.{statement}
use Rattle.run_queue.proofs.is_ahead.Tie as tie

lower : (p n q m : ℕ) → p < q → false ≡ ahead p n q m
unfolding ahead
lower p n q m h = let k : p ≤ q = omega arith in rw (le-ltb q p k, lt-ltb p q h)

higher : (p n q m : ℕ) → q < p → true ≡ ahead p n q m
unfolding ahead
higher p n q m h = rw (lt-ltb q p h)

equal : (p n q m : ℕ) → q ≤ p → p ≤ q → ltb n m ≡ ahead p n q m
unfolding ahead
equal p n q m h k = rw (le-ltb q p k, le-ltb p q h)

pub is_ahead_spec : {M : Type 1} → statement M
is_ahead_spec =
    tie.close
    (tie.spec
    (λ c. lower _ _ _ _ c.if-p-q.true)
    (λ c. higher _ _ _ _ c.if-q-p.true)
    (λ c. equal _ _ _ _ c.before.if-p-q.false c.if-q-p.false))
