-- What an allowed instruction may count on: each test that it passed is a bound.
use Rattle.lib_base.proofs.Prelude.{ℕ, ◌≤◌, ◌<◌, ◌≡◌, true, false, Bool, false≢true, ◌≢◌, eqb, ltb, leb, ne_eqb, le-ltb}
use Rattle.lib_base.proofs.Prelude.{lt-ltb, ltb-false, ltb-true, leb-true, arith}
use Rattle.lib_base.specs.Basics.{pick}
use Rattle.lib_base.proofs.Tools.{past, split}
use Rattle.lib_signature.specs.Signature.{arity, last}
use Rattle.run_instruction.specs.Allowed.{applies, may_run}

applies_fits : (f d : ℕ) → applies f d ≡ true → (f ≤ last) × (arity f ≤ d)
unfolding applies
applies_fits f d e =
    let p = past (eqb f 0) (pick (ltb last f) false (leb (arity f) d)) e in
    let q = past (ltb last f) (leb (arity f) d) p.1 in
    (ltb-false last f q.0, leb-true (arity f) d q.1)

-- what remains of `may_run` once the slot has passed
abbrev rest : ℕ → ℕ → ℕ → Bool
rest op s d =
    pick (eqb op 0) false (pick (ltb op 5) true (pick (ltb op 8) (ltb d 64) (pick (eqb op 8) (applies s d) (pick (ltb op 11) (ltb 0 d) (eqb op 11)))))

-- the slot is one of 64
pub slot_small : (op s d : ℕ) → may_run op s d ≡ true → s < 64
unfolding may_run
slot_small op s d e = let h : s ≤ 63 = ltb-false 63 s (past (ltb 63 s) (rest op s d) e).0 in omega arith

-- the operation is one of 1 to 11
pub operation_known : (op s d : ℕ) → may_run op s d ≡ true → (0 < op) × (op < 12)
unfolding may_run
operation_known op s d e =
    let r = (past (ltb 63 s) (rest op s d) e).1 in
    let z : op ≢ 0 = λ q. false≢true (rw q at r) in
    let h : op < 12 = split (ltb op 12) (λ g. ltb-true op 12 g)
    (λ g.
    let b = ltb-false op 12 g in
    absurd (false≢true (rw (ne_eqb op 0 z, le-ltb op 5 (omega arith), le-ltb op 8 (omega arith), ne_eqb op 8 (omega arith), le-ltb op 11 (omega arith), ne_eqb op 11 (omega arith)) at r))) in
    (omega arith, h)

-- push, load and fetch find room
pub push_room : (op s d : ℕ) → may_run op s d ≡ true → 5 ≤ op → op < 8 → d < 64
unfolding may_run
push_room op s d e a b =
    let z : eqb op 0 ≡ false = ne_eqb op 0 (omega arith) in
    let l : ltb op 5 ≡ false = le-ltb op 5 a in
    let h : ltb op 8 ≡ true = lt-ltb op 8 b in
    ltb-true d 64 (rw (z, l, h) at (past (ltb 63 s) (rest op s d) e).1)

-- a function is one of the fourteen, and finds its arguments
pub apply_fits : (s d : ℕ) → may_run 8 s d ≡ true → (s ≤ last) × (arity s ≤ d)
unfolding may_run
apply_fits s d e = applies_fits s d (past (ltb 63 s) (rest 8 s d) e).1

-- save and defer find a value
pub pop_one : (op s d : ℕ) → may_run op s d ≡ true → 8 < op → op < 11 → 0 < d
unfolding may_run
pop_one op s d e a b =
    let z : eqb op 0 ≡ false = ne_eqb op 0 (omega arith) in
    let l : ltb op 5 ≡ false = le-ltb op 5 (omega arith) in
    let h : ltb op 8 ≡ false = le-ltb op 8 (omega arith) in
    let n : eqb op 8 ≡ false = ne_eqb op 8 (omega arith) in
    let m : ltb op 11 ≡ true = lt-ltb op 11 b in
    ltb-true 0 d (rw (z, l, h, n, m) at (past (ltb 63 s) (rest op s d) e).1)
