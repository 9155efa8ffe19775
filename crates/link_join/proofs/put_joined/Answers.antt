-- Either sheet's number is not 0; else both are read (`taken`), and the bytes spliced are the pooled sheet's.
use Rattle.lib_base.proofs.Prelude.{ℕ, refl, List, ◌++◌, drop, ap, not, arith}
use Rattle.std.proofs.lemmas.Result.{err_from_is_err_and}
use Rattle.back_compile.proofs.ReadIs.{all_bytes}
use Rattle.link_join.proofs.JoinLaws.{taken, read_few, first_refused, second_refused, unlike, crowded, no_room, whole}
use Rattle.link_join.proofs.put_joined.Goals as goal

pub returns-in_err-accept-clause-answer : goal.returns-in_err-accept-clause-answer
returns-in_err-accept-clause-answer c =
    let p = err_from_is_err_and c.from_residual.result c.from_residual.ensures.1 in
    rw (p.1, p.2) (first_refused _ _ _ _ _ 0 c.in_err-accept.ensures.0 c.in_err-accept.ensures.1)

pub returns-in_err-accept-2-clause-answer : goal.returns-in_err-accept-2-clause-answer
returns-in_err-accept-2-clause-answer c =
    let p = err_from_is_err_and c.from_residual-in_err-accept-2.result c.from_residual-in_err-accept-2.ensures.1 in
    rw (p.1, p.2) (second_refused _ _ _ _ _ _ refl c.in_ok-accept.ensures c.in_err-accept-2.ensures.0 c.in_err-accept-2.ensures.1)

pub returns-then-not-ranks_agree-clause-answer : goal.returns-then-not-ranks_agree-clause-answer
returns-then-not-ranks_agree-clause-answer c =
    let x = taken c.args.first.now c.args.params.now (all_bytes c.args.first.now (λ i _. omega (arith, c.type_inv.first i))) c.in_ok-accept.ensures in
    let y = taken c.args.second.now c.args.params.now (all_bytes c.args.second.now (λ i _. omega (arith, c.type_inv.second i))) c.in_ok-accept-2.ensures in
    unlike x y _ c.in_ok-accept.ensures c.in_ok-accept-2.ensures _ c.ranks_agree.ensures (ap not c.if-not-ranks_agree.true)

pub splice-n-requires : goal.splice-n-requires
splice-n-requires c =
    let x = read_few (taken c.args.first.now c.args.params.now (all_bytes c.args.first.now (λ i _. omega (arith, c.type_inv.first i))) c.in_ok-accept.ensures) in
    let y = read_few (taken c.args.second.now c.args.params.now (all_bytes c.args.second.now (λ i _. omega (arith, c.type_inv.second i))) c.in_ok-accept-2.ensures) in
    omega arith

pub returns-in_err-accept-3-clause-answer : goal.returns-in_err-accept-3-clause-answer
returns-in_err-accept-3-clause-answer c =
    let p = err_from_is_err_and c.from_residual-in_err-accept-3.result c.from_residual-in_err-accept-3.ensures.1 in
    let x = taken c.args.first.now c.args.params.now (all_bytes c.args.first.now (λ i _. omega (arith, c.type_inv.first i))) c.in_ok-accept.ensures in
    let y = taken c.args.second.now c.args.params.now (all_bytes c.args.second.now (λ i _. omega (arith, c.type_inv.second i))) c.in_ok-accept-2.ensures in
    rw (p.1, p.2)
    (crowded x y _ c.in_ok-accept.ensures c.in_ok-accept-2.ensures _ c.ranks_agree.ensures (ap not c.if-not-ranks_agree.false) c.splice-n.ensures.bytes_written
    c.in_err-accept-3.ensures.0 c.in_err-accept-3.ensures.1)

pub returns-then-buffer-n-clause-answer : goal.returns-then-buffer-n-clause-answer
returns-then-buffer-n-clause-answer c =
    let x = taken c.args.first.now c.args.params.now (all_bytes c.args.first.now (λ i _. omega (arith, c.type_inv.first i))) c.in_ok-accept.ensures in
    let y = taken c.args.second.now c.args.params.now (all_bytes c.args.second.now (λ i _. omega (arith, c.type_inv.second i))) c.in_ok-accept-2.ensures in
    no_room x y _ c.in_ok-accept.ensures c.in_ok-accept-2.ensures _ c.ranks_agree.ensures (ap not c.if-not-ranks_agree.false) c.splice-n.ensures.bytes_written
    (omega (arith, read_few x, read_few y)) c.in_ok-accept-3.ensures c.if-buffer-n.true

pub returns-clause-answer : goal.returns-clause-answer
returns-clause-answer c =
    let x = taken c.args.first.now c.args.params.now (all_bytes c.args.first.now (λ i _. omega (arith, c.type_inv.first i))) c.in_ok-accept.ensures in
    let y = taken c.args.second.now c.args.params.now (all_bytes c.args.second.now (λ i _. omega (arith, c.type_inv.second i))) c.in_ok-accept-2.ensures in
    whole x y _ c.in_ok-accept.ensures c.in_ok-accept-2.ensures _ c.ranks_agree.ensures (ap not c.if-not-ranks_agree.false) c.splice-n.ensures.bytes_written
    (omega (arith, read_few x, read_few y)) c.in_ok-accept-3.ensures c.if-buffer-n.false
    (ap (λ (l : List ℕ). l ++ drop c.splice-n.result c.args.buffer.now) c.copy_from_slice.ensures.after)
