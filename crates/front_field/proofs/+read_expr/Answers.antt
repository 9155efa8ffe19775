-- The expression reader and its arguments' loop are `expr_of` and `read_arguments`.
use Rattle.lib_base.proofs.Prelude.{refl, ap, ◌≡◌, ◌+◌, ◌-◌, length, arith}
use Rattle.lib_signature.specs.Signature.{arity}
use Rattle.std.proofs.lemmas.Result.{err_from_is_err_and}
use Rattle.front_field.proofs.Laws.{unroll, turn_fault, turn_done, turn_end}
use Rattle.front_field.proofs.+read_expr.Goals as goal

pub returns-in_err-node-clause-draft_after : goal.returns-in_err-node-clause-draft_after
returns-in_err-node-clause-draft_after t c =
    let p = err_from_is_err_and c.from_residual.result c.from_residual.ensures.1 in
    rw (unroll, ← c.read_head.ensures.value, c.in_err-node.was, p.1, p.2) refl

pub loop-init : goal.loop-init
loop-init t c =
    let value = c.field_value-v.ensures.result_value in
    let h = rw (c.in_ok-node.was, c.in-Apply.is) at c.read_head.ensures.head_in in
    let all : c.arity_of-end.result - 0 ≡ arity c.in-Apply.f = omega (arith, c.arity_of-end.ensures.value) in
    record {
      whole = rw (all, unroll, ← c.read_head.ensures.value, c.in_ok-node.was, c.in-Apply.is, ← value) refl;
      deep = h.0;
      within = omega (arith, ap length value);
      first = omega arith;
      reached = omega (arith, ap length value);
      nodes = omega arith;
      onwards = omega arith;
      room = c.requires;
    }

pub returns-in_err-argument-in-Apply-clause-draft_after :
    goal.returns-in_err-argument-in-Apply-clause-draft_after
returns-in_err-argument-in-Apply-clause-draft_after t c =
    let p = err_from_is_err_and c.from_residual-in_err-argument-in-Apply.result c.from_residual-in_err-argument-in-Apply.ensures.1 in
    rw (p.1, p.2) (turn_fault c.loop.invariant (λ e. omega arith) c.read_expr.ensures.draft_after c.in_err-argument-in-Apply.was)

pub loop-preserved : goal.loop-preserved
loop-preserved t c =
    let call = c.read_expr in
    let one_less : c.arity_of-end.result - (c.loop.counter + 1) ≡ c.arity_of-end.result - c.loop.counter - 1 = omega arith in
    rw one_less
    (turn_done c.loop.invariant (λ e. omega arith) call.ensures.draft_after c.in_ok-argument-in-Apply.was call.ensures.read_in)

pub returns-in-Leaf-clause-draft_after : goal.returns-in-Leaf-clause-draft_after
returns-in-Leaf-clause-draft_after t c = rw (unroll, ← c.read_head.ensures.value, c.in_ok-node.was, c.in-Leaf.is) refl

pub returns-after-loop-clause-draft_after : goal.returns-after-loop-clause-draft_after
returns-after-loop-clause-draft_after t c =
    (turn_end c.loop.invariant _ (omega arith) c.close_at.ensures.draft_after c.close_at.ensures.close_in).0
