-- The loop goes on as long as the bytes are the same; then the first that differ tell, or the second name's end.
use Rattle.lib_base.proofs.Prelude.{◌∙◌, sym, ap, arith}
use Rattle.source_language.specs.Tokens.{in_word}
use Rattle.source_names.specs.Search.{order_of_bytes}
use Rattle.source_names.proofs.Laws.{name_inside}
use Rattle.source_names.proofs.Halves.{order_start, byte_inside, order_turn, order_stop, order_end}
use Rattle.source_names.proofs.order_at.Goals as goal

pub loop-k-init : goal.loop-k-init
loop-k-init c = order_start _ _ _ _ c.requires.n_value

pub overflow_add-b : goal.overflow_add-b
overflow_add-b c = omega (arith, byte_inside c.loop-k.invariant c.loop-k-test.true)

pub bounds-text-p : goal.bounds-text-p
bounds-text-p c = byte_inside c.loop-k.invariant c.loop-k-test.true

pub overflow_add-q : goal.overflow_add-q
overflow_add-q c = omega (arith, byte_inside c.loop-k.invariant c.loop-k-test.true, c.requires.q_in_bounds)

pub returns-then-b-c : goal.returns-then-b-c
returns-then-b-c c =
    c.byte_order.ensures ∙ ap (order_of_bytes _) c.byte_at-c.ensures
    ∙ order_stop c.loop-k.invariant c.loop-k-test.true (λ z. c.if-b-c.true (z ∙ sym c.byte_at-c.ensures))

pub loop-k-preserved : goal.loop-k-preserved
loop-k-preserved c = order_turn c.loop-k.invariant c.loop-k-test.true (c.if-b-c.false ∙ c.byte_at-c.ensures)

pub overflow_add-q-2 : goal.overflow_add-q-2
overflow_add-q-2 c = omega (arith, c.requires.n_value, c.requires.q_in_bounds, name_inside c.args.text.now c.args.p)

pub returns-then-in_word : goal.returns-then-in_word
returns-then-in_word c =
    let e = sym (ap in_word c.byte_at.ensures) ∙ sym c.in_word.ensures ∙ c.if-in_word.true in
    rw (order_end c.loop-k.invariant c.loop-k-test.false, e)

pub returns : goal.returns
returns c =
    let e = sym (ap in_word c.byte_at.ensures) ∙ sym c.in_word.ensures ∙ c.if-in_word.false in
    rw (order_end c.loop-k.invariant c.loop-k-test.false, e)
