-- The branches are those of `order_of_bytes`, the order's first.
use Rattle.lib_base.proofs.Prelude.{◌∙◌, sym, le-ltb, lt-ltb, rules}
use Rattle.lib_base.proofs.Tools.{split}
use Rattle.source_language.specs.Tokens.{in_word}
use Rattle.source_names.proofs.byte_order.Statement.{statement}
use Rattle.source_names.proofs.byte_order.Tie as tie

pub byte_order_spec : {M : Type 1} → statement M
byte_order_spec =
    tie.close
    (tie.spec
    (λ c κs. search rules)
    (λ c.
    let at_order = c.before.before in
    let a = at_order.before.args in
    rw (sym c.before.in_word.ensures ∙ c.if-in_word.true, lt-ltb a.b a.c at_order.if-b-c.true))
    (λ c. rw (sym c.before.in_word.ensures ∙ c.if-in_word.false))
    (λ c.
    let a = c.before.args in
    rw (le-ltb a.b a.c c.if-b-c.false) (split (in_word a.c) (λ t. rw t) (λ f. rw f))))
