-- The levels' loops keep `Kept`, the others are `Operands`.
use Rattle.lib_base.proofs.Prelude.{ℕ, ◌≡◌, ◌∙◌, sym, ap, refl, ltb-false, rules, arith}
use Rattle.text_formula.specs.declared.tokens.Token as code
use Rattle.text_formula.specs.declared.tokens.Token.TheVariants.{Function, Opening}
use Rattle.std.specs.Prelude.{Some, None}
use Rattle.text_parser.proofs.Levels.{level_begins, level_end, level_goes_on, next_room, some_there, still}
use Rattle.text_parser.proofs.Operands.{argument_missing, argument_read, argued_in, choice_closable, chosen, operand_none, operand_not_none, operand_not, operand_if, operand_brackets, operand_leaf, got, got_function}
use Rattle.text_parser.proofs.+argument_choice_conjunction_disjunction_equality_operand_ordering_product_sum.Goals as goal
use Rattle.text_parser.proofs.+argument_choice_conjunction_disjunction_equality_operand_ordering_product_sum.Goals.{operand-After-leaf, operand-in_default-via-in-Function+in_default, operand-in_default-via-in_default}

-- ---- a bracket or comma, and a formula

pub argument-returns-then-not-stands-clause-argued : goal.argument-returns-then-not-stands-clause-argued
argument-returns-then-not-stands-clause-argued t c =
    argument_missing _ _ _ _ _ _ c.requires.due_mark c.stands.ensures.value c.if-not-stands.true

pub argument-disjunction-q-requires : goal.argument-disjunction-q-requires
argument-disjunction-q-requires t c =
    let h = c.stands.ensures.at_in_bounds c.if-not-stands.false in
    (omega (arith, c.decreases), (omega (arith, c.requires.argument_in), (c.requires.field_room.0, c.requires.field_room.1)))

pub argument-returns-clause-argued : goal.argument-returns-clause-argued
argument-returns-clause-argued t c =
    rw c.under.ensures
    (argument_read _ _ _ _ _ _ c.requires.due_mark c.stands.ensures.value c.if-not-stands.false _ c.disjunction-q.ensures.reading
    c.disjunction-q.ensures.read_within)

-- ---- `if`

pub choice-argument-requires : goal.choice-argument-requires
choice-argument-requires t c =
    (omega (arith, c.decreases), ((omega (arith, c.requires.n_bound), omega arith), (omega arith, (c.requires.field_room.0, c.requires.field_room.1))))

pub choice-argument-requires-2 : goal.choice-argument-requires-2
choice-argument-requires-2 t c =
    let w = c.in_ok-r.ensures.argued.1 in (
      omega (arith, c.decreases),
      (
        argued_in 1 _ _ _ _ _ (omega (arith, c.requires.n_bound), omega arith) c.in_ok-r.ensures.argued,
        (omega arith, (c.requires.field_room.0, c.in_ok-r.ensures.out_len)),
      ),
    )

pub choice-argument-three-requires : goal.choice-argument-three-requires
choice-argument-three-requires t c =
    let w = c.in_ok-r.ensures.argued.1 in
    let v = c.in_ok-r-2.ensures.argued.1 in
    let i = argued_in 1 _ _ _ _ _ (omega (arith, c.requires.n_bound), omega arith) c.in_ok-r.ensures.argued in (
      omega (arith, c.decreases),
      (argued_in 3 _ _ _ _ _ i c.in_ok-r-2.ensures.argued, (omega arith, (c.requires.field_room.0, c.in_ok-r-2.ensures.out_len))),
    )

pub choice-returns-in_err-r-clause-choice_read : goal.choice-returns-in_err-r-clause-choice_read
choice-returns-in_err-r-clause-choice_read t c =
    (chosen _ _ _ _ c.argument.new.out c.argument.new.out _ None None None c.in_err-r.ensures.argued refl refl c.requires.n_bound c.requires.field_room.0 None _ _ refl
    c.from_residual.ensures refl c.requires.at_in_bounds c.requires.field_room.1 c.in_err-r.ensures.out_len).0

pub choice-returns-in_err-r-2-clause-choice_read : goal.choice-returns-in_err-r-2-clause-choice_read
choice-returns-in_err-r-2-clause-choice_read t c =
    (chosen _ _ _ _ _ c.argument-2.new.out _ (Some _) None None c.in_ok-r.ensures.argued c.in_err-r-2.ensures.argued refl c.requires.n_bound
    c.requires.field_room.0 None _ _ refl c.from_residual-in_err-r-2.ensures refl c.requires.at_in_bounds c.requires.field_room.1
    c.in_err-r-2.ensures.out_len).0

pub choice-close-requires : goal.choice-close-requires
choice-close-requires t c =
    record {
      closable = choice_closable _ _ _ _ _ _ _ (Some _) (Some _) _ c.in_ok-r.ensures.argued c.in_ok-r-2.ensures.argued c.argument-three.ensures.argued
          c.requires.n_bound c.requires.field_room.0 _ c.ended-last.ensures c.argument-three.ensures.out_len;
      out_len_bound = omega (arith, c.argument-three.ensures.out_len);
    }

pub choice-returns-clause-choice_read : goal.choice-returns-clause-choice_read
choice-returns-clause-choice_read t c =
    (chosen _ _ _ _ _ _ _ (Some _) (Some _) _ c.in_ok-r.ensures.argued c.in_ok-r-2.ensures.argued c.argument-three.ensures.argued
    c.requires.n_bound c.requires.field_room.0 _ _ _ c.ended-last.ensures c.close.ensures.value c.close.ensures.out_after
    c.requires.at_in_bounds c.requires.field_room.1 c.argument-three.ensures.out_len).0

pub choice-returns-clause-read_within : goal.choice-returns-clause-read_within
choice-returns-clause-read_within t c =
    (chosen _ _ _ _ _ _ _ (Some _) (Some _) _ c.in_ok-r.ensures.argued c.in_ok-r-2.ensures.argued c.argument-three.ensures.argued
    c.requires.n_bound c.requires.field_room.0 _ _ _ c.ended-last.ensures c.close.ensures.value c.close.ensures.out_after
    c.requires.at_in_bounds c.requires.field_room.1 c.argument-three.ensures.out_len).1

-- ---- `!` and the primaries

pub operand-returns-in_err-t-clause-reading : goal.operand-returns-in_err-t-clause-reading
operand-returns-in_err-t-clause-reading t c =
    operand_none _ _ _ _ _ _ c.from_residual.ensures (ltb-false _ _ (sym c.in_err-t.ensures.lookup.0))

pub operand-operand-requires : goal.operand-operand-requires
operand-operand-requires t c =
    let h = c.in_ok-t.ensures.lookup.3.0 in
    (omega (arith, c.decreases), (omega (arith, c.requires.n_bound), (c.requires.field_room.0, c.requires.field_room.1)))

pub operand-returns-in_err-r-in-Function-eq3-clause-reading : goal.operand-returns-in_err-r-in-Function-eq3-clause-reading
operand-returns-in_err-r-in-Function-eq3-clause-reading t c =
    operand_not_none _ _ _ _ c.requires.n_bound c.requires.field_room.0 c.requires.field_room.1
    (got_function _ _ 3 c.in_ok-t.ensures.lookup.3.0 c.in_ok-t.ensures.lookup.3.1 c.in-Function-eq3.is c.in-Function-eq3.field-0-is c.in-Function-eq3.field-0-test)
    _ _ c.from_residual-in_err-r-in-Function-eq3.ensures c.in_err-r-in-Function-eq3.ensures.reading

pub operand-returns-in_ok-r-in-Function-eq3-clause-reading : goal.operand-returns-in_ok-r-in-Function-eq3-clause-reading
operand-returns-in_ok-r-in-Function-eq3-clause-reading t c =
    rw c.close.ensures.value
    (operand_not _ _ _ _ c.requires.n_bound c.requires.field_room.0 c.requires.field_room.1
    (got_function _ _ 3 c.in_ok-t.ensures.lookup.3.0 c.in_ok-t.ensures.lookup.3.1 c.in-Function-eq3.is c.in-Function-eq3.field-0-is c.in-Function-eq3.field-0-test)
    _ (Some _) _ c.in_ok-r-in-Function-eq3.ensures.reading c.in_ok-r-in-Function-eq3.ensures.read_within c.in_ok-r-in-Function-eq3.ensures.out_len
    c.close.ensures.out_after).0

pub operand-returns-in_ok-r-in-Function-eq3-clause-read_within : goal.operand-returns-in_ok-r-in-Function-eq3-clause-read_within
operand-returns-in_ok-r-in-Function-eq3-clause-read_within t c =
    rw c.close.ensures.value
    (operand_not _ _ _ _ c.requires.n_bound c.requires.field_room.0 c.requires.field_room.1
    (got_function _ _ 3 c.in_ok-t.ensures.lookup.3.0 c.in_ok-t.ensures.lookup.3.1 c.in-Function-eq3.is c.in-Function-eq3.field-0-is c.in-Function-eq3.field-0-test)
    _ (Some _) _ c.in_ok-r-in-Function-eq3.ensures.reading c.in_ok-r-in-Function-eq3.ensures.read_within c.in_ok-r-in-Function-eq3.ensures.out_len
    c.close.ensures.out_after).1

pub operand-choice-requires : goal.operand-choice-requires
operand-choice-requires t c =
    let h = c.in_ok-t.ensures.lookup.3.0 in
    (omega (arith, c.decreases), (c.requires.n_bound, (h, (c.requires.field_room.0, c.requires.field_room.1))))

pub operand-returns-in-Function-eq14-clause-reading : goal.operand-returns-in-Function-eq14-clause-reading
operand-returns-in-Function-eq14-clause-reading t c =
    operand_if _ _ _ _ c.requires.n_bound c.requires.field_room.0 c.requires.field_room.1
    (got_function _ _ 14 c.in_ok-t.ensures.lookup.3.0 c.in_ok-t.ensures.lookup.3.1 c.in-Function-eq14.is c.in-Function-eq14.field-0-is c.in-Function-eq14.field-0-test)
    _ _ c.choice.ensures.choice_read

pub operand-argument-r-requires : goal.operand-argument-r-requires
operand-argument-r-requires t c =
    let h = c.in_ok-t.ensures.lookup.3.0 in (
      omega (arith, c.decreases),
      ((omega (arith, c.requires.n_bound), omega arith), (omega arith, (c.requires.field_room.0, c.requires.field_room.1))),
    )

pub operand-returns-in-Opening-clause-reading : goal.operand-returns-in-Opening-clause-reading
operand-returns-in-Opening-clause-reading t c =
    (operand_brackets _ _ _ _ c.requires.n_bound c.requires.field_room.0 c.requires.field_room.1
    (got _ _ _ c.in_ok-t.ensures.lookup.3.0 c.in_ok-t.ensures.lookup.3.1 ∙ ap (λ (t : code.Token). Some t) c.in-Opening.is)
    _ _ _ c.ended.ensures c.argument-r.ensures.argued).0

pub operand-returns-in-Opening-clause-read_within : goal.operand-returns-in-Opening-clause-read_within
operand-returns-in-Opening-clause-read_within t c =
    (operand_brackets _ _ _ _ c.requires.n_bound c.requires.field_room.0 c.requires.field_room.1
    (got _ _ _ c.in_ok-t.ensures.lookup.3.0 c.in_ok-t.ensures.lookup.3.1 ∙ ap (λ (t : code.Token). Some t) c.in-Opening.is)
    _ _ _ c.ended.ensures c.argument-r.ensures.argued).1

no_leaf : (t : ℕ) (c : operand-After-leaf t) → (c.in_ok-t.field-0.now ≡ Function 3 → ⊥) × (c.in_ok-t.field-0.now ≡ Function 14 → ⊥) × (c.in_ok-t.field-0.now ≡ Opening → ⊥)
no_leaf t c =
    elim c.in_default.branch [
      | operand-in_default-via-in-Function+in_default w ↦
          let x = w.in_default in (
            λ e. let g : x.field-0 ≡ 3 = cc (x.is, e) in x.field-0-test.0.1 (x.field-0-is ∙ g),
            λ e. let g : x.field-0 ≡ 14 = cc (x.is, e) in x.field-0-test.1 (x.field-0-is ∙ g),
            x.not-Opening,
          )
      | operand-in_default-via-in_default w ↦ let x = w.in_default in (λ e. search rules, λ e. search rules, x.not-Opening)
    ]

pub operand-returns-in_default-clause-reading : goal.operand-returns-in_default-clause-reading
operand-returns-in_default-clause-reading t c =
    let h = no_leaf t c in
    (operand_leaf _ _ _ _ _ (got _ _ _ c.in_ok-t.ensures.lookup.3.0 c.in_ok-t.ensures.lookup.3.1) c.requires.n_bound c.requires.field_room.0 c.requires.field_room.1
    h.0 h.1 h.2 _ _ c.leaf.ensures.value c.leaf.ensures.out_after).0

pub operand-returns-in_default-clause-read_within : goal.operand-returns-in_default-clause-read_within
operand-returns-in_default-clause-read_within t c =
    let h = no_leaf t c in
    (operand_leaf _ _ _ _ _ (got _ _ _ c.in_ok-t.ensures.lookup.3.0 c.in_ok-t.ensures.lookup.3.1) c.requires.n_bound c.requires.field_room.0 c.requires.field_room.1
    h.0 h.1 h.2 _ _ c.leaf.ensures.value c.leaf.ensures.out_after).1

-- ---- level 1

pub product-operand-r-requires : goal.product-operand-r-requires
product-operand-r-requires t c =
    (omega (arith, c.decreases), (omega (arith, c.requires.n_bound), (c.requires.field_room.0, c.requires.field_room.1)))

pub product-loop-r-init : goal.product-loop-r-init
product-loop-r-init t c =
    level_begins 0 _ _ _ _ _ _ c.operand-r.ensures.reading c.operand-r.ensures.read_within c.requires.n_bound c.requires.field_room.0
    c.operand-r.ensures.out_len c.requires.field_room.1

pub product-operand-r-requires-in-Some : goal.product-operand-r-requires-in-Some
product-operand-r-requires-in-Some t c =
    let u = still c.in-Some.is c.loop-r.invariant in
    let w = u.inside in
    let h = some_there _ c.in-Some-operator_at.is c.operator_at.ensures.at_in_bounds in
    (omega (arith, c.decreases), (next_room u, (u.few, u.kept)))

pub product-returns-in_default-operator_at-clause-reading : goal.product-returns-in_default-operator_at-clause-reading
product-returns-in_default-operator_at-clause-reading t c = level_end (still c.in-Some.is c.loop-r.invariant) c.operator_at.ensures.value c.in_default-operator_at.is

pub product-loop-r-preserved : goal.product-loop-r-preserved
product-loop-r-preserved t c =
    let h = some_there _ c.in-Some-operator_at.is c.operator_at.ensures.at_in_bounds in
    let long = c.operand-r-in-Some.ensures.out_len in
    level_goes_on (still c.in-Some.is c.loop-r.invariant) c.operator_at.ensures.value c.in-Some-operator_at.is h _ _ c.operand-r-in-Some.ensures.reading
    c.operand-r-in-Some.ensures.read_within long _ _ c.close-r.ensures.value c.close-r.ensures.out_after (c.close-r.auto.out ∙ long)

-- ---- level 2

pub sum-product-r-requires : goal.sum-product-r-requires
sum-product-r-requires t c =
    (omega (arith, c.decreases), (omega (arith, c.requires.n_bound), (c.requires.field_room.0, c.requires.field_room.1)))

pub sum-loop-r-init : goal.sum-loop-r-init
sum-loop-r-init t c =
    level_begins 1 _ _ _ _ _ _ c.product-r.ensures.reading c.product-r.ensures.read_within c.requires.n_bound c.requires.field_room.0
    c.product-r.ensures.out_len c.requires.field_room.1

pub sum-product-r-requires-in-Some : goal.sum-product-r-requires-in-Some
sum-product-r-requires-in-Some t c =
    let u = still c.in-Some.is c.loop-r.invariant in
    let w = u.inside in
    let h = some_there _ c.in-Some-operator_at.is c.operator_at.ensures.at_in_bounds in
    (omega (arith, c.decreases), (next_room u, (u.few, u.kept)))

pub sum-returns-in_default-operator_at-clause-reading : goal.sum-returns-in_default-operator_at-clause-reading
sum-returns-in_default-operator_at-clause-reading t c = level_end (still c.in-Some.is c.loop-r.invariant) c.operator_at.ensures.value c.in_default-operator_at.is

pub sum-loop-r-preserved : goal.sum-loop-r-preserved
sum-loop-r-preserved t c =
    let h = some_there _ c.in-Some-operator_at.is c.operator_at.ensures.at_in_bounds in
    let long = c.product-r-in-Some.ensures.out_len in
    level_goes_on (still c.in-Some.is c.loop-r.invariant) c.operator_at.ensures.value c.in-Some-operator_at.is h _ _ c.product-r-in-Some.ensures.reading
    c.product-r-in-Some.ensures.read_within long _ _ c.close-r.ensures.value c.close-r.ensures.out_after (c.close-r.auto.out ∙ long)

-- ---- level 3

pub ordering-sum-r-requires : goal.ordering-sum-r-requires
ordering-sum-r-requires t c =
    (omega (arith, c.decreases), (omega (arith, c.requires.n_bound), (c.requires.field_room.0, c.requires.field_room.1)))

pub ordering-loop-r-init : goal.ordering-loop-r-init
ordering-loop-r-init t c =
    level_begins 2 _ _ _ _ _ _ c.sum-r.ensures.reading c.sum-r.ensures.read_within c.requires.n_bound c.requires.field_room.0
    c.sum-r.ensures.out_len c.requires.field_room.1

pub ordering-sum-r-requires-in-Some : goal.ordering-sum-r-requires-in-Some
ordering-sum-r-requires-in-Some t c =
    let u = still c.in-Some.is c.loop-r.invariant in
    let w = u.inside in
    let h = some_there _ c.in-Some-operator_at.is c.operator_at.ensures.at_in_bounds in
    (omega (arith, c.decreases), (next_room u, (u.few, u.kept)))

pub ordering-returns-in_default-operator_at-clause-reading : goal.ordering-returns-in_default-operator_at-clause-reading
ordering-returns-in_default-operator_at-clause-reading t c = level_end (still c.in-Some.is c.loop-r.invariant) c.operator_at.ensures.value c.in_default-operator_at.is

pub ordering-loop-r-preserved : goal.ordering-loop-r-preserved
ordering-loop-r-preserved t c =
    let h = some_there _ c.in-Some-operator_at.is c.operator_at.ensures.at_in_bounds in
    let long = c.sum-r-in-Some.ensures.out_len in
    level_goes_on (still c.in-Some.is c.loop-r.invariant) c.operator_at.ensures.value c.in-Some-operator_at.is h _ _ c.sum-r-in-Some.ensures.reading
    c.sum-r-in-Some.ensures.read_within long _ _ c.close-r.ensures.value c.close-r.ensures.out_after (c.close-r.auto.out ∙ long)

-- ---- level 4

pub equality-ordering-r-requires : goal.equality-ordering-r-requires
equality-ordering-r-requires t c =
    (omega (arith, c.decreases), (omega (arith, c.requires.n_bound), (c.requires.field_room.0, c.requires.field_room.1)))

pub equality-loop-r-init : goal.equality-loop-r-init
equality-loop-r-init t c =
    level_begins 3 _ _ _ _ _ _ c.ordering-r.ensures.reading c.ordering-r.ensures.read_within c.requires.n_bound c.requires.field_room.0
    c.ordering-r.ensures.out_len c.requires.field_room.1

pub equality-ordering-r-requires-in-Some : goal.equality-ordering-r-requires-in-Some
equality-ordering-r-requires-in-Some t c =
    let u = still c.in-Some.is c.loop-r.invariant in
    let w = u.inside in
    let h = some_there _ c.in-Some-operator_at.is c.operator_at.ensures.at_in_bounds in
    (omega (arith, c.decreases), (next_room u, (u.few, u.kept)))

pub equality-returns-in_default-operator_at-clause-reading : goal.equality-returns-in_default-operator_at-clause-reading
equality-returns-in_default-operator_at-clause-reading t c = level_end (still c.in-Some.is c.loop-r.invariant) c.operator_at.ensures.value c.in_default-operator_at.is

pub equality-loop-r-preserved : goal.equality-loop-r-preserved
equality-loop-r-preserved t c =
    let h = some_there _ c.in-Some-operator_at.is c.operator_at.ensures.at_in_bounds in
    let long = c.ordering-r-in-Some.ensures.out_len in
    level_goes_on (still c.in-Some.is c.loop-r.invariant) c.operator_at.ensures.value c.in-Some-operator_at.is h _ _ c.ordering-r-in-Some.ensures.reading
    c.ordering-r-in-Some.ensures.read_within long _ _ c.close-r.ensures.value c.close-r.ensures.out_after (c.close-r.auto.out ∙ long)

-- ---- level 5

pub conjunction-equality-r-requires : goal.conjunction-equality-r-requires
conjunction-equality-r-requires t c =
    (omega (arith, c.decreases), (omega (arith, c.requires.n_bound), (c.requires.field_room.0, c.requires.field_room.1)))

pub conjunction-loop-r-init : goal.conjunction-loop-r-init
conjunction-loop-r-init t c =
    level_begins 4 _ _ _ _ _ _ c.equality-r.ensures.reading c.equality-r.ensures.read_within c.requires.n_bound c.requires.field_room.0
    c.equality-r.ensures.out_len c.requires.field_room.1

pub conjunction-equality-r-requires-in-Some : goal.conjunction-equality-r-requires-in-Some
conjunction-equality-r-requires-in-Some t c =
    let u = still c.in-Some.is c.loop-r.invariant in
    let w = u.inside in
    let h = some_there _ c.in-Some-operator_at.is c.operator_at.ensures.at_in_bounds in
    (omega (arith, c.decreases), (next_room u, (u.few, u.kept)))

pub conjunction-returns-in_default-operator_at-clause-reading : goal.conjunction-returns-in_default-operator_at-clause-reading
conjunction-returns-in_default-operator_at-clause-reading t c = level_end (still c.in-Some.is c.loop-r.invariant) c.operator_at.ensures.value c.in_default-operator_at.is

pub conjunction-loop-r-preserved : goal.conjunction-loop-r-preserved
conjunction-loop-r-preserved t c =
    let h = some_there _ c.in-Some-operator_at.is c.operator_at.ensures.at_in_bounds in
    let long = c.equality-r-in-Some.ensures.out_len in
    level_goes_on (still c.in-Some.is c.loop-r.invariant) c.operator_at.ensures.value c.in-Some-operator_at.is h _ _ c.equality-r-in-Some.ensures.reading
    c.equality-r-in-Some.ensures.read_within long _ _ c.close-r.ensures.value c.close-r.ensures.out_after (c.close-r.auto.out ∙ long)

-- ---- level 6

pub disjunction-conjunction-r-requires : goal.disjunction-conjunction-r-requires
disjunction-conjunction-r-requires t c =
    (omega (arith, c.decreases), (omega (arith, c.requires.n_bound), (c.requires.field_room.0, c.requires.field_room.1)))

pub disjunction-loop-r-init : goal.disjunction-loop-r-init
disjunction-loop-r-init t c =
    level_begins 5 _ _ _ _ _ _ c.conjunction-r.ensures.reading c.conjunction-r.ensures.read_within c.requires.n_bound c.requires.field_room.0
    c.conjunction-r.ensures.out_len c.requires.field_room.1

pub disjunction-conjunction-r-requires-in-Some : goal.disjunction-conjunction-r-requires-in-Some
disjunction-conjunction-r-requires-in-Some t c =
    let u = still c.in-Some.is c.loop-r.invariant in
    let w = u.inside in
    let h = some_there _ c.in-Some-operator_at.is c.operator_at.ensures.at_in_bounds in
    (omega (arith, c.decreases), (next_room u, (u.few, u.kept)))

pub disjunction-returns-in_default-operator_at-clause-reading : goal.disjunction-returns-in_default-operator_at-clause-reading
disjunction-returns-in_default-operator_at-clause-reading t c = level_end (still c.in-Some.is c.loop-r.invariant) c.operator_at.ensures.value c.in_default-operator_at.is

pub disjunction-loop-r-preserved : goal.disjunction-loop-r-preserved
disjunction-loop-r-preserved t c =
    let h = some_there _ c.in-Some-operator_at.is c.operator_at.ensures.at_in_bounds in
    let long = c.conjunction-r-in-Some.ensures.out_len in
    level_goes_on (still c.in-Some.is c.loop-r.invariant) c.operator_at.ensures.value c.in-Some-operator_at.is h _ _ c.conjunction-r-in-Some.ensures.reading
    c.conjunction-r-in-Some.ensures.read_within long _ _ c.close-r.ensures.value c.close-r.ensures.out_after (c.close-r.auto.out ∙ long)
