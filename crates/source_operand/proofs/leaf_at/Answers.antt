-- By the three kinds of tokens.
use Rattle.source_operand.proofs.Leaves.{number_part, sign_part, name_part}
use Rattle.source_operand.proofs.leaf_at.Goals as goal

pub returns-in-Number : goal.returns-in-Number
returns-in-Number c =
    let told = c.constant_of.ensures in
    number_part _ _ _ _ _ _ _ _ told.fewer_left.1 _ _ _ _ c.first_token-t.ensures.token_at c.in-Number.is (told.by_index, (told.formula_within, told.fewer_left.0))

pub returns-in-Name : goal.returns-in-Name
returns-in-Name c =
    let told = c.named_at.ensures in
    name_part _ _ _ _ _ _ _ _ told.out_len_unchanged _ _ _ c.first_token-t.ensures.token_at c.first_token-t.ensures.token_within c.in-Name.is
    (told.formula_read, (told.formula_within, told.no_more_left))

pub returns-in-Sign : goal.returns-in-Sign
returns-in-Sign c =
    let told = c.constant_of-in-Sign.ensures in
    sign_part _ _ _ _ _ _ _ _ told.fewer_left.1 _ _ _ _ c.first_token-t.ensures.token_at c.in-Sign.is (told.by_index, (told.formula_within, told.fewer_left.0))
