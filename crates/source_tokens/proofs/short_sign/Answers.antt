-- Each of the four bytes is a row of `marks`; of the others those of one byte are a formula's.
use Rattle.lib_base.proofs.Prelude.{◌∙◌}
use Rattle.source_language.specs.Tokens.{marks, same, sign_of}
use Rattle.source_tokens.proofs.Rows.{short_shared}
use Rattle.source_tokens.proofs.short_sign.Goals as goal

pub returns-in-58 : goal.returns-in-58
unfolding marks same sign_of
returns-in-58 c = rw c.in-58.is

pub returns-in-61 : goal.returns-in-61
unfolding marks same sign_of
returns-in-61 c = rw c.in-61.is

pub returns-in-91 : goal.returns-in-91
unfolding marks same sign_of
returns-in-91 c = rw c.in-91.is

pub returns-in-93 : goal.returns-in-93
unfolding marks same sign_of
returns-in-93 c = rw c.in-93.is

pub returns-in_default : goal.returns-in_default
returns-in_default c =
    let others = c.in_default.in_default-own.rest in
    c.short_mark.ensures ∙ rw (short_shared _ others.0.0.0.1 others.0.0.1 others.0.1 others.1)
