-- A mark of two bytes, of one, or none: the branches of `mark_at`.
use Rattle.lib_base.proofs.Prelude.{◌∙◌, refl}
use Rattle.source_tokens.proofs.Rows.{long_sign, number_some, number_none}
use Rattle.source_tokens.proofs.Begun.{mark_long, mark_short, mark_stray}
use Rattle.source_tokens.proofs.mark_at.Goals as goal

pub returns-in-Some-clause-token_at : goal.returns-in-Some-clause-token_at
returns-in-Some-clause-token_at c =
    let m = number_some _ c.long_mark.ensures c.in-Some.is in
    (mark_long _ _ _ _ c.requires.token_begins c.requires.at_value c.byte_at.ensures (m.0 ∙ long_sign _ _) m.1).0

pub returns-in-Some-clause-token_within : goal.returns-in-Some-clause-token_within
returns-in-Some-clause-token_within c =
    let m = number_some _ c.long_mark.ensures c.in-Some.is in
    (mark_long _ _ _ _ c.requires.token_begins c.requires.at_value c.byte_at.ensures (m.0 ∙ long_sign _ _) m.1).1

pub returns-in-Some-short_sign-clause-token_at : goal.returns-in-Some-short_sign-clause-token_at
returns-in-Some-short_sign-clause-token_at c =
    let s = number_some _ c.short_sign.ensures c.in-Some-short_sign.is in
    (mark_short _ _ _ _ c.requires.token_begins c.requires.at_value c.byte_at.ensures (number_none _ c.long_mark.ensures c.in_default.is ∙ long_sign _ _) _ refl s.0 s.1).0

pub returns-in-Some-short_sign-clause-token_within : goal.returns-in-Some-short_sign-clause-token_within
returns-in-Some-short_sign-clause-token_within c =
    let s = number_some _ c.short_sign.ensures c.in-Some-short_sign.is in
    (mark_short _ _ _ _ c.requires.token_begins c.requires.at_value c.byte_at.ensures (number_none _ c.long_mark.ensures c.in_default.is ∙ long_sign _ _) _ refl s.0 s.1).1

pub returns-clause-token_at : goal.returns-clause-token_at
returns-clause-token_at c =
    (mark_stray _ _ _ _ c.requires.token_begins c.requires.at_value c.byte_at.ensures (number_none _ c.long_mark.ensures c.in_default.is ∙ long_sign _ _) _ refl (number_none _ c.short_sign.ensures c.in_default-short_sign.is) refl).0
