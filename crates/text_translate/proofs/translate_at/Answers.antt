-- Over 1,024 bytes, or not made of tokens: 21. Else the answer is that to the tokens, and so to the text.
use Rattle.text_lexer.proofs.Laws.{scans_held, scans_none}
use Rattle.text_translate.proofs.Laws.{too_long, no_tokens, from_text}
use Rattle.text_translate.proofs.translate_at.Goals as goal

pub returns-then-text-gt-FORMULA_BYTES : goal.returns-then-text-gt-FORMULA_BYTES
returns-then-text-gt-FORMULA_BYTES c = too_long _ _ c.if-text-gt-FORMULA_BYTES.true

pub returns-in_default : goal.returns-in_default
returns-in_default c =
    no_tokens _ _ c.if-text-gt-FORMULA_BYTES.false (scans_none _ _ _ c.in_default.is c.scan.ensures)

pub returns : goal.returns
returns c =
    from_text _ _ _ _ _ c.if-text-gt-FORMULA_BYTES.false (scans_held _ _ _ _ c.in-Some.is c.scan.ensures) c.from_tokens.ensures
