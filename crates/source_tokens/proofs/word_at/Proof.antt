-- A word is too long, a name or reserved: the branches of `long_word` and `word_at_place`.
use Rattle.lib_base.proofs.Prelude.{refl, rules, arith}
use Rattle.source_tokens.proofs.Begun.{word_bounds, word_stray, word_name, word_sign}
use Rattle.source_tokens.proofs.word_at.Statement.{statement}
use Rattle.source_tokens.proofs.word_at.Tie as tie

returns : tie.Need-returns-then-n-gt-NAME_BYTES
returns c =
    let at_entry_lem = c.before.before.before in
    word_stray _ _ _ at_entry_lem.requires.0 at_entry_lem.requires.1.0 at_entry_lem.requires.1.1 c.before.word_end-next.ensures _ refl c.if-n-gt-NAME_BYTES.true

reserved_at_requires : tie.Need-reserved_at-sign-requires
reserved_at_requires c κs =
    let at_entry_lem = c.before.before.before in
    let w = word_bounds _ _ _ at_entry_lem.requires.0 at_entry_lem.requires.1.0 at_entry_lem.requires.1.1 c.before.word_end-next.ensures in
    (omega arith, omega arith)

returns_2 : tie.Need-returns-then-sign-eq0
returns_2 c =
    let at_word_end = c.before.before.before in
    let at_entry_lem = at_word_end.before.before in
    word_name _ _ _ at_entry_lem.requires.0 at_entry_lem.requires.1.0 at_entry_lem.requires.1.1 at_word_end.word_end-next.ensures _ _ refl
    c.before.before.if-n-gt-NAME_BYTES.false c.before.reserved_at-sign.ensures c.if-sign-eq0.true

returns_3 : tie.Need-returns
returns_3 c =
    let at_word_end = c.before.before.before in
    let at_entry_lem = at_word_end.before.before in
    word_sign _ _ _ at_entry_lem.requires.0 at_entry_lem.requires.1.0 at_entry_lem.requires.1.1 at_word_end.word_end-next.ensures _ _ refl
    c.before.before.if-n-gt-NAME_BYTES.false c.before.reserved_at-sign.ensures c.if-sign-eq0.false

pub word_at_spec : {M : Type 1} → statement M
word_at_spec =
    tie.close (tie.spec (λ c κs. search rules) (λ c. search rules) returns reserved_at_requires returns_2 returns_3)
