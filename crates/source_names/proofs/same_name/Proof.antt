-- Where the text has room for as many bytes at the second place, these and the one behind them tell.
use Rattle.lib_base.proofs.Prelude.{◌∙◌, sym, ap, not, rules, arith}
use Rattle.source_language.specs.Tokens.{in_word}
use Rattle.source_names.proofs.Laws.{name_inside, names_unlike, names_alike, no_name, no_room}
use Rattle.source_names.proofs.same_name.Statement.{statement}
use Rattle.source_names.proofs.same_name.Tie as tie

returns : tie.Need-returns-then-n-eq0
returns c =
    ap not (c.in_word.ensures ∙ ap in_word c.before.byte_at.ensures)
    ∙ no_name _ _ _ _ c.before.before.before.before.requires c.before.before.if-n-eq0.true

returns_2 : tie.Need-returns-then-text-q
returns_2 c = no_room _ _ _ _ c.before.before.before.requires (omega arith)

returns_3 : tie.Need-returns-then-text-q-2
returns_3 c = no_room _ _ _ _ c.before.before.before.before.requires (omega arith)

same_bytes_requires : tie.Need-same_bytes-requires
same_bytes_requires c κs =
    let start = c.before.before.before.before in
    let inside = name_inside start.args.text.now start.args.p in
    (omega arith, (omega arith, omega arith))

returns_4 : tie.Need-returns-then-not-same_bytes
returns_4 c =
    names_unlike _ _ _ _ c.before.before.before.before.before.before.requires
    (sym c.before.same_bytes.ensures ∙ c.if-not-same_bytes.true)

returns_5 : tie.Need-returns
returns_5 c =
    let at_test = c.before.before in
    ap not (c.in_word-2.ensures ∙ ap in_word c.before.byte_at-2.ensures)
    ∙ names_alike _ _ _ _ at_test.before.before.before.before.before.before.requires
    (sym at_test.before.same_bytes.ensures ∙ at_test.if-not-same_bytes.false)

pub same_name_spec : {M : Type 1} → statement M
same_name_spec =
    tie.close
    (tie.spec (λ c κs. search rules) (λ c κs. search rules) returns returns_2 (λ c. search rules) returns_3 same_bytes_requires returns_4
    (λ c. search rules) (λ c κs. search rules) (λ c κs. search rules) returns_5)
