-- The two branches of `meaning_by`, by where the name is found; it is a word.
use Rattle.lib_base.proofs.Prelude.{◌∙◌, ap, length, le-ltb, lt-ltb}
use Rattle.source_names.specs.Known.{number_means, meaning_by}
use Rattle.source_names.proofs.Found.{name_only}
use Rattle.source_operand.proofs.meaning_of.Goals as goal

pub returns-then-places-j-clause-result_value : goal.returns-then-places-j-clause-result_value
unfolding meaning_by
returns-then-places-j-clause-result_value c =
    let a = c.args in
    rw (name_only a.text.now a.p, ← c.found_in-j.ensures, le-ltb c.found_in-j.result (length a.places.now) c.if-places-j.true)

pub returns-clause-result_value : goal.returns-clause-result_value
unfolding meaning_by
returns-clause-result_value c =
    let a = c.args in
    rw (name_only a.text.now a.p, ← c.found_in-j.ensures, lt-ltb c.found_in-j.result (length a.places.now) c.if-places-j.false)
    (c.meaning_at.ensures.result_value ∙ ap number_means c.number_in_list.ensures.value)
