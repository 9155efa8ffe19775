use Rattle.lib_base.proofs.Prelude.{refl, rules}
use Rattle.source_terms.proofs.Writing.{wrote_on, wrote_as}
use Rattle.source_describe.proofs.Turns.{text_parts}
use Rattle.source_describe.proofs.Texts.{text_put}
use Rattle.source_describe.proofs.put_text.Goals as goal

pub returns-clause-text : goal.returns-clause-text
returns-clause-text c =
    let w = wrote_as (wrote_on c.put_parameters.ensures (wrote_on c.put_signals.ensures (wrote_on c.put_entries.ensures c.write.ensures)))
    (text_parts _ c.args.first c.args.n c.requires.s_value.0 c.requires.s_value.1) in
    let same = w.same in
    text_put refl refl w (search (rules, same))
