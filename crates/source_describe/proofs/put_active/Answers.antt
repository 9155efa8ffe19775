use Rattle.lib_base.proofs.Prelude.{length, drop}
use Rattle.source_terms.proofs.Writing.{wrote_on, wrote_as}
use Rattle.source_describe.proofs.Turns.{active_parts}
use Rattle.source_describe.proofs.put_active.Goals as goal

pub returns : goal.returns
returns c =
    let s = c.args.s.now in
    wrote_as (wrote_on c.write_value.ensures (wrote_on c.write_viewers.ensures c.put_handlers.ensures))
    (active_parts (length s) (drop c.args.first s) (drop c.args.at s) (drop c.onward.result s) (drop c.onward-handlers.result s)
    (drop c.past_fields-viewers.result s) c.onward.ensures.s_value c.word_from-start.ensures.value
    c.onward-handlers.ensures.s_value c.past_fields-viewers.ensures.s_value)
