-- One value more joins its text; with none left the text is the line's.
use Rattle.lib_base.proofs.Prelude.{rules, arith}
use Rattle.std.proofs.Output.{has_written_append, has_written_of_eq, writes_in_calls_nil}
use Rattle.desk_format.specs.Script.{values_text, board_line}
use Rattle.desk_format.proofs.Laws.{value_more, all_values}
use Rattle.desk_format.proofs.lines.BoardDisplay.fmt.Goals as goal

pub loop-word-init : goal.loop-word-init
unfolding values_text
loop-word-init g c = λ plain. record { wrote = writes_in_calls_nil _ _; plain = plain }

pub loop-word-preserved : goal.loop-word-preserved
loop-word-preserved g c = λ plain.
    has_written_of_eq _ _ _ _ _ (value_more c.args.self.now.0.now c.loop-word.word-index (omega arith) c.cast_signed-value.result c.cast_signed-value.ensures (search rules))
    (has_written_append _ _ _ _ _ _ (c.loop-word.invariant plain) (search rules))

pub returns-clause-writes : goal.returns-clause-writes
unfolding board_line
returns-clause-writes g c = λ plain ok.
    let first = c.write_str.ensures.writes plain (search rules) in
    has_written_of_eq _ _ _ _ _ (all_values c.args.self.now.0.now c.loop-word.word-index (omega arith))
    (has_written_append _ _ _ _ _ _ (has_written_append _ _ _ _ _ _ first (c.loop-word.invariant first.plain)) (search rules))
