-- So many values are written.
use Rattle.lib_base.proofs.Prelude.{take}
use Rattle.std.specs.Fmt.{HasWritten, IsPlainFormatter}
use Rattle.desk_format.specs.Script.{values_text}
use Rattle.desk_format.proofs.lines.BoardDisplay.fmt.Given as goal

abbrev pub invariant-loop-word : goal.invariant-loop-word
invariant-loop-word g l =
    IsPlainFormatter l.initial.f → HasWritten g.W.Write.write_str_gives l.initial.f (values_text (take l.word-index l.word-items)) l.f
