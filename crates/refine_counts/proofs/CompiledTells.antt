-- What compile leaves is the table of the sheet's program, and that tells its counts and ranks.
use mathlib.Core.Path.{sym, subst}
use Rattle.format_image.specs.Table.{table_of}
use Rattle.refine_calls.proofs.Refines.{accepted_says}
use Rattle.refine_lists.proofs.FromSheets.{table_is, prepared_bytes, prepared_accepted, prepared_room}
use Rattle.back_compile.specs.Compiled.{program_of}
use Rattle.run_counts.specs.Tells.{Tells}
use Rattle.run_counts.proofs.Tell.{says_tells}
use Rattle.refine_counts.specs.Compiled.{EveryTable}

pub every_table : EveryTable
every_table s ps t l x r =
    let p = program_of ps x in
    let a = prepared_room s ps t l x r in
    subst (Tells p) (sym (table_is s ps t (prepared_bytes s ps t l x r) x r.sent_as r.taken a))
    (says_tells p (table_of p t) (accepted_says p (prepared_accepted s ps t l x r) t a))
