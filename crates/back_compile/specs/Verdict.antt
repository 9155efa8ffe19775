-- What compile answers, and the table's bytes at exit, for all bytes. 01 "Why a call was turned down": "Compile: 1, 2,
-- 3; then left to right, the first fault met; then 11, 12, 13." 02, M-103: "20 when the sheet uses a parameter and
-- fewer than 32 bytes are lent, checked after 11"; M-106: "Number 2 never occurs again."
use Rattle.std.specs.Prelude.{ℕ, Bool, ◌&&◌, List, length, ltb}
use Rattle.lib_base.specs.Basics.{pick}
use Rattle.spec_language.specs.Syntax.{Program}
use Rattle.spec_language.specs.Sheet.{Sheet, uses}
use Rattle.spec_language.specs.Refusals.{short_table, long_program, unknown_name, cycle, overlong, no_parameters}
use Rattle.spec_language.specs.Reading.{Got, bad, got, read_sheet}
use Rattle.spec_language.specs.Code.{all_instructions}
use Rattle.check_faults.specs.Faults.{known, cyclic}
use Rattle.format_image.specs.Table.{table_of}
use Rattle.back_compile.specs.Compiled.{Compiled, program_of}

-- a sheet's program; `lacking` says that the sheet uses a parameter and fewer than 32 bytes are lent
unfoldable pub judge : Program → Bool → List ℕ → Compiled
judge p lacking t =
    pick (known p)
    (pick lacking (no_parameters, t)
    (pick (cyclic p) (cycle, t)
    (pick (ltb 4096 (all_instructions p)) (overlong, t)
    (0, table_of p t))))
    (unknown_name, t)

abbrev pub lacks_parameters : Sheet → List ℕ → Bool
lacks_parameters s ps = uses s && ltb (length ps) 32

abbrev pub judge_read : Got Sheet → List ℕ → List ℕ → Compiled
judge_read (bad k) ps t = (k, t)
judge_read (got s rest) ps t = judge (program_of ps s) (lacks_parameters s ps) t

unfoldable pub compile_on : List ℕ → List ℕ → List ℕ → Compiled
compile_on s ps t =
    pick (ltb (length t) 34816) (short_table, t)
    (pick (ltb 8192 (length s)) (long_program, t)
    (judge_read (read_sheet s) ps t))
