-- The first words of three instructions for slot 0, as src/opcodes.rt has them for the code.
use Rattle.std.specs.Prelude.{ℕ}

abbrev pub restore_code : ℕ
restore_code = 1024

abbrev pub save_code : ℕ
save_code = 2304

abbrev pub defer_code : ℕ
defer_code = 2560
