-- The table that compile leaves for a program: the words of its first 34,816 bytes (layout: crate format_layout). 01
-- "Handlers and steps": "each event's code is the one 01 lists".
use Rattle.std.specs.Prelude.{ℕ, ◌+◌, ◌*◌, length}
use mathlib.Core.List.{sum}
use Rattle.spec_language.specs.Syntax.{Program}
use Rattle.spec_language.specs.Order.{up_to}
use Rattle.spec_language.specs.Code.{Instr, off, on, copy, restore, load, fetch, save, defer, move, push, apply, code}

-- an instruction's two words: operation * 256 + slot, and a constant
abbrev pub operation : Instr → ℕ
operation off = 1 * 256
operation on = 2 * 256
operation (copy i) = 3 * 256 + i
operation (restore i) = 4 * 256 + i
operation (push w) = 5 * 256
operation (load i) = 6 * 256 + i
operation (fetch i) = 7 * 256 + i
operation (apply f) = 8 * 256 + f
operation (save i) = 9 * 256 + i
operation (defer i) = 10 * 256 + i
operation (move i) = 11 * 256 + i

abbrev pub constant : Instr → ℕ
constant off = 0
constant on = 0
constant (copy i) = 0
constant (restore i) = 0
constant (push w) = w
constant (load i) = 0
constant (fetch i) = 0
constant (apply f) = 0
constant (save i) = 0
constant (defer i) = 0
constant (move i) = 0

unfoldable pub code_start : Program → ℕ → ℕ
code_start p e = sum ◌+◌ 0 (up_to e (λ f. length (code p f)))

-- ---- how passives are worked out anew (02, M-112)

-- ---- the table
