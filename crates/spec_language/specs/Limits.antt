-- The limits of sheets and rounds by the names that contracts use, as src/limits.rt has them for the code:
-- `behaviour_limit` is `BEHAVIOURS`. 01 "The sheet", "Handlers and steps"; 02, M-103, M-105, M-107, M-110.
-- Statements have the papers' own numbers.
use Rattle.std.specs.Prelude.{ℕ}

abbrev pub event_limit : ℕ
event_limit = 32

abbrev pub behaviour_limit : ℕ
behaviour_limit = 64

abbrev pub player_limit : ℕ
player_limit = 8

abbrev pub highest_player : ℕ
highest_player = 7

abbrev pub parameter_limit : ℕ
parameter_limit = 8

-- a row's cells
abbrev pub most_cells : ℕ
most_cells = 16

abbrev pub sheet_bytes : ℕ
sheet_bytes = 8192

-- how deep an expression may nest
abbrev pub nesting_limit : ℕ
nesting_limit = 16

-- all events' instructions together
abbrev pub instruction_limit : ℕ
instruction_limit = 4096

-- the evaluation stack
abbrev pub stack_depth : ℕ
stack_depth = 64

-- a formula's text, and the field that it becomes
abbrev pub formula_bytes : ℕ
formula_bytes = 1024

abbrev pub field_bytes : ℕ
field_bytes = 7168
