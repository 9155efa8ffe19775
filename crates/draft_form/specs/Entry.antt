-- An entry of the draft taken apart.
use Rattle.std.specs.Prelude.{ℕ, ◌/◌, ◌%◌}

-- 0 none, 1 passive, 2 immediate, 3 later
abbrev pub entry_kind : ℕ → ℕ
entry_kind v = v % 4

-- where its nodes begin, and how many they are
abbrev pub entry_start : ℕ → ℕ
entry_start v = v / 4 % 4096

abbrev pub entry_count : ℕ → ℕ
entry_count v = v / 16384

-- a node's kind and word
abbrev pub node_tag : ℕ → ℕ
node_tag x = x / 4294967296

abbrev pub node_word : ℕ → ℕ
node_word x = x % 4294967296
