-- The deeper of two.
use Rattle.std.specs.Prelude.{ℕ, max}

abbrev pub deeper : ℕ → ℕ → ℕ
deeper a b = max a b
