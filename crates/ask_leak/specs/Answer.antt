-- What `leak` answers: the refusal's number with the behaviour that is seen and the hidden one that it names.
use Rattle.std.specs.Prelude.{ℕ, ◌+◌, ◌*◌}

-- the answer packs the refusal's number, the behaviour that is seen and the hidden one, a byte each
abbrev pub seen_unit : ℕ
seen_unit = 256

abbrev pub hidden_unit : ℕ
hidden_unit = 65536

-- 30, a behaviour that the player sees names one that is hidden from it, so that M-107's condition fails: the one that
-- is seen and the hidden one
unfoldable pub packed_leak : ℕ → ℕ → ℕ
packed_leak i j = 30 + seen_unit * i + hidden_unit * j
