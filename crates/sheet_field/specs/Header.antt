-- A field's header: its tag, and the length that it states. 01 "The sheet".
use Rattle.std.specs.Prelude.{Ok, Err, ℕ, ◌≤◌, ◌<◌, List, length, get_or, ltb}
use Rattle.lib_base.specs.Basics.{pick}
use Rattle.spec_language.specs.declared.refusals.Refusal.TheVariants.{Torn, WrongTag}
use Rattle.sheet_field.specs.Field.{Field, stated}

-- what the header at the front of s is, where a field with a tag from lo to hi is due: its tag and the length that it
-- states, or the refusal
unfoldable pub header_of : List ℕ → ℕ → ℕ → Field
header_of s lo hi =
    pick (ltb (length s) 3) (Err Torn)
    (pick (ltb (get_or s 0 0) lo) (Err WrongTag) (pick (ltb hi (get_or s 0 0)) (Err WrongTag) (Ok (record { tag = get_or s 0 0; size = stated s }))))

-- a header that is there has three bytes, and states a length of two bytes
abbrev pub HeaderWithin : List ℕ → Field → Type 0
HeaderWithin s (Ok h) = (3 ≤ length s) × (h.size < 65536)
HeaderWithin s (Err r) = Unit {0}
