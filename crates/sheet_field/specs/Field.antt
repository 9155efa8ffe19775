-- A field: a one-byte tag, a two-byte big-endian length, that many bytes of value. 01 "The sheet".
use Rattle.std.specs.Prelude.{Result, Ok, Err, ℕ, ◌+◌, ◌*◌, ◌-◌, ◌≤◌, List, [], length, get_or, take, drop, ltb}
use Rattle.lib_base.specs.Basics.{pick}
use Rattle.spec_language.specs.declared.refusals.Refusal.{Refusal}
use Rattle.spec_language.specs.declared.refusals.Refusal.TheVariants.{Torn, WrongTag}
use Rattle.sheet_field.specs.declared.Header.{Header}

-- what stands where a field is due
abbrev pub Field : Type 0
Field = Result Header Refusal

-- the length that the header at the front of s states
abbrev pub stated : List ℕ → ℕ
stated s = get_or s 1 0 * 256 + get_or s 2 0

-- what the front of s is, where a field with a tag from lo to hi is due: its tag and its length, or the refusal
unfoldable pub field_of : List ℕ → ℕ → ℕ → Field
field_of s lo hi =
    pick (ltb (length s) 3) (Err Torn)
    (pick (ltb (get_or s 0 0) lo) (Err WrongTag)
    (pick (ltb hi (get_or s 0 0)) (Err WrongTag)
    (pick (ltb (length s - 3) (stated s)) (Err Torn)
    (Ok (record { tag = get_or s 0 0; size = stated s })))))

-- the bytes of an answer, their number, and that they lie within s
abbrev pub part_of : List ℕ → Field → List ℕ
part_of s (Ok h) = take h.size (drop 3 s)
part_of s (Err r) = []

abbrev pub field_size : Field → ℕ
field_size (Ok h) = h.size
field_size (Err r) = 0

abbrev pub FieldWithin : List ℕ → Field → Type 0
FieldWithin s (Ok h) = h.size + 3 ≤ length s
FieldWithin s (Err r) = Unit {0}
