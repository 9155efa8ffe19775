-- The end of a behaviour's value as the reader reads it: from positions in the bytes, with the draft as it is written.
-- 02, M-107: "A behaviour may end with a field 08 of length 1, saying likewise who may see it. Past a passive's
-- expression only tag 08 begins a field, other bytes being 6, as are all past an 08. Where either is missing, everybody
-- may."
use Rattle.std.specs.Prelude.{Ok, Err, ℕ, ◌+◌, ◌≡◌, List, length, get_or, set, eqb}
use Rattle.lib_base.specs.Basics.{pick}
use Rattle.spec_language.specs.declared.refusals.Refusal.TheVariants.{WrongLength}
use Rattle.sheet_field.specs.Field.{Field, field_of, part_of}
use Rattle.front_field.specs.Expression.{DoneRead, done, Out, out}

-- where the draft has who may see behaviour i
abbrev pub viewer : ℕ → ℕ
viewer i = 4256 + i

-- the value v of a field 08 where so many bytes are left of behaviour i's value; its field takes `all` bytes, the next
-- node goes to place n
unfoldable pub viewer_at : List ℕ → ℕ → ℕ → List ℕ → ℕ → ℕ → Out
viewer_at v left i d all n =
    pick (eqb (length v) 1)
    (pick (eqb left 4) (out (done all n) (set d (viewer i) (get_or v 0 0))) (out (Err WrongLength) d))
    (out (Err WrongLength) d)

abbrev pub viewer_from : Field → List ℕ → ℕ → ℕ → List ℕ → ℕ → ℕ → Out
viewer_from (Err r) v left i d all n = out (Err r) d
viewer_from (Ok h) v left i d all n = viewer_at v left i d all n

-- a field 08 at the front of s
unfoldable pub viewer_of : List ℕ → ℕ → List ℕ → ℕ → ℕ → Out
viewer_of s i d all n = viewer_from (field_of s 8 8) (part_of s (field_of s 8 8)) (length s) i d all n

-- what is left of behaviour i's value after its own part
unfoldable pub ending_of : List ℕ → ℕ → List ℕ → ℕ → ℕ → Out
ending_of s i d all n =
    pick (eqb (length s) 0) (out (done all n) (set d (viewer i) 255))
    (pick (eqb (get_or s 0 0) 8) (viewer_of s i d all n) (out (Err WrongLength) d))

-- that a reading is done with the numbers given: what is promised beside the equation
abbrev pub EndIn : ℕ → ℕ → DoneRead → Type 0
EndIn all n (Ok r) = (r.size ≡ all) × (r.next ≡ n)
EndIn all n (Err r) = Unit {0}
