-- What stands in a buffer after a write: the bytes of a field where they fit, and the same bytes where they do not.
use Rattle.std.specs.Prelude.{ℕ, ◌+◌, ◌/◌, ◌%◌, List, [], ◌∷◌, ◌++◌, length, take, drop, ltb, eqb}
use Rattle.std.proofs.Math.Seq.{slice}
use Rattle.std.proofs.lemmas.List.Edits.{sets}
use Rattle.lib_base.specs.Basics.{pick}
use Rattle.spec_language.specs.Grammar.{field, word}

-- the bytes v from place n on, where they fit
unfoldable pub fitted : List ℕ → ℕ → List ℕ → List ℕ
fitted o n v = pick (ltb (length o) (n + length v)) o (sets o n v)

-- a field's header: its tag, and how many bytes its value has
abbrev pub header : ℕ → ℕ → List ℕ
header t l = t ∷ (l / 256) ∷ (l % 256) ∷ []

-- the bytes from start to end, four places further on
unfoldable pub shifted : ℕ → ℕ → List ℕ → List ℕ
shifted start end o = take (start + 4) o ++ (slice start end o ++ drop (end + 4) o)

-- an application of function f around the bytes from start to end, where it fits
unfoldable pub as_application : ℕ → ℕ → ℕ → List ℕ → List ℕ
as_application f start end o = pick (ltb (length o) (end + 4)) o (sets o start (field 18 (f ∷ slice start end o)))

-- a field around the bytes behind its header, up to end, where it fits
unfoldable pub as_field : ℕ → ℕ → ℕ → List ℕ → List ℕ
as_field t n end o = pick (ltb (length o) end) o (sets o n (field t (slice (n + 3) end o)))

-- ---- fields by numbers, where 256 stands in place of the byte that says who may send or see

unfoldable pub event_bytes : ℕ → ℕ → List ℕ
event_bytes r m = pick (eqb m 256) (field 1 (r ∷ [])) (field 1 (r ∷ (m % 256) ∷ []))

abbrev pub viewer_bytes : ℕ → List ℕ
viewer_bytes m = pick (eqb m 256) [] (field 8 (m ∷ []))

-- a row's count, where there is one, and the value at the start
abbrev pub start_bytes : ℕ → ℕ → List ℕ
start_bytes c w = pick (eqb c 0) (field 4 (word w)) (c ∷ field 4 (word w))
