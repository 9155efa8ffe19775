-- What a walk over a sheet's bytes finds from field to field, as the code does: a byte past the end is 0, and a number
-- bounds each repetition. A list of bytes here is what stands from a place of the sheet on.
use Rattle.std.specs.Prelude.{ℕ, zero, suc, ◌+◌, ◌*◌, ◌≡◌, ◌<◌, ◌≤◌, List, length, get_or, drop, eqb, Option, Some, None}
use Rattle.lib_base.specs.Basics.{pick}

-- "A field is a one-byte tag, a two-byte length and that many bytes of value": what stands behind the one in front
abbrev pub after_field : List ℕ → List ℕ
after_field b = drop (get_or b 1 0 * 256 + get_or b 2 0 + 3) b

-- four bytes, big-endian
abbrev pub word_in_front : List ℕ → ℕ
word_in_front b = ((get_or b 0 0 * 256 + get_or b 1 0) * 256 + get_or b 2 0) * 256 + get_or b 3 0

-- what stands behind the fields of tag t in front, at most k of them
unfoldable pub past_fields : ℕ → ℕ → List ℕ → List ℕ
past_fields t zero b = b
past_fields t (suc k) b = pick (eqb (get_or b 0 0) t) (past_fields t k (after_field b)) b

-- how many behaviours the field in front stands for
abbrev pub cells_in_front : List ℕ → ℕ
cells_in_front b = pick (eqb (get_or b 0 0) 6) (get_or b 3 0) 1

-- ---- the walk over the fields of s, at the place `at`; it goes on in t, from `to`

-- nothing is left at the end
pub record WalkDone (s : List ℕ) (at : ℕ) (t : List ℕ) (to : ℕ) : Type 0 where
  pub end : at ≡ length s
  pub sheet : t ≡ s
  pub stays : to ≡ at

-- a field has the place x where the walk was, and the walk goes on behind that field
pub record WentOn (s : List ℕ) (at x : ℕ) (t : List ℕ) (to : ℕ) : Type 0 where
  pub place : x ≡ at
  pub sheet : t ≡ s
  pub on : at < to
  pub inside : to ≤ length s
  pub behind : drop to s ≡ after_field (drop at s)

-- what a turn gives
abbrev pub FieldGiven : List ℕ → ℕ → Option ℕ → List ℕ → ℕ → Type 0
FieldGiven s at None t to = WalkDone s at t to
FieldGiven s at (Some x) t to = WentOn s at x t to
