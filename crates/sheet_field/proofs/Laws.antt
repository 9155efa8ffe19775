-- A field is its header, and torn where the length that it states is past the end: the four tests of `field_of` are the
-- header's three and that one.
use Rattle.lib_base.proofs.Prelude.{ℕ, ◌≤◌, ◌<◌, ◌-◌, ◌≡◌, ◌∙◌, sym, ap, List, length, get_or, ltb, le-ltb, lt-ltb}
use Rattle.std.specs.Prelude.{Ok, Err}
use Rattle.lib_base.specs.Basics.{pick}
use Rattle.lib_base.proofs.Tools.{split}
use Rattle.spec_language.specs.declared.refusals.Refusal.{Refusal}
use Rattle.spec_language.specs.declared.refusals.Refusal.TheVariants.{Torn}
use Rattle.sheet_field.specs.declared.Header.{Header}
use Rattle.sheet_field.specs.Field.{Field, field_of}
use Rattle.sheet_field.specs.Header.{header_of}

abbrev pub whole_in : List ℕ → Field → Field
whole_in s (Ok h) = pick (ltb (length s - 3) h.size) (Err Torn) (Ok h)
whole_in s (Err r) = Err r

pub header_whole : (s : List ℕ) (lo hi : ℕ) → whole_in s (header_of s lo hi) ≡ field_of s lo hi
unfolding header_of field_of
header_whole s lo hi =
    split (ltb (length s) 3) (λ t. rw t)
    (λ t. split (ltb (get_or s 0 0) lo) (λ u. rw (t, u))
    (λ u. split (ltb hi (get_or s 0 0)) (λ w. rw (t, u, w)) (λ w. rw (t, u, w))))

-- what the header's answer comes to: passed on, torn, or whole
module _ (s : List ℕ) (lo hi : ℕ) {a : Field} (e : a ≡ header_of s lo hi) where
  answer_is : {b : Field} → a ≡ b → whole_in s b ≡ field_of s lo hi
  answer_is q = ap (whole_in s) (sym q ∙ e) ∙ header_whole s lo hi

  pub answer_refused : {r : Refusal} → a ≡ Err r → Err r ≡ field_of s lo hi
  answer_refused q = answer_is q

  pub answer_torn : {h : Header} → a ≡ Ok h → length s - 3 < h.size → Err Torn ≡ field_of s lo hi
  answer_torn {h} q p = rw (lt-ltb (length s - 3) h.size p) at (answer_is q)

  pub answer_whole : {h : Header} → a ≡ Ok h → h.size ≤ length s - 3 → Ok h ≡ field_of s lo hi
  answer_whole {h} q p = rw (le-ltb (length s - 3) h.size p) at (answer_is q)
