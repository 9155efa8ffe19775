-- What a walk finds at the bytes of a field that the grammar writes: what follows it, a behaviour's cells, a word. From
-- the field's length.
use Rattle.lib_base.proofs.Prelude.{ℕ, ◌<◌, ◌+◌, suc, ◌*◌, ◌%◌, ◌/◌, ◌^◌, ◌≡◌, refl, List, [], ◌∷◌, ◌++◌, length, arith}
use lib.Seq.{drop-append_seam}
use Rattle.spec_language.specs.Sheet.{Term, literal, variable, param, apply1, apply2, apply3, Item, formula, state, row, Entry, cells}
use Rattle.spec_language.specs.Grammar.{field, word, encode_expr, tag_of, encode_item, encode_viewer, encode_behaviour}
use Rattle.sheet_walk.specs.Fields.{after_field, word_in_front, cells_in_front}

pub after_field_law : (t : ℕ) (v rest : List ℕ) → after_field (field t v ++ rest) ≡ rest
after_field_law t v rest =
    let e : length v / 256 * 256 + length v % 256 + 3 ≡ suc (suc (suc (length v))) = omega arith in
    rw (e, drop-append_seam v rest)

pub after_term : (x : Term) (rest : List ℕ) → after_field (encode_expr x ++ rest) ≡ rest
unfolding encode_expr
after_term (literal w) rest = after_field_law 16 (word w) rest
after_term (variable i) rest = after_field_law 17 (i ∷ []) rest
after_term (param n) rest = after_field_law 19 (n ∷ []) rest
after_term (apply1 f a) rest = after_field_law 18 (f ∷ encode_expr a) rest
after_term (apply2 f a b) rest = after_field_law 18 (f ∷ (encode_expr a ++ encode_expr b)) rest
after_term (apply3 f a b c) rest = after_field_law 18 (f ∷ (encode_expr a ++ (encode_expr b ++ encode_expr c))) rest

pub after_behaviour : (x : Entry) (rest : List ℕ) → after_field (encode_behaviour x ++ rest) ≡ rest
after_behaviour x rest = after_field_law (tag_of x.item) (encode_item x.item ++ encode_viewer x.viewer) rest

pub cells_in_front_law : (x : Entry) (rest : List ℕ) → cells_in_front (encode_behaviour x ++ rest) ≡ cells x.item
cells_in_front_law x rest = of_item x.item
  where
    of_item : (y : Item) → cells_in_front (encode_behaviour (record { item = y; viewer = x.viewer }) ++ rest) ≡ cells y
    of_item (formula t) = refl
    of_item (state s cs) = refl
    of_item (row c s cs) = refl

pub word_in_front_law : (w : ℕ) (rest : List ℕ) → w < 2 ^ 32 → word_in_front (word w ++ rest) ≡ w
word_in_front_law w rest h = omega arith
