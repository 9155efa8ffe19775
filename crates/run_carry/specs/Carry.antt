-- The values that a round is carried to a new table with, for all bytes (layout: crate format_layout): 02, M-112:
-- "Actives that are active in both keep their value, other actives take the new start, passives are worked out anew."
-- They are worked out in bytes of their own, by the new table's instructions. A function that branches takes plain
-- numbers; one that reads calls it.
use Rattle.std.specs.Prelude.{ℕ, zero, suc, ◌+◌, Bool, false, List, ltb, eqb}
use Rattle.lib_base.specs.Basics.{pick}
use Rattle.lib_word.specs.Word.{get, put}
use Rattle.spec_language.specs.Refusals.{foreign}
use Rattle.format_layout.specs.Layout.{behaviour_count, passives_start, passives_length}
use Rattle.format_layout.specs.Foreign.{kind_at, code_fits}
use Rattle.format_layout.specs.Round.{CallResult}
use Rattle.run_stretch.specs.Stretch.{stretch_from}

-- ---- what each behaviour begins with

-- behaviour i of n is an active: its kind's word is 0
unfoldable pub active_kind : ℕ → ℕ → ℕ → Bool
active_kind n i kind = pick (ltb i n) (eqb kind 0) false

unfoldable pub active_in_table : List ℕ → ℕ → Bool
active_in_table t i = active_kind (behaviour_count t) i (kind_at t i)

-- a: active in the old table; b: in the new one; v: the value now; w: the one of a fresh round of the new table
unfoldable pub kept_or_fresh : Bool → Bool → ℕ → ℕ → ℕ
kept_or_fresh a b v w = pick a (pick b v w) w

unfoldable pub value_for : List ℕ → List ℕ → List ℕ → ℕ → ℕ
value_for old t l i = kept_or_fresh (active_in_table old i) (active_in_table t i) (get l (136 + i)) (get t (136 + i))

-- the first n of them, in store and scratch of m
unfoldable pub fill_at : List ℕ → ℕ → ℕ → List ℕ
fill_at m i v = put (put m (136 + i) v) (200 + i) v

unfoldable pub filled_store : List ℕ → List ℕ → List ℕ → List ℕ → ℕ → List ℕ
filled_store old t l m zero = m
filled_store old t l m (suc n) = fill_at (filled_store old t l m n) n (value_for old t l n)

-- ---- the passives

-- `n` instructions from k on; foreign where they do not lie within 4,096 or one of them may not run
unfoldable pub worked_out : List ℕ → ℕ → ℕ → List ℕ → CallResult
worked_out t k n m = pick (code_fits k n) (stretch_from t k n m) (foreign, m)

-- a passive's value is then in scratch, an active's in the store
unfoldable pub carry_on : List ℕ → List ℕ → List ℕ → List ℕ → CallResult
carry_on old t l m = worked_out t (passives_start t) (passives_length t) (filled_store old t l m 64)

-- ---- what the board shows then

unfoldable pub shown_of : ℕ → ℕ → ℕ → ℕ
shown_of kind v w = pick (eqb kind 0) v w

unfoldable pub shown_for : List ℕ → List ℕ → ℕ → ℕ
shown_for t m i = shown_of (kind_at t i) (get m (136 + i)) (get m (200 + i))

-- the first n of these values put into the store of l
unfoldable pub store_shown : List ℕ → List ℕ → List ℕ → ℕ → List ℕ
store_shown t m l zero = l
store_shown t m l (suc n) = put (store_shown t m l n) (136 + n) (shown_for t m n)
