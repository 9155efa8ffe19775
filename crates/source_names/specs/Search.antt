-- How a name is found among names in order: by halves, and among those behind them one after another. Nothing here says
-- that they are in order; who looks up by it tells which names are found.
use Rattle.std.specs.Prelude.{ℕ, zero, suc, ◌+◌, ◌-◌, ◌/◌, List, [], ◌∷◌, length, get_or, take, drop, ltb, leb, eqb}
use Rattle.lib_base.specs.Basics.{pick}
use Rattle.source_language.specs.Tokens.{in_word}
use Rattle.source_coding.specs.Places.{index_in}
use Rattle.std.specs.declared.cmp.Ordering.{Ordering}
use Rattle.std.specs.declared.cmp.Ordering.TheVariants.{Less, Equal, Greater}

-- a byte of a name and another byte at the same place: what is in no word ends the shorter name
abbrev pub order_of_bytes : ℕ → ℕ → Ordering
order_of_bytes b c = pick (in_word c) (pick (ltb b c) Less Greater) Greater

-- how the name s stands to the one at q
unfoldable pub order_at : List ℕ → ℕ → List ℕ → Ordering
order_at text q [] = pick (in_word (get_or text q 0)) Less Equal
order_at text q (b ∷ s) = pick (eqb b (get_or text q 0)) (order_at text (q + 1) s) (order_of_bytes b (get_or text q 0))

abbrev pub by_order : Ordering → ℕ → ℕ → ℕ → ℕ
by_order Less x y z = x
by_order Equal x y z = y
by_order Greater x y z = z

-- the place of s among those from lo to hi, in so many steps; `none` where it is not met
unfoldable pub seek : List ℕ → List ℕ → List ℕ → ℕ → ℕ → ℕ → ℕ → ℕ
seek text places s none zero lo hi = none
seek text places s none (suc k) lo hi =
    pick (leb hi lo) none
    (pick (ltb (length text) (get_or places ((lo + hi) / 2) 0)) none
    (by_order (order_at text (get_or places ((lo + hi) / 2) 0) s) (seek text places s none k lo ((lo + hi) / 2)) ((lo + hi) / 2) (seek text places s none k ((lo + hi) / 2 + 1) hi)))

-- 127 names take seven steps
unfoldable pub found_in : List ℕ → List ℕ → ℕ → List ℕ → ℕ
found_in text places sorted s =
    pick (ltb (seek text places s sorted 7 0 sorted) sorted) (seek text places s sorted 7 0 sorted) (sorted + index_in text (take (length places - sorted) (drop sorted places)) s)
