-- A fresh round, and what `start` does. 01 "A fresh round has start values, passives worked out from them by compile,
-- an empty hand."
use Rattle.std.specs.Prelude.{ℕ, zero, suc, ◌+◌, List, length, get_or, set, replicate, ltb}
use Rattle.lib_base.specs.Basics.{pick}
use Rattle.lib_word.specs.Word.{get, put}
use Rattle.spec_language.specs.Refusals.{foreign}
use Rattle.format_layout.specs.declared.round.Round.{Round}
use Rattle.format_layout.specs.Foreign.{table_fits}
use Rattle.format_layout.specs.Round.{CallResult}
use Rattle.format_layout.specs.Fresh.{fresh_of}

-- the first n words are 0
unfoldable pub cleared : List ℕ → ℕ → List ℕ
cleared l zero = l
cleared l (suc n) = put (cleared l n) n 0

-- the first n values of ws put into the store
unfoldable pub stored : List ℕ → List ℕ → ℕ → List ℕ
stored ws l zero = l
stored ws l (suc n) = put (stored ws l n) (136 + n) (get_or ws n 0)

-- the round's bytes: the words that it says nothing of are 0
unfoldable pub image : Round → List ℕ → List ℕ
image r l = stored r.store (put (put (put (cleared l 512) 0 r.taken) 1 r.waiting) 2 r.running) 64

-- the first n values of a fresh round, read from the table into a
unfoldable pub values_in : List ℕ → List ℕ → ℕ → List ℕ
values_in t a zero = a
values_in t a (suc n) = set (values_in t a n) n (get t (136 + n))

unfoldable pub fresh_bytes : List ℕ → List ℕ → List ℕ
fresh_bytes t l = image (fresh_of (values_in t (replicate 64 0) 64)) l

-- "Start: 14 for the two lengths and the table only; the round's old bytes are not read."
unfoldable pub start_on : List ℕ → List ℕ → CallResult
start_on t l = pick (table_fits t) (pick (ltb (length l) 2048) (foreign, l) (0, fresh_bytes t l)) (foreign, l)
