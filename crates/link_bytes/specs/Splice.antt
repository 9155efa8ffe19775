-- The joined bytes, worked out from the bytes of two sheets alone, as the code does. 02, M-111. That these are the
-- bytes of the pooled sheet is shown in Spliced.antt.
use Rattle.std.specs.Prelude.{ℕ, zero, suc, ◌+◌, ◌%◌, List, [], ◌∷◌, ◌++◌, length, drop, eqb}
use Rattle.lib_base.specs.Basics.{pick}
use Rattle.sheet_walk.specs.Fields.{after_field, cells_in_front}
use Rattle.sheet_walk.specs.Scanner.{left_after, tag_after, is_number}
use Rattle.link_events.specs.Merging.{events_from, end_from}

-- c, and the behaviours that the next n fields stand for, as far as there are
unfoldable pub count_from : ℕ → List ℕ → ℕ → ℕ
count_from zero b c = c
count_from (suc n) b c = pick (eqb (length b) 0) c (count_from n (after_field b) (c + cells_in_front b))

-- a byte moved up by m where it is a name's, with the scanner before it
unfoldable pub moved_byte : ℕ → ℕ → ℕ → ℕ → ℕ
moved_byte m t k b = pick (is_number 17 t k) ((b + m) % 256) b

-- the bytes of behaviours, each name moved up by m
unfoldable pub scan : ℕ → ℕ → ℕ → List ℕ → List ℕ
scan m t k [] = []
scan m t k (b ∷ bs) = moved_byte m t k b ∷ scan m (tag_after t k b) (left_after k b) bs

-- the whole
unfoldable pub spliced : List ℕ → List ℕ → List ℕ
spliced s t =
    events_from 32 s 0 t 0
    ++ (scan 0 0 0 (drop (end_from 32 s 0) s) ++ scan (count_from 64 (drop (end_from 32 s 0) s) 0) 0 0 (drop (end_from 32 t 0) t))
