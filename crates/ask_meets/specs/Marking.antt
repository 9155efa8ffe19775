-- The code's marks and its stack of them, as the numbers of Marks.antt.
use Rattle.std.specs.Prelude.{ℕ, zero, suc, List, [], ◌∷◌, get_or}
use Rattle.ask_meets.specs.declared.Mark.{Mark}
use Rattle.ask_meets.specs.declared.Mark.TheVariants.{Apart, Names, Adds}

abbrev pub mark_number : Mark → ℕ
mark_number Apart = 0
mark_number Names = 2
mark_number Adds = 3

-- the stack has room for so many marks
abbrev pub mark_room : ℕ
mark_room = 32

-- the first `depth` of the marks, the last of them on top
unfoldable pub standing : List Mark → ℕ → List ℕ
standing marks zero = []
standing marks (suc depth) = mark_number (get_or marks depth Apart) ∷ standing marks depth
