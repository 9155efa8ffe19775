-- The table that compile leaves for a program: the words of its first 34,816 bytes (layout: crate format_layout). 01
-- "Handlers and steps": "each event's code is the one 01 lists".
use Rattle.std.specs.Prelude.{ℕ, ◌+◌, ◌-◌, length, get_or, take, replicate, eqb}
use mathlib.Core.List.{List, [], ◌∷◌, ◌++◌, flatten}
use Rattle.lib_base.specs.Basics.{pick}
use Rattle.lib_word.specs.Word.{put}
use Rattle.spec_language.specs.Syntax.{Behaviour, passive, active, Program}
use Rattle.spec_language.specs.Dependence.{size, events, behaviour_at}
use Rattle.spec_language.specs.Order.{up_to, phase_one}
use Rattle.spec_language.specs.Code.{Instr, in_c, move_code, again_code, by_number, in_order, copy_part, first_part, code, members}
use Rattle.spec_semantics.specs.Meaning.{fresh}
use Rattle.format_image.specs.Image.{operation, constant, code_start}

unfoldable pub code_words : List Instr → List ℕ
code_words [] = []
code_words (i ∷ is) = operation i ∷ (constant i ∷ code_words is)

-- the events' code one after the other, and where event e's begins
unfoldable pub all_code : Program → List Instr
all_code p = flatten (up_to (events p) (code p))

abbrev pub event_record : Program → ℕ → List ℕ
event_record p e = get_or p.priorities e 0 ∷ code_start p e ∷ length (code p e) ∷ members p e ∷ []

-- the words ws, and zeros up to n
unfoldable pub padded : ℕ → List ℕ → List ℕ
padded n ws = ws ++ replicate (n - length ws) 0

-- 1 for a passive
abbrev pub kind_number : Behaviour → ℕ
kind_number (passive x) = 1
kind_number (active c hs) = 0

-- by event 0's second time over the passives; where no event is declared its number is that of no event
unfoldable pub passives_code : Program → List Instr
passives_code p = in_order p 0 (again_code (in_c p 0)) (phase_one p 0)

-- what comes before it in event 0's code
unfoldable pub before_passives : Program → List Instr
before_passives p = copy_part p 0 ++ (first_part p 0 ++ by_number p 0 move_code)

-- the instructions of the table: all events' code; where no event is declared, that for the passives (of which a
-- sheet's bytes hold fewer than 4,096), from the first instruction on
unfoldable pub table_code : Program → List Instr
table_code p = pick (eqb (events p) 0) (take 4096 (passives_code p)) (all_code p)

unfoldable pub passives_at : Program → ℕ
passives_at p = pick (eqb (events p) 0) 0 (length (before_passives p))

unfoldable pub kind_words : Program → List ℕ
kind_words p = up_to (size p) (λ i. kind_number (behaviour_at p i))

unfoldable pub passive_words : Program → List ℕ
passive_words p = padded 64 (kind_words p) ++ padded 152 (passives_at p ∷ length (passives_code p) ∷ [])

-- the values of a fresh round, who may see each behaviour and who may send each event (02, M-107), and how passives are
-- worked out
unfoldable pub board_words : Program → List ℕ
board_words p = padded 64 (fresh p) ++ (padded 64 p.viewers ++ (padded 32 p.senders ++ passive_words p))

unfoldable pub image_words : Program → List ℕ
image_words p =
    padded 8 (events p ∷ size p ∷ [])
    ++ (padded 128 (flatten (up_to (events p) (event_record p)))
    ++ (board_words p
    ++ padded 8192 (code_words (table_code p))))

-- words put one after the other from word k on
unfoldable pub put_words : List ℕ → ℕ → List ℕ → List ℕ
put_words l k [] = l
put_words l k (w ∷ ws) = put_words (put l k w) (k + 1) ws

-- the table's bytes after compile; those beyond are as they were
unfoldable pub table_of : Program → List ℕ → List ℕ
table_of p t = put_words t 0 (image_words p)
