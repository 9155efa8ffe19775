-- A round carried to another table, test by test.
use Rattle.lib_base.proofs.Prelude.{ℕ, ◌≡◌, refl, List, replicate, eqb}
use Rattle.lib_base.specs.Basics.{pick}
use Rattle.spec_language.specs.Refusals.{foreign, settling, undeclared_in_hand}
use Rattle.format_layout.specs.Layout.{waiting_count, running_flag, running_number, running_word}
use Rattle.format_layout.specs.Foreign.{table_fits, ours}
use Rattle.run_carry.specs.Carry.{carry_on, store_shown}
use Rattle.run_board.specs.Board.{copy_back_on}
use Rattle.run_mend.specs.Mending.{hand_known, back_in_hand, rested, verdict, mended, mend_with, mend_after, mend_in, mend_on}

-- what the passives answer decides first
pub mend_opened : (old t l : List ℕ) → mend_on old t l
    ≡ pick (ours old l)
    (pick (table_fits t)
    (mend_with t (carry_on old t l (replicate 2048 0)).1 l (verdict (carry_on old t l (replicate 2048 0)).0 (copy_back_on old l) (hand_known t l)))
    (foreign, l))
    (foreign, l)
unfolding mend_on mend_in mend_after
mend_opened old t l = refl

pub mended_opened : (t m l : List ℕ) (v : ℕ) → mend_with t m l v
    ≡ pick (eqb v 0)
    (0, store_shown t m (rested (back_in_hand l (waiting_count l) (running_flag l) (running_number l) (running_word l))) 64)
    (v, l)
unfolding mend_with mended
mended_opened t m l v = refl

pub ruleset mending = (mend_opened, mended_opened)
