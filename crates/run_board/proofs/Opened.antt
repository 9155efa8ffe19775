-- A reading of the board, test by test.
use Rattle.lib_base.proofs.Prelude.{ℕ, ◌+◌, ◌≡◌, refl, List, leb}
use Rattle.lib_base.specs.Basics.{pick}
use Rattle.lib_word.specs.Word.{get}
use Rattle.spec_language.specs.Answers.{told}
use Rattle.spec_language.specs.Refusals.{foreign, no_player, no_behaviour, no_right, settling}
use Rattle.spec_language.specs.Rights.{may}
use Rattle.format_layout.specs.Layout.{behaviour_count, viewers_at}
use Rattle.format_layout.specs.Foreign.{ours}
use Rattle.run_board.specs.Masking.{copy_back_under_way}
use Rattle.run_board.specs.Board.{board_with, board_known, board_in, board_on}

pub board_opened : (t l : List ℕ) (i who : ℕ) → board_on t l i who
    ≡ pick (ours t l)
    (pick (leb 8 who) no_player
    (pick (leb (behaviour_count t) i) no_behaviour
    (pick (may (viewers_at t i) who) (pick (copy_back_under_way t l) settling (told (get l (136 + i)))) no_right)))
    foreign
unfolding board_on board_in board_known board_with
board_opened t l i who = refl
