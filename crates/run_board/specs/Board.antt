-- What board reads from the round's bytes, for all bytes (layout: crate format_layout), and masking. 01 "Handlers and
-- steps", "Why a call was turned down". A function that branches takes plain numbers; one that reads calls it.
use Rattle.std.specs.Prelude.{ℕ, ◌+◌, Bool, false, List, leb}
use Rattle.lib_base.specs.Basics.{pick}
use Rattle.lib_word.specs.Word.{get}
use Rattle.spec_language.specs.Refusals as refusals
use Rattle.spec_language.specs.Rights.{may}
use Rattle.format_layout.specs.Layout.{behaviour_count, viewers_at}
use Rattle.format_layout.specs.Foreign.{ours}
use Rattle.run_board.specs.Masking.{copy_back_under_way}

-- ---- masking: of len instructions, with m members of C, c are done

-- ---- board readings. "Board: 14, 18, 19."; 02, M-107: 24 after 14, 25 after 18. The answer is the refusal's number,
-- or 2 ^ 32 and the value.

-- a behaviour of the program, and one of eight players; right: who may see it; s: a copy-back is under way
unfoldable pub board_with : List ℕ → ℕ → Bool → Bool → ℕ
board_with l i right s = pick right (pick s refusals.settling (4294967296 + get l (136 + i))) refusals.no_right

unfoldable pub board_known : List ℕ → List ℕ → ℕ → ℕ → ℕ
board_known t l i who = board_with l i (may (viewers_at t i) who) (copy_back_under_way t l)

unfoldable pub board_in : List ℕ → List ℕ → ℕ → ℕ → ℕ
board_in t l i who = pick (leb 8 who) refusals.no_player (pick (leb (behaviour_count t) i) refusals.no_behaviour (board_known t l i who))

unfoldable pub board_on : List ℕ → List ℕ → ℕ → ℕ → ℕ
board_on t l i who = pick (ours t l) (board_in t l i who) refusals.foreign

-- ---- whether a copy-back is under way, for a host that shows no behaviour

unfoldable pub copy_back_on : List ℕ → List ℕ → Bool
copy_back_on t l = pick (ours t l) (copy_back_under_way t l) false
