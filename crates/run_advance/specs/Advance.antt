-- One instruction of the running arrival, on the round's bytes, for all bytes (layout: crate format_layout). 01
-- "Handlers and steps", "Why a call was turned down". A function that branches takes plain numbers; one that reads
-- calls it.
use Rattle.std.specs.Prelude.{ℕ, ◌+◌, ◌*◌, ◌/◌, ◌%◌, List, ltb, leb, eqb}
use Rattle.lib_base.specs.Basics.{pick}
use Rattle.lib_word.specs.Word.{get, put}
use Rattle.spec_language.specs.Refusals.{foreign}
use Rattle.spec_language.specs.Answers as kinds
use Rattle.format_layout.specs.Layout.{event_word, running_word, running_event, running_number, position, depth, mark_word}
use Rattle.format_layout.specs.Round.{CallResult}
use Rattle.run_instruction.specs.Allowed.{may_run}
use Rattle.run_instruction.specs.Instruction.{perform}
use Rattle.run_dispatch.specs.Said.{said_of}
use Rattle.run_advance.specs.Mark.{over_mark}

-- the answer of a commit: `hand` is the word of event and player, w the mark's
unfoldable pub commit_said : ℕ → ℕ → ℕ → ℕ
commit_said n hand w = pick (eqb w 0) (said_of kinds.committed n hand) (over_mark + said_of kinds.committed n hand)

-- arrival n, `hand` its word of event and player, has done c of len instructions and now one more
unfoldable pub count_instruction : List ℕ → ℕ → ℕ → ℕ → ℕ → CallResult
count_instruction l c hand n len = pick (ltb (c + 1) len) (kinds.ran, put l 5 (c + 1)) (commit_said n hand (mark_word l), put l 2 0)

-- the instruction of first word a and constant w, at count c
unfoldable pub execute_on : List ℕ → ℕ → ℕ → ℕ → ℕ → ℕ → ℕ → CallResult
execute_on l a w c hand n len =
    pick (may_run (a / 256) (a % 256) (depth l)) (count_instruction (perform l (a / 256) (a % 256) w (depth l)) c hand n len) (foreign, l)

-- instruction k of the table
unfoldable pub execute_at : List ℕ → List ℕ → ℕ → ℕ → ℕ → ℕ → ℕ → CallResult
execute_at t l k c hand n len = execute_on l (get t (512 + k * 2)) (get t (513 + k * 2)) c hand n len

unfoldable pub advance_on : List ℕ → List ℕ → CallResult
advance_on t l =
    execute_at t l (event_word t (running_event l) 1 + position l) (position l) (running_word l) (running_number l) (event_word t (running_event l) 2)

-- the same, where one is left: an event of a damaged table may have no instructions
unfoldable pub advance_left : List ℕ → List ℕ → CallResult
advance_left t l = pick (leb (event_word t (running_event l) 2) (position l)) (foreign, l) (advance_on t l)
