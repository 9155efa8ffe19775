-- A recorded list of calls: six bytes for each, its kind (0 arrival, 1 step, else board reading), a number of 32 bits
-- and the player; eight bytes for each answer.
use Rattle.std.specs.Prelude.{ℕ, zero, suc, ◌+◌, ◌*◌, ◌/◌, List, [], ◌∷◌, get_or, ltb, eqb}
use Rattle.lib_base.specs.Basics.{pick}
use Rattle.lib_word.specs.Word.{get_at}
use Rattle.spec_model.specs.Model.{Call, arrive, step, board}
use Rattle.run_answers.specs.Answers.{put_answer}

unfoldable pub call_of : ℕ → ℕ → ℕ → Call
call_of kind n who = pick (eqb kind 0) (arrive n who) (pick (eqb kind 1) step (board n who))

-- k calls of the record, from call i on
unfoldable pub calls_from : List ℕ → ℕ → ℕ → List Call
calls_from b i zero = []
calls_from b i (suc k) = call_of (get_or b (i * 6) 0) (get_at b (i * 6 + 1)) (get_or b (i * 6 + 5) 0) ∷ calls_from b (i + 1) k

-- answers put one after the other from place i on
unfoldable pub put_answers : List ℕ → ℕ → List ℕ → List ℕ
put_answers a i [] = a
put_answers a i (r ∷ rs) = put_answers (put_answer a i r) (i + 1) rs

-- how many calls are made: those that are whole, and whose answer has room
unfoldable pub call_count : ℕ → ℕ → ℕ
call_count calls answers = pick (ltb (calls / 6) (answers / 8)) (calls / 6) (answers / 8)
