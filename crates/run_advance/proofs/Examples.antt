-- The answer of a commit as a number, by computation, as engine.h takes it apart: arrival 7 of event 3 from player 1,
-- with no mark and with one, bit 56; and at the last of 51 instructions.
use Rattle.lib_base.proofs.Prelude.{◌≡◌, refl, []}
use Rattle.lib_word.specs.Word.{get, get_at, put}
use Rattle.run_dispatch.specs.Said.{said}
use Rattle.run_advance.specs.Advance.{commit_said, count_instruction}

pub commits_of_arrival_7 : (commit_said 7 259 0 ≡ 459539) × (commit_said 7 259 1 ≡ 72057594038387475)
unfolding commit_said said
commits_of_arrival_7 = (refl, refl)

pub last_instruction : ((count_instruction [] 49 259 7 51).0 ≡ 1) × ((count_instruction [] 50 259 7 51).0 ≡ 459539)
unfolding count_instruction commit_said said get get_at put
last_instruction = (refl, refl)
