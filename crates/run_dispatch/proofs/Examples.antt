-- The answers of a step as numbers, by computation, as engine.h takes them apart: arrival 7 of event 3 from player 1,
-- in bits 16 and up, 8 to 15 and 4 to 7, and the kind in bits 0 to 3.
use mathlib.Core.Path.{◌≡◌, refl}
use Rattle.run_dispatch.specs.Said.{said, said_of}

-- started, committed, preempted
pub kinds_of_arrival_7 : (said 2 7 3 1 ≡ 459538) × (said 3 7 3 1 ≡ 459539) × (said 4 7 3 1 ≡ 459540)
unfolding said
kinds_of_arrival_7 = (refl, refl, refl)

-- the word of event and player in the round's bytes: 256 * 1 + 3
pub by_the_word : said_of 2 7 259 ≡ 459538
unfolding said
by_the_word = refl
