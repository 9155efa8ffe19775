-- Which tables and rounds are foreign, by the tests of the code in their order. 01 "Why a call was turned down".
use Rattle.std.specs.Prelude.{ℕ, zero, suc, ◌+◌, ◌*◌, ◌-◌, Bool, true, false, List, length, ltb, leb, eqb}
use Rattle.lib_base.specs.Basics.{pick}
use Rattle.lib_word.specs.Word.{get}
use Rattle.format_layout.specs.Layout.{event_count, behaviour_count, event_word, event_of, player_of, waiting_count}
use Rattle.format_layout.specs.Layout.{running_flag, running_word, running_event, position, depth, word_at}

-- not 0 where behaviour i is a passive; where the stretch of instructions that works the passives out begins, and its
-- length
abbrev pub kind_at : List ℕ → ℕ → ℕ
kind_at t i = get t (296 + i)

-- code from `start` on, of len instructions, lies within 4,096
unfoldable pub code_fits : ℕ → ℕ → Bool
code_fits start len = pick (ltb 4096 start) false (leb len (4096 - start))

unfoldable pub codes_fit : List ℕ → ℕ → Bool
codes_fit t zero = true
codes_fit t (suc n) = pick (code_fits (event_word t n 1) (event_word t n 2)) (codes_fit t n) false

-- n events and b behaviours
unfoldable pub table_with : List ℕ → ℕ → ℕ → Bool
table_with t n b = pick (ltb 32 n) false (pick (ltb 64 b) false (codes_fit t n))

unfoldable pub table_fits : List ℕ → Bool
table_fits t = pick (ltb (length t) 34816) false (table_with t (event_count t) (behaviour_count t))

abbrev pub hand_word : ℕ → ℕ → ℕ
hand_word e who = who * 256 + e

-- w is the word of one of `known` events and one of eight players: 02, M-107: "14, which also covers such a player in
-- hand"
unfoldable pub hand_fits : ℕ → ℕ → Bool
hand_fits known w = pick (leb known (event_of w)) false (ltb (player_of w) 8)

-- so are those of the first n waiting
unfoldable pub slots_fit : List ℕ → ℕ → ℕ → Bool
slots_fit l known zero = true
slots_fit l known (suc n) = pick (hand_fits known (word_at l n)) (slots_fit l known n) false

-- n wait; f: one runs, whose word fits or not, c of its len instructions done
unfoldable pub running_fits : ℕ → ℕ → Bool → ℕ → ℕ → Bool
running_fits n f fits c len = pick (eqb f 0) true (pick (ltb 63 n) false (pick fits (ltb c len) false))

unfoldable pub round_with : List ℕ → ℕ → ℕ → ℕ → Bool → Bool
round_with l n known d running = pick (ltb 64 n) false (pick (ltb 64 d) false (pick running (slots_fit l known n) false))

unfoldable pub round_in : List ℕ → List ℕ → Bool
round_in t l =
    round_with l (waiting_count l) (event_count t) (depth l)
    (running_fits (waiting_count l) (running_flag l) (hand_fits (event_count t) (running_word l)) (position l) (event_word t (running_event l) 2))

unfoldable pub round_fits : List ℕ → List ℕ → Bool
round_fits t l = pick (ltb (length l) 2048) false (round_in t l)

-- neither is foreign
unfoldable pub ours : List ℕ → List ℕ → Bool
ours t l = pick (table_fits t) (round_fits t l) false
