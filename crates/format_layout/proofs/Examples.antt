-- Worked examples, by computation: each condition of 01's foreign at its limit, one that passes and one that does not.
-- 01 "Foreign: table or round shorter than stated; counts above 32 events, 64 behaviours, 64 in hand; code outside
-- 4,096; an undeclared event in hand; running position outside its event's code; evaluation stack above 64". 02, M-107:
-- "14, which also covers such a player in hand".
use Rattle.lib_base.proofs.Prelude.{ℕ, ◌≡◌, refl, true, false, List, [], ◌∷◌, length}
use Rattle.lib_word.specs.Word.{get, get_at}
use Rattle.format_layout.specs.Layout.{event_count, behaviour_count, event_word}
use Rattle.format_layout.specs.Foreign.{code_fits, codes_fit, table_with, table_fits, hand_word, hand_fits, slots_fit, running_fits, round_with, round_in, round_fits}
use Rattle.format_layout.specs.Fresh.{fresh_of}

-- "table or round shorter than stated"
pub table_length_law : (t : List ℕ) → ((length t ≡ 34815 → table_fits t ≡ false) × (length t ≡ 34816 → table_fits t ≡ table_with t (event_count t) (behaviour_count t)))
unfolding table_fits
table_length_law t = (λ h. rw h, λ h. rw h)

pub round_length : (t l : List ℕ) → ((length l ≡ 2047 → round_fits t l ≡ false) × (length l ≡ 2048 → round_fits t l ≡ round_in t l))
unfolding round_fits
round_length t l = (λ h. rw h, λ h. rw h)

-- "counts above 32 events, 64 behaviours"
pub counts : (table_with [] 32 64 ≡ true) × (table_with [] 33 64 ≡ false) × (table_with [] 32 65 ≡ false)
unfolding table_with codes_fit code_fits event_word get get_at
counts = (refl, refl, refl)

-- "code outside 4,096"
pub code_range : (code_fits 4095 1 ≡ true) × (code_fits 4095 2 ≡ false) × (code_fits 4096 0 ≡ true) × (code_fits 4097 0 ≡ false)
unfolding code_fits
code_range = (refl, refl, refl, refl)

-- "an undeclared event in hand", of three events; and a player above 7
pub hand_words : (hand_fits 3 (hand_word 2 7) ≡ true) × (hand_fits 3 (hand_word 3 7) ≡ false) × (hand_fits 3 (hand_word 2 8) ≡ false)
unfolding hand_fits
hand_words = (refl, refl, refl)

-- "64 in hand", the running one counted
pub in_hand_law : (round_with [] 64 1 0 true ≡ true) × (round_with [] 65 1 0 true ≡ false) × (running_fits 63 1 true 0 1 ≡ true) × (running_fits 64 1 true 0 1 ≡ false)
unfolding round_with slots_fit hand_fits running_fits get get_at
in_hand_law = (refl, refl, refl, refl)

-- "running position outside its event's code", of 8 instructions
pub positions : (running_fits 0 1 true 7 8 ≡ true) × (running_fits 0 1 true 8 8 ≡ false)
unfolding running_fits
positions = (refl, refl)

-- "evaluation stack above 64"
pub stack_depth_law : (round_with [] 0 1 64 true ≡ true) × (round_with [] 0 1 65 true ≡ false)
unfolding round_with slots_fit
stack_depth_law = (refl, refl)

-- an event's record begins at word 8 and has four; there are 32
pub event_records_law : (t : List ℕ) → (event_word t 0 3 ≡ get t 11) × (event_word t 31 2 ≡ get t 134) × (event_word t 32 0 ≡ 0)
unfolding event_word
event_records_law t = (refl, refl, refl)

-- a round that start has just made: none taken in, none waiting, none running
pub fresh_round : ((fresh_of (5 ∷ [])).taken ≡ 0) × ((fresh_of (5 ∷ [])).waiting ≡ 0) × ((fresh_of (5 ∷ [])).running ≡ 0) × ((fresh_of (5 ∷ [])).store ≡ 5 ∷ [])
fresh_round = (refl, refl, refl, refl)
