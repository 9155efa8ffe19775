-- What the desk program refuses and prints. 01: "The desk program reads fields from standard input: 20 a sheet, 21
-- arrival (event byte), 22 steps (two-byte count), 23 show (length 0)."
use Rattle.std.specs.Prelude.{ℕ, zero, suc, ◌+◌, ◌-◌, ◌/◌, ◌%◌, Bool, true, false, List, [], ◌∷◌, ◌++◌, ltb, eqb, length, get_or}
use Rattle.lib_base.specs.Basics.{pick}
use Rattle.lib_word.specs.Halves.{get_half}

-- the length of a 21, 22 or 23
unfoldable pub due : ℕ → ℕ
due tag = pick (eqb tag 33) 1 (pick (eqb tag 34) 2 0)

-- An arrival, a count or a show that is whole: ".. a wrong length R 6 ..; a well-formed 21, 22 or 23 before an accepted
-- sheet prints R 14"
unfoldable pub play_verdict : ℕ → ℕ → Bool → ℕ
play_verdict size length ready = pick (eqb size length) (pick ready 0 14) 6

-- Its value of `size` bytes, of which `got` were there: "a torn field prints R 4, .. a wrong length R 6 ..; a
-- well-formed 21, 22 or 23 before an accepted sheet prints R 14"
unfoldable pub value_verdict : ℕ → ℕ → ℕ → Bool → ℕ
value_verdict tag size got ready = pick (ltb got size) 4 (pick (eqb tag 32) 0 (play_verdict size (due tag) ready))

-- ".. and the program ends; .. R 14 and is passed over"
unfoldable pub ends_after : ℕ → Bool
ends_after verdict = pick (eqb verdict 0) false (pick (eqb verdict 14) false true)

-- the event byte or the two-byte count
unfoldable pub argument_number : List ℕ → ℕ
argument_number value = pick (eqb (length value) 1) (get_or value 0 0) (pick (eqb (length value) 2) (get_half value 0) 0)

-- n in decimal digits, in ASCII; `places` is as many as any n has
unfoldable pub decimal_in : ℕ → ℕ → List ℕ
decimal_in zero n = []
decimal_in (suc places) n = pick (ltb n 10) ((48 + n) ∷ []) (decimal_in places (n / 10) ++ ((48 + n % 10) ∷ []))

-- a number below 2^64 has at most 20 digits
abbrev pub decimal_text : ℕ → List ℕ
decimal_text n = decimal_in 20 n

-- a 32-bit word as a signed number; 45 is `-`
unfoldable pub signed_text : ℕ → List ℕ
signed_text w = pick (ltb w 2147483648) (decimal_text w) (45 ∷ decimal_text (4294967296 - w))

-- "A refusal prints R and its number."
unfoldable pub refusal_line : ℕ → List ℕ
refusal_line n = 82 ∷ 32 ∷ (decimal_text n ++ (10 ∷ []))

-- "C: arrival number, event number."
unfoldable pub commit_line : ℕ → ℕ → List ℕ
commit_line n e = 67 ∷ 32 ∷ (decimal_text n ++ (32 ∷ (decimal_text e ++ (10 ∷ []))))

-- What a step's answer prints: R 14, or a commit (kind 3). "Steps without a commit print nothing." 02, M-104: "The desk
-- program doesn't print it", the mark at 2^56.
unfoldable pub step_line : ℕ → List ℕ
step_line answer = pick (eqb answer 14) (refusal_line 14) (pick (eqb (answer % 16) 3) (commit_line (answer / 65536 % 1099511627776) (answer / 256 % 256)) [])

-- each value after a space
unfoldable pub values_text : List ℕ → List ℕ
values_text [] = []
values_text (w ∷ ws) = 32 ∷ (signed_text w ++ values_text ws)

-- "B: the behaviours in order; a sheet with none prints B alone."
unfoldable pub board_line : List ℕ → List ℕ
board_line ws = 66 ∷ (values_text ws ++ (10 ∷ []))
