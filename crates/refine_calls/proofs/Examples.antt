-- The model engine's answers as the calls' numbers, and back, by computation, as engine.h takes them apart: a step's in
-- bits 0 to 3 the kind, 4 to 7 the player, 8 to 15 the event, 16 and up the arrival, and bit 56 the mark. And which
-- words of a round a view of it reads.
use Rattle.lib_base.proofs.Prelude.{ℕ, ◌≡◌, refl, sym, true, false, some, none, List, [], ◌∷◌, map, get_or, arith}
use Rattle.lib_word.specs.Word.{get, words, pile}
use Rattle.spec_language.specs.Syntax.{Program}
use Rattle.spec_language.specs.Dependence.{size}
use Rattle.spec_execution.specs.Execution.{Values}
use Rattle.format_layout.specs.Layout.{depth, mark_word}
use Rattle.run_dispatch.specs.Said.{said}
use Rattle.spec_model.specs.Model.{Arrival, arrival, Running, arrive, step, board, Answer, refused, told_taken_in, shows, idle, ran, started, preempted, committed}
use Rattle.refine_calls.specs.Refinement.{coded, decoded, told_on, ViewOf, Kept}

-- every answer of a step: foreign, idle, one instruction, and arrival 7 of event 3 from player 1
abbrev of_steps : List Answer
of_steps =
    refused 14 ∷ idle ∷ ran
    ∷ started (arrival 7 3 1) ∷ committed (arrival 7 3 1) false ∷ committed (arrival 7 3 1) true ∷ preempted (arrival 7 3 1) ∷ []

abbrev numbers_of_steps : List ℕ
numbers_of_steps = 14 ∷ 0 ∷ 1 ∷ 459538 ∷ 459539 ∷ 72057594038387475 ∷ 459540 ∷ []

pub steps_coded : map coded of_steps ≡ numbers_of_steps
unfolding said
steps_coded = refl

pub steps_decoded : map (decoded step) numbers_of_steps ≡ of_steps
steps_decoded = refl

-- the last arrival of a round
pub last_arrival : (coded (started (arrival 999999 31 7)) ≡ 65535942514) × (decoded step 65535942514 ≡ started (arrival 999999 31 7))
unfolding said
last_arrival = (refl, refl)

-- M-107: the mark is told to the host alone
pub without_the_mark : map told_on numbers_of_steps ≡ 14 ∷ 0 ∷ 1 ∷ 459538 ∷ 459539 ∷ 459539 ∷ 459540 ∷ []
without_the_mark = refl

-- an arrival, and a board reading: 2 ^ 32 and the value, -1 among them
pub other_calls : (coded told_taken_in ≡ 0) × (coded (refused 16) ≡ 16) × (coded (shows 5) ≡ 4294967301) × (coded (shows 4294967295) ≡ 8589934591)
    × (decoded (arrive 0 0) 0 ≡ told_taken_in) × (decoded (arrive 0 0) 16 ≡ refused 16)
    × (decoded (board 0 0) 19 ≡ refused 19) × (decoded (board 0 0) 4294967296 ≡ shows 0) × (decoded (board 0 0) 8589934591 ≡ shows 4294967295)
other_calls = (refl, refl, refl, refl, refl, refl, refl, refl, refl)

-- of three behaviours: the board in words 136 to 138, b2's scratch in word 202 and its place in word 266; two values on
-- the stack, the last in front, in words 329 and 328; word 0 has the number taken in; any mark but 0
module _ (p : Program) (l : List ℕ) (n : ℕ) (waiting : List Arrival) (r : Running) (d : Values) (v : ViewOf p l n waiting r d) where
  pub taken_in : get l 0 ≡ n
  taken_in = v.number

  pub on_the_board : size p ≡ 3 → d.store ≡ get l 136 ∷ get l 137 ∷ get l 138 ∷ []
  unfolding words
  on_the_board h = sym (rw h at v.store)

  pub on_the_stack : depth l ≡ 2 → d.stack ≡ get l 329 ∷ get l 328 ∷ []
  unfolding pile
  on_the_stack h = sym (rw h at v.stack)

  pub in_scratch : get_or d.scratch 2 none ≡ some 5 → get l 202 ≡ 5
  in_scratch h = v.scratch 2 5 h

  pub in_its_place : get_or d.deferred 2 none ≡ some 5 → get l 266 ≡ 5
  in_its_place h = v.deferred 2 5 h

  pub marked : (mark_word l ≡ 0 → d.mark ≡ false) × (mark_word l ≡ 7 → d.mark ≡ true)
  marked = (λ h. sym (rw h at v.mark), λ h. sym (rw h at v.mark))

-- byte 2,048 of what was lent stays
pub byte_2048 : (l m : List ℕ) → Kept l m → get_or m 2048 0 ≡ get_or l 2048 0
byte_2048 l m k = k.beyond 2048 (omega arith)
