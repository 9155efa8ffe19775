-- Instances at the bounds, each the claim applied, so that one that was narrowed does not fit: the last arrival of a
-- round, 999,999, from player 7, run alone; a round of 2,048 bytes. And by computation: the board of two behaviours,
-- and what a change answers.
use Rattle.lib_base.proofs.Prelude.{ℕ, ◌<◌, ◌≡◌, refl, true, List, [], ◌∷◌, map, length, arith}
use Rattle.lib_base.specs.Basics.{All}
use Rattle.lib_word.specs.Word.{get, words}
use Rattle.spec_language.specs.Syntax.{Program}
use Rattle.spec_language.specs.Sheet.{Sheet}
use Rattle.spec_language.specs.Grammar.{encode}
use Rattle.spec_language.specs.Accepted.{SheetAccepted}
use Rattle.spec_language.specs.Dependence.{size, events}
use Rattle.spec_language.specs.Rights.{may_send}
use Rattle.spec_model.specs.Model.{arrival, refused, Turn, call, says, carried_over}
use Rattle.spec_model.specs.Claims.{last, number, after, program_after, engine_after, history_from, alone_calls}
use Rattle.back_compile.specs.Verdict.{compile_on}
use Rattle.refine_calls.specs.Refinement.{ByteTurn, mends, Bytes, bytes_after}
use Rattle.refine_lists.specs.Lists.{board_of, IdleNow, decoded_reply, OneList, Prepared}

-- the board is words 136 and 137
two_values : (p : Program) (l : List ℕ) → size p ≡ 2 → board_of p l ≡ get l 136 ∷ get l 137 ∷ []
unfolding words
two_values p l h = rw h

-- 0 where a change is made, and 19 and 28 where it is not
changes : (u : List ℕ) → (decoded_reply (mends u) 0 ≡ carried_over) × (decoded_reply (mends u) 19 ≡ says (refused 19)) × (decoded_reply (mends u) 28 ≡ says (refused 28))
changes u = (refl, refl, refl)

-- 999,999 were taken in, and the last runs alone
last_of_a_round : (p : Program) (l₀ : List ℕ) (b : Bytes) (xs : List ByteTurn) (ts : List Turn) → OneList p l₀ b xs ts → IdleNow (bytes_after xs b)
    → (e : ℕ) → e < events (program_after p ts) → may_send (program_after p ts) 7 e ≡ true → number (engine_after p ts) ≡ 999999
    → history_from (after p ts) (map call (alone_calls (program_after p ts) e 7)) ≡ last (arrival (number (engine_after p ts)) e 7 ∷ [])
last_of_a_round p l₀ b xs ts o i e d m n = (o.one_event_law i e 7 d (omega arith) m (omega arith)).0

-- a round of 2,048 bytes has room
just_room : (s ps t l : List ℕ) (x : Sheet) → All (λ b. b < 256) ps → length l ≡ 2048 → (compile_on s ps t).0 ≡ 0 → encode x ≡ s → SheetAccepted (get ps) (length ps) x → Prepared s ps t l x
just_room s ps t l x a h c e k = record { param_bytes = a; room = omega arith; compiles = c; sent_as = e; taken = k }
