-- What an instruction does. 01 "Handlers and steps".
use Rattle.std.specs.Prelude.{ℕ, ◌+◌, Bool, false, ◌||◌, List, [], ◌∷◌, length, get_or, set, drop, replicate, eqb, ltb}
use Rattle.std.proofs.Math.Option.{Option, none, some}
use Rattle.std.proofs.Math.Decide.{ℕ_discrete}
use Rattle.lib_base.specs.Basics.{pick}
use Rattle.lib_signature.specs.Signature.{arity}
use Rattle.lib_arith.specs.Functions.{result_of, over}
use Rattle.spec_language.specs.Code.{Instr, Instr-discrete, off, on, copy, restore, load, fetch, save, defer, move, push, apply}
use Rattle.spec_semantics.specs.Meaning.{at}

-- the values that instructions work on: the store (01: board), scratch, the evaluation stack (its top in front), and
-- the deferred values (01: the later handlers' places). What is not filled is `none`. The mark says whether an
-- application ran over since the event started (02, M-104).
pub record Values : Type 0 where
  pub store : List ℕ
  pub scratch : List (Option ℕ)
  pub stack : List ℕ
  pub deferred : List (Option ℕ)
  pub mark : Bool

abbrev pub values_of : List ℕ → List (Option ℕ) → List ℕ → List (Option ℕ) → Bool → Values
values_of s c st df m = record { store = s; scratch = c; stack = st; deferred = df; mark = m }

-- a value of scratch or of the deferred ones; 0 where there is none
abbrev pub held : Option ℕ → ℕ
held none = 0
held (some v) = v

abbrev pub held_at : List (Option ℕ) → ℕ → ℕ
held_at s i = held (get_or s i none)

-- the top of the stack, and what is below it
abbrev pub top : List ℕ → ℕ
top st = at st 0

-- "`!` needs one, `if` three, the others two": what g gives for the arguments of f, the last on top of the stack
abbrev pub on_arguments : {A : Type 0} → (ℕ → ℕ → ℕ → A) → ℕ → List ℕ → A
on_arguments g f st = pick (eqb f 3) (g (at st 0) 0 0) (pick (eqb f 14) (g (at st 2) (at st 1) (at st 0)) (g (at st 1) (at st 0) 0))

-- the result stands in place of the arguments
abbrev pub applied : ℕ → List ℕ → List ℕ
applied f st = on_arguments (result_of f) f st ∷ drop (arity f) st

abbrev pub pushed : ℕ → Values → Values
pushed w d = values_of d.store d.scratch (w ∷ d.stack) d.deferred d.mark

-- "No instruction changes any other value on board, scratch, stack or those places."
unfoldable pub execute : Instr → Values → Values
execute off d = d
execute on d = d
execute (copy i) d = values_of d.store (set d.scratch i (some (at d.store i))) d.stack d.deferred d.mark
execute (restore i) d = values_of (set d.store i (held_at d.scratch i)) d.scratch d.stack d.deferred d.mark
execute (load i) d = pushed (at d.store i) d
execute (fetch i) d = pushed (held_at d.scratch i) d
execute (push w) d = pushed w d
execute (apply f) d = values_of d.store d.scratch (applied f d.stack) d.deferred (on_arguments (over f) f d.stack || d.mark)
execute (save i) d = values_of d.store (set d.scratch i (some (top d.stack))) (drop 1 d.stack) d.deferred d.mark
execute (defer i) d = values_of d.store d.scratch (drop 1 d.stack) (set d.deferred i (some (top d.stack))) d.mark
execute (move i) d = values_of d.store (set d.scratch i (some (held_at d.deferred i))) d.stack d.deferred d.mark

-- an event starts with scratch, stack and deferred values empty, and with no mark: "What a broken-in handler found is
-- dropped with its scratch."
unfoldable pub emptied : List ℕ → Values
emptied s = values_of s (replicate (length s) none) [] (replicate (length s) none) false

-- ---- masking. "Interrupts are masked between off and on. Copy-back runs from after the second off to the end of the
-- second on".

-- how often an instruction stands among these
unfoldable pub times : Instr → List Instr → ℕ
times x [] = 0
times x (i ∷ is) = elim (Instr-discrete ℕ_discrete i x) [ yes e ↦ 1 + times x is | no f ↦ times x is ]

-- after these instructions interrupts are masked; after these, a copy-back is under way
abbrev pub masked_after : List Instr → Bool
masked_after is = ltb (times on is) (times off is)

abbrev pub copying_back_after : List Instr → Bool
copying_back_after is = pick (eqb (times off is) 2) (masked_after is) false
