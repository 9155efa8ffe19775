-- What bytes are: a sheet, or the number of the first fault from left to right. 01 "The sheet", "Why a call was turned
-- down": "At a field: 4 for its header, 5, 4 for its length, 7, 9, 6 for a fixed length, contents in order, 6 for
-- leftovers. In a handler: event, phase, 10, expression."; 02, M-103, M-107, M-110.
use Rattle.std.specs.Prelude.{ℕ, zero, suc, ◌+◌, ◌*◌, Bool, true, false, not, ◌&&◌, ◌||◌, List, [], ◌∷◌, ◌++◌, length, get_or, take, drop, ltb, leb, eqb}
use Rattle.std.proofs.Math.Option.{Option, none, some}
use Rattle.lib_base.specs.Basics.{pick}
use Rattle.lib_word.specs.Word.{get_at}
use Rattle.lib_signature.specs.Signature.{last}
use Rattle.spec_language.specs.Syntax.{Phase, immediate, later}
use Rattle.spec_language.specs.Sheet.{Term, literal, variable, param, apply1, apply2, apply3, Clause, clause}
use Rattle.spec_language.specs.Sheet.{Item, formula, state, row, Signal, Entry, Sheet, cell_count}

-- something read, with the bytes after it, or the number of a fault
pub data Got (A : Type 0) : Type 0 where
  bad : ℕ → Got A
  got : A → List ℕ → Got A

-- go on with what was read; a fault is passed on
abbrev pub then : {A B : Type 0} → Got A → (A → List ℕ → Got B) → Got B
then (bad n) f = bad n
then (got x rest) f = f x rest

-- "6 for a fixed length"
abbrev pub sized : {A : Type 0} → ℕ → List ℕ → Got A → Got A
sized n v x = pick (eqb (length v) n) x (bad 6)

-- "6 for leftovers": what is read from a field's value leaves nothing of it over, and the bytes after the field follow
abbrev pub filling : {A : Type 0} → Got A → List ℕ → Got A
filling g rest = then g (λ x left. sized 0 left (got x rest))

-- a field is due, at the front of the bytes s up to the enclosing end: "4 for its header, 5, 4 for its length", then
-- what f reads, by its tag, from its value. `get_or s i 0` is byte i, and 0 past the end
unfoldable pub field_at : {A : Type 0} → (ℕ → Bool) → List ℕ → (ℕ → List ℕ → Got A) → Got A
field_at due s f =
    let n : ℕ = get_or s 1 0 * 256 + get_or s 2 0 in
    pick (ltb (length s) 3) (bad 4)
    (pick (not (due (get_or s 0 0))) (bad 5)
    (pick (ltb (length s) (n + 3)) (bad 4)
    (filling (f (get_or s 0 0) (take n (drop 3 s))) (drop (n + 3) s))))

-- a byte is due in a value
abbrev pub byte_in : {A : Type 0} → List ℕ → (ℕ → List ℕ → Got A) → Got A
byte_in [] f = bad 6
byte_in (b ∷ v) f = f b v

-- one after another, each read by `one` after those before it, until the bytes left end them. The number bounds their
-- count; one more than the bytes is enough, since a field has three at least
module _ {A : Type 0} (ended : List ℕ → Bool) (one : List A → List ℕ → Got A) where
  unfoldable pub read_all : ℕ → List A → List ℕ → Got (List A)
  read_all zero xs s = bad 4
  read_all (suc k) xs s = pick (ended s) (got xs s) (then (one xs s) (λ x rest. read_all k (xs ++ (x ∷ [])) rest))

-- ---- expressions

-- the arguments of function f in v, each read by `arg`: `!` needs one, `if` three, the others two
abbrev pub args_of : (List ℕ → Got Term) → ℕ → List ℕ → Got Term
args_of arg f v =
    then (arg v) (λ a v₁.
    pick (eqb f 3) (got (apply1 f a) v₁)
    (then (arg v₁) (λ b v₂.
    pick (eqb f 14) (then (arg v₂) (λ c v₃. got (apply3 f a b c) v₃))
    (got (apply2 f a b) v₂))))

-- 10 a constant, 11 a name, 12 an application, 13 a parameter, hexadecimal. M-103: "tag 13 hexadecimal, length 1, names
-- a parameter 0 to 7; a larger one is refused by 8"
abbrev pub term_in : (List ℕ → Got Term) → ℕ → List ℕ → Got Term
term_in arg t v =
    pick (eqb t 16) (sized 4 v (got (literal (get_at v 0)) []))
    (pick (eqb t 17) (sized 1 v (got (variable (get_or v 0 0)) []))
    (pick (eqb t 19) (sized 1 v (pick (ltb 7 (get_or v 0 0)) (bad 8) (got (param (get_or v 0 0)) [])))
    (byte_in v (λ f w. pick (eqb f 0 || ltb last f) (bad 8) (args_of arg f w)))))

-- the tags of expressions
abbrev pub is_term : ℕ → Bool
is_term t = leb 16 t && leb t 19

-- an expression, with so many levels of nesting left: 9 comes after its length, before its contents
unfoldable pub expr_at : ℕ → List ℕ → Got Term
expr_at zero s = field_at is_term s (λ t v. bad 9)
expr_at (suc left) s = field_at is_term s (term_in (expr_at left))

-- ---- handlers

-- a handler for event e is among these
unfoldable pub handles : ℕ → List Clause → Bool
handles e [] = false
handles e (clause f φ x ∷ hs) = pick (eqb e f) true (handles e hs)

abbrev pub phase_of : ℕ → Phase
phase_of zero = immediate
phase_of (suc n) = later

-- "In a handler: event, phase, 10, expression."; n events are declared, and the behaviour has the handlers hs so far
abbrev pub handler_in : ℕ → List Clause → List ℕ → Got Clause
handler_in n hs s =
    field_at (eqb 5) s (λ t v.
    byte_in v (λ e v₁. pick (leb n e) (bad 8)
    (byte_in v₁ (λ φ v₂. pick (ltb 1 φ) (bad 8)
    (pick (handles e hs) (bad 10)
    (then (expr_at 16 v₂) (λ x left. got (clause e (phase_of φ) x) left)))))))

-- ---- behaviours

abbrev pub entry : Item → Option ℕ → Entry
entry x m = record { item = x; viewer = m }

-- what is left of a behaviour's value after its own part. M-107: "Past a passive's expression only tag 08 begins a
-- field, other bytes being 6, as are all past an 08."
abbrev pub ending_in : Item → List ℕ → Got Entry
ending_in x s =
    pick (eqb (get_or s 0 0) 8)
    (then (field_at (eqb 8) s (λ t v. sized 1 v (got (get_or v 0 0) []))) (λ m left. got (entry x (some m)) left))
    (got (entry x none) s)

-- a start, then handlers until the end or a tag 08, and the ending: what they make is an active, or a row of so many
-- cells
abbrev pub active_as : (ℕ → List Clause → Item) → ℕ → List ℕ → Got Entry
active_as make n v =
    then (field_at (eqb 4) v (λ t w. sized 4 w (got (get_at w 0) []))) (λ s v₁.
    then (read_all (λ u. eqb (length u) 0 || eqb (get_or u 0 0) 8) (handler_in n) (suc (length v₁)) [] v₁) (λ hs v₂.
    ending_in (make s hs) v₂))

-- by its tag, with n events declared and i behaviours before it. M-110: "a one-byte cell count of 2 to 16 (else 8),
-- then goes on as an active. .. past the first cell, 7 is checked after the count."
abbrev pub behaviour_in : ℕ → ℕ → ℕ → List ℕ → Got Entry
behaviour_in n i t v =
    pick (eqb t 2) (then (expr_at 16 v) (λ x left. ending_in (formula x) left))
    (pick (eqb t 6)
    (byte_in v (λ c w. pick (ltb c 2 || ltb 16 c) (bad 8)
    (pick (ltb 64 (i + c)) (bad 7) (active_as (row c) n w))))
    (active_as state n v))

-- where a behaviour is due after those of bs, with n events declared
abbrev pub due_at : ℕ → List Entry → List ℕ → Got Entry
due_at n bs s =
    field_at (λ t. eqb t 2 || eqb t 3 || eqb t 6) s (λ t v.
    pick (leb 64 (cell_count bs)) (bad 7) (behaviour_in n (cell_count bs) t v))

-- ---- the whole

abbrev pub signal : ℕ → Option ℕ → Signal
signal r m = record { priority = r; sender = m }

-- an event after those of rs, of one byte or two
abbrev pub signal_in : List Signal → List ℕ → Got Signal
signal_in rs s =
    field_at (eqb 1) s (λ t v.
    pick (leb 32 (length rs)) (bad 7)
    (pick (eqb (length v) 0 || ltb 2 (length v)) (bad 6)
    (pick (ltb 15 (get_or v 0 0)) (bad 8)
    (got (signal (get_or v 0 0) (pick (eqb (length v) 1) none (some (get_or v 1 0)))) []))))

abbrev pub sheet : List Signal → List Entry → Sheet
sheet rs bs = record { signals = rs; entries = bs }

-- events as long as a tag 01 follows, then behaviours to the end
unfoldable pub read_sheet : List ℕ → Got Sheet
read_sheet s =
    then (read_all (λ u. not (eqb (get_or u 0 0) 1)) signal_in (suc (length s)) [] s) (λ rs v.
    then (read_all (λ u. eqb (length u) 0) (due_at (length rs)) (suc (length v)) [] v) (λ bs left.
    got (sheet rs bs) left))
