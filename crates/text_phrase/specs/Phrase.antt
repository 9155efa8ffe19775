-- Levels and marks of the code's tokens, and what the small steps of a reading give.
use Rattle.std.specs.Prelude.{ℕ, ◌+◌, ◌≤◌, ◌<◌, Option, Some, None, List, [], ◌∷◌, slice_get, eqb}
use Rattle.lib_base.specs.Basics.{pick}
use Rattle.lib_signature.specs.Signature.{level}
use Rattle.spec_language.specs.Grammar.{field, word}
use Rattle.spec_language.specs.Refusals.{no_formula}
use Rattle.text_formula.specs.Nesting.{deeper}
use Rattle.text_formula.specs.declared.tokens.Token as code
use Rattle.text_formula.specs.declared.tokens.Token.TheVariants.{Number, Name, Function, Opening, Closing, Comma}
use Rattle.sheet_write.specs.Writes.{fitted, as_application}
use Rattle.text_phrase.specs.declared.Read.{Read}

-- ---- a reading: 02's number, 0 where an expression is read; and the place of the next token, the end of the bytes
-- written and the nesting

abbrev pub read_refusal : Option Read → ℕ
read_refusal (Some r) = 0
read_refusal None = no_formula

abbrev pub read_place : Option Read → ℕ
read_place (Some r) = r.at
read_place None = 0

abbrev pub read_end : Option Read → ℕ
read_end (Some r) = r.end
read_end None = 0

abbrev pub read_depth : Option Read → ℕ
read_depth (Some r) = r.depth
read_depth None = 0

-- ---- levels, marks and small steps

-- the function, where it is a two-sided operator of level l
abbrev pub operator_code : ℕ → code.Token → Option ℕ
operator_code l (Function f) = pick (eqb (level f) l) (Some f) None
operator_code l (Number n) = None
operator_code l (Name i) = None
operator_code l Opening = None
operator_code l Closing = None
operator_code l Comma = None

abbrev pub operator_from : ℕ → Option code.Token → Option ℕ
operator_from l None = None
operator_from l (Some t) = operator_code l t

unfoldable pub operator_in : List code.Token → ℕ → ℕ → Option ℕ
operator_in ts at l = operator_from l (slice_get ts at)

-- brackets and comma by number; 0 for another
abbrev pub mark_code : code.Token → ℕ
mark_code (Number n) = 0
mark_code (Name i) = 0
mark_code (Function f) = 0
mark_code Opening = 1
mark_code Closing = 2
mark_code Comma = 3

abbrev pub mark_from : Option code.Token → ℕ
mark_from None = 0
mark_from (Some t) = mark_code t

unfoldable pub bracket_at : List code.Token → ℕ → ℕ
bracket_at ts at = mark_from (slice_get ts at)

abbrev pub under_of : ℕ → Option Read → Option Read
under_of d None = None
under_of d (Some r) = Some (record { at = r.at; end = r.end; depth = deeper d r.depth })

-- an application of the arguments from start on: four bytes more, and one level of nesting
abbrev pub closed_of : ℕ → Option Read → Option Read
closed_of d None = None
closed_of d (Some r) = Some (record { at = r.at; end = r.end + 4; depth = deeper d r.depth + 1 })

abbrev pub wrapped_in : ℕ → ℕ → Option Read → List ℕ → List ℕ
wrapped_in f start None o = o
wrapped_in f start (Some r) o = as_application f start r.end o

abbrev pub Closable : ℕ → ℕ → ℕ → Option Read → Type 0
Closable start d room None = Unit {0}
Closable start d room (Some r) = (start ≤ r.end) × (r.end + 4 ≤ room) × (d + r.depth < 65536)

abbrev pub ended_in : List code.Token → Option Read → Option Read
ended_in ts None = None
ended_in ts (Some r) =
    pick (eqb (bracket_at ts r.at) 2) (Some (record { at = r.at + 1; end = r.end; depth = r.depth })) None

unfoldable pub leaf_read : code.Token → ℕ → ℕ → Option Read
leaf_read (Number v) at n = Some (record { at = at + 1; end = n + 7; depth = 1 })
leaf_read (Name i) at n = Some (record { at = at + 1; end = n + 4; depth = 1 })
leaf_read (Function f) at n = None
leaf_read Opening at n = None
leaf_read Closing at n = None
leaf_read Comma at n = None

-- 16 a number, 17 a name
unfoldable pub leaf_out : code.Token → ℕ → List ℕ → List ℕ
leaf_out (Number v) n o = fitted o n (field 16 (word v))
leaf_out (Name i) n o = fitted o n (field 17 (i ∷ []))
leaf_out (Function f) n o = o
leaf_out Opening n o = o
leaf_out Closing n o = o
leaf_out Comma n o = o
