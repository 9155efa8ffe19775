-- The tokens of an expression, worked out from its bytes alone, as the code does: a byte past the end is 0, and a
-- number bounds the nesting. That they are those of the phrase that describes it is shown in proofs/. A list of bytes
-- here is what stands from a place of the sheet on.
use Rattle.std.specs.Prelude.{ℕ, zero, suc, ◌-◌, List, [], ◌∷◌, ◌++◌, get_or, drop, ltb, leb, eqb}
use Rattle.lib_base.specs.Basics.{pick}
use Rattle.lib_signature.specs.Signature.{level, last}
use Rattle.lib_signature.specs.Numbers.{not_fn, if_fn}
use Rattle.source_language.specs.Tokens.{SheetToken, number, name, opening, closing, comma, bracket, unbracket}
use Rattle.source_rendering.specs.Describe.{behaviour_name, parameter_name, described_constant, mark, unless, value_tokens}
use Rattle.sheet_walk.specs.Fields.{after_field, word_in_front}
use Rattle.source_walk.specs.Fields.{first_cell}

-- ---- names

-- behaviour i, whose field has the first cell h
abbrev pub cell_tokens : ℕ → ℕ → List SheetToken
cell_tokens h i = name 0 (behaviour_name h) ∷ pick (eqb h i) [] (mark bracket (number 0 (i - h) ∷ mark unbracket []))

-- ---- formulas, where the behaviours' bytes are bs, of at most n fields

-- before the first argument of function f, where level l is due
abbrev pub head_tokens : ℕ → ℕ → List SheetToken
head_tokens f l = pick (eqb f not_fn) (mark f []) (pick (eqb f if_fn) (mark f (mark opening [])) (unless (leb (level f) l) opening []))

-- between its first two; a number that is no function's has no sign
abbrev pub between_tokens : ℕ → List SheetToken
between_tokens f = pick (eqb f if_fn) (mark comma []) (pick (eqb f 0) [] (pick (ltb last f) [] (mark f [])))

-- the level that is due for the first argument
abbrev pub first_level : ℕ → ℕ
first_level f = pick (eqb f if_fn) 6 (level f)

-- and for the second: one tighter, for operators group to the left
abbrev pub second_level : ℕ → ℕ
second_level f = pick (eqb f if_fn) 6 (level f - 1)

-- after its second argument, where what is left of them stands in v, each written by `arg`
abbrev pub tail_tokens : (ℕ → List ℕ → List SheetToken) → ℕ → ℕ → List ℕ → List SheetToken
tail_tokens arg f l v = pick (eqb f if_fn) (mark comma (arg 6 v ++ mark closing [])) (unless (leb (level f) l) closing [])

-- an application, whose arguments stand in v
abbrev pub application_tokens : (ℕ → List ℕ → List SheetToken) → ℕ → ℕ → List ℕ → List SheetToken
application_tokens arg f l v =
    head_tokens f l
    ++ (arg (first_level f) v
    ++ pick (eqb f not_fn) []
    (between_tokens f ++ (arg (second_level f) (after_field v) ++ tail_tokens arg f l (after_field (after_field v)))))

module _ (n : ℕ) (bs : List ℕ) where
  -- a constant, a name or a parameter
  abbrev pub leaf_tokens : List ℕ → List SheetToken
  leaf_tokens b =
      pick (eqb (get_or b 0 0) 16) (value_tokens (described_constant (word_in_front (drop 3 b))) [])
      (pick (eqb (get_or b 0 0) 17) (cell_tokens (first_cell n 0 bs (get_or b 3 0)) (get_or b 3 0))
      (name 0 (parameter_name (get_or b 3 0)) ∷ []))

  -- an expression nested at most k deep, where level l is due
  unfoldable pub term_tokens : ℕ → ℕ → List ℕ → List SheetToken
  term_tokens zero l b = []
  term_tokens (suc k) l b = pick (eqb (get_or b 0 0) 18) (application_tokens (term_tokens k) (get_or b 3 0) l (drop 4 b)) (leaf_tokens b)
