-- The bytes of a text as a pen writes them, token after token: what stands before a token is told by the last byte
-- that was written. A pen is how many bytes are written and the last of them.
use Rattle.std.specs.Prelude.{ℕ, ◌+◌, ◌≤◌, Bool, true, ◌≡◌, List, [], ◌∷◌, ◌++◌, length, take, drop, leb, eqb}
use Rattle.lib_base.specs.Basics.{pick}
use Rattle.source_language.specs.Tokens.{SheetToken, number, name, sign, on_word, param_word}
use Rattle.source_rendering.specs.Describe.{spell, first_byte, run_together}
use Rattle.source_pen.specs.declared.Pen.{Pen}

-- ---- the bytes

-- "one space between tokens where one is needed": between a last byte and a first
unfoldable pub space_after : ℕ → ℕ → List ℕ
space_after a b = pick (run_together a b) (32 ∷ []) []

-- "one declaration a line, handlers below theirs, two spaces in": what stands before a token after a last byte that is
-- not 0
abbrev pub spacing_after : ℕ → SheetToken → List ℕ
spacing_after a (number p n) = space_after a (first_byte (spell (number p n)))
spacing_after a (name p s) = space_after a (first_byte s)
spacing_after a (sign p c) = pick (leb param_word c) (10 ∷ []) (pick (eqb c on_word) (10 ∷ 32 ∷ 32 ∷ []) (space_after a (first_byte (spell (sign p c)))))

-- 0 stands for no byte: nothing is before the first token
abbrev pub gap_after : ℕ → SheetToken → List ℕ
gap_after a t = pick (eqb a 0) [] (spacing_after a t)

-- a token's bytes with what stands before them
abbrev pub token_after : ℕ → SheetToken → List ℕ
token_after a t = gap_after a t ++ spell t

-- the last byte, where `a` was the last before these
unfoldable pub last_after : ℕ → List ℕ → ℕ
last_after a [] = a
last_after a (b ∷ bs) = last_after b bs

-- the bytes of tokens after a last byte
unfoldable pub written_after : ℕ → List SheetToken → List ℕ
written_after a [] = []
written_after a (t ∷ ts) = token_after a t ++ written_after (last_after a (token_after a t)) ts

-- `=` after these makes one mark with them
unfoldable pub takes_equals : ℕ → Bool
takes_equals a = pick (eqb a 61) true (pick (eqb a 60) true (pick (eqb a 62) true (eqb a 33)))

-- ---- the pen

-- from one pen to the other, which has the same buffer, these bytes were written; where they are not all within the
-- buffer they are counted only
pub record Penned (pen after : Pen) (bs : List ℕ) : Type 0 where
  pub counted : after.at ≡ pen.at + length bs
  pub ended : after.last ≡ last_after pen.last bs
  pub same : after.out.ghost_name ≡ pen.out.ghost_name
  pub long : length after.out.now ≡ length pen.out.now
  pub bytes : after.at ≤ length pen.out.now → take after.at after.out.now ≡ take pen.at pen.out.now ++ bs
  pub rest : after.at ≤ length pen.out.now → drop after.at after.out.now ≡ drop after.at pen.out.now

-- the same of the bytes of tokens
pub record TokensPenned (pen after : Pen) (ts : List SheetToken) : Type 0 where
  pub penned : Penned pen after (written_after pen.last ts)
