-- How the code points into a text: the tokens from a place on, the name that begins at a place, and what names mean
-- that are known by their places.
use Rattle.std.specs.Prelude.{ℕ, zero, suc, ◌-◌, List, [], ◌∷◌, length, get_or, drop, ltb}
use Rattle.lib_base.specs.Basics.{pick}
use Rattle.source_language.specs.Tokens.{SheetToken, same, in_word}
use Rattle.source_language.specs.Scanner.{run_of_kind, scanned_tokens}
use Rattle.source_language.specs.Meaning.{NameMeaning, nothing, a_parameter, a_behaviour, a_row}

-- from place 0 on they are all that `scan_text` finds
unfoldable pub tokens_from : List ℕ → ℕ → List SheetToken
tokens_from text at = scanned_tokens (length text) (length (drop at text)) (drop at text)

unfoldable pub name_at : List ℕ → ℕ → List ℕ
name_at text p = run_of_kind in_word (drop p text)

-- the names at the first n of these places, the last one first
unfoldable pub names_held : List ℕ → List ℕ → ℕ → List (List ℕ)
names_held text places zero = []
names_held text places (suc n) = name_at text (get_or places n 0) ∷ names_held text places n

-- which of the names at these places is s, counted from 0; their number where none is
unfoldable pub index_in : List ℕ → List ℕ → List ℕ → ℕ
index_in text [] s = 0
index_in text (p ∷ ps) s = pick (same s (name_at text p)) zero (suc (index_in text ps s))

-- a behaviour by its number, or a row by its first cell and its count
abbrev pub behaviour_or_row : ℕ → ℕ → NameMeaning
behaviour_or_row i c = pick (ltb c 2) (a_behaviour i) (a_row i c)

-- what the j-th name means where the first of them are parameters, and `firsts` has the number of each behaviour's
-- first cell, and last the number of all
abbrev pub meaning_at : ℕ → List ℕ → ℕ → NameMeaning
meaning_at params firsts j =
    pick (ltb j params) (a_parameter j) (behaviour_or_row (get_or firsts (j - params) 0) (get_or firsts (suc (j - params)) 0 - get_or firsts (j - params) 0))

unfoldable pub meaning_in : List ℕ → List ℕ → ℕ → List ℕ → List ℕ → NameMeaning
meaning_in text places params firsts s =
    pick (ltb (index_in text places s) (length places)) (meaning_at params firsts (index_in text places s)) nothing
