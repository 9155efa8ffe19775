-- What a name means by a number beside its place.
use Rattle.std.specs.Prelude.{ℕ, suc, ◌+◌, ◌*◌, ◌-◌, ◌/◌, ◌%◌, Bool, true, false, ◌&&◌, List, [], ◌∷◌, length, get_or, ltb}
use Rattle.lib_base.specs.Basics.{pick}
use Rattle.source_language.specs.Tokens.{in_word}
use Rattle.source_language.specs.Meaning.{NameMeaning, nothing, a_parameter}
use Rattle.source_coding.specs.Places.{behaviour_or_row}
use Rattle.source_names.specs.Search.{found_in}

-- below 128 a parameter's number; else the number of a behaviour or of a row's first cell, and 128 for each cell
abbrev pub number_means : ℕ → NameMeaning
number_means m = pick (ltb m 128) (a_parameter m) (behaviour_or_row (m % 128) (m / 128))

-- bytes of a word alone
unfoldable pub word_only : List ℕ → Bool
word_only [] = true
word_only (b ∷ s) = pick (in_word b) (word_only s) false

-- what a name means, by the places of names, the first of them in order, and their meanings
unfoldable pub meaning_by : List ℕ → List ℕ → ℕ → List ℕ → List ℕ → NameMeaning
meaning_by text places sorted meanings s =
    pick (word_only s && ltb (found_in text places sorted s) (length places)) (number_means (get_or meanings (found_in text places sorted s) 0)) nothing

-- the number for the j-th name of those that `meaning_at` goes by
abbrev pub cells_meant : ℕ → ℕ → ℕ
cells_meant i c = pick (ltb c 2) (i + 128) (i + c * 128)

abbrev pub meaning_number : ℕ → List ℕ → ℕ → ℕ
meaning_number params firsts j =
    pick (ltb j params) j (cells_meant (get_or firsts (j - params) 0) (get_or firsts (suc (j - params)) 0 - get_or firsts (j - params) 0))
