-- What is said of join's answers: 02, M-111.
use Rattle.std.specs.Prelude.{ℕ, ◌≤◌, true, ◌≡◌, List, [], ◌∷◌, length}
use Rattle.lib_word.specs.Word.{get}
use Rattle.spec_language.specs.Sheet.{Sheet}
use Rattle.spec_language.specs.Grammar.{encode}
use Rattle.spec_language.specs.Accepted.{SheetAccepted}
use Rattle.spec_language.specs.Code.{all_instructions}
use Rattle.spec_language.specs.Answers.{told}
use Rattle.link_pooled.specs.Pooled.{count, pooled, same_ranks}
use Rattle.back_compile.specs.Compiled.{program_of}
use Rattle.back_compile.specs.Statements.{FirstUnmet}

-- what the result needs, in this order: "The result must pass compile's 3, 7 and 13, checked in that order"
abbrev pub limits : List ℕ → Sheet → List (Type 0 × ℕ)
limits ps z = (length (encode z) ≤ 8192, 3) ∷ (count z ≤ 64, 7) ∷ (all_instructions (program_of ps z) ≤ 4096, 13) ∷ []

-- r is the answer for two accepted sheets x and y: 26, "checked once both are accepted", the limits "after 26"; the
-- joined sheet is then one that compile accepts, and 27 is "checked last"; else 2 ^ 32 and its length
abbrev pub JoinOrder : List ℕ → List ℕ → Sheet → Sheet → ℕ → Type 0
JoinOrder ps buffer x y =
    FirstUnmet ((same_ranks x.signals y.signals ≡ true, 26) ∷ [])
    (FirstUnmet (limits ps (pooled x y))
    (λ r. SheetAccepted (get ps) (length ps) (pooled x y)
    × FirstUnmet ((length (encode (pooled x y)) ≤ length buffer, 27) ∷ []) (λ r. r ≡ told (length (encode (pooled x y)))) r))
