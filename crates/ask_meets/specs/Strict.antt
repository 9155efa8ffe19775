-- The same on the sets of a draft, in the code's tests and order. `rows` tell what each behaviour leads to through
-- passives.
use Rattle.std.specs.Prelude.{ℕ, ◌<◌, Bool, not, ◌&&◌, ◌||◌, List, get_or, eqb}
use Rattle.lib_base.specs.Basics.{pick}
use Rattle.lib_bits.specs.Bits.{bit, Gathers}
use Rattle.draft_form.specs.Draft.{entry_of, used_by}
use Rattle.draft_form.specs.Entry.{entry_start, entry_count}
use Rattle.check_graph.specs.Any.{any_below}
use Rattle.check_reads.specs.Sets.{names_on, writes_on, closed_by}
use Rattle.ask_leak.specs.Leaking.{names_any}
use Rattle.ask_meets.specs.Marks.{marks_among, marks_packed}

-- what a chain of names leads to from b, and b
unfoldable pub cone_on : List ℕ → ℕ → ℕ → ℕ → ℕ → Bool
cone_on d ev n b j = closed_by n (names_any d ev) b j || eqb j b

-- the mark of the expression of entry v of behaviour i, toward i: all that its nodes leave, as one number
unfoldable pub mark_in : List ℕ → List ℕ → ℕ → ℕ → ℕ
mark_in d rows i v = marks_packed (marks_among (λ k. bit (get_or rows k 0) i) i (used_by d i) (entry_start v) (entry_count v))

-- what the draft has for i on event e adds to i
unfoldable pub adds_on : List ℕ → List ℕ → ℕ → ℕ → Bool
adds_on d rows e i = eqb (mark_in d rows i (entry_of d e i)) 3

-- it names j, directly or through passives
unfoldable pub refers_on : List ℕ → List ℕ → ℕ → ℕ → ℕ → ℕ → Bool
refers_on d rows n e i j = names_on d e i j || any_below n (λ k. names_on d e i k && bit (get_or rows k 0) j)

unfoldable pub strict_at_on : List ℕ → List ℕ → ℕ → ℕ → ℕ → ℕ → Bool
strict_at_on d rows n e i j = pick (eqb i j) (not (adds_on d rows e i)) (refers_on d rows n e i j)

-- by the handlers of the set
unfoldable pub strict_on : List ℕ → List ℕ → ℕ → ℕ → ℕ → ℕ → Bool
strict_on d rows n set e j = any_below n (λ i. (bit set i && writes_on d e i) && strict_at_on d rows n e i j)

-- for each of ev events, what it is strict about
abbrev pub StrictSets : List ℕ → List ℕ → ℕ → ℕ → ℕ → List ℕ → Type 0
StrictSets d rows n set ev strict = (e : ℕ) → e < ev → Gathers 64 (get_or strict e 0) (strict_on d rows n set e)
