-- What the answer of `agree` says of an accepted sheet's program, in 01's terms: "An event writes the actives with a
-- handler for it. It reads the actives named in those handlers, directly or through passives. Two events are
-- independent if neither writes what the other reads or writes."
use Rattle.std.specs.Prelude.{ℕ, ◌≤◌, ◌<◌, true, ◌≡◌, ◌≢◌, List, length, get_or}
use Rattle.lib_word.specs.Word.{get}
use Rattle.lib_base.specs.Basics.{All}
use Rattle.spec_language.specs.Syntax.{Program}
use Rattle.spec_language.specs.Sheet.{Sheet}
use Rattle.spec_language.specs.Grammar.{encode}
use Rattle.spec_language.specs.Accepted.{SheetAccepted}
use Rattle.spec_language.specs.Dependence.{size, events, writes, Reads, Independent}
use Rattle.back_compile.specs.Number.{number_on}
use Rattle.back_compile.specs.Compiled.{program_of}
use Rattle.ask_agree.specs.Answer.{packed_difference}
use Rattle.ask_agree.specs.Agree.{agree_on}

-- the ranks of two events are unequal
abbrev pub Unequal : Program → ℕ → ℕ → Type 0
Unequal p e f = get_or p.priorities e 0 ≢ get_or p.priorities f 0

-- every two declared events of unequal rank are independent
abbrev pub AllIndependent : Program → Type 0
AllIndependent p = (e f : ℕ) → e < events p → f < events p → Unequal p e f → Independent p e f

-- one of the events e and f writes behaviour i, and the other reads or writes it
pub data SharedBehaviour (p : Program) (e f i : ℕ) : Type 0 where
  both_write : writes p e i ≡ true → writes p f i ≡ true → SharedBehaviour p e f i
  first_writes : writes p e i ≡ true → Reads p f i → SharedBehaviour p e f i
  second_writes : writes p f i ≡ true → Reads p e i → SharedBehaviour p e f i

-- the answer names two events of unequal rank that are not independent, and what they share: the least first event,
-- then the least second, then the least behaviour
pub record DifferenceNamed (p : Program) (answer : ℕ) : Type 0 where
  pub first : ℕ
  pub second : ℕ
  pub behaviour : ℕ
  pub is : answer ≡ packed_difference first second behaviour
  pub ordered : first < second
  pub declared : second < events p
  pub in_sheet : behaviour < size p
  pub unequal : Unequal p first second
  pub shared : SharedBehaviour p first second behaviour
  pub dependent : Independent p first second → ⊥
  pub least_first : (e f i : ℕ) → e < f → f < events p → Unequal p e f → SharedBehaviour p e f i → first ≤ e
  pub least_second : (f i : ℕ) → first < f → f < events p → Unequal p first f → SharedBehaviour p first f i → second ≤ f
  pub least_behaviour : (i : ℕ) → SharedBehaviour p first second i → behaviour ≤ i

-- of every sheet that compile accepts, with the bytes ps lent for its parameters: 0 exactly if all declared events of
-- unequal rank are independent, and what is named is true
pub record AgreeAnswer (s ps : List ℕ) (x : Sheet) : Type 0 where
  pub zero_if : AllIndependent (program_of ps x) → agree_on s ps ≡ 0
  pub only_if : agree_on s ps ≡ 0 → AllIndependent (program_of ps x)
  pub named : agree_on s ps ≢ 0 → DifferenceNamed (program_of ps x) (agree_on s ps)

abbrev pub AgreeAnswers : Type 0
AgreeAnswers =
    (s ps : List ℕ) → All (λ b. b < 256) s → All (λ b. b < 256) ps
    → ((x : Sheet) → encode x ≡ s → SheetAccepted (get ps) (length ps) x → AgreeAnswer s ps x)
    × (number_on s ps ≢ 0 → agree_on s ps ≡ number_on s ps)
