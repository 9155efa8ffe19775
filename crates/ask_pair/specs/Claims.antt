-- What the answer of `pair` says of an accepted sheet's program: "whether two declared events are independent (01's
-- word, whatever their ranks) and, if not, the least behaviour at which they meet (.., D being all), else the least
-- that they share, which of the two writes it, which reads it, and whether both only add to it." Independence and
-- reading: crate spec_language, Dependence.antt; where two events meet: crate ask_commute, Meets.antt.
use Rattle.std.specs.Prelude.{ℕ, ◌+◌, ◌*◌, ◌≤◌, ◌<◌, Bool, true, false, not, ◌≡◌, ◌≢◌, ◌⊎◌, List, length}
use Rattle.lib_word.specs.Word.{get}
use Rattle.lib_base.specs.Basics.{pick, All}
use Rattle.spec_language.specs.Syntax.{Program}
use Rattle.spec_language.specs.Sheet.{Sheet}
use Rattle.spec_language.specs.Grammar.{encode}
use Rattle.spec_language.specs.Accepted.{SheetAccepted}
use Rattle.spec_language.specs.Dependence.{size, events, writes, Reads, Independent}
use Rattle.spec_language.specs.Answers.{told}
use Rattle.ask_commute.specs.Meets.{OnlyAdd, MeetAt}
use Rattle.back_compile.specs.Number.{number_on}
use Rattle.back_compile.specs.Compiled.{program_of}
use Rattle.ask_agree.specs.Claims.{SharedBehaviour}
use Rattle.ask_pair.specs.Pair.{pair_on}

-- "D being all"
abbrev pub AllOfThem : ℕ → Type 0
AllOfThem i = Unit {0}

-- a flag that is set exactly where P holds
abbrev pub FlagOf : Bool → Type 0 → Type 0
FlagOf t P = (t ≡ true → P) × (P → t ≡ true)

-- 2 ^ 32, the behaviour, and 256 times the flags: 1, 2, 4, 8, 16 and 32
abbrev pub flags_unit : ℕ
flags_unit = 256

unfoldable pub packed_told : ℕ → Bool → Bool → Bool → Bool → Bool → Bool → ℕ
packed_told i we wf re rf add meet =
    told (i + flags_unit * (pick we 1 0 + (pick wf 2 0 + (pick re 4 0 + (pick rf 8 0 + (pick add 16 0 + pick meet 32 0))))))

-- the answer names a behaviour that the events e and f share, and each flag is true of it
pub record PairNamed (p : Program) (e f answer : ℕ) : Type 0 where
  pub behaviour : ℕ
  pub first_writes : Bool
  pub second_writes : Bool
  pub first_reads : Bool
  pub second_reads : Bool
  pub both_add : Bool
  pub meet : Bool
  pub is : answer ≡ packed_told behaviour first_writes second_writes first_reads second_reads both_add meet
  pub in_sheet : behaviour < size p
  pub shared : SharedBehaviour p e f behaviour
  -- "which of the two writes it, which reads it, and whether both only add to it"
  pub writes_first : FlagOf first_writes (writes p e behaviour ≡ true)
  pub writes_second : FlagOf second_writes (writes p f behaviour ≡ true)
  pub reads_first : FlagOf first_reads (Reads p e behaviour)
  pub reads_second : FlagOf second_reads (Reads p f behaviour)
  pub adds : FlagOf both_add (OnlyAdd p AllOfThem e f behaviour)
  pub meets_there : FlagOf meet (MeetAt p AllOfThem e f behaviour)
  pub either : both_add ≡ not meet
  -- "the least behaviour at which they meet"
  pub least_met : meet ≡ true → (i : ℕ) → MeetAt p AllOfThem e f i → behaviour ≤ i
  -- "else the least that they share"
  pub none_met : meet ≡ false → (i : ℕ) → MeetAt p AllOfThem e f i → ⊥
  pub least_shared : meet ≡ false → (i : ℕ) → SharedBehaviour p e f i → behaviour ≤ i

-- of a sheet that compile accepts, with the bytes ps lent for its parameters, and the numbers e and f
pub record PairAnswer (s ps : List ℕ) (e f : ℕ) (x : Sheet) : Type 0 where
  -- 15 exactly if one of the two is not declared
  pub undeclared_if : (events (program_of ps x) ≤ e) ⊎ (events (program_of ps x) ≤ f) → pair_on s ps e f ≡ 15
  pub undeclared_only : pair_on s ps e f ≡ 15 → (events (program_of ps x) ≤ e) ⊎ (events (program_of ps x) ≤ f)
  -- of two that are: 0 exactly if they are independent, and what is named is true
  pub zero_if : e < events (program_of ps x) → f < events (program_of ps x) → Independent (program_of ps x) e f → pair_on s ps e f ≡ 0
  pub only_if : e < events (program_of ps x) → f < events (program_of ps x) → pair_on s ps e f ≡ 0 → Independent (program_of ps x) e f
  pub named : e < events (program_of ps x) → f < events (program_of ps x) → pair_on s ps e f ≢ 0 → PairNamed (program_of ps x) e f (pair_on s ps e f)

-- of every sheet, and of bytes that compile turns down
abbrev pub PairAnswers : Type 0
PairAnswers =
    (s ps : List ℕ) (e f : ℕ) → All (λ v. v < 256) s → All (λ v. v < 256) ps
    → ((x : Sheet) → encode x ≡ s → SheetAccepted (get ps) (length ps) x → PairAnswer s ps e f x)
    × (number_on s ps ≢ 0 → pair_on s ps e f ≡ number_on s ps)
