-- What the call `circle` answers, and the list's bytes at exit, for all bytes. 02, M-108: "For a sheet refused by 12, a
-- call lists the behaviours of a circle, each depending on the next, with the event it arises under, or none. No circle
-- of fewer behaviours exists under an event or under none. It is lent a sheet and parameters; any other sheet gets
-- compile's number as with a full table, or 0, and no list."
use Rattle.std.specs.Prelude.{ℕ, ◌+◌, ◌*◌, ◌≤◌, ◌<◌, ◌≡◌, ◌≢◌, length, drop}
use mathlib.Core.List.{List, ◌++◌, Nodup}
use Rattle.spec_language.specs.Syntax.{Program}
use Rattle.spec_language.specs.Sheet.{Sheet}
use Rattle.spec_language.specs.Dependence.{no_event, depends_on}
use Rattle.spec_language.specs.Grammar.{encode, SheetFits}
use Rattle.check_distance.specs.Circle.{Circle}
use Rattle.check_shortest.specs.EventNumber.{event_number}
use Rattle.back_compile.specs.Number.{number_on}
use Rattle.back_compile.specs.Compiled.{program_of}

-- an answer, and the list's bytes after the call
abbrev pub ListAnswer : Type 0
ListAnswer = ℕ × List ℕ

abbrev pub list_answer : ℕ → List ℕ → ListAnswer
list_answer r l = (r, l)

-- a shortest circle of p, under none where none has one as short; the answer is 12, the event's number (255 for none)
-- times 256 and the circle's length times 65,536. A list that has room for the circle has it in its first bytes, the
-- others as they were; a shorter one is as it was
pub record CircleListed (p : Program) (list : List ℕ) (r : ℕ) (list' : List ℕ) : Type 0 where
  pub event : ℕ
  pub declared : event ≤ no_event p
  pub members : List ℕ
  pub circle : Circle (depends_on p event) members
  pub shortest : (f : ℕ) → f ≤ no_event p → (l : List ℕ) → Circle (depends_on p f) l → length members ≤ length l
  pub none_first : (l : List ℕ) → Circle (depends_on p (no_event p)) l → length l ≡ length members → event ≡ no_event p
  pub distinct : Nodup members
  pub few : length members ≤ 64
  pub answer : r ≡ 12 + event_number event (no_event p) * 256 + length members * 65536
  pub bytes : length members ≤ length list → list' ≡ members ++ drop (length members) list
  pub short : length list < length members → list' ≡ list

-- of the program of the sheet that the bytes s encode, the bytes ps being lent for its parameters
pub record EachListed (s ps list : List ℕ) (r : ℕ) (list' : List ℕ) : Type 0 where
  pub each_sheet : (x : Sheet) → encode x ≡ s → SheetFits x → CircleListed (program_of ps x) list r list'

-- the answer is compile's number, whatever list is lent
pub record Witnessed (s ps list : List ℕ) (r : ℕ) (list' : List ℕ) : Type 0 where
  pub other : number_on s ps ≢ 12 → list_answer r list' ≡ list_answer (number_on s ps) list
  pub circular : number_on s ps ≡ 12 → EachListed s ps list r list'
