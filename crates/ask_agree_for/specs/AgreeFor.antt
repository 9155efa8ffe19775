-- What the call `agree_for` answers, for all bytes and every behaviour's number: will two phones that take in the same
-- events in the same order end with the same value of one behaviour? compile's number for a sheet that compile turns
-- down; 18 for a number that is no behaviour's; 0 where no two events of unequal rank meet in what the behaviour
-- depends on; else two that do and the behaviour at which they meet: the least first event, then the least second, then
-- the least behaviour.
use Rattle.std.specs.Prelude.{ℕ, Bool, List, get_or, eqb, leb}
use Rattle.lib_base.specs.Basics.{pick}
use Rattle.spec_language.specs.Syntax.{Program}
use Rattle.spec_language.specs.Sheet.{Sheet}
use Rattle.spec_language.specs.Reading.{Got, bad, got, read_sheet}
use Rattle.spec_language.specs.Refusals.{no_behaviour}
use Rattle.spec_language.specs.Dependence.{size, events}
use Rattle.back_compile.specs.Number.{number_on}
use Rattle.back_compile.specs.Compiled.{program_of}
use Rattle.ask_meets.specs.Meeting.{in_cone, meets}
use Rattle.ask_agree_for.specs.Encounter.{encounter_by}

-- in a set of behaviours
unfoldable pub encounter_in : Program → (ℕ → Bool) → ℕ
encounter_in p D = encounter_by (λ e. get_or p.priorities e 0) (size p) (meets p D) (events p)

unfoldable pub agree_for_in : Program → ℕ → ℕ
agree_for_in p b = pick (leb (size p) b) no_behaviour (encounter_in p (in_cone p b))

-- of the sheet that the bytes encode
abbrev pub agree_for_read : Got Sheet → List ℕ → ℕ → ℕ
agree_for_read (bad k) ps b = k
agree_for_read (got s rest) ps b = agree_for_in (program_of ps s) b

unfoldable pub agree_for_on : List ℕ → List ℕ → ℕ → ℕ
agree_for_on s ps b = pick (eqb (number_on s ps) 0) (agree_for_read (read_sheet s) ps b) (number_on s ps)
