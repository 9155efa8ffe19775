-- The first two events of unequal priority that meet, and where, in the code's tests and order: by the priorities, the
-- number n of behaviours and where two events meet.
use Rattle.std.specs.Prelude.{ℕ, ◌+◌, ◌-◌, Bool, List, ◌≡◌, get_or, eqb}
use Rattle.lib_base.specs.Basics.{pick}
use Rattle.lib_bits.specs.Bits.{bit}
use Rattle.spec_language.specs.Syntax.{Program}
use Rattle.spec_language.specs.Dependence.{size, events}
use Rattle.spec_language.specs.Fits.{Fits}
use Rattle.spec_language.specs.Accepted.{Known}
use Rattle.draft_form.specs.Draft.{Drafted}
use Rattle.check_reads.specs.First.{first_from}
use Rattle.ask_agree.specs.Answer.{packed_difference}
use Rattle.ask_meets.specs.Meeting.{meeting}

module _ (priority : ℕ → ℕ) (n : ℕ) (met : ℕ → ℕ → ℕ → Bool) where
  unfoldable pub encounter_at : ℕ → ℕ → ℕ → ℕ
  encounter_at e f i = pick (met e f i) (packed_difference e f i) 0

  -- the least behaviour, where the priorities are unequal
  unfoldable pub encounter_with : ℕ → ℕ → ℕ
  encounter_with e f = pick (eqb (priority e) (priority f)) 0 (first_from n 0 (encounter_at e f))

  -- with the least f after e
  unfoldable pub encounter_from : ℕ → ℕ → ℕ
  encounter_from ev e = first_from (ev - (e + 1)) (e + 1) (encounter_with e)

  -- with the least e
  unfoldable pub encounter_by : ℕ → ℕ
  encounter_by ev = first_from (ev - 0) 0 (encounter_from ev)

-- ---- on the draft and the sets that the code has

abbrev pub priority_on : List ℕ → ℕ → ℕ
priority_on d e = get_or d (4224 + e) 0

-- by the cone, what each event writes and what it is strict about
abbrev pub met_by : ℕ → List ℕ → List ℕ → ℕ → ℕ → ℕ → Bool
met_by cone writes strict e f i =
    meeting (bit cone i) (bit (get_or writes e 0) i) (bit (get_or strict e 0) i) (bit (get_or writes f 0) i) (bit (get_or strict f 0) i)

-- the draft d of ev events and n behaviours is that of program p, whose names are known
pub record DraftFor (p : Program) (d : List ℕ) (ev n : ℕ) : Type 0 where
  pub nodes : ℕ
  pub fits : Fits p
  pub drafted : Drafted p d nodes
  pub known : Known p
  pub events_are : ev ≡ events p
  pub size_is : n ≡ size p
