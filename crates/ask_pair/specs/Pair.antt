-- What the call `pair` answers, for all bytes and numbers: what do two events share? compile's number for a sheet that
-- compile turns down; 15 where either is no declared event's number; 0 where they are independent, whatever their
-- ranks; else 2 ^ 32, the least behaviour at which they meet, else the least that one writes and the other reads or
-- writes, and 256 times flags: 1 the first writes it, 2 the second writes it, 4 the first reads it, 8 the second reads
-- it, 16 both only add to it, 32 they meet there.
use Rattle.std.specs.Prelude.{ℕ, ◌+◌, ◌-◌, ◌*◌, Bool, true, ◌&&◌, ◌||◌, List, get_or, eqb, ltb}
use Rattle.lib_base.specs.Basics.{pick}
use Rattle.lib_bits.specs.Bits.{bit}
use Rattle.spec_language.specs.Syntax.{Program}
use Rattle.spec_language.specs.Sheet.{Sheet}
use Rattle.spec_language.specs.Reading.{Got, bad, got, read_sheet}
use Rattle.spec_language.specs.Refusals.{undeclared_event}
use Rattle.spec_language.specs.Dependence.{size, events, writes}
use Rattle.back_compile.specs.Number.{number_on}
use Rattle.back_compile.specs.Compiled.{program_of}
use Rattle.check_reads.specs.First.{first_from}
use Rattle.check_reads.specs.Named.{named_by}
use Rattle.ask_agree.specs.Agree.{clashes}
use Rattle.ask_meets.specs.Meeting.{meets}

-- one more than the least of n numbers that the test finds; 0 for none
unfoldable pub least_told : ℕ → (ℕ → Bool) → ℕ
least_told n f = first_from n 0 (λ i. pick (f i) (i + 1) 0)

-- ---- by tests: who writes a behaviour, first and second, who reads it, where they meet, what they share

abbrev pub everyone : ℕ → Bool
everyone i = true

-- a flag's weight where it is set
abbrev pub weight : Bool → ℕ → ℕ
weight t k = pick t k 0

module _ (we wf re rf : ℕ → Bool) where
  unfoldable pub flags_at : ℕ → ℕ
  flags_at i = weight (we i) 1 + (weight (wf i) 2 + (weight (re i) 4 + weight (rf i) 8))

  -- with the flag of the kind, 16 or 32
  unfoldable pub packed_pair : ℕ → ℕ → ℕ
  packed_pair kind i = 4294967296 + (i + 256 * (flags_at i + kind))

  unfoldable pub pair_by : ℕ → (ℕ → Bool) → (ℕ → Bool) → ℕ
  pair_by n met shared =
      pick (eqb (least_told n met) 0)
      (pick (eqb (least_told n shared) 0) 0 (packed_pair 16 (least_told n shared - 1)))
      (packed_pair 32 (least_told n met - 1))

-- by the sets of events: what each writes, names and is strict about
unfoldable pub pair_by_sets : List ℕ → List ℕ → List ℕ → ℕ → ℕ → ℕ → ℕ
pair_by_sets writes named strict n e f =
    pair_by (bit (get_or writes e 0)) (bit (get_or writes f 0)) (bit (get_or named e 0)) (bit (get_or named f 0)) n
    (λ i. (bit (get_or writes e 0) i && bit (get_or strict f 0) i) || (bit (get_or writes f 0) i && bit (get_or strict e 0) i))
    (λ i. (bit (get_or writes e 0) i && (bit (get_or writes f 0) i || bit (get_or named f 0) i)) || (bit (get_or writes f 0) i && bit (get_or named e 0) i))

-- of two events of a program
unfoldable pub pair_of : Program → ℕ → ℕ → ℕ
pair_of p e f = pair_by (writes p e) (writes p f) (named_by p e) (named_by p f) (size p) (meets p everyone e f) (clashes p e f)

unfoldable pub pair_in : Program → ℕ → ℕ → ℕ
pair_in p e f = pick (ltb e (events p)) (pick (ltb f (events p)) (pair_of p e f) undeclared_event) undeclared_event

-- of the sheet that the bytes encode
abbrev pub pair_read : Got Sheet → List ℕ → ℕ → ℕ → ℕ
pair_read (bad k) ps e f = k
pair_read (got s rest) ps e f = pair_in (program_of ps s) e f

unfoldable pub pair_on : List ℕ → List ℕ → ℕ → ℕ → ℕ
pair_on s ps e f = pick (eqb (number_on s ps) 0) (pair_read (read_sheet s) ps e f) (number_on s ps)
