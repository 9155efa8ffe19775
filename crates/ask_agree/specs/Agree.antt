-- What the call `agree` answers, for all bytes: will two phones that take in the same events in the same order end with
-- equal boards? compile's number for a sheet that compile turns down; 0 where every two declared events of unequal rank
-- are independent; else two that are not, and a behaviour that one writes and the other reads or writes: the least
-- first event, then the least second, then the least behaviour. 01: "Two events are independent if neither writes what
-- the other reads or writes."
use Rattle.std.specs.Prelude.{ℕ, ◌+◌, ◌-◌, Bool, ◌&&◌, ◌||◌, List, get_or, eqb}
use Rattle.lib_base.specs.Basics.{pick}
use Rattle.spec_language.specs.Syntax.{Program}
use Rattle.spec_language.specs.Sheet.{Sheet}
use Rattle.spec_language.specs.Reading.{Got, bad, got, read_sheet}
use Rattle.spec_language.specs.Dependence.{size, events, writes}
use Rattle.back_compile.specs.Number.{number_on}
use Rattle.back_compile.specs.Compiled.{program_of}
use Rattle.check_reads.specs.First.{first_from}
use Rattle.check_reads.specs.Named.{named_by}
use Rattle.ask_agree.specs.Answer.{packed_difference}

-- behaviour i is written by one of the events e and f and written, or named in the handlers, by the other: what is
-- written is an active, so that the other reads it
unfoldable pub clashes : Program → ℕ → ℕ → ℕ → Bool
clashes p e f i = (writes p e i && (writes p f i || named_by p f i)) || (writes p f i && named_by p e i)

-- the least behaviour on which e and f clash, where their ranks are unequal
unfoldable pub clash_of : Program → ℕ → ℕ → ℕ
clash_of p e f =
    pick (eqb (get_or p.priorities e 0) (get_or p.priorities f 0)) 0
    (first_from (size p) 0 (λ i. pick (clashes p e f i) (packed_difference e f i) 0))

-- with the least f after e
unfoldable pub clash_from : Program → ℕ → ℕ
clash_from p e = first_from (events p - (e + 1)) (e + 1) (clash_of p e)

-- with the least e
unfoldable pub clash_in : Program → ℕ
clash_in p = first_from (events p) 0 (clash_from p)

-- of the sheet that the bytes encode
abbrev pub clash_read : Got Sheet → List ℕ → ℕ
clash_read (bad k) ps = k
clash_read (got s rest) ps = clash_in (program_of ps s)

unfoldable pub agree_on : List ℕ → List ℕ → ℕ
agree_on s ps = pick (eqb (number_on s ps) 0) (clash_read (read_sheet s) ps) (number_on s ps)
