-- What the call `join` answers, and the buffer's bytes at exit, for all bytes. 02, M-111: "A join writes one sheet from
-- two accepted ones to the start of a lent buffer, whose other bytes stay, and returns its length. .. A sheet that
-- compile turns down gives compile's number, the first sheet's before the second's; parameters are lent as to compile
-- and filled alike in all three. The result must pass compile's 3, 7 and 13, checked in that order after 26. 26 when
-- the sheets give one event different ranks, checked once both are accepted; 27 when the buffer is too short, checked
-- last."
use Rattle.std.specs.Prelude.{ℕ, ◌+◌, List, ◌++◌, length, drop, ltb, eqb}
use Rattle.lib_base.specs.Basics.{pick}
use Rattle.spec_language.specs.Refusals.{unlike_ranks, short_join}
use Rattle.spec_language.specs.Sheet.{Sheet}
use Rattle.spec_language.specs.Grammar.{encode}
use Rattle.spec_language.specs.Reading.{Got, bad, got, read_sheet}
use Rattle.link_pooled.specs.Pooled.{pooled, same_ranks}
use Rattle.back_compile.specs.Number.{number_on}
use Rattle.link_join.specs.Joined.{Joined, joined}

-- the bytes v at the start of the buffer: 2^32 and their number, as `formula` answers
unfoldable pub delivered_in : List ℕ → List ℕ → Joined
delivered_in v buffer = pick (ltb (length buffer) (length v)) (joined short_join buffer) (joined (4294967296 + length v) (v ++ drop (length v) buffer))

-- where compile takes the joined sheet
unfoldable pub result_on : List ℕ → List ℕ → List ℕ → Joined
result_on v ps buffer = pick (eqb (number_on v ps) 0) (delivered_in v buffer) (joined (number_on v ps) buffer)

-- of two sheets that compile takes
unfoldable pub pool_on : Sheet → Sheet → List ℕ → List ℕ → Joined
pool_on a b ps buffer = pick (same_ranks a.signals b.signals) (result_on (encode (pooled a b)) ps buffer) (joined unlike_ranks buffer)

abbrev pub pool_read : Got Sheet → Got Sheet → List ℕ → List ℕ → Joined
pool_read (bad k) g ps buffer = joined k buffer
pool_read (got a rest) (bad k) ps buffer = joined k buffer
pool_read (got a rest) (got b more) ps buffer = pool_on a b ps buffer

unfoldable pub join_on : List ℕ → List ℕ → List ℕ → List ℕ → Joined
join_on s t ps buffer =
    pick (eqb (number_on s ps) 0)
    (pick (eqb (number_on t ps) 0)
    (pool_read (read_sheet s) (read_sheet t) ps buffer)
    (joined (number_on t ps) buffer))
    (joined (number_on s ps) buffer)
