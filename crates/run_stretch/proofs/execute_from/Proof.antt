-- The depth's word is written late: `written_late`, for the bytes that the round has.
use Rattle.lib_base.proofs.Prelude.{ℕ, ◌≤◌, ◌<◌, ◌≡◌, List, ltb, le-ltb, lt-ltb, rules, arith}
use Rattle.lib_base.specs.Basics.{pick}
use Rattle.spec_language.specs.Refusals.{foreign}
use Rattle.format_layout.specs.Round.{CallResult, call_result}
use Rattle.run_stretch.proofs.Late.{written_late}
use Rattle.run_stretch.proofs.execute_from.Statement.{statement}
use Rattle.run_stretch.proofs.execute_from.Tie as tie

fewer : {i n : ℕ} {m m' : List ℕ} {o : CallResult} → i < n → m' ≡ m → call_result (pick (ltb i n) foreign 0) m ≡ o → call_result foreign m' ≡ o
fewer {i} {n} h w q = rw w (rw (lt-ltb i n h) at q)

all : {i n : ℕ} {m m' : List ℕ} {o : CallResult} → n ≤ i → m' ≡ m → call_result (pick (ltb i n) foreign 0) m ≡ o → call_result 0 m' ≡ o
all {i} {n} h w q = rw w (rw (le-ltb i n h) at q)

returns : tie.Need-returns-then-done-n
returns c =
    fewer c.if-done-n.true c.put_word.ensures
    (written_late _ _ _ _ (λ i. omega (arith, c.slice_known-1.given i)) (omega (arith, c.requires.1)) (omega (arith, c.get_word-depth.ensures, c.requires.3))
    c.get_word-depth.ensures c.run_from-ran.ensures.0)

returns_2 : tie.Need-returns
returns_2 c =
    all c.if-done-n.false c.put_word.ensures
    (written_late _ _ _ _ (λ i. omega (arith, c.slice_known-1.given i)) (omega (arith, c.requires.1)) (omega (arith, c.get_word-depth.ensures, c.requires.3))
    c.get_word-depth.ensures c.run_from-ran.ensures.0)

pub execute_from_spec : {M : Type 1} → statement M
execute_from_spec =
    tie.close (tie.spec (search rules) (search rules) (search rules) (search rules) returns (search rules) returns_2)
