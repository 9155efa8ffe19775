-- Where nothing may be made at once nothing is; else what the words say is ready, and the stretch with depth and
-- position written is that many steps, by `rows`.
use Rattle.lib_base.proofs.Prelude.{rules, arith}
use Rattle.run_burst.proofs.Rows.{Ready, make_ready, in_code, none_ran, rows}
use Rattle.run_burst.proofs.run_most.Statement.{statement}
use Rattle.run_burst.proofs.run_most.Tie as tie

returns_2 : tie.Need-returns-then-get_word-eq0
returns_2 c = (none_ran c.requires.0, omega arith)

returns_3 : tie.Need-returns-then-length-position
returns_3 c =
    (none_ran c.requires.0, omega arith)

-- where all is read
module _ (c : tie.After-min-n) where
  ready : Ready c.args.table.now c.args.round.now c.event_word-start.result c.get_word-position.result c.min-n.result
  ready =
      make_ready c.requires.0 c.requires.1 c.if-outranked.false c.get_word.ensures
      c.if-get_word-eq0.false c.get_word-position.ensures c.event_at-event.ensures c.event_word-length.ensures
      c.event_word-start.ensures (omega (arith, c.min-n.ensures, c.if-length-position.false))

run_from_requires : tie.Need-run_from-ran-requires
run_from_requires c κs =
    let s = c.requires.0 in
    omega (arith, in_code (ready c.before), s.whole, s.long, s.shallow, c.get_word-depth.ensures)

returns_4 : tie.Need-returns
returns_4 c = (
  rows _ _ (λ i. omega (arith, c.slice_known-1.given i)) (ready c.before.before.before.before.before.before.before.before.before.before.before.before) c.get_word-depth.ensures c.get_word-position.ensures
      c.run_from-ran.ensures.0 c.put_word.ensures c.put_word-2.ensures,
  omega (arith, c.run_from-ran.ensures.1.0, c.min-n.ensures),
)

pub run_most_spec : {M : Type 1} → statement M
run_most_spec =
    tie.close
    (tie.spec
    (λ c. (none_ran c.requires.0, omega arith))
    (search rules) (search rules) returns_2 (search rules) (search rules) (search rules) (search rules) returns_3
    (search rules) (search rules) (search rules) (search rules) (search rules)
    (λ c. omega (arith, in_code (ready c.before)))
    (search rules) run_from_requires (search rules) (search rules)
    (λ c κs. let h = c.requires.0.long in search rules)
    (search rules) returns_4)
