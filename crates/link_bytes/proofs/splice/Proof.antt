-- The three parts are written one after another.
use Rattle.lib_base.proofs.Prelude.{rules, arith}
use Rattle.link_bytes.proofs.Laws.{in_turn_law, spliced_is}
use Rattle.link_bytes.proofs.splice.Statement.{statement}
use Rattle.link_bytes.proofs.splice.Tie as tie

put_moved_requires_2 : tie.Need-put_moved-requires
put_moved_requires_2 c κs = (
  c.events_end-j.ensures.1,
  c.count.ensures.1,
  omega (
    arith,
    c.put_moved-b.ensures.1,
    c.put_events-a.ensures.1,
    c.put_events-a.auto.out,
    c.put_moved-b.auto.out,
    c.requires,
  ),
)

returns : tie.Need-returns
returns c = (
  spliced_is c.args.s.now c.args.t.now c.events_end-i.ensures.0
      c.events_end-j.ensures.0 c.count.ensures.0
      (in_turn_law c.put_events-a.ensures.0 c.put_moved-b.ensures.0
      c.put_moved.ensures.0),
  omega (
    arith,
    c.put_moved.ensures.1,
    c.put_moved-b.ensures.1,
    c.put_events-a.ensures.1,
  ),
)

pub splice_spec : {M : Type 1} → statement M
splice_spec =
    tie.close
    (tie.spec (λ c κs. search rules) (λ c κs. search rules) (λ c κs. search rules) (λ c κs. search rules) (λ c κs. search rules)
    put_moved_requires_2 (search rules) returns)
