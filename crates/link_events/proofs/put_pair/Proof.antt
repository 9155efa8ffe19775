-- Each return is one branch of `pair_bytes`.
use Rattle.lib_base.proofs.Prelude.{rules, arith}
use Rattle.link_events.proofs.Laws.{event_within, event_written, pair_first, pair_second, pair_none}
use Rattle.link_events.proofs.put_pair.Statement.{statement}
use Rattle.link_events.proofs.put_pair.Tie as tie

returns : tie.Need-returns-then-a-ne0
returns c =
    let at_put_event = c.before.before in
    let at_rank = at_put_event.before in
    let at_if1 = at_rank.before.before in
    let at_merge = at_if1.before.before in
    let at_sender2 = at_merge.before in
    let at_sender = at_sender2.before in
    let at_entry_lem = at_sender.before.before.before.before in (
      pair_first at_entry_lem.args.s.now at_entry_lem.args.t.now at_entry_lem.args.a.at at_entry_lem.args.a.size
          at_entry_lem.args.b.at at_entry_lem.args.b.size at_sender.sender.ensures at_sender2.sender-2.ensures
          at_merge.merge-m.ensures at_if1.if-a-ne0.true at_rank.rank.ensures
          (event_written at_entry_lem.args.out.now _ _ _ _ _ at_entry_lem.requires.2 at_put_event.put_event.ensures.0 at_put_event.put_event.ensures.1),
      event_within _ _ _ _ at_put_event.put_event.ensures.0,
    )

returns_2 : tie.Need-returns-then-b-ne0
returns_2 c =
    let at_put_event2 = c.before.before in
    let at_rank2 = at_put_event2.before in
    let at_if2 = at_rank2.before.before in
    let at_if1 = at_if2.before.before in
    let at_merge = at_if1.before.before in
    let at_sender2 = at_merge.before in
    let at_sender = at_sender2.before in
    let at_entry_lem = at_sender.before.before.before.before in (
      pair_second at_entry_lem.args.s.now at_entry_lem.args.t.now at_entry_lem.args.a.at at_entry_lem.args.a.size
          at_entry_lem.args.b.at at_entry_lem.args.b.size at_sender.sender.ensures at_sender2.sender-2.ensures
          at_merge.merge-m.ensures at_if1.if-a-ne0.false at_if2.if-b-ne0.true at_rank2.rank-then-b-ne0.ensures
          (event_written at_entry_lem.args.out.now _ _ _ _ _ at_entry_lem.requires.2 at_put_event2.put_event-then-b-ne0.ensures.0 at_put_event2.put_event-then-b-ne0.ensures.1),
      event_within _ _ _ _ at_put_event2.put_event-then-b-ne0.ensures.0,
    )

returns_3 : tie.Need-returns
returns_3 c =
    let at_sender = c.before.before.before.before.before.before in
    let at_entry_lem = at_sender.before.before.before.before in (
      pair_none at_entry_lem.args.s.now at_entry_lem.args.t.now at_entry_lem.args.a.at at_entry_lem.args.a.size
          at_entry_lem.args.b.at at_entry_lem.args.b.size c.before.before.if-a-ne0.false c.if-b-ne0.false,
      omega arith,
    )

pub put_pair_spec : {M : Type 1} → statement M
put_pair_spec =
    tie.close
    (tie.spec (λ c κs. search rules) (λ c κs. search rules) (λ c κs. search rules) (λ c κs. search rules) (λ c κs. search rules) (search rules) returns
    (λ c κs. search rules) (λ c κs. search rules) (search rules) returns_2 returns_3)
