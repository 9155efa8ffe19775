use Rattle.ask_agree_for.specs.Encounter.{priority_on, met_by}
use Rattle.ask_agree_for.proofs.EncounterLaws.{pair_alike, pair_is}
use Rattle.ask_agree_for.proofs.meet_with.Goals as goal

pub returns-then-d-e : goal.returns-then-d-e
returns-then-d-e c = pair_alike (priority_on c.args.d.now) _ (met_by _ c.args.writes.now c.args.strict.now) _ _ c.if-d-e.true

pub returns : goal.returns
returns c = pair_is (priority_on c.args.d.now) _ (met_by c.args.cone c.args.writes.now c.args.strict.now) _ _ _ _ c.if-d-e.false c.meet_of.ensures c.least_in.ensures
