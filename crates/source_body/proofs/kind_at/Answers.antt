-- By the first word.
use Rattle.source_names.specs.Known.{meaning_by}
use Rattle.source_body.proofs.State.{kind_passive, kind_state}
use Rattle.source_body.proofs.kind_at.Goals as goal

pub returns-then-word-eq-PASSIVE-clause-kind_read : goal.returns-then-word-eq-PASSIVE-clause-kind_read
returns-then-word-eq-PASSIVE-clause-kind_read c =
    let a = c.args in
    kind_passive a.text.now (meaning_by a.text.now a.places.now a.cursor.sorted a.meanings.now) a.events.now a.word a.cursor.cells a.cursor.at a.cursor.end a.out.now _
    c.passive_at.result c.if-word-eq-PASSIVE.true c.passive_at.ensures.passive_read

pub returns-clause-kind_read : goal.returns-clause-kind_read
returns-clause-kind_read c =
    let a = c.args in
    kind_state a.text.now (meaning_by a.text.now a.places.now a.cursor.sorted a.meanings.now) a.events.now a.word a.cursor.cells a.cursor.at a.cursor.end a.out.now _
    c.state_at.result c.if-word-eq-PASSIVE.false c.state_at.ensures.state_declared
