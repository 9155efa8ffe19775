-- A field has a byte at least (`moves_on`), so less of the sheet is left.
use Rattle.lib_base.proofs.Prelude.{◌<◌, refl, arith, rules}
use Rattle.sheet_walk.proofs.Places.{moves_on}
use Rattle.sheet_walk.proofs.FieldPlacesIterator.next.Goals as goal

pub returns-clause-steps : goal.returns-clause-steps
returns-clause-steps c =
    let it = c.args.self.now in
    let e = c.after_field-self.ensures in
    record {
      place = refl;
      sheet = refl;
      on = moves_on it.sheet.now it.at _ (omega (arith, it.inside)) e.s_value e.upper_bound;
      inside = e.upper_bound;
      behind = e.s_value;
    }

pub returns-clause-goes : goal.returns-clause-goes
returns-clause-goes c =
    let it = c.args.self.now in
    let e = c.after_field-self.ensures in
    let on : it.at < c.after_field-self.result = moves_on it.sheet.now it.at _ (omega (arith, it.inside)) e.s_value e.upper_bound in
    search rules
