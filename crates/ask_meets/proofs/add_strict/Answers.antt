use Rattle.lib_base.proofs.Prelude.{◌∙◌, sym}
use Rattle.ask_meets.proofs.StrictLaws.{joins, no_handler, outside}
use Rattle.ask_meets.proofs.add_strict.Goals as goal

pub returns-then-is_handler : goal.returns-then-is_handler
returns-then-is_handler c =
    joins c.args.d.now c.args.rows.now _ _ _ _ _ _ _ c.contains.ensures c.if-contains.true (sym c.is_handler.ensures ∙ c.if-is_handler.true) c.strict_at.ensures c.union_of.ensures

pub returns-else-is_handler : goal.returns-else-is_handler
returns-else-is_handler c = no_handler c.args.d.now c.args.rows.now _ _ _ _ _ c.contains.ensures c.if-contains.true (sym c.is_handler.ensures ∙ c.if-is_handler.false)

pub returns-else-contains : goal.returns-else-contains
returns-else-contains c = outside c.args.d.now c.args.rows.now _ _ _ _ _ c.contains.ensures c.if-contains.false
