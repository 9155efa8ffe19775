use Rattle.lib_base.proofs.Prelude.{◌∙◌, sym, ap, Bool, ◌&&◌, and-false, ltb, arith}
use Rattle.lib_bits.proofs.BitLaws.{bit_none}
use Rattle.check_faults.proofs.RowLaws.{needs_passive, needs_own, needs_none}
use Rattle.check_faults.proofs.row_of.Goals as goal

pub returns-in-1 : goal.returns-in-1
returns-in-1 c b = c.need_set.ensures b ∙ ap (λ (y : Bool). ltb b c.args.n && y) (needs_passive _ _ _ b (sym c.entry_kind.ensures ∙ c.in-1.is))

pub returns-in-2 : goal.returns-in-2
returns-in-2 c b = c.need_set-in-2.ensures b ∙ ap (λ (y : Bool). ltb b c.args.n && y) (needs_own _ _ _ b (sym c.entry_kind.ensures ∙ c.in-2.is))

pub returns-in_default : goal.returns-in_default
returns-in_default c b =
    bit_none b ∙ sym (and-false (ltb b c.args.n))
    ∙ ap (λ (y : Bool). ltb b c.args.n && y) (needs_none c.args.d.now c.args.i _ b (λ h. omega (arith, h, c.entry_kind.ensures)) (λ h. omega (arith, h, c.entry_kind.ensures)))
