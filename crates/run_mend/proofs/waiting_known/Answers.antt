-- The test of all slots finds what the definition finds.
use Rattle.lib_base.proofs.Prelude.{◌∙◌, sym, refl, arith, rules}
use Rattle.std.proofs.Common.{tests}
use Rattle.std.proofs.lemmas.Iterator.{YieldsList-from_range}
use Rattle.std.proofs.lemmas.Iterator.Search.{all_from_yields_List}
use Rattle.run_mend.proofs.Known.{known_at, known_is}
use Rattle.run_mend.proofs.waiting_known.Goals as goal

pub returns : goal.returns
returns c =
    all_from_yields_List (known_at c.args.round.now c.args.known) _ _ _ c.all.ensures.ran
    (YieldsList-from_range 0 c.args.n c.args.n refl (omega arith))
    (λ x b q k. search (rules, tests)) ∙ sym (known_is c.args.round.now c.args.known c.args.n)
