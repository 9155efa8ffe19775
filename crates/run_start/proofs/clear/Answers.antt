-- `fill` writes the zeros of the definition.
use Rattle.lib_base.proofs.Prelude.{rules, length-take-le}
use Rattle.run_start.proofs.Fresh.{zeros_are}
use Rattle.run_start.proofs.clear.Goals as goal

pub returns : goal.returns
returns c =
    zeros_are c.args.round.now c.fill.new.self _ c.requires (length-take-le 2048 c.args.round.now c.requires)
    (c.fill.ensures.after (λ y e. search rules))
