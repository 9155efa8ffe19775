use Rattle.lib_base.proofs.Prelude.{refl, ◌∙◌, sym, ◌-◌, arith}
use Rattle.ask_meets.specs.Marks.{marks_packed}
use Rattle.ask_meets.specs.Marking.{standing}
use Rattle.ask_meets.proofs.MarkLaws.{none_is, still_none, some_below, top_is_all}
use Rattle.ask_meets.proofs.Stack.is_only.Goals as goal

pub returns-then-self-eq0 : goal.returns-then-self-eq0
returns-then-self-eq0 c = c.eq.ensures ∙ none_is _ _ _ c.if-self-eq0.true

pub loop-below-init : goal.loop-below-init
unfolding standing marks_packed
loop-below-init c = refl

pub returns-then-ne : goal.returns-then-ne
returns-then-ne c =
    some_below _ c.loop-below.below (c.args.self.now.depth - 1) _ _ _ _ (omega arith) (omega arith) (omega arith) refl (sym c.ne.ensures ∙ c.if-ne.true)

pub loop-below-preserved : goal.loop-below-preserved
loop-below-preserved c = still_none _ c.loop-below.below _ _ c.loop-below.invariant (omega arith) refl (sym c.ne.ensures ∙ c.if-ne.false)

pub returns : goal.returns
returns c =
    c.eq-2.ensures ∙ top_is_all _ c.loop-below.below (c.args.self.now.depth - 1) _ _ _ _ (omega arith) c.loop-below.invariant (omega arith) (omega arith) refl
