-- The lowest level ends; else what is ahead, and what it says.
use Rattle.source_tokens.proofs.Begun.{tokens_some}
use Rattle.source_onward.proofs.After.{onward_lowest, onward_read}
use Rattle.source_onward.proofs.onward_at.Goals as goal

pub returns-then-opened-eq0 : goal.returns-then-opened-eq0
returns-then-opened-eq0 c =
    record {
      onward_read = onward_lowest _ _ _ _ c.args.depth _ c.if-level-eq0.true c.if-opened-eq0.true;
      nonzero = tokens_some _ _ c.requires.at_in_bounds;
    }

pub returns : goal.returns
returns c =
    record {
      onward_read = onward_read _ _ _ _ _ _ _ _ c.requires.level_le_disjunction c.sign_ahead-standing.ensures _ _ c.onward_of.ensures;
      nonzero = c.sign_ahead-standing.ensures.some;
    }
