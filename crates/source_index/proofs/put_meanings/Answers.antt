-- The loop puts one number after another.
use Rattle.lib_base.proofs.Prelude.{arith}
use Rattle.source_index.proofs.Laws.{meanings_start, meanings_turn, meanings_end}
use Rattle.source_index.proofs.put_meanings.Goals as goal

pub loop-k-init : goal.loop-k-init
loop-k-init c = meanings_start _ _ _ _ _ _ c.requires.all_2

pub loop-k-preserved : goal.loop-k-preserved
loop-k-preserved c =
    meanings_turn _ _ _ _ _ c.loop-k.invariant _ _ (omega (arith, c.loop-k.invariant.kept, c.loop-k-test.true, c.requires.places_in_bounds))
    c.index_of-j.ensures.value c.meaning_number.ensures.value c.meaning_number.ensures.upper_bound

pub returns : goal.returns
returns c = meanings_end _ _ _ _ _ c.loop-k.invariant c.loop-k-test.false
