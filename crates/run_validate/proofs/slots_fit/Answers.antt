-- One slot more is judged.
use Rattle.lib_base.proofs.Prelude.{ℕ, ◌<◌, ◌+◌, ◌*◌, ◌≡◌, refl, true, false, Bool, ◌&&◌, List, add-one, arith}
use Rattle.lib_base.specs.Basics.{pick}
use Rattle.lib_word.specs.Word.{get_at, get}
use Rattle.format_layout.specs.Layout.{word_at}
use Rattle.format_layout.specs.Foreign.{hand_fits, slots_fit}
use Rattle.run_validate.proofs.slots_fit.Goals as goal

both : (x y : Bool) → x && y ≡ pick y x false
both true true = refl
both true false = refl
both false true = refl
both false false = refl

-- the word of slot i, read by its byte
slot_word : (l : List ℕ) (i : ℕ) → get_at l (36 + i * 8) ≡ word_at l i
unfolding get
slot_word l i = let e : (9 + i * 2) * 4 ≡ 36 + i * 8 = omega arith in rw e

turn : (l : List ℕ) (known i w : ℕ) (fit x : Bool) → fit ≡ slots_fit l known i → w ≡ get_at l (36 + i * 8)
    → x ≡ hand_fits known w → (fit && x) ≡ slots_fit l known (i + 1)
unfolding slots_fit
turn l known i w fit x k d e = rw (add-one i, ← slot_word l i, ← d, ← e, ← k) (both fit x)

pub loop-i-init : goal.loop-i-init
unfolding slots_fit
loop-i-init c = refl

pub loop-i-preserved : goal.loop-i-preserved
loop-i-preserved c = turn _ _ _ _ _ _ c.loop-i.invariant c.get_little-swapped.ensures c.hand_fits-fit.ensures
