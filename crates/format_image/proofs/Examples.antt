-- Worked examples, by computation: an instruction's two words, operation * 256 + slot and a constant, operations 1 to
-- 11 in the order of docs/BYTES.md; where W's events (crate spec_language, Examples), of 51 and 28 instructions, begin.
use Rattle.lib_base.proofs.Prelude.{◌≡◌, refl, [], ◌∷◌, flat_map, sum, flatten}
use Rattle.spec_language.specs.Dependence.{handled, mentions}
use Rattle.spec_language.specs.Order.{met, find, order, up_to, met_at_once, phase_one}
use Rattle.spec_language.specs.Code.{off, on, copy, restore, load, fetch, save, defer, move, push, apply, postfix, in_order, copy_part, first_part, second_part, restore_part, code}
use Rattle.spec_language.proofs.Examples.{W}
use Rattle.format_image.specs.Table.{code_words}
use Rattle.format_image.specs.Image.{code_start}

pub two_words_each :
    code_words (off ∷ on ∷ copy 5 ∷ restore 6 ∷ push 7 ∷ load 8 ∷ fetch 9 ∷ apply 14 ∷ save 63 ∷ defer 1 ∷ move 2 ∷ [])
    ≡ 256 ∷ 0 ∷ 512 ∷ 0 ∷ 773 ∷ 0 ∷ 1030 ∷ 0 ∷ 1280 ∷ 7 ∷ 1544 ∷ 0 ∷ 1801 ∷ 0 ∷ 2062 ∷ 0 ∷ 2367 ∷ 0 ∷ 2561 ∷ 0 ∷ 2818 ∷ 0 ∷ []
unfolding code_words
two_words_each = refl

pub starts_W : (code_start W 0 ≡ 0) × (code_start W 1 ≡ 51)
unfolding code_start handled mentions met find order up_to met_at_once phase_one postfix in_order copy_part first_part second_part restore_part code flatten flat_map sum
starts_W = (refl, refl)
