-- Worked examples, by computation: a change's refusals in their order. 02, M-112: "19, checked after 14", "28 ..,
-- checked after 19".
use Rattle.lib_base.proofs.Prelude.{◌≡◌, refl, true, false}
use Rattle.run_mend.specs.Mending.{verdict}

pub in_order : (verdict 14 true false ≡ 14) × (verdict 0 true false ≡ 19) × (verdict 0 false false ≡ 28) × (verdict 0 false true ≡ 0)
unfolding verdict
in_order = (refl, refl, refl, refl)
