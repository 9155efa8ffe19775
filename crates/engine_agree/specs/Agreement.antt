-- Demand 3's last sentence with no condition left, for a sheet that `agree` answers 0 for: "for every two such lists on
-- one sheet, taking in the same events in the same order, ..: when both are idle, their boards are equal". The claims
-- with 01's condition: crate refine_lists, Lists.antt, `TwoOnlyCalls` and, with changes of sheets, `TwoLists`.
use Rattle.std.specs.Prelude.{◌≡◌}
use Rattle.lib_base.specs.Basics.{All}
use Rattle.refine_lists.specs.Lists.{SheetTurn, calling, mending, TwoListsWhere, TwoCallsWhere}
use Rattle.ask_agree.specs.Agree.{agree_on}

-- every two lists of calls on tables that compile left for the sheet and rounds that start made
abbrev pub PhonesAgree : Type 0
PhonesAgree = TwoCallsWhere (λ s ps p cs. agree_on s ps ≡ 0)

-- `agree` answers 0 for the sheet of a change
abbrev pub AgreesToo : SheetTurn → Type 0
AgreesToo (calling c) = Unit {0}
AgreesToo (mending s ps t) = agree_on s ps ≡ 0

-- with changes of sheets (02, M-112): "equal boards on two phones need independence in each sheet and the same change
-- after the same commits"
abbrev pub RoundsAgree : Type 0
RoundsAgree = TwoListsWhere (λ s ps p xs ts. (agree_on s ps ≡ 0) × All AgreesToo xs)
