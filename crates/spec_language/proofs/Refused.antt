-- No refusal's number is 0, which says that nothing is refused.
use Rattle.lib_base.proofs.Prelude.{ℕ, ◌≡◌, refl, false, eqb}
use Rattle.spec_language.specs.Numbers.{refusal_number}
use Rattle.spec_language.specs.declared.refusals.Refusal.{Refusal}
use Rattle.spec_language.specs.declared.refusals.Refusal.TheVariants.{ShortTable, LongSheet, Torn, WrongTag, WrongLength, Crowded, OffScale, TooDeep, Doubled, UnknownName, Cycle, Overlong, Foreign, UndeclaredEvent, FullQueue, Spent, NoBehaviour, Settling, NoParameters, NoFormula, LargeNumber, ShortField, NoPlayer, NoRight, UnlikeRanks, ShortJoin, UndeclaredInHand, MissingEntries, TakenBefore}

pub refusal_not_0 : (r : Refusal) → eqb (refusal_number r) 0 ≡ false
refusal_not_0 ShortTable = refl
refusal_not_0 LongSheet = refl
refusal_not_0 Torn = refl
refusal_not_0 WrongTag = refl
refusal_not_0 WrongLength = refl
refusal_not_0 Crowded = refl
refusal_not_0 OffScale = refl
refusal_not_0 TooDeep = refl
refusal_not_0 Doubled = refl
refusal_not_0 UnknownName = refl
refusal_not_0 Cycle = refl
refusal_not_0 Overlong = refl
refusal_not_0 Foreign = refl
refusal_not_0 UndeclaredEvent = refl
refusal_not_0 FullQueue = refl
refusal_not_0 Spent = refl
refusal_not_0 NoBehaviour = refl
refusal_not_0 Settling = refl
refusal_not_0 NoParameters = refl
refusal_not_0 NoFormula = refl
refusal_not_0 LargeNumber = refl
refusal_not_0 ShortField = refl
refusal_not_0 NoPlayer = refl
refusal_not_0 NoRight = refl
refusal_not_0 UnlikeRanks = refl
refusal_not_0 ShortJoin = refl
refusal_not_0 UndeclaredInHand = refl
refusal_not_0 MissingEntries = refl
refusal_not_0 TakenBefore = refl
