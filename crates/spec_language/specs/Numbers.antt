-- The number of each case of the code's enum, as 01 and 02 give it: specs/Refusals.antt has the number with the papers'
-- words. The examples write each one out.
use Rattle.std.specs.Prelude.{ℕ}
use Rattle.spec_language.specs.Refusals.{short_table, long_program, torn, wrong_tag, wrong_length, crowded, off_scale, too_deep, doubled, unknown_name, cycle, overlong, foreign, undeclared_event, full_queue, spent, no_behaviour, settling, no_parameters, no_formula, large_number, short_field, no_player, no_right, unlike_ranks, short_join, undeclared_in_hand, missing_entries, taken_before}
use Rattle.spec_language.specs.declared.refusals.Refusal.{Refusal}
use Rattle.spec_language.specs.declared.refusals.Refusal.TheVariants.{ShortTable, LongSheet, Torn, WrongTag, WrongLength, Crowded, OffScale, TooDeep, Doubled, UnknownName, Cycle, Overlong, Foreign, UndeclaredEvent, FullQueue, Spent, NoBehaviour, Settling, NoParameters, NoFormula, LargeNumber, ShortField, NoPlayer, NoRight, UnlikeRanks, ShortJoin, UndeclaredInHand, MissingEntries, TakenBefore}

abbrev pub refusal_number : Refusal → ℕ
refusal_number ShortTable = short_table
refusal_number LongSheet = long_program
refusal_number Torn = torn
refusal_number WrongTag = wrong_tag
refusal_number WrongLength = wrong_length
refusal_number Crowded = crowded
refusal_number OffScale = off_scale
refusal_number TooDeep = too_deep
refusal_number Doubled = doubled
refusal_number UnknownName = unknown_name
refusal_number Cycle = cycle
refusal_number Overlong = overlong
refusal_number Foreign = foreign
refusal_number UndeclaredEvent = undeclared_event
refusal_number FullQueue = full_queue
refusal_number Spent = spent
refusal_number NoBehaviour = no_behaviour
refusal_number Settling = settling
refusal_number NoParameters = no_parameters
refusal_number NoFormula = no_formula
refusal_number LargeNumber = large_number
refusal_number ShortField = short_field
refusal_number NoPlayer = no_player
refusal_number NoRight = no_right
refusal_number UnlikeRanks = unlike_ranks
refusal_number ShortJoin = short_join
refusal_number UndeclaredInHand = undeclared_in_hand
refusal_number MissingEntries = missing_entries
refusal_number TakenBefore = taken_before
