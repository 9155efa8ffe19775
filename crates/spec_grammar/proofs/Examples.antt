-- Worked checks of what is read, each by computing: no bytes, the limits, parameters and players. What is refused:
-- spec_language, FaultTable.antt; sheet S: spec_semantics, RoundsHold.antt.
use Rattle.lib_base.proofs.Prelude.{ℕ, suc, zero, ◌≡◌, refl, some, none, [], ◌∷◌, ◌++◌, replicate}
use Rattle.lib_word.specs.Word.{get_at}
use Rattle.spec_language.specs.Syntax.{immediate}
use Rattle.spec_language.specs.Sheet.{Term, literal, param, apply1, clause, Item, formula, state, Signal, Entry, cell_count}
use Rattle.spec_language.specs.Grammar.{field, encode_behaviours, encode_events, encode}
use Rattle.spec_language.specs.Reading.{got, field_at, read_all, expr_at, handles, entry, signal, sheet, read_sheet}
use Rattle.spec_language.proofs.FaultTable.{one, wrapped, events, after, handled, first, seen}

-- an event and a behaviour that say nothing of players
abbrev pub plain : ℕ → Signal
plain r = signal r none

abbrev pub bare : Item → Entry
bare x = entry x none

-- ---- no bytes: no events and no behaviours (02, M-106)

pub nothing_read : (read_sheet [] ≡ got (sheet [] []) []) × (encode (sheet [] []) ≡ [])
unfolding read_sheet read_all encode encode_events encode_behaviours
nothing_read = (refl, refl)

-- ---- nesting: `!` so many times round a constant

abbrev pub nots : ℕ → Term → Term
nots zero x = x
nots (suc n) x = apply1 3 (nots n x)

pub nots_pass : read_sheet (field 2 (wrapped 15 one)) ≡ got (sheet [] (bare (formula (nots 15 (literal 1))) ∷ [])) []
unfolding read_sheet read_all expr_at field_at get_at cell_count
nots_pass = refl

-- ---- parameters (02, M-103): field 13 with the number 7

pub parameters : read_sheet (field 2 (field 19 (7 ∷ []))) ≡ got (sheet [] (bare (formula (param 7)) ∷ [])) []
unfolding read_sheet read_all expr_at field_at get_at cell_count
parameters = refl

-- ---- 32 events and 64 behaviours

pub counts : read_sheet (events 32 (after 64 [])) ≡ got (sheet (replicate 32 (plain 0)) (replicate 64 (bare (formula (literal 1))))) []
unfolding read_sheet read_all expr_at field_at get_at cell_count
counts = refl

-- ---- players (02, M-107)

-- an event of length 2
pub senders : read_sheet (field 1 (15 ∷ 6 ∷ [])) ≡ got (sheet (signal 15 (some 6) ∷ []) []) []
unfolding read_sheet read_all expr_at field_at get_at cell_count
senders = refl

-- a passive, an active with no handler and one with a handler end with a field 08
pub viewers : (read_sheet (field 2 (one ++ seen 2)) ≡ got (sheet [] (entry (formula (literal 1)) (some 2) ∷ [])) [])
    × (read_sheet (handled (seen 0)) ≡ got (sheet (plain 0 ∷ []) (entry (state 1 []) (some 0) ∷ [])) [])
    × (read_sheet (handled (first ++ seen 255)) ≡ got (sheet (plain 0 ∷ []) (entry (state 1 (clause 0 immediate (literal 1) ∷ [])) (some 255) ∷ [])) [])
unfolding read_sheet read_all handles expr_at field_at get_at cell_count
viewers = (refl, refl, refl)
