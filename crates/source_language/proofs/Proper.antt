-- Every operation of a text within the grammar has a function of two arguments: by induction on the derivations.
use Rattle.lib_base.proofs.Prelude.{ℕ, List}
use Rattle.lib_base.specs.Basics.{All}
use Rattle.spec_language.specs.Grammar.{Arity}
use Rattle.text_formula.proofs.Sheets.{operator_binary}
use Rattle.source_language.specs.Tokens.{SheetToken}
use Rattle.source_language.specs.Text.{Phrase, constant, named, cell, negation, operation, choice, Reaction, on, Body, passive, active, row, TextBehaviour, behaviour}
use Rattle.source_language.specs.Grammar.{PhraseDerives, tighter, two_sided, negated, a_value, a_name, a_cell, bracketed, chosen, Many, no_more, one_more, IsReaction, r_now, r_later, IsBehaviour, b_passive, b_active, b_row}

unfoldable pub Proper : Phrase → Type 0
Proper (constant c) = Unit {0}
Proper (named p s) = Unit {0}
Proper (cell p s q n) = Unit {0}
Proper (negation a) = Proper a
Proper (operation f a b) = Arity f 2 × Proper a × Proper b
Proper (choice a b c) = Proper a × Proper b × Proper c

abbrev pub ProperReaction : Reaction → Type 0
ProperReaction (on s φ e) = Proper e

abbrev pub ProperBody : Body → Type 0
ProperBody (passive e) = Proper e
ProperBody (active c hs) = All ProperReaction hs
ProperBody (row n c hs) = All ProperReaction hs

abbrev pub ProperBehaviour : TextBehaviour → Type 0
ProperBehaviour (behaviour s b m) = ProperBody b

derives_proper : {l : ℕ} {ts us : List SheetToken} {e : Phrase} → PhraseDerives l ts e us → Proper e
unfolding Proper
derives_proper (tighter d) = derives_proper d
derives_proper (two_sided o d e) = (operator_binary o, derives_proper d, derives_proper e)
derives_proper (negated d) = derives_proper d
derives_proper (a_value v) = tt
derives_proper a_name = tt
derives_proper a_cell = tt
derives_proper (bracketed d) = derives_proper d
derives_proper (chosen d e f) = (derives_proper d, derives_proper e, derives_proper f)

reaction_proper : {ts us : List SheetToken} {x : Reaction} → IsReaction ts x us → ProperReaction x
reaction_proper (r_now d) = derives_proper d
reaction_proper (r_later d) = derives_proper d

reactions_proper : {ts us : List SheetToken} {hs : List Reaction} → Many IsReaction ts hs us → All ProperReaction hs
reactions_proper no_more = tt
reactions_proper (one_more d m) = (reaction_proper d, reactions_proper m)

behaviour_proper : {ts us : List SheetToken} {x : TextBehaviour} → IsBehaviour ts x us → ProperBehaviour x
behaviour_proper (b_passive d m) = derives_proper d
behaviour_proper (b_active v m d) = reactions_proper d
behaviour_proper (b_row v m d) = reactions_proper d

pub behaviours_proper : {ts us : List SheetToken} {bs : List TextBehaviour} → Many IsBehaviour ts bs us → All ProperBehaviour bs
behaviours_proper no_more = tt
behaviours_proper (one_more d m) = (behaviour_proper d, behaviours_proper m)
