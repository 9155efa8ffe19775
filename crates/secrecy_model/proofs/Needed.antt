-- Each condition of the rule is needed: a player who sees a behaviour that follows a hidden one gets other values; one
-- who were told the mark would get other marks; and where the host alone sees b0 and a change shows it to all, player 1
-- reads the start value that was hidden from it. Pairs of sheets alike but for a hidden start value, and the model
-- engine computes what it answers. What a later sheet shows of behaviours that the one before it lacks is under no
-- condition.
use Rattle.lib_base.proofs.Prelude.{ℕ, suc, zero, ◌≡◌, refl, ◌∙◌, sym, ap, true, false, Bool, true≢false, Option, some}
use Rattle.lib_base.proofs.Prelude.{none, List, [], ◌∷◌, map, Forall₂·nil, Forall₂·cons, flat_map, flatten, zip_with}
use Rattle.lib_base.proofs.Prelude.{replicate, arith}
use Rattle.lib_arith.specs.Exact.{beyond}
use Rattle.lib_arith.specs.Functions.{exact, result_of, over}
use Rattle.spec_language.specs.Syntax.{immediate}
use Rattle.spec_language.specs.Sheet.{literal, variable, apply2, clause, formula, state, row, Sheet, entries_out, fill_term, fill_clauses, fill_entries, fill}
use Rattle.spec_language.specs.Reading.{entry, signal, sheet}
use Rattle.spec_language.specs.Dependence.{handled, mentions}
use Rattle.spec_language.specs.Order.{met, find, order, up_to, met_at_once, phase_one}
use Rattle.spec_language.specs.Code.{postfix, in_order, copy_part, first_part, second_part, restore_part, code}
use Rattle.spec_semantics.specs.Meaning.{value, in_turn, first_phase, starts, fresh}
use Rattle.spec_execution.specs.Execution.{execute, emptied, times}
use Rattle.spec_model.specs.Model.{arrive, step, board, refused, told_taken_in, shows, idle, ran, started, preempted, committed, act, Reply, says, carried_over, turn, replies, begun, Turn, call}
use Rattle.spec_model.specs.Carried.{carried_actives, carried}
use Rattle.secrecy_model.specs.Sight.{two_formulas, two_states, two_rows, AlikeBut, Pair, both, each, in_one, in_other, SameHidden}
use Rattle.secrecy_model.specs.ModelRule.{heard_of, EqualReplies}

-- no parameter is used
abbrev none_lent : ℕ → ℕ
none_lent n = 0

-- ---- b0 follows b1, which has the start value n and which the host alone sees

abbrev leaky : ℕ → Sheet
leaky n = sheet [] (entry (formula (variable 1)) none ∷ entry (state n []) (some 1) ∷ [])

leaky_alike : AlikeBut 1 (leaky 1) (leaky 2)
leaky_alike = (refl, Forall₂·cons (refl, two_formulas) (Forall₂·cons (refl, two_states (λ h. absurd (true≢false (sym h)))) Forall₂·nil))

-- a row of three cells that the host alone sees may have another start value too
abbrev hidden_row : ℕ → Sheet
hidden_row n = sheet [] (entry (row 3 n []) (some 1) ∷ [])

hidden_row_law : AlikeBut 1 (hidden_row 1) (hidden_row 2)
hidden_row_law = (refl, Forall₂·cons (refl, two_rows (λ h. absurd (true≢false (sym h)))) Forall₂·nil)

-- the first value shown in replies
abbrev shown : List (Option Reply) → ℕ
shown [] = 0
shown (none ∷ l) = shown l
shown (some carried_over ∷ l) = shown l
shown (some (says (refused n)) ∷ l) = shown l
shown (some (says told_taken_in) ∷ l) = shown l
shown (some (says (shows v)) ∷ l) = v
shown (some (says idle) ∷ l) = shown l
shown (some (says ran) ∷ l) = shown l
shown (some (says (started a)) ∷ l) = shown l
shown (some (says (preempted a)) ∷ l) = shown l
shown (some (says (committed a m)) ∷ l) = shown l

one : shown (heard_of 1 (call (board 0 1) ∷ []) (begun (fill none_lent (leaky 1)))) ≡ 1
unfolding zip_with flat_map entries_out fill_term fill_clauses fill_entries handled mentions met find order up_to met_at_once phase_one value in_turn first_phase starts fresh emptied act turn replies
one = refl

two : shown (heard_of 1 (call (board 0 1) ∷ []) (begun (fill none_lent (leaky 2)))) ≡ 2
unfolding zip_with flat_map entries_out fill_term fill_clauses fill_entries handled mentions met find order up_to met_at_once phase_one value in_turn first_phase starts fresh emptied act turn replies
two = refl

-- player 1 sees b0 and reads it
pub sealed_needed : AlikeBut 1 (leaky 1) (leaky 2) × (EqualReplies 1 (fill none_lent (leaky 1)) (fill none_lent (leaky 2)) (both (board 0 1) ∷ []) → ⊥)
sealed_needed = (leaky_alike, λ h. let z : ◌≡◌ {A = ℕ} 1 2 = sym one ∙ ap shown h.turns ∙ two in absurd (omega arith))

-- ---- b0 has the start value n, the host alone sees it, and event 0 adds 1

abbrev closed : ℕ → Sheet
closed n = sheet (signal 0 none ∷ []) (entry (state n (clause 0 immediate (apply2 4 (variable 0) (literal 1)) ∷ [])) (some 1) ∷ [])

closed_alike : AlikeBut 1 (closed 2147483647) (closed 0)
closed_alike = (refl, Forall₂·cons (refl, two_states (λ h. absurd (true≢false (sym h)))) Forall₂·nil)

abbrev calls : List Turn
calls = map call (arrive 0 1 ∷ replicate 11 step)

-- the mark of a commit, as the host is told it
abbrev marked : List Reply → Bool
marked [] = false
marked (says (refused n) ∷ l) = marked l
marked (says told_taken_in ∷ l) = marked l
marked (says (shows v) ∷ l) = marked l
marked (says idle ∷ l) = marked l
marked (says ran ∷ l) = marked l
marked (says (started a) ∷ l) = marked l
marked (says (preempted a) ∷ l) = marked l
marked (says (committed a m) ∷ l) = m
marked (carried_over ∷ l) = marked l

over_marked : marked (replies calls (begun (fill none_lent (closed 2147483647)))) ≡ true
unfolding flatten flat_map beyond exact result_of over entries_out fill_term fill_clauses fill_entries handled mentions met find order up_to met_at_once phase_one postfix in_order copy_part first_part second_part restore_part code value in_turn first_phase starts fresh execute emptied times act turn replies
over_marked = refl

not_marked : marked (replies calls (begun (fill none_lent (closed 0)))) ≡ false
unfolding flatten flat_map beyond exact result_of over entries_out fill_term fill_clauses fill_entries handled mentions met find order up_to met_at_once phase_one postfix in_order copy_part first_part second_part restore_part code value in_turn first_phase starts fresh execute emptied times act turn replies
not_marked = refl

-- the answers with their marks differ, though player 1 sees nothing
pub mark_withheld : AlikeBut 1 (closed 2147483647) (closed 0)
    × (replies calls (begun (fill none_lent (closed 2147483647))) ≡ replies calls (begun (fill none_lent (closed 0))) → ⊥)
mark_withheld = (closed_alike, λ h. true≢false (sym over_marked ∙ ap marked h ∙ not_marked))

-- ---- a change that shows what was hidden

-- b0 has the start value n, and the host alone sees it; or everybody sees it
abbrev veiled : ℕ → Sheet
veiled n = sheet [] (entry (state n []) (some 1) ∷ [])

abbrev opened : Sheet
opened = sheet [] (entry (state 0 []) none ∷ [])

-- the change, and player 1 reads b0
abbrev reading : List Pair
reading = each none_lent none_lent opened opened ∷ both (board 0 1) ∷ []

veiled_alike : AlikeBut 1 (veiled 1) (veiled 2)
veiled_alike = (refl, Forall₂·cons (refl, two_states (λ h. absurd (true≢false (sym h)))) Forall₂·nil)

one_changed : shown (heard_of 1 (in_one (each none_lent none_lent opened opened) ∷ in_one (both (board 0 1)) ∷ []) (begun (fill none_lent (veiled 1)))) ≡ 1
unfolding zip_with flat_map fill_term fill_clauses fill_entries entries_out handled mentions met find order up_to met_at_once phase_one value in_turn first_phase starts fresh emptied carried_actives carried act turn replies
one_changed = refl

two_changed : shown (heard_of 1 (in_other (each none_lent none_lent opened opened) ∷ in_other (both (board 0 1)) ∷ []) (begun (fill none_lent (veiled 2)))) ≡ 2
unfolding zip_with flat_map fill_term fill_clauses fill_entries entries_out handled mentions met find order up_to met_at_once phase_one value in_turn first_phase starts fresh emptied carried_actives carried act turn replies
two_changed = refl

pub same_hidden_needed : AlikeBut 1 (veiled 1) (veiled 2) × (EqualReplies 1 (fill none_lent (veiled 1)) (fill none_lent (veiled 2)) reading → ⊥)
same_hidden_needed = (veiled_alike, λ h. let z : ◌≡◌ {A = ℕ} 1 2 = sym one_changed ∙ ap shown h.turns ∙ two_changed in absurd (omega arith))

-- ---- of the sheet in force and the new one alone: three behaviours, the third hidden from player 1; then one; then
-- three, all of them seen

abbrev three : Option ℕ → Sheet
three who = sheet [] (entry (state 0 []) none ∷ entry (state 0 []) none ∷ entry (state 0 []) who ∷ [])

abbrev single : Sheet
single = sheet [] (entry (state 0 []) none ∷ [])

shrinks : SameHidden 1 (fill none_lent (three (some 1))) (fill none_lent single)
unfolding flat_map entries_out fill_term fill_clauses fill_entries
shrinks zero a b = refl
shrinks (suc i) a b = absurd (omega arith)

grows : SameHidden 1 (fill none_lent single) (fill none_lent (three none))
unfolding flat_map entries_out fill_term fill_clauses fill_entries
grows zero a b = refl
grows (suc i) a b = absurd (omega arith)

-- though the third is hidden in the first and seen in the last
pub by_each_change : SameHidden 1 (fill none_lent (three (some 1))) (fill none_lent single) × SameHidden 1 (fill none_lent single) (fill none_lent (three none))
    × (SameHidden 1 (fill none_lent (three (some 1))) (fill none_lent (three none)) → ⊥)
unfolding flat_map entries_out fill_term fill_clauses fill_entries
by_each_change = (shrinks, grows, λ h. true≢false (sym (h 2 (omega arith) (omega arith))))
