-- Running an event's code is the event's meaning. The view follows the meaning's store through the parts of the code;
-- the copies back then write exactly the members of C, and outside C the view is the store as it was.
use Rattle.lib_base.proofs.Prelude.{ℕ, ◌≤◌, ◌<◌, suc, ◌≡◌, refl, ◌∙◌, sym, ap, subst, by_cases, Option, none, List, []}
use Rattle.lib_base.proofs.Prelude.{◌∷◌, ◌++◌, flat_map, length, length-replicate, ext_get_or, ℕ_discrete, arith}
use Rattle.lib_base.specs.Basics.{pick, All}
use Rattle.lib_base.proofs.Tools.{all_imp}
use Rattle.spec_language.specs.Syntax.{Program}
use Rattle.spec_language.specs.Dependence.{Response, size, response}
use Rattle.spec_language.specs.Order.{phase_one}
use Rattle.spec_language.specs.Valid.{Valid}
use Rattle.spec_language.specs.Code.{Instr, off, on, first_code, later_code, move_code, again_code, in_c, by_number, in_order, first_part, second_part, code}
use Rattle.spec_language.proofs.Laws.{up_to_of}
use Rattle.spec_semantics.specs.Meaning.{first_step, in_turn, first_phase, at}
use Rattle.spec_semantics.specs.Event.{later_phase, event, later_value, again_step}
use Rattle.spec_semantics.proofs.OrderLaws.{phase_one_early}
use Rattle.spec_execution.specs.Execution.{Values, held_at, execute, emptied}
use Rattle.spec_execution.specs.Runs.{execute_all}
use Rattle.spec_execution.proofs.Responses.{response_fits}
use Rattle.spec_execution.proofs.Running.{execute_append, parts}
use Rattle.spec_execution.proofs.Lengths.{mid}
use Rattle.spec_execution.proofs.Masks.{copies, restores, code_shape}
use Rattle.spec_execution.proofs.Simulation.{View, first_one, again_one, Waits, later_one, LaterOne, move_one, MoveOne, Copied, copy_one, Restored, restore_one}

module _ (p : Program) (v : Valid p) (e : ℕ) (s : List ℕ) where
  abbrev pub Seen : Values → List ℕ → Type 0
  Seen d t = View (size p) (in_c p e) s d t

  -- turn by turn
  module _ (f : ℕ → Response → List Instr) (g : ℕ → Response → List ℕ → List ℕ)
      (one : (d : Values) (t : List ℕ) (i : ℕ) → i < size p → Seen d t → Seen (execute_all (f i (response p e i)) d) (g i (response p e i) t)) where
    turns : (is : List ℕ) → All (λ i. i < size p) is → (d : Values) (t : List ℕ) → Seen d t → Seen (execute_all (in_order p e f is) d) (in_turn p e g is t)
    unfolding in_order flat_map in_turn execute_all
    turns [] a d t h = h
    turns (i ∷ is) a d t h =
        rw (execute_append (f i (response p e i)) (in_order p e f is) d)
        (turns is a.1 (execute_all (f i (response p e i)) d) (g i (response p e i) t) (one d t i a.0 h))

  pub below : All (λ i. i < size p) (phase_one p e)
  below = all_imp _ _ (λ i h. h.0) (phase_one p e) (phase_one_early p e v.known)

  -- phase one
  pub after_first : (d : Values) (t : List ℕ) → Seen d t → Seen (execute_all (in_order p e (first_code (in_c p e)) (phase_one p e)) d) (first_phase p e t)
  unfolding first_phase
  after_first =
      turns (first_code (in_c p e)) first_step (λ d t i. first_one (size p) (in_c p e) s d t i (response p e i) (response_fits p v e i) refl) (phase_one p e) below

  pub after_again : (d : Values) (t : List ℕ) → Seen d t → Seen (execute_all (in_order p e (again_code (in_c p e)) (phase_one p e)) d) (in_turn p e again_step (phase_one p e) t)
  after_again =
      turns (again_code (in_c p e)) again_step (λ d t i. again_one (size p) (in_c p e) s d t i (response p e i) (response_fits p v e i) refl) (phase_one p e) below

  -- later handlers: all their values wait, of one store t
  module _ (t : List ℕ) where
    abbrev pub Wait : List (Option ℕ) → ℕ → Type 0
    Wait places i = Waits (size p) (in_c p e) s t places i (response p e i)

    abbrev pub Later : ℕ → Values → Type 0
    Later k d = Seen d t × ((i : ℕ) → i < k → Wait d.deferred i)

    later_on : (k : ℕ) → k < size p → (d : Values) → Later k d → Later (suc k) (execute_all (later_code (in_c p e) k (response p e k)) d)
    later_on k b d h =
        let o : LaterOne (size p) (in_c p e) s t d (execute_all (later_code (in_c p e) k (response p e k)) d) k (response p e k) =
        later_one (size p) (in_c p e) s d t k (response p e k) (response_fits p v e k) b h.0 in
        (o.0, λ i l. by_cases (ℕ_discrete i k) (λ q. rw q o.1) (λ q. o.2 i (response p e i) q (h.1 i (omega arith))))

    pub after_later : (d : Values) → Seen d t → Later (size p) (execute_all (by_number p e (later_code (in_c p e))) d)
    after_later d h = parts (size p) _ Later later_on d (h, λ i l. absurd (omega arith))

    -- moves: below k the view has the waiting values
    abbrev Moved : ℕ → Values → Type 0
    Moved k d =
        (u : List ℕ) × Seen d u × ((i : ℕ) → i < size p → Wait d.deferred i)
        × ((i : ℕ) → i < k → at u i ≡ later_value t i (response p e i)) × ((i : ℕ) → k ≤ i → at u i ≡ at t i)

    move_on : (k : ℕ) → k < size p → (d : Values) → Moved k d → Moved (suc k) (execute_all (move_code k (response p e k)) d)
    move_on k b d h =
        let o : MoveOne (size p) (in_c p e) s t h.0 d (execute_all (move_code k (response p e k)) d) k (response p e k) =
        move_one (size p) (in_c p e) s d t h.0 k (response p e k) refl b h.1 (h.2 k b) (h.4 k (omega arith)) in (
          o.0,
          o.1,
          λ i l. subst (λ places. Wait places i) (sym o.4) (h.2 i l),
          λ i l. by_cases (ℕ_discrete i k) (λ q. rw q o.2) (λ q. o.3 i q ∙ h.3 i (omega arith)),
          λ i l. o.3 i (omega arith) ∙ h.4 i (omega arith),
        )

    pub after_moves : (d : Values) → Later (size p) d → Seen (execute_all (by_number p e move_code) d) (later_phase p e t)
    unfolding later_phase
    after_moves d h =
        let m : Moved (size p) (execute_all (by_number p e move_code) d) = parts (size p) _ Moved move_on d (t, h.0, h.1, λ i l. absurd (omega arith), λ i l. refl) in
        subst (Seen (execute_all (by_number p e move_code) d)) (up_to_of 0 m.0 (size p) _ m.1.sized m.3) m.1

  -- everything between the masked stretches
  after_mid : (d : Values) → Seen d s → Seen (execute_all (mid p e) d) (event p e s)
  unfolding first_part second_part event
  after_mid d h =
      let c = in_c p e in
      let t = first_phase p e s in
      let d₁ = execute_all (in_order p e (first_code c) (phase_one p e)) d in
      let d₂ = execute_all (by_number p e (later_code c)) d₁ in
      let d₃ = execute_all (by_number p e move_code) d₂ in
      rw (
        execute_append (first_part p e) (second_part p e) d,
        execute_append (in_order p e (first_code c) (phase_one p e)) (by_number p e (later_code c)) d,
        execute_append (by_number p e move_code) (in_order p e (again_code c) (phase_one p e)) d₂,
      )
      (after_again d₃ (later_phase p e t) (after_moves t d₂ (after_later t d₁ (after_first d s h))))

  module _ (sized : length s ≡ size p) where
    -- copies
    pub after_copies : Seen (execute_all (copies p e) (emptied s)) s
    unfolding emptied
    after_copies =
        let m : Copied (size p) (in_c p e) s (size p) (execute_all (copies p e) (emptied s)) =
        parts (size p) _ (Copied (size p) (in_c p e) s) (λ k b d. copy_one (size p) (in_c p e) s d k (response p e k) refl b) (emptied s)
        (record {
          kept = refl;
          scratched = length-replicate (length s) none ∙ sized;
          places = length-replicate (length s) none ∙ sized;
          empty = refl;
          seen = λ i l. absurd (omega arith);
        }) in
        record { kept = m.kept; scratched = m.scratched; places = m.places; empty = m.empty; sized = sized; seen = m.seen }

    -- copies back
    after_restores : (d : Values) (t : List ℕ) → Seen d t → (execute_all (restores p e) d).store ≡ t
    after_restores d t h =
        let told : (i : ℕ) → i < size p → pick (in_c p e i) (held_at d.scratch i) (at s i) ≡ at t i = λ i b. rw h.kept at (h.seen i b) in
        let m : Restored (size p) (in_c p e) s d.scratch t told (size p) (execute_all (restores p e) d) =
        parts (size p) _ (Restored (size p) (in_c p e) s d.scratch t told) (λ k b x. restore_one (size p) (in_c p e) s d.scratch t told x k (response p e k) refl b) d
        (record { same = refl; stored = ap length h.kept ∙ sized; back = λ i l. absurd (omega arith); ahead = λ i l. ap (λ l. at l i) h.kept }) in
        ext_get_or 0 _ t (m.stored ∙ sym h.sized) (λ i b. m.back i (omega (arith, m.stored)))

    pub code_right : (execute_all (code p e) (emptied s)).store ≡ event p e s
    unfolding execute_all execute
    code_right =
        let d₁ = execute_all (copies p e) (emptied s) in
        let d₂ = execute_all (mid p e) d₁ in
        rw (
          code_shape p e,
          execute_append (copies p e) (on ∷ (mid p e ++ (off ∷ (restores p e ++ (on ∷ []))))) (emptied s),
          execute_append (mid p e) (off ∷ (restores p e ++ (on ∷ []))) d₁,
          execute_append (restores p e) (on ∷ []) d₂,
        )
        (after_restores d₂ (event p e s) (after_mid d₁ after_copies))
