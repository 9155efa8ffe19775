-- Running an event's code marks exactly what the event's meaning finds to run over: part by part, on the store that the
-- view follows. Copies and moves mark nothing.
use Rattle.lib_base.proofs.Prelude.{ℕ, ◌<◌, suc, zero, ◌≡◌, refl, ◌∙◌, ap, true, false, Bool, ◌||◌, List, [], ◌∷◌, ◌++◌}
use Rattle.lib_base.proofs.Prelude.{flat_map, flatten, length, arith}
use Rattle.lib_base.specs.Basics.{All}
use Rattle.spec_language.specs.Syntax.{Expr, Program}
use Rattle.spec_language.specs.Dependence.{Response, follows, takes, defers, keeps, size, response}
use Rattle.spec_language.specs.Order.{up_to, phase_one}
use Rattle.spec_language.specs.Fits.{Nested}
use Rattle.spec_language.specs.Accepted.{NamesIn}
use Rattle.spec_language.specs.Valid.{Valid}
use Rattle.spec_language.specs.Code.{Instr, off, on, copy, restore, save, defer, move, postfix, first_code, later_code, move_code, again_code, in_c, by_number, in_order, first_part, second_part, code}
use Rattle.spec_semantics.specs.Meaning.{first_step, first_phase, at}
use Rattle.spec_semantics.specs.Event.{later_phase, again_step}
use Rattle.spec_semantics.specs.OverMeaning.{over_in, first_over, later_over, again_over, any_of, turns_over, event_over}
use Rattle.spec_execution.specs.Execution.{Values, execute, emptied}
use Rattle.spec_execution.specs.Runs.{execute_all}
use Rattle.spec_execution.proofs.Responses.{ResponseFits, response_fits}
use Rattle.spec_execution.proofs.Running.{looked, noted, execute_append, run_postfix, over_same}
use Rattle.spec_execution.proofs.Lengths.{mid}
use Rattle.spec_execution.proofs.Calm.{all_parts, all_of_c}
use Rattle.spec_execution.proofs.Masks.{copies, restores, code_shape}
use Rattle.spec_execution.proofs.Simulation.{View, first_one, again_one, later_one}
use Rattle.spec_execution.proofs.Right.{Seen, below, after_first, after_later, after_moves, after_copies}

-- ---- instructions that mark nothing

abbrev Silent : Instr → Type 0
Silent i = (d : Values) → (execute i d).mark ≡ d.mark

silent_runs : (is : List Instr) → All Silent is → (d : Values) → (execute_all is d).mark ≡ d.mark
unfolding execute_all
silent_runs [] h d = refl
silent_runs (i ∷ is) h d = silent_runs is h.1 (execute i d) ∙ h.0 d

silent_copy : (i : ℕ) → Silent (copy i)
unfolding execute
silent_copy i d = refl

silent_restore : (i : ℕ) → Silent (restore i)
unfolding execute
silent_restore i d = refl

silent_save : (i : ℕ) → Silent (save i)
unfolding execute
silent_save i d = refl

silent_defer : (i : ℕ) → Silent (defer i)
unfolding execute
silent_defer i d = refl

silent_move : (i : ℕ) → Silent (move i)
unfolding execute
silent_move i d = refl

silent_moves : (i : ℕ) (r : Response) → All Silent (move_code i r)
silent_moves i (follows x) = tt
silent_moves i (takes x) = tt
silent_moves i (defers x) = (silent_move i, tt)
silent_moves i keeps = tt

-- ---- one behaviour's code

module _ (n : ℕ) (c : ℕ → Bool) (s : List ℕ) where
  -- code of an expression, and then an instruction that marks nothing
  mark_then : (d : Values) (t : List ℕ) (i : Instr) (x : Expr) (k : ℕ) → Silent i → Nested k x → NamesIn n x → View n c s d t
      → (execute_all (postfix c x ++ (i ∷ [])) d).mark ≡ over_in (at t) x || d.mark
  unfolding execute_all
  mark_then d t i x k q h names v =
      rw (run_postfix c h (i ∷ []) d, ← over_same n (looked c d) (at t) v.seen x names) (q (noted (over_in (looked c d) x) _))

  first_mark : (d : Values) (t : List ℕ) (i : ℕ) (r : Response) → ResponseFits n r → View n c s d t
      → (execute_all (first_code c i r) d).mark ≡ first_over t r || d.mark
  unfolding execute_all
  first_mark d t i (follows x) h v = mark_then d t (save i) x 16 (silent_save i) h.0 h.1 v
  first_mark d t i (takes x) h v = mark_then d t (save i) x 16 (silent_save i) h.0 h.1 v
  first_mark d t i (defers x) h v = refl
  first_mark d t i keeps h v = refl

  later_mark : (d : Values) (t : List ℕ) (i : ℕ) (r : Response) → ResponseFits n r → View n c s d t
      → (execute_all (later_code c i r) d).mark ≡ later_over t r || d.mark
  unfolding execute_all
  later_mark d t i (follows x) h v = refl
  later_mark d t i (takes x) h v = refl
  later_mark d t i (defers x) h v = mark_then d t (defer i) x 16 (silent_defer i) h.0 h.1 v
  later_mark d t i keeps h v = refl

  again_mark : (d : Values) (t : List ℕ) (i : ℕ) (r : Response) → ResponseFits n r → View n c s d t
      → (execute_all (again_code c i r) d).mark ≡ again_over t r || d.mark
  unfolding execute_all
  again_mark d t i (follows x) h v = mark_then d t (save i) x 16 (silent_save i) h.0 h.1 v
  again_mark d t i (takes x) h v = refl
  again_mark d t i (defers x) h v = refl
  again_mark d t i keeps h v = refl

-- ---- one part after the other

swapped : (a b m : Bool) → b || (a || m) ≡ (a || b) || m
swapped true true m = refl
swapped true false m = refl
swapped false b m = refl

parts_mark : (n : ℕ) (f : ℕ → List Instr) (g : ℕ → Bool) (Inv : Values → Type 0)
    → ((i : ℕ) → i < n → (d : Values) → Inv d → Inv (execute_all (f i) d) × ((execute_all (f i) d).mark ≡ g i || d.mark))
    → (d : Values) → Inv d → (execute_all (flatten (up_to n f)) d).mark ≡ any_of (up_to n g) || d.mark
unfolding up_to flatten execute_all any_of
parts_mark zero f g Inv one d h = refl
parts_mark (suc n) f g Inv one d h =
    let k = one 0 (omega arith) d h in
    let rest : Bool = any_of (up_to n (λ i. g (suc i))) in
    ap (λ (v : Values). v.mark) (execute_append (f 0) (flatten (up_to n (λ i. f (suc i)))) d)
    ∙ parts_mark n (λ i. f (suc i)) (λ i. g (suc i)) Inv (λ i b. one (suc i) (omega arith)) (execute_all (f 0) d) k.0
    ∙ ap (λ (m : Bool). rest || m) k.1 ∙ swapped (g 0) rest d.mark

module _ (p : Program) (v : Valid p) (e : ℕ) (s : List ℕ) where
  module _ (f : ℕ → Response → List Instr) (g : ℕ → Response → List ℕ → List ℕ) (h : List ℕ → Response → Bool)
      (one : (d : Values) (t : List ℕ) (i : ℕ) → i < size p → Seen p v e s d t → Seen p v e s (execute_all (f i (response p e i)) d) (g i (response p e i) t))
      (marks : (d : Values) (t : List ℕ) (i : ℕ) → Seen p v e s d t → (execute_all (f i (response p e i)) d).mark ≡ h t (response p e i) || d.mark) where
    turns_mark : (is : List ℕ) → All (λ i. i < size p) is → (d : Values) (t : List ℕ) → Seen p v e s d t
        → (execute_all (in_order p e f is) d).mark ≡ turns_over p e h g is t || d.mark
    unfolding in_order flat_map execute_all turns_over
    turns_mark [] a d t k = refl
    turns_mark (i ∷ is) a d t k =
        let r : Response = response p e i in
        let rest : Bool = turns_over p e h g is (g i r t) in
        ap (λ (v : Values). v.mark) (execute_append (f i r) (in_order p e f is) d)
        ∙ turns_mark is a.1 (execute_all (f i r) d) (g i r t) (one d t i a.0 k)
        ∙ ap (λ (m : Bool). rest || m) (marks d t i k) ∙ swapped (h t r) rest d.mark

  abbrev c : ℕ → Bool
  c = in_c p e

  mark_first : (d : Values) (t : List ℕ) → Seen p v e s d t
      → (execute_all (in_order p e (first_code c) (phase_one p e)) d).mark ≡ turns_over p e first_over first_step (phase_one p e) t || d.mark
  mark_first =
      turns_mark (first_code c) first_step first_over (λ d t i. first_one (size p) c s d t i (response p e i) (response_fits p v e i) refl)
      (λ d t i. first_mark (size p) c s d t i (response p e i) (response_fits p v e i)) (phase_one p e) (below p v e s)

  mark_again : (d : Values) (t : List ℕ) → Seen p v e s d t
      → (execute_all (in_order p e (again_code c) (phase_one p e)) d).mark ≡ turns_over p e again_over again_step (phase_one p e) t || d.mark
  mark_again =
      turns_mark (again_code c) again_step again_over (λ d t i. again_one (size p) c s d t i (response p e i) (response_fits p v e i) refl)
      (λ d t i. again_mark (size p) c s d t i (response p e i) (response_fits p v e i)) (phase_one p e) (below p v e s)

  mark_later : (d : Values) (t : List ℕ) → Seen p v e s d t
      → (execute_all (by_number p e (later_code c)) d).mark ≡ any_of (up_to (size p) (λ i. later_over t (response p e i))) || d.mark
  mark_later d t k =
      parts_mark (size p) _ (λ i. later_over t (response p e i)) (λ d. Seen p v e s d t) (λ i b d k. (
        (later_one (size p) c s d t i (response p e i) (response_fits p v e i) b k).0,
        later_mark (size p) c s d t i (response p e i) (response_fits p v e i) k,
      )) d k

  mark_moves : (d : Values) → (execute_all (by_number p e move_code) d).mark ≡ d.mark
  mark_moves = silent_runs (by_number p e move_code) (all_parts Silent (size p) _ (λ i. silent_moves i (response p e i)))

  mark_copies : (d : Values) → (execute_all (copies p e) d).mark ≡ d.mark
  mark_copies = silent_runs (copies p e) (all_parts Silent (size p) _ (λ i. all_of_c Silent copy silent_copy i (response p e i)))

  mark_restores : (d : Values) → (execute_all (restores p e) d).mark ≡ d.mark
  mark_restores = silent_runs (restores p e) (all_parts Silent (size p) _ (λ i. all_of_c Silent restore silent_restore i (response p e i)))

  -- the three parts, from no mark
  gathered : (a b d : Bool) → d || (b || (a || false)) ≡ a || (b || d)
  gathered true true true = refl
  gathered true true false = refl
  gathered true false true = refl
  gathered true false false = refl
  gathered false true true = refl
  gathered false true false = refl
  gathered false false true = refl
  gathered false false false = refl

  mark_mid : (d : Values) → Seen p v e s d s → d.mark ≡ false → (execute_all (mid p e) d).mark ≡ event_over p e s
  unfolding first_part second_part event_over
  mark_mid d k none =
      let t = first_phase p e s in
      let d₁ = execute_all (in_order p e (first_code c) (phase_one p e)) d in
      let d₂ = execute_all (by_number p e (later_code c)) d₁ in
      let d₃ = execute_all (by_number p e move_code) d₂ in
      let a : Bool = turns_over p e first_over first_step (phase_one p e) s in
      let b : Bool = any_of (up_to (size p) (λ i. later_over t (response p e i))) in
      let f : Bool = turns_over p e again_over again_step (phase_one p e) (later_phase p e t) in
      let k₁ = after_first p v e s d s k in
      let k₂ = after_later p v e s t d₁ k₁ in
      let m₁ : d₁.mark ≡ a || false = mark_first d s k ∙ ap (λ (m : Bool). a || m) none in
      let m₂ : d₂.mark ≡ b || (a || false) = mark_later d₁ t k₁ ∙ ap (λ (m : Bool). b || m) m₁ in
      let m₃ : d₃.mark ≡ b || (a || false) = mark_moves d₂ ∙ m₂ in
      rw (
        execute_append (first_part p e) (second_part p e) d,
        execute_append (in_order p e (first_code c) (phase_one p e)) (by_number p e (later_code c)) d,
        execute_append (by_number p e move_code) (in_order p e (again_code c) (phase_one p e)) d₂,
      )
      (mark_again d₃ (later_phase p e t) (after_moves p v e s t d₂ k₂) ∙ ap (λ (m : Bool). f || m) m₃ ∙ gathered a b f)

  pub code_marked : length s ≡ size p → (execute_all (code p e) (emptied s)).mark ≡ event_over p e s
  unfolding execute_all execute emptied
  code_marked sized =
      let d₁ = execute_all (copies p e) (emptied s) in
      let d₂ = execute_all (mid p e) d₁ in
      rw (
        code_shape p e,
        execute_append (copies p e) (on ∷ (mid p e ++ (off ∷ (restores p e ++ (on ∷ []))))) (emptied s),
        execute_append (mid p e) (off ∷ (restores p e ++ (on ∷ []))) d₁,
        execute_append (restores p e) (on ∷ []) d₂,
      )
      (mark_restores d₂ ∙ mark_mid d₁ (after_copies p v e s sized) (mark_copies (emptied s)))
