-- Handlers: both readers find the same fault, or the draft has an entry for each handler of the tree and no other in
-- the behaviour's row. By induction on the bound of the tree reader, with an invariant of the draft; either bound
-- suffices, since a field has three bytes.
use Rattle.std.specs.Prelude.{IsErrAnd}
use Rattle.std.proofs.lemmas.Result.{err_from_is_err_and}
use Rattle.spec_language.specs.Numbers.{refusal_number}
use Rattle.lib_base.proofs.Prelude.{ℕ, ◌≤◌, ◌<◌, ◌+◌, ◌-◌, suc, zero, ◌*◌, ◌≡◌, refl, ◌∙◌, sym, subst, false, not, ◌≢◌}
use Rattle.lib_base.proofs.Prelude.{List, [], ◌∷◌, ◌++◌, append_assoc, append-nil, length, get_or, take, drop, set}
use Rattle.lib_base.proofs.Prelude.{length-drop, drop-drop, sets, eqb, ltb, leb, eqb·suc-zero, ne_eqb, eqb-true, lt-ltb}
use Rattle.lib_base.proofs.Prelude.{ltb-false, eqb-false, leb-false, arith}
use Rattle.lib_base.specs.Basics.{pick}
use Rattle.lib_base.proofs.Tools.{split, by_two}
use Rattle.spec_language.specs.Syntax.{Phase, immediate, later}
use Rattle.spec_language.specs.Sheet.{Term, Clause, clause, fill_clauses}
use Rattle.spec_language.specs.Dependence.{handled, in_phase}
use Rattle.spec_language.specs.Code.{size_of}
use Rattle.spec_language.specs.Refusals.{off_scale, doubled}
use Rattle.spec_language.specs.Reading.{Got, bad, got, then, filling, byte_in, read_all, expr_at, handles, phase_of, handler_in}
use Rattle.spec_grammar.proofs.Handlers.{stops}
use Rattle.front_field.specs.Expression.{done, Out, out, rest_from, go_on_after}
use Rattle.draft_form.specs.Draft.{draft_length, nodes, handler_nodes, packed_entry}
use Rattle.front_behaviours.specs.Handler.{slot, handler_at, handler_from, handler_of, handlers_of}
use Rattle.front_correct.proofs.Fields.{value_in, span, one_tag, same_field, value_length, rest_drop, ends_test}
use Rattle.front_correct.proofs.Expressions.{raw}
use Rattle.front_correct.proofs.Entries.{same_entry, raws, SaysBy, says_kept, written, written_long, written_take, written_pool, written_there, written_same, written_other, Frame, frame_on, handled_other, handled_new, cell_test}

-- ---- one handler

-- the kind of its entry
abbrev pub phase_kind : Phase → ℕ
phase_kind immediate = 2
phase_kind later = 3

phase_kind_law : (φ : ℕ) → φ ≤ 1 → phase_kind (phase_of φ) ≡ 2 + φ
phase_kind_law zero h = refl
phase_kind_law (suc k) h = omega arith

-- what both readers say of a handler of behaviour i that takes `size` bytes at the front of s, after the handlers hs
abbrev pub SameHandler : ℕ → List Clause → ℕ → List ℕ → ℕ → List ℕ → ℕ → Got Clause → Out → Type 0
SameHandler events hs i s size d n (bad k) o = IsErrAnd o.0 (λ r. refusal_number r ≡ k)
SameHandler events hs i s size d n (got (clause e φ x) r) o =
    (e < events) × (handles e hs ≡ false) × (r ≡ drop size s) × (size ≤ length s) × (size_of (raw x) * 4 ≤ size)
    × (o ≡ out (done size (n + size_of (raw x))) (set (sets d n (nodes (raw x))) (slot i e) (packed_entry (phase_kind φ) n (size_of (raw x)))))

module _ (events : ℕ) (hs : List Clause) (i : ℕ) (d : List ℕ) (n : ℕ)
    (test : (e : ℕ) → e < events → eqb (get_or d (slot i e) 0) 0 ≡ not (handles e hs)) where
  module _ (s : List ℕ) (size : ℕ) (r : List ℕ) (after : r ≡ drop size s) (fits : size ≤ length s) where
    abbrev Same : Got Clause → Out → Type 0
    Same = SameHandler events hs i s size d n

    abbrev Filled : Got Clause → Out → Type 0
    Filled g o = Same (filling g r) o

    handler_value : (v : List ℕ) → length v + 3 ≡ size
        → Filled (byte_in v (λ e v₁. pick (leb events e) (bad off_scale)
        (byte_in v₁ (λ φ v₂. pick (ltb 1 φ) (bad off_scale)
        (pick (handles e hs) (bad doubled)
        (then (expr_at 16 v₂) (λ x left. got (clause e (phase_of φ) x) left))))))) (handler_at v events i d n)
    unfolding handler_at
    handler_value [] full = refl
    handler_value (e ∷ []) full = by_two Filled (leb events e) (λ c. refl) (λ c. refl)
    handler_value (e ∷ (φ ∷ v)) full =
        let q : rest_from 2 (e ∷ (φ ∷ v)) ≡ v = rest_drop 2 (e ∷ (φ ∷ v)) in
        rw (eqb·suc-zero (suc (length v)), ne_eqb (length (e ∷ (φ ∷ v))) 1 (omega arith))
        (by_two Filled (leb events e) (λ c. refl)
        (λ c. by_two Filled (ltb 1 φ) (λ b. refl)
        (λ b. split (handles e hs) (λ a. rw (test e (leb-false events e c), a) refl)
        (λ a. rw (test e (leb-false events e c), a, q)
        (same_entry Same (clause e (phase_of φ)) v r d n (slot i e) (2 + φ) 5 (λ k o h. h)
        (λ x few.
        let p : length v + 5 ≡ size = omega arith in
        (leb-false events e c, a, after, fits, omega arith, rw (p, phase_kind_law φ (ltb-false 1 φ b)))))))))

  pub same_handler : (s : List ℕ) → SameHandler events hs i s (span s) d n (handler_in events hs s) (handler_of s events i d n)
  unfolding handler_of
  same_handler s =
      same_field (SameHandler events hs i s (span s) d n) (eqb 5) 5 5 s _ (λ f v. handler_from f v events i d n) (one_tag 5 (get_or s 0 0)) (λ k. refl)
      (λ fits due. handler_value s (span s) (drop (span s) s) refl fits (value_in s) (value_length s fits))

-- ---- the row of behaviour i

-- its entry for event e; there are 32
abbrev pub cell : List ℕ → ℕ → ℕ → ℕ
cell d i e = pick (ltb e 32) (get_or d (slot i e) 0) 0

-- the draft while handlers are read: those of hs, of behaviour i with start value w, from the draft d₀ with n₀ nodes on
pub record Turn (i w : ℕ) (d₀ : List ℕ) (n₀ : ℕ) (hs : List Clause) (d : List ℕ) (n : ℕ) : Type 0 where
  pub long : length d ≡ draft_length
  pub frame : Frame i n₀ d₀ d
  pub grown : n₀ ≤ n
  pub pool : take n d ≡ take n₀ d₀ ++ handler_nodes (raws hs)
  pub body : get_or d (4096 + i) 0 ≡ 0
  pub start : get_or d (4160 + i) 0 ≡ w
  pub rows : (e : ℕ) → SaysBy d n (cell d i e) (handled e (raws hs))

nodes_snoc : (hs : List Clause) (e : ℕ) (φ : Phase) (x : Term) → handler_nodes (raws (hs ++ (clause e φ x ∷ []))) ≡ handler_nodes (raws hs) ++ nodes (raw x)
unfolding handler_nodes fill_clauses
nodes_snoc [] e φ x = append-nil (nodes (raw x))
nodes_snoc (clause f ψ y ∷ hs) e φ x = rw (nodes_snoc hs e φ x) (sym (append_assoc (nodes (raw y)) (handler_nodes (raws hs)) (nodes (raw x))))

module _ (i w : ℕ) (d₀ : List ℕ) (n₀ : ℕ) (low : i < 64) where
  module _ (hs : List Clause) (d : List ℕ) (n e : ℕ) (φ : Phase) (x : Term)
      (t : Turn i w d₀ n₀ hs d n) (le : e < 32) (room : n + size_of (raw x) ≤ 2048) (fresh : handles e hs ≡ false) where
    abbrev new : List ℕ
    new = written d n (raw x) (slot i e) (packed_entry (phase_kind φ) n (size_of (raw x))) t.long room (omega arith) (omega arith)

    entry_says : (ψ : Phase) → SaysBy (set (sets d n (nodes (raw x))) (slot i e) (packed_entry (phase_kind ψ) n (size_of (raw x)))) (n + size_of (raw x)) (packed_entry (phase_kind ψ) n (size_of (raw x))) (in_phase ψ (raw x))
    entry_says immediate = (n, refl, omega arith, written_there d n (raw x) (slot i e) (packed_entry 2 n (size_of (raw x))) t.long room (omega arith) (omega arith))
    entry_says later = (n, refl, omega arith, written_there d n (raw x) (slot i e) (packed_entry 3 n (size_of (raw x))) t.long room (omega arith) (omega arith))

    other : (j : ℕ) → 2048 ≤ j → j ≢ slot i e → get_or new j 0 ≡ get_or d j 0
    other = written_other d n (raw x) (slot i e) (packed_entry (phase_kind φ) n (size_of (raw x))) t.long room (omega arith) (omega arith)

    row_says : (f : ℕ) → SaysBy new (n + size_of (raw x)) (cell new i f) (handled f (raws (hs ++ (clause e φ x ∷ []))))
    row_says f =
        split (eqb f e)
        (λ c.
        let q : f ≡ e = eqb-true f e c in
        let p : cell new i e ≡ packed_entry (phase_kind φ) n (size_of (raw x)) =
        rw (lt-ltb e 32 le) (written_same d n (raw x) (slot i e) (packed_entry (phase_kind φ) n (size_of (raw x))) t.long room (omega arith) (omega arith)) in
        rw (q, p, handled_new e φ x hs fresh) (entry_says φ))
        (λ c.
        let q : f ≢ e = eqb-false f e c in
        let p : cell new i f ≡ cell d i f = rw (other (slot i f) (omega arith) (omega arith)) in
        rw (p, handled_other f e φ x hs q)
        (says_kept d new n (n + size_of (raw x)) (cell d i f) (handled f (raws hs)) (omega arith)
        (written_take d n (raw x) (slot i e) (packed_entry (phase_kind φ) n (size_of (raw x))) t.long room (omega arith) (omega arith)) (t.rows f)))

    turn : Turn i w d₀ n₀ (hs ++ (clause e φ x ∷ [])) new (n + size_of (raw x))
    turn = record {
      long = written_long d n (raw x) (slot i e) (packed_entry (phase_kind φ) n (size_of (raw x))) t.long room (omega arith) (omega arith);
      frame = frame_on i n₀ n d₀ d new t.grown t.frame
          (written_take d n (raw x) (slot i e) (packed_entry (phase_kind φ) n (size_of (raw x))) t.long room (omega arith) (omega arith), λ j a b _ _ _. other j a (b e le));
      grown = omega (arith, t.grown);
      pool = written_pool d n (raw x) (slot i e) (packed_entry (phase_kind φ) n (size_of (raw x))) t.long room (omega arith) (omega arith)
          ∙ rw (t.pool, nodes_snoc hs e φ x) (append_assoc (take n₀ d₀) (handler_nodes (raws hs)) (nodes (raw x)));
      body = other (4096 + i) (omega arith) (omega arith) ∙ t.body;
      start = other (4160 + i) (omega arith) (omega arith) ∙ t.start;
      rows = row_says;
    }

-- ---- handlers to the end of a value, or to a tag 08

-- what both readers say of handlers in v: the place where they end; `most` bounds four times the nodes
abbrev pub SameHandlers : ℕ → ℕ → List ℕ → ℕ → List ℕ → ℕ → Got (List Clause) → Out → Type 0
SameHandlers i w d₀ n₀ v most (bad k) o = IsErrAnd o.0 (λ r. refusal_number r ≡ k)
SameHandlers i w d₀ n₀ v most (got hs r) o = (at : ℕ) × (r ≡ drop at v) × (m : ℕ) × (o.0 ≡ done at m) × (m * 4 ≤ most) × Turn i w d₀ n₀ hs o.1 m

module _ (events i w : ℕ) (d₀ : List ℕ) (n₀ : ℕ) (v : List ℕ) (most : ℕ) (few : events ≤ 32) (low : i < 64) (small : most ≤ 8192) where
  abbrev Both : Got (List Clause) → Out → Type 0
  Both = SameHandlers i w d₀ n₀ v most

  -- the state in which handlers from `at` on are due
  abbrev Due : ℕ → List Clause → List ℕ → ℕ → Type 0
  Due at hs d n = (at ≤ length v) × (n * 4 + (length v - at) ≤ most) × Turn i w d₀ n₀ hs d n

  ended : (at : ℕ) (hs : List Clause) (d : List ℕ) (n : ℕ) → Due at hs d n → Both (got hs (drop at v)) (out (done at n) d)
  ended at hs d n t = (at, refl, n, refl, omega arith, t.2)

  turn_test : (hs : List Clause) (d : List ℕ) (n : ℕ) → Turn i w d₀ n₀ hs d n → (e : ℕ) → e < events → eqb (get_or d (slot i e) 0) 0 ≡ not (handles e hs)
  turn_test hs d n t e h =
      let q : cell d i e ≡ get_or d (slot i e) 0 = rw (lt-ltb e 32 (omega arith)) in
      cell_test d n (get_or d (slot i e) 0) e hs (subst (λ (z : ℕ). SaysBy d n z (handled e (raws hs))) q (t.rows e))

  next : (k l at : ℕ) (hs : List Clause) (d : List ℕ) (n : ℕ) → Due at hs d n
      → ((at' : ℕ) (hs' : List Clause) (d' : List ℕ) (n' : ℕ) → at < at' → Due at' hs' d' n'
      → Both (read_all stops (handler_in events) k hs' (drop at' v)) (handlers_of l v at' events i d' n'))
      → (g : Got Clause) (o : Out) → SameHandler events hs i (drop at v) (span (drop at v)) d n g o
      → Both (then g (λ h r. read_all stops (handler_in events) k (hs ++ (h ∷ [])) r)) (go_on_after o.0 o.1 (λ size m. handlers_of l v (at + size) events i o.1 m))
  next k l at hs d n t ih (bad j) o e = let p = err_from_is_err_and o.0 e in rw p.1 p.2
  next k l at hs d n t ih (got (clause e φ x) r) o h =
      let q : length (drop at v) ≡ length v - at = length-drop at v in
      let p : r ≡ drop (at + span (drop at v)) v = h.2 ∙ drop-drop (span (drop at v)) at v in
      rw (h.5, p)
      (ih (at + span (drop at v)) (hs ++ (clause e φ x ∷ [])) (set (sets d n (nodes (raw x))) (slot i e) (packed_entry (phase_kind φ) n (size_of (raw x)))) (n + size_of (raw x)) (omega arith)
      (omega arith, omega arith, turn i w d₀ n₀ low hs d n e φ x t.2 (omega arith) (omega arith) h.1))

  pub same_handlers : (k l at : ℕ) (hs : List Clause) (d : List ℕ) (n : ℕ) → Due at hs d n → length v < at + k → length v ≤ at + l
      → Both (read_all stops (handler_in events) k hs (drop at v)) (handlers_of l v at events i d n)
  unfolding read_all handlers_of
  same_handlers zero l at hs d n t a b = absurd (omega arith)
  same_handlers (suc k) zero at hs d n t a b = ends_test Both at v _ _ _ _ t.0 (ended at hs d n t) (λ q. absurd (q (omega arith)))
  same_handlers (suc k) (suc l) at hs d n t a b =
      rw (rest_drop at v)
      (ends_test Both at v _ _ _ _ t.0 (ended at hs d n t)
      (λ e. next k l at hs d n t (λ at' hs' d' n' h t'. same_handlers k l at' hs' d' n' t' (omega arith) (omega arith))
      (handler_in events hs (drop at v)) (handler_of (drop at v) events i d n)
      (same_handler events hs i d n (turn_test hs d n t.2) (drop at v))))
