-- Sheets: both readers find the same fault, or the draft is that of the tree reader's sheet, its parameters not filled
-- in. By induction on the bounds, of behaviours and of events; either reader's bound suffices, since a field has three
-- bytes. Where no tag 01 follows, the reader by positions looks at a behaviour's field twice, and finds the same.
use Rattle.std.specs.Prelude.{Ok, Err, IsErrAnd}
use Rattle.std.proofs.lemmas.Result.{err_from_is_err_and}
use Rattle.spec_language.specs.Numbers.{refusal_number}
use Rattle.spec_language.specs.declared.refusals.Refusal.{Refusal}
use Rattle.spec_language.specs.declared.refusals.Refusal.TheVariants.{Torn, WrongTag}
use Rattle.lib_base.proofs.Prelude.{ℕ, ◌≤◌, ◌<◌, ◌+◌, ◌-◌, suc, zero, ◌*◌, ◌≡◌, refl, ◌∙◌, sym, subst, true, false}
use Rattle.lib_base.proofs.Prelude.{◌||◌, false≢true, true≢false, ◌≢◌, some, none, List, [], ◌∷◌, ◌++◌, length, get_or}
use Rattle.lib_base.proofs.Prelude.{drop, set, length-append, length-drop, drop_of_length-le, drop-drop, eqb, ltb, leb}
use Rattle.lib_base.proofs.Prelude.{ne_eqb, eqb-true, le-ltb, lt-ltb, eq-eqb, ltb-false, eqb-false, ltb-true, leb-false}
use Rattle.lib_base.proofs.Prelude.{arith}
use Rattle.lib_base.specs.Basics.{pick}
use Rattle.lib_base.proofs.Tools.{split, by_two}
use Rattle.spec_language.specs.Sheet.{Signal, Entry, Sheet, cells, cell_count, allowed}
use Rattle.spec_language.proofs.RowLaws.{count_append}
use Rattle.spec_language.specs.Refusals.{wrong_length, off_scale}
use Rattle.spec_language.specs.Reading.{Got, bad, got, then, filling, read_all, due_at, signal, signal_in, sheet, read_sheet}
use Rattle.spec_grammar.proofs.Programs.{at_end, no_event}
use Rattle.sheet_field.specs.Field.{stated, field_of}
use Rattle.front_field.specs.Expression.{Out}
use Rattle.draft_form.specs.Draft.{draft_length}
use Rattle.front_rows.specs.Cells.{least_of, most_of, cells_at}
use Rattle.front_behaviours.specs.Behaviour.{behaviour_of}
use Rattle.front_sheet.specs.Whole.{ready, EventRead, sender, signal_at, priority_at, event_from, read_event, event_next, read_events, Finish, finished, EventsOut, after_events, proceed, behaviours_of, read_on}
use Rattle.front_correct.proofs.Fields.{value_in, span, by_either, between, same_field, value_length, rest_drop, end_test}
use Rattle.front_correct.proofs.Behaviours.{GrownBy, SameBehaviour, same_behaviour}
use Rattle.front_correct.proofs.Spread.{length_spread}
use Rattle.front_correct.proofs.Sofar.{Sofar, grow, declare, nothing_yet}

-- what both readers say of a sheet
abbrev pub SameProgram : Got Sheet → Finish → Type 0
SameProgram (bad k) o = IsErrAnd o.0 (λ r. refusal_number r ≡ k)
SameProgram (got p r) o =
    (r ≡ []) × (n : ℕ) × (o.0 ≡ ready (length p.signals) (cell_count p.entries) n) × (n ≤ 2048) × Sofar p.signals p.entries o.1 n

count_snoc : (bs : List Entry) (x : Entry) → cell_count (bs ++ (x ∷ [])) ≡ cell_count bs + cells x.item
unfolding cell_count
count_snoc bs x = count_append bs (x ∷ []) ∙ omega arith

-- ---- behaviours

module _ (s : List ℕ) (rs : List Signal) where
  -- behaviours from `at` on are due
  abbrev Due : ℕ → List Entry → List ℕ → ℕ → Type 0
  Due at bs d n = (at ≤ length s) × (n * 4 + (length s - at) ≤ 8192) × Sofar rs bs d n

  -- the sheet with these
  abbrev made : Got (List Entry) → Got Sheet
  made g = then g (λ bs over. got (sheet rs bs) over)

  ended : (at : ℕ) (bs : List Entry) (d : List ℕ) (n : ℕ) → Due at bs d n → at ≡ length s
      → SameProgram (got (sheet rs bs) (drop at s)) (finished (ready (length rs) (cell_count bs) n) d)
  ended at bs d n t e = (drop_of_length-le s {i = at} (omega arith), n, refl, omega arith, t.2)

  -- one is read
  next : (l at : ℕ) (bs : List Entry) (d : List ℕ) (n : ℕ) (F : Entry → List ℕ → Got (List Entry)) → Due at bs d n
      → ((at' : ℕ) (b : Entry) (d' : List ℕ) (n' : ℕ) → at < at' → Due at' (bs ++ (b ∷ [])) d' n'
      → SameProgram (made (F b (drop at' s))) (behaviours_of l s at' (length rs) (cell_count bs + cells b.item) d' n'))
      → (g : Got Entry) (o : Out) → SameBehaviour (cell_count bs) (cells_at (drop at s)) (drop at s) (span (drop at s)) d n g o
      → SameProgram (made (then g F)) (proceed o.0 o.1 (λ size m. behaviours_of l s (at + size) (length rs) (cell_count bs + cells_at (drop at s)) o.1 m))
  next l at bs d n F t ih (bad k) o e = let p = err_from_is_err_and o.0 e in rw p.1 p.2
  next l at bs d n F t ih (got b r) o h =
      let q : length (drop at s) ≡ length s - at = length-drop at s in
      let p : r ≡ drop (at + span (drop at s)) s = h.0 ∙ drop-drop (span (drop at s)) at s in
      rw (h.3, h.6, p)
      (ih (at + span (drop at s)) b o.1 h.2 (omega arith) (
        omega arith,
        omega arith,
        grow rs bs d o.1 n h.2 t.2 (omega arith) b.item b.viewer (subst (λ (z : ℕ). GrownBy z d n b.item b.viewer o.1 h.2) (sym (length_spread bs)) h.5),
      ))

  pub same_behaviours : (k l at : ℕ) (bs : List Entry) (d : List ℕ) (n : ℕ) → Due at bs d n → length s < at + k → length s ≤ at + l
      → SameProgram (made (read_all at_end (due_at (length rs)) k bs (drop at s))) (behaviours_of l s at (length rs) (cell_count bs) d n)
  unfolding read_all behaviours_of
  same_behaviours zero l at bs d n t a b = absurd (omega arith)
  same_behaviours (suc k) zero at bs d n t a b =
      let e : at ≡ length s = omega arith in
      rw (end_test at s t.0, eq-eqb at (length s) e) (ended at bs d n t e)
  same_behaviours (suc k) (suc l) at bs d n t a b =
      rw (end_test at s t.0, rest_drop at s)
      (by_two (λ (g : Got (List Entry)) (o : Finish). SameProgram (made g) o) (eqb at (length s)) (λ e. ended at bs d n t (eqb-true at (length s) e))
      (λ e. next l at bs d n (λ x r. read_all at_end (due_at (length rs)) k (bs ++ (x ∷ [])) r) t
      (λ at' x d' n' h t'. subst (λ (z : ℕ). SameProgram (made (read_all at_end (due_at (length rs)) k (bs ++ (x ∷ [])) (drop at' s))) (behaviours_of l s at' (length rs) z d' n')) (count_snoc bs x)
      (same_behaviours k l at' (bs ++ (x ∷ [])) d' n' t' (omega arith) (omega arith)))
      (due_at (length rs) bs (drop at s)) (behaviour_of (drop at s) (length rs) (cell_count bs) d n)
      (same_behaviour rs (cell_count bs) d n t.2.flat.few t.2.flat.long (λ h. t.2.flat.blanks (cell_count bs) (omega (arith, length_spread bs)) h) (drop at s) (omega (arith, length-drop at s)) bs refl)))

-- ---- where the events end: at the end, or before a field with another tag

-- what a field is by positions
by_field : {C : Type 0} (u : List ℕ) (lo hi : ℕ) → ((r : Refusal) → field_of u lo hi ≡ Err r → C) → (field_of u lo hi ≡ Ok (record { tag = get_or u 0 0; size = stated u }) → C) → C
unfolding field_of
by_field u lo hi r v =
    split (ltb (length u) 3) (λ e. r Torn (rw e))
    (λ e. split (ltb (get_or u 0 0) lo) (λ d. r WrongTag (rw (e, d)))
    (λ d. split (ltb hi (get_or u 0 0)) (λ c. r WrongTag (rw (e, d, c)))
    (λ c. split (ltb (length u - 3) (stated u)) (λ b. r Torn (rw (e, d, c, b))) (λ b. v (rw (e, d, c, b))))))

-- without a tag 01 at the front, it is the same where an event could stand and where none could
below : (t : ℕ) → t ≢ 1 → ltb t 1 ≡ ltb t 2
below t h = split (ltb t 2) (λ e. rw e (lt-ltb t 1 (omega (arith, ltb-true t 2 e)))) (λ e. rw e (le-ltb t 1 (omega (arith, ltb-false t 2 e))))

least_look : (u : List ℕ) → get_or u 0 0 ≢ 1 → ltb (get_or u 0 0) (least_of u 1) ≡ ltb (get_or u 0 0) (least_of u 2)
unfolding least_of
least_look u h =
    split (eqb (length u) 0) (λ e. rw e (below (get_or u 0 0) h))
    (λ e. split (eqb (get_or u 0 0) 6) (λ d. rw (e, d)) (λ d. rw (e, d) (below (get_or u 0 0) h)))

second_look : (u : List ℕ) → get_or u 0 0 ≢ 1 → field_of u (least_of u 1) (most_of u) ≡ field_of u (least_of u 2) (most_of u)
unfolding field_of
second_look u h = rw (least_look u h)

-- and with one, the tag is due
event_due : (u : List ℕ) → get_or u 0 0 ≡ 1 → eqb 1 (get_or u 0 0) ≡ between (least_of u 1) (most_of u) (get_or u 0 0)
unfolding least_of most_of
event_due u h = rw h (split (eqb (length u) 0) (λ e. rw e) (λ e. rw e))

module _ (s : List ℕ) (small : length s ≤ 8192) where
  -- the behaviours after them
  abbrev go_on : EventsOut → Finish
  go_on o = after_events o.0 o.1 (λ at e. behaviours_of (length s) s at e 0 o.1 0)

  broken_first : (b at e : ℕ) (d : List ℕ) (k : Refusal) → 0 < b → at < length s → field_of (drop at s) (least_of (drop at s) 2) (most_of (drop at s)) ≡ Err k
      → behaviours_of b s at e 0 d 0 ≡ finished (Err k) d
  unfolding behaviours_of behaviour_of
  broken_first zero at e d k z lt q = absurd (omega arith)
  broken_first (suc b) at e d k z lt q = rw (ne_eqb at (length s) (omega arith), rest_drop at s, q)

  looked : (at e : ℕ) (d : List ℕ) (more : List ℕ → ℕ → EventsOut) → at < length s → get_or (drop at s) 0 0 ≢ 1
      → (let o : EventRead = read_event (drop at s) e d in go_on (event_next o.0 o.1 at e (more o.1))) ≡ behaviours_of (length s) s at e 0 d 0
  unfolding read_event priority_at
  looked at e d more lt h =
      by_field (drop at s) (least_of (drop at s) 1) (most_of (drop at s))
      (λ k q. rw q (sym (broken_first (length s) at e d k (omega arith) lt (sym (second_look (drop at s) h) ∙ q))))
      (λ q. rw (q, ne_eqb (get_or (drop at s) 0 0) 1 h) refl)

  events_over : (l at e : ℕ) (d : List ℕ) → at ≤ length s → length s ≤ at + l → get_or (drop at s) 0 0 ≢ 1 → go_on (read_events l s at e d) ≡ behaviours_of (length s) s at e 0 d 0
  unfolding read_events
  events_over zero at e d a b h = rw (eq-eqb at (length s) (omega arith)) refl
  events_over (suc l) at e d a b h =
      split (eqb at (length s)) (λ c. rw c refl)
      (λ c. rw (c, rest_drop at s) (looked at e d (λ d' size. read_events l s (at + size) (e + 1) d') (omega (arith, eqb-false at (length s) c)) h))

  -- ---- events

  abbrev Early : ℕ → List Signal → List ℕ → Type 0
  Early at rs d = (at ≤ length s) × Sofar rs [] d 0

  -- the sheet with these events, and the behaviours after them
  abbrev whole : Got (List Signal) → Got Sheet
  whole g = then g (λ rs left. made s rs (read_all at_end (due_at (length rs)) (suc (length left)) [] left))

  module _ (k l at : ℕ) (rs : List Signal) (d : List ℕ) (t : Early at rs d)
      (ih : (at' : ℕ) (rs' : List Signal) (d' : List ℕ) → at < at' → Early at' rs' d' → SameProgram (whole (read_all no_event signal_in k rs' (drop at' s))) (go_on (read_events l s at' (length rs') d'))) where
    abbrev After : Got Signal → EventRead → Type 0
    After g o =
        SameProgram (whole (then g (λ r w. read_all no_event signal_in k (rs ++ (r ∷ [])) w)))
        (go_on (event_next o.0 o.1 at (length rs) (λ size. read_events l s (at + size) (length rs + 1) o.1)))

    -- the draft with event r after those of rs
    abbrev with : Signal → List ℕ
    with r = set (set d (4224 + length rs) r.priority) (sender (length rs)) (allowed r.sender)

    declared : (r : Signal) (z : ℕ) (u : List ℕ) → length rs < 32 → u ≡ drop z (drop at s) → 0 < z → at + z ≤ length s
        → SameProgram (whole (read_all no_event signal_in k (rs ++ (r ∷ [])) u)) (go_on (read_events l s (at + z) (length rs + 1) (with r)))
    declared r z u low e b h =
        let q : u ≡ drop (at + z) s = e ∙ drop-drop z at s in
        let p : length (rs ++ (r ∷ [])) ≡ length rs + 1 = length-append rs (r ∷ []) in
        rw (q, sym p) (ih (at + z) (rs ++ (r ∷ [])) (with r) (omega arith) (h, declare rs r d t.1 low))

    signal_value : (v u : List ℕ) (z : ℕ) → length v + 3 ≡ z → u ≡ drop z (drop at s) → z ≤ length (drop at s) → length rs < 32
        → After (filling (pick (eqb (length v) 0 || ltb 2 (length v)) (bad wrong_length)
        (pick (ltb 15 (get_or v 0 0)) (bad off_scale)
        (got (signal (get_or v 0 0) (pick (eqb (length v) 1) none (some (get_or v 1 0)))) []))) u) (signal_at v (length rs) d)
    unfolding signal_at
    signal_value v u z q e h low =
        let c : length (drop at s) ≡ length s - at = length-drop at s in
        by_either (λ (g : Got Signal) (o : EventRead). After (filling g u) o) (eqb (length v) 0) (ltb 2 (length v)) refl
        (λ a b. by_two (λ (g : Got Signal) (o : EventRead). After (filling g u) o) (ltb 15 (get_or v 0 0)) (λ y. refl)
        (λ y. split (eqb (length v) 1)
        (λ x. let p : z ≡ 4 = omega (arith, eqb-true (length v) 1 x) in
        rw x (declared (signal (get_or v 0 0) none) 4 u low (e ∙ rw p) (omega arith) (omega arith)))
        (λ x. let p : z ≡ 5 = omega (arith, ltb-false 2 (length v) b, eqb-false (length v) 0 a, eqb-false (length v) 1 x) in
        rw x (declared (signal (get_or v 0 0) (some (get_or v 1 0))) 5 u low (e ∙ rw p) (omega arith) (omega arith)))))

    event_here : get_or (drop at s) 0 0 ≡ 1 → After (signal_in rs (drop at s)) (read_event (drop at s) (length rs) d)
    unfolding read_event priority_at
    event_here y =
        same_field After (eqb 1) (least_of (drop at s) 1) (most_of (drop at s)) (drop at s) _ (λ f v. event_from f v (length rs) d) (event_due (drop at s) y) (λ j. refl)
        (λ fits due. rw (eq-eqb (get_or (drop at s) 0 0) 1 y)
        (by_two (λ (g : Got Signal) (o : EventRead). After (filling g (drop (span (drop at s)) (drop at s))) o) (leb 32 (length rs)) (λ c. refl)
        (λ c. signal_value (value_in (drop at s)) (drop (span (drop at s)) (drop at s)) (span (drop at s)) (value_length (drop at s) fits) refl fits (leb-false 32 (length rs) c))))

  -- no event follows
  none_left : (k l at : ℕ) (rs : List Signal) (d : List ℕ) → Early at rs d → length s ≤ at + l → no_event (drop at s) ≡ true
      → SameProgram (whole (read_all no_event signal_in (suc k) rs (drop at s))) (go_on (read_events l s at (length rs) d))
  unfolding read_all cell_count
  none_left k l at rs d t b y =
      rw (y, events_over l at (length rs) d t.0 b (λ q. absurd (false≢true (rw q at y))))
      (same_behaviours s rs (suc (length (drop at s))) (length s) at [] d 0 (t.0, omega arith, t.1) (omega (arith, length-drop at s)) (omega arith))

  some_left : (at : ℕ) → at ≤ length s → no_event (drop at s) ≡ false → (at < length s) × (get_or (drop at s) 0 0 ≡ 1)
  some_left at h y =
      let q : get_or (drop at s) 0 0 ≡ 1 = split (eqb (get_or (drop at s) 0 0) 1) (eqb-true (get_or (drop at s) 0 0) 1) (λ e. absurd (true≢false (rw e at y))) in
      (split (eqb at (length s)) (λ e. absurd (omega (arith, rw (drop_of_length-le s {i = at} (omega (arith, eqb-true at (length s) e))) at q))) (λ e. omega (arith, eqb-false at (length s) e)), q)

  -- one follows
  one_left : (k l at : ℕ) (rs : List Signal) (d : List ℕ) → Early at rs d → length s ≤ at + l → no_event (drop at s) ≡ false
      → ((l' at' : ℕ) (rs' : List Signal) (d' : List ℕ) → l ≡ suc l' → at < at' → Early at' rs' d' → SameProgram (whole (read_all no_event signal_in k rs' (drop at' s))) (go_on (read_events l' s at' (length rs') d')))
      → SameProgram (whole (read_all no_event signal_in (suc k) rs (drop at s))) (go_on (read_events l s at (length rs) d))
  unfolding read_all read_events
  one_left k zero at rs d t b y ih = absurd (omega (arith, (some_left at t.0 y).0))
  one_left k (suc l) at rs d t b y ih =
      let r = some_left at t.0 y in
      rw (y, ne_eqb at (length s) (omega (arith, r.0)), rest_drop at s) (event_here k l at rs d t (λ at' rs' d' h t'. ih l at' rs' d' refl h t') r.1)

  same_events : (k l at : ℕ) (rs : List Signal) (d : List ℕ) → Early at rs d → length s < at + k → length s ≤ at + l
      → SameProgram (whole (read_all no_event signal_in k rs (drop at s))) (go_on (read_events l s at (length rs) d))
  same_events zero l at rs d t a b = absurd (omega arith)
  same_events (suc k) l at rs d t a b =
      split (no_event (drop at s)) (none_left k l at rs d t b)
      (λ y. one_left k l at rs d t b y (λ l' at' rs' d' e h t'. same_events k l' at' rs' d' t' (omega arith) (omega arith)))

  -- ---- the whole

  pub same_program : (d : List ℕ) → length d ≡ draft_length → ((j : ℕ) → j < draft_length → get_or d j 0 ≡ 0) → SameProgram (read_sheet s) (read_on s d)
  unfolding read_sheet read_on
  same_program d long zeros = same_events (suc (length s)) (length s) 0 [] d (omega arith, nothing_yet d long zeros) (omega arith) (omega arith)
