-- Behaviours: both readers find the same fault, or the draft has the behaviour of the tree in its row, and is else as
-- it was. From the facts on an expression at the front of a value, on handlers and on the ending.
use Rattle.std.specs.Prelude.{Err, IsErrAnd}
use Rattle.std.proofs.lemmas.Result.{err_from_is_err_and}
use Rattle.spec_language.specs.Numbers.{refusal_number}
use Rattle.spec_language.specs.declared.refusals.Refusal.TheVariants.{WrongLength}
use Rattle.lib_base.proofs.Prelude.{ℕ, ◌≤◌, ◌<◌, ◌+◌, ◌-◌, suc, ◌*◌, ◌≡◌, refl, ◌∙◌, sym, ap, true, ◌||◌, ◌≢◌, Option}
use Rattle.lib_base.proofs.Prelude.{List, [], ◌∷◌, ◌++◌, append-nil, length, get_or, take, drop, length-set, set}
use Rattle.lib_base.proofs.Prelude.{length-drop, get_or-set_other, get_or-set_same, get_or-drop, sets, get_or-take, take-set-le}
use Rattle.lib_base.proofs.Prelude.{eqb, ltb, leb, eqb·suc-zero, ne_eqb, eqb-true, le-ltb, eq-eqb, ltb-false, eqb-false}
use Rattle.lib_base.proofs.Prelude.{ltb-true, lt-leb, leb-false, arith}
use native.Mathlib.Nat.{add-sub_cancel_left}
use Rattle.lib_base.specs.Basics.{pick}
use Rattle.lib_base.proofs.Tools.{split, by_test, by_two}
use Rattle.lib_word.specs.Word.{get_at}
use Rattle.spec_language.specs.Syntax.{Behaviour, passive, active}
use Rattle.spec_language.specs.Sheet.{Term, Clause, Item, formula, state, row, Signal, Entry, cells, cell_count, allowed, fill_clauses, fill_item}
use Rattle.spec_language.specs.Dependence.{handled}
use Rattle.spec_language.specs.Code.{size_of}
use Rattle.spec_language.specs.Refusals.{off_scale, crowded}
use Rattle.spec_language.specs.Reading.{Got, bad, got, then, sized, filling, byte_in, read_all, expr_at, handler_in, entry, ending_in, active_as, behaviour_in, due_at}
use Rattle.spec_grammar.proofs.Handlers.{stops}
use Rattle.spec_grammar.proofs.Behaviours.{behaviour_tag}
use Rattle.sheet_field.specs.Field.{stated}
use Rattle.front_field.specs.Expression.{done, Out, out, rest_from, go_on_after, expr_of}
use Rattle.draft_form.specs.Draft as draft
use Rattle.draft_form.specs.Draft.{draft_length, nodes, handler_nodes, behaviour_nodes, unfilled}
use Rattle.front_rows.specs.Cells.{least_of, most_of, cells_at, row_copied}
use Rattle.front_viewers.specs.Ending.{viewer, ending_of}
use Rattle.front_behaviours.specs.Handler.{slot, handlers_of}
use Rattle.front_behaviours.specs.Behaviour.{passive_of, active_body, active_from, active_of, cells_of, row_of, value_at, behaviour_from, behaviour_of}
use Rattle.front_correct.proofs.Fields.{value_in, span, by_either, between, one_tag, same_field, value_length, rest_drop}
use Rattle.front_correct.proofs.Expressions.{raw, SameExpr, same_expr}
use Rattle.front_correct.proofs.Entries.{StandsBy, stands_kept, SaysBy, says_kept, written_long, written_take, written_pool, written_there, written_same, written_other, Frame}
use Rattle.front_correct.proofs.Handlers.{cell, Turn, SameHandlers, same_handlers}
use Rattle.front_correct.proofs.Endings.{same_ending}

-- a behaviour as it stands in the draft, its parameters not filled in
abbrev pub raw_item : Item → Behaviour
raw_item b = fill_item unfilled b

-- the row of behaviour i, with its expressions among the first n nodes
abbrev pub RowIs : List ℕ → ℕ → ℕ → Behaviour → Type 0
RowIs d n i (passive x) = StandsBy d n 1 (get_or d (4096 + i) 0) x × (get_or d (4160 + i) 0 ≡ 0)
RowIs d n i (active w hs) = (get_or d (4096 + i) 0 ≡ 0) × (get_or d (4160 + i) 0 ≡ w) × ((e : ℕ) → SaysBy d n (cell d i e) (handled e hs))

-- nothing stands there yet
abbrev pub Blank : List ℕ → ℕ → Type 0
Blank d i = (get_or d (4096 + i) 0 ≡ 0) × (get_or d (4160 + i) 0 ≡ 0) × ((e : ℕ) → e < 32 → get_or d (slot i e) 0 ≡ 0)

-- the own part of behaviour b is put into the draft d of n nodes as the i-th: the draft d' of m nodes
abbrev pub Part : ℕ → List ℕ → ℕ → Behaviour → List ℕ → ℕ → Type 0
Part i d n b d' m = (length d' ≡ draft_length) × Frame i n d d' × (n ≤ m) × (take m d' ≡ take n d ++ behaviour_nodes b) × RowIs d' m i b

-- and then who may see it
abbrev pub Grown : ℕ → List ℕ → ℕ → Entry → List ℕ → ℕ → Type 0
Grown i d n x d' m =
    (i < 64) × (length d' ≡ draft_length) × Frame i n d d' × (n ≤ m) × (take m d' ≡ take n d ++ behaviour_nodes (raw_item x.item))
    × RowIs d' m i (raw_item x.item) × (get_or d' (viewer i) 0 ≡ allowed x.viewer)

module _ (i : ℕ) (d₁ : List ℕ) (m : ℕ) (low : i < 64) (room : m ≤ 2048) (w : ℕ) where
  abbrev seen : List ℕ
  seen = set d₁ (viewer i) w

  seen_other : (j : ℕ) → j ≢ viewer i → get_or seen j 0 ≡ get_or d₁ j 0
  seen_other j h = get_or-set_other d₁ (viewer i) j w 0 h

  seen_take : take m seen ≡ take m d₁
  seen_take = take-set-le m d₁ (viewer i) w (omega arith)

  seen_cell : (e : ℕ) → cell seen i e ≡ cell d₁ i e
  seen_cell e = split (ltb e 32) (λ c. rw c (seen_other (slot i e) (omega (arith, ltb-true e 32 c)))) (λ c. rw c refl)

  seen_row : (b : Behaviour) → RowIs d₁ m i b → RowIs seen m i b
  seen_row (passive x) h = (
    rw (seen_other (4096 + i) (omega arith)) (stands_kept d₁ seen m m 1 (get_or d₁ (4096 + i) 0) x (omega arith) seen_take h.0),
    seen_other (4160 + i) (omega arith) ∙ h.1,
  )
  seen_row (active y hs) h = (
    seen_other (4096 + i) (omega arith) ∙ h.0,
    seen_other (4160 + i) (omega arith) ∙ h.1,
    λ e. rw (seen_cell e) (says_kept d₁ seen m m (cell d₁ i e) (handled e hs) (omega arith) seen_take (h.2 e)),
  )

part_ended : (i n : ℕ) (d d₁ : List ℕ) (m : ℕ) (x : Item) → i < 64 → m ≤ 2048 → Part i d n (raw_item x) d₁ m
    → (w : Option ℕ) → Grown i d n (entry x w) (set d₁ (viewer i) (allowed w)) m
part_ended i n d d₁ m x low room p w = (
  low,
  length-set d₁ (viewer i) (allowed w) ∙ p.0,
  (
    take-set-le n d₁ (viewer i) (allowed w) (omega arith) ∙ p.1.0,
    λ j a b c e f. get_or-set_other d₁ (viewer i) j (allowed w) 0 f ∙ p.1.1 j a b c e f,
  ),
  p.2,
  seen_take i d₁ m low room (allowed w) ∙ p.3,
  seen_row i d₁ m low room (allowed w) (raw_item x) p.4,
  get_or-set_same d₁ (viewer i) (allowed w) 0 (omega arith),
)

-- a behaviour or a row is put into the draft, the first of its cells as the i-th: a row is an active, and its copies
-- (02, M-110)
abbrev pub GrownBy : ℕ → List ℕ → ℕ → Item → Option ℕ → List ℕ → ℕ → Type 0
GrownBy i d n (formula x) w d' m = Grown i d n (entry (formula x) w) d' m
GrownBy i d n (state y hs) w d' m = Grown i d n (entry (state y hs) w) d' m
GrownBy i d n (row c y hs) w d' m = (1 ≤ c) × (i + c ≤ 64) × (d₁ : List ℕ) × Grown i d n (entry (state y hs) w) d₁ m × (d' ≡ row_copied d₁ i c)

-- what both readers say of behaviour i, a field of `size` bytes at the front of s that makes `count` behaviours
abbrev pub SameBehaviour : ℕ → ℕ → List ℕ → ℕ → List ℕ → ℕ → Got Entry → Out → Type 0
SameBehaviour i count s size d n (bad k) o = IsErrAnd o.0 (λ r. refusal_number r ≡ k)
SameBehaviour i count s size d n (got b r) o =
    (r ≡ drop size s) × (size ≤ length s) × (m : ℕ) × (o.0 ≡ done size m) × (m * 4 ≤ n * 4 + size) × GrownBy i d n b.item b.viewer o.1 m × (count ≡ cells b.item)

module _ (events i : ℕ) (d : List ℕ) (n : ℕ) (few : events ≤ 32) (low : i < 64) (long : length d ≡ draft_length) (blank : Blank d i)
    (s : List ℕ) (size : ℕ) (small : n * 4 + size ≤ 8192) (r : List ℕ) (after : r ≡ drop size s) (fits : size ≤ length s) (count : ℕ) where
  abbrev Same : Got Entry → Out → Type 0
  Same = SameBehaviour i count s size d n

  abbrev Filled : Got Entry → Out → Type 0
  Filled g o = Same (filling g r) o

  module _ (v : List ℕ) (full : length v + 3 ≡ size) (one : count ≡ 1) where
    -- ---- a passive

    part_passive : (x : Term) → size_of (raw x) * 4 ≤ length v
        → Part i d n (passive (raw x)) (set (sets d n (nodes (raw x))) (4096 + i) (draft.packed_entry 1 n (size_of (raw x)))) (n + size_of (raw x))
    part_passive x h =
        let room : n + size_of (raw x) ≤ 2048 = omega arith in
        let lo : 2048 ≤ 4096 + i = omega arith in
        let hi : 4096 + i < draft_length = omega arith in (
          written_long d n (raw x) (4096 + i) (draft.packed_entry 1 n (size_of (raw x))) long room lo hi,
          (
            written_take d n (raw x) (4096 + i) (draft.packed_entry 1 n (size_of (raw x))) long room lo hi,
            λ j a _ b _ _. written_other d n (raw x) (4096 + i) (draft.packed_entry 1 n (size_of (raw x))) long room lo hi j a b,
          ),
          omega arith,
          written_pool d n (raw x) (4096 + i) (draft.packed_entry 1 n (size_of (raw x))) long room lo hi,
          (
            (
              n,
              written_same d n (raw x) (4096 + i) (draft.packed_entry 1 n (size_of (raw x))) long room lo hi,
              omega arith,
              written_there d n (raw x) (4096 + i) (draft.packed_entry 1 n (size_of (raw x))) long room lo hi,
            ),
            written_other d n (raw x) (4096 + i) (draft.packed_entry 1 n (size_of (raw x))) long room lo hi (4160 + i) (omega arith) (omega arith) ∙ blank.1,
          ),
        )

    passive_on_law : (g : Got Term) (o : Out) → SameExpr v (span v) d n g o
        → Same (filling (then g (λ x left. ending_in (formula x) left)) r)
        (go_on_after o.0 o.1 (λ z m. ending_of (rest_from z v) i (set o.1 (4096 + i) (draft.packed_entry 1 n (m - n))) (length v + 3) m))
    passive_on_law (bad k) o e = let p = err_from_is_err_and o.0 e in rw p.1 p.2
    passive_on_law (got x l) o h =
        rw (h.3, h.0, add-sub_cancel_left n (size_of (raw x)), rest_drop (span v) v)
        (same_ending Same (formula x) r i (set (sets d n (nodes (raw x))) (4096 + i) (draft.packed_entry 1 n (size_of (raw x)))) (length v + 3) (n + size_of (raw x)) (λ k o e. e)
        (λ w. (
          after,
          fits,
          n + size_of (raw x),
          rw full,
          omega arith,
          part_ended i n d (set (sets d n (nodes (raw x))) (4096 + i) (draft.packed_entry 1 n (size_of (raw x)))) (n + size_of (raw x)) (formula x) low (omega arith) (part_passive x (omega arith)) w,
          one,
        ))
        (drop (span v) v))

    passive_value : Same (filling (then (expr_at 16 v) (λ x left. ending_in (formula x) left)) r) (passive_of v i d n)
    unfolding passive_of
    passive_value = passive_on_law (expr_at 16 v) (expr_of 16 v d n) (same_expr 16 v d n)

  -- ---- an active, and what begins like one: P holds of what `make` makes of its start and handlers

  module _ (make : ℕ → List Clause → Item) (P : Got Entry → Out → Type 0) (v : List ℕ) (room : n * 4 + length v + 3 ≤ 8192) (bads : (k : ℕ) (o : Out) → IsErrAnd o.0 (λ r. refusal_number r ≡ k) → P (bad k) o)
      (gots : (w : ℕ) (hs : List Clause) (x : Option ℕ) (d₁ : List ℕ) (m : ℕ) → m * 4 ≤ n * 4 + length v → Part i d n (active w (fill_clauses unfilled hs)) d₁ m
      → P (got (entry (make w hs) x) r) (out (done (length v + 3) m) (set d₁ (viewer i) (allowed x)))) where
    no_handlers : (w : ℕ) → Turn i w d n [] (set d (4160 + i) w) n
    unfolding handler_nodes handled fill_clauses
    no_handlers w = record {
      long = length-set d (4160 + i) w ∙ long;
      frame = (take-set-le n d (4160 + i) w (omega arith), λ j _ _ _ h _. get_or-set_other d (4160 + i) j w 0 h);
      grown = omega arith;
      pool = take-set-le n d (4160 + i) w (omega arith) ∙ sym (append-nil (take n d));
      body = get_or-set_other d (4160 + i) (4096 + i) w 0 (omega arith) ∙ blank.0;
      start = get_or-set_same d (4160 + i) w 0 (omega arith);
      rows = λ e. by_test (λ (z : ℕ). z ≡ 0) (ltb e 32)
          (λ c. get_or-set_other d (4160 + i) (slot i e) w 0 (omega (arith, ltb-true e 32 c)) ∙ blank.2 e (ltb-true e 32 c)) (λ c. refl);
    }

    active_end : (w : ℕ) (g : Got (List Clause)) (o : Out) → SameHandlers i w d n v (n * 4 + length v) g o
        → P (filling (then g (λ hs over. ending_in (make w hs) over)) r) (go_on_after o.0 o.1 (λ at m. ending_of (rest_from at v) i o.1 (length v + 3) m))
    active_end w (bad k) o e = let p = err_from_is_err_and o.0 e in rw p.1 (bads k (out (Err p.0) o.1) p.2)
    active_end w (got hs over) o h =
        let t = h.5 in
        rw (h.3, h.1, rest_drop h.0 v)
        (same_ending P (make w hs) r i o.1 (length v + 3) h.2 bads
        (λ x. gots w hs x o.1 h.2 h.4 (t.long, t.frame, t.grown, t.pool, (t.body, t.start, t.rows))) (drop h.0 v))

    active_on : (w : ℕ) (left : List ℕ) → left ≡ drop 7 v → 7 ≤ length v
        → P (filling (then (read_all stops (handler_in events) (suc (length left)) [] left) (λ hs over. ending_in (make w hs) over)) r) (active_body v events i (set d (4160 + i) w) n)
    unfolding active_body
    active_on w left e h =
        let q : length (drop 7 v) ≡ length v - 7 = length-drop 7 v in
        rw e
        (active_end w (read_all stops (handler_in events) (suc (length (drop 7 v))) [] (drop 7 v)) (handlers_of (length v) v 7 events i (set d (4160 + i) w) n)
        (same_handlers events i w d n v (n * 4 + length v) few low (omega arith) (suc (length (drop 7 v))) (length v) 7 [] (set d (4160 + i) w) n
        (h, omega arith, no_handlers w) (omega arith) (omega arith)))

    -- with the start and what follows it
    abbrev Started : Got ℕ → Out → Type 0
    Started g o = P (filling (then g (λ w left. then (read_all stops (handler_in events) (suc (length left)) [] left) (λ hs over. ending_in (make w hs) over))) r) o

    start_value : (u left : List ℕ) (z : ℕ) → length u ≡ z → left ≡ drop (z + 3) v → z + 3 ≤ length v
        → Started (filling (sized 4 u (got (get_at u 0) [])) left) (pick (eqb z 4) (active_body v events i (set d (4160 + i) (get_at u 0)) n) (out (Err WrongLength) d))
    start_value u left z q e h =
        rw q
        (by_two (λ (g : Got ℕ) (o : Out). Started (filling g left) o) (eqb z 4)
        (λ c. let p : z + 3 ≡ 7 = omega (arith, eqb-true z 4 c) in active_on (get_at u 0) left (e ∙ rw p) (omega arith))
        (λ c. bads 6 (out (Err WrongLength) d) refl))

    active_value : P (filling (active_as make events v) r) (active_of v events i d n)
    unfolding active_of
    active_value =
        same_field Started (eqb 4) 4 4 v (λ t w. sized 4 w (got (get_at w 0) [])) (λ f w. active_from f w v events i d n) (one_tag 4 (get_or v 0 0)) (λ r. bads (refusal_number r) (out (Err r) d) refl)
        (λ fits due. start_value (value_in v) (drop (span v) v) (stated v) (omega (arith, value_length v fits)) refl fits)

  module _ (v : List ℕ) (full : length v + 3 ≡ size) where
    active_same : count ≡ 1 → Same (filling (active_as state events v) r) (active_of v events i d n)
    active_same one =
        active_value state Same v (omega arith) (λ k o e. e)
        (λ w hs x d₁ m h p. (after, fits, m, rw full, omega arith, part_ended i n d d₁ m (state w hs) low (omega arith) p x, one))

  -- ---- a row

  module _ (c : ℕ) (v : List ℕ) (full : length v + 4 ≡ size) (is : count ≡ c) (some : 1 ≤ c) (within : i + c ≤ 64) where
    abbrev SameCells : Got Entry → Out → Type 0
    SameCells g o = Same g (go_on_after o.0 o.1 (λ z m. out (done (z + 1) m) (row_copied o.1 i c)))

    cells_same : Same (filling (active_as (row c) events v) r) (cells_of v c events i d n)
    unfolding cells_of
    cells_same =
        active_value (row c) SameCells v (omega arith) (λ k o e. let p = err_from_is_err_and o.0 e in rw p.1 p.2)
        (λ w hs x d₁ m h p.
        let q : length v + 3 + 1 ≡ size = omega arith in
        (after, fits, m, rw q, omega arith, (some, within, set d₁ (viewer i) (allowed x), part_ended i n d d₁ m (state w hs) low (omega arith) p x, refl), is))

  row_same : (v : List ℕ) → length v + 3 ≡ size → ((c : ℕ) (u : List ℕ) → v ≡ c ∷ u → count ≡ c)
      → Filled (byte_in v (λ c w. pick (ltb c 2 || ltb 16 c) (bad off_scale) (pick (ltb 64 (i + c)) (bad crowded) (active_as (row c) events w)))) (row_of v events i d n)
  unfolding row_of
  row_same [] full is = refl
  row_same (c ∷ v) full is =
      rw (eqb·suc-zero (length v))
      (by_either Filled (ltb c 2) (ltb 16 c) refl
      (λ e a. by_two Filled (ltb 64 (i + c)) (λ b. refl)
      (λ b. rw (rest_drop 1 (c ∷ v)) (cells_same c v (omega arith) (is c v refl) (omega (arith, ltb-false c 2 e)) (ltb-false 64 (i + c) b)))))

  -- ---- either

  pub value_same : (t : ℕ) (v : List ℕ) → length v + 3 ≡ size → (t ≢ 6 → count ≡ 1) → (t ≡ 6 → (c : ℕ) (u : List ℕ) → v ≡ c ∷ u → count ≡ c)
      → Filled (behaviour_in events i t v) (value_at t v events i d n)
  unfolding value_at
  value_same t v full one is =
      rw (lt-leb 64 i low)
      (by_two Filled (eqb t 2) (λ e. passive_value v full (one (λ z. omega (arith, eqb-true t 2 e))))
      (λ e. by_two Filled (eqb t 6) (λ b. row_same v full (is (eqb-true t 6 b))) (λ b. active_same v full (one (eqb-false t 6 b)))))

-- ---- behaviour i at the front of s

-- the tags due, and how many behaviours the field makes, as both readers find them
tags_due : (s : List ℕ) → behaviour_tag (get_or s 0 0) ≡ between (least_of s 2) (most_of s) (get_or s 0 0)
unfolding least_of most_of
tags_due [] = refl
tags_due (t ∷ s) =
    rw (eqb·suc-zero (length s))
    (split (eqb t 6) (λ e. let q : t ≡ 6 = eqb-true t 6 e in rw q)
    (λ e. rw e
    (split (ltb t 2) (λ a. rw (a, ne_eqb t 2 (omega (arith, ltb-true t 2 a)), ne_eqb t 3 (omega (arith, ltb-true t 2 a))))
    (λ a. split (ltb 3 t) (λ b. rw (a, b, ne_eqb t 2 (omega (arith, ltb-true 3 t b)), ne_eqb t 3 (omega (arith, ltb-true 3 t b))))
    (λ b. split (eqb t 2) (λ c. rw (a, b, c)) (λ c. rw (a, b, c, eq-eqb t 3 (omega (arith, ltb-false t 2 a, ltb-false 3 t b, eqb-false t 2 c)))))))))

cells_one : (s : List ℕ) → get_or s 0 0 ≢ 6 → cells_at s ≡ 1
unfolding cells_at
cells_one s h = rw (ne_eqb (get_or s 0 0) 6 h) (by_test (λ (z : ℕ). z ≡ 1) (ltb (length s) 4) (λ e. refl) (λ e. refl))

cells_many : (s : List ℕ) → span s ≤ length s → get_or s 0 0 ≡ 6 → (c : ℕ) (u : List ℕ) → value_in s ≡ c ∷ u → cells_at s ≡ c
unfolding cells_at
cells_many s fits h c u e =
    let l : length (value_in s) ≡ length (c ∷ u) = ap (λ (v : List ℕ). length v) e in
    let big : 4 ≤ length s = omega (arith, value_length s fits) in
    let k : c ≡ get_or s 3 0 = sym (ap (λ (v : List ℕ). get_or v 0 0) e) ∙ get_or-take (stated s) (drop 3 s) 0 0 (omega (arith, value_length s fits)) ∙ get_or-drop 3 s 0 0 in
    rw (le-ltb (length s) 4 big, eq-eqb (get_or s 0 0) 6 h) (sym k)

module _ (rs : List Signal) (i : ℕ) (d : List ℕ) (n : ℕ) (few : length rs ≤ 32) (long : length d ≡ draft_length) (blank : i < 64 → Blank d i)
    (s : List ℕ) (small : n * 4 + length s ≤ 8192) where
  no_room : (t : ℕ) (v : List ℕ) → leb 64 i ≡ true → IsErrAnd (value_at t v (length rs) i d n).0 (λ r. refusal_number r ≡ 7)
  unfolding value_at
  no_room t v e = rw e refl

  abbrev SameHere : Got Entry → Out → Type 0
  SameHere = SameBehaviour i (cells_at s) s (span s) d n

  -- a field with tag t, whatever tags were due
  tagged : (t : ℕ) (r : List ℕ) → i < 64 → r ≡ drop (span s) s → span s ≤ length s → t ≡ get_or s 0 0
      → SameHere (filling (behaviour_in (length rs) i t (value_in s)) r) (value_at t (value_in s) (length rs) i d n)
  tagged t r low after fits q =
      value_same (length rs) i d n few low long (blank low) s (span s) (omega arith) r after fits (cells_at s) t (value_in s) (value_length s fits)
      (λ z. cells_one s (λ y. z (q ∙ y))) (λ z. cells_many s fits (sym q ∙ z))

  pub same_behaviour : (bs : List Entry) → cell_count bs ≡ i → SameHere (due_at (length rs) bs s) (behaviour_of s (length rs) i d n)
  unfolding behaviour_of
  same_behaviour bs q =
      same_field SameHere behaviour_tag (least_of s 2) (most_of s) s _ (λ f v. behaviour_from f v (length rs) i d n) (tags_due s) (λ k. refl)
      (λ fits due. rw q
      (by_test (λ (g : Got Entry). SameHere (filling g (drop (span s) s)) (value_at (get_or s 0 0) (value_in s) (length rs) i d n)) (leb 64 i)
      (λ e. no_room (get_or s 0 0) (value_in s) e)
      (λ e. tagged (get_or s 0 0) (drop (span s) s) (leb-false 64 i e) refl fits refl)))
