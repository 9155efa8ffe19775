-- What the draft holds while a sheet is read, how a behaviour and an event add to it, and that at the end it is the
-- sheet's draft, its parameters not filled in. A behaviour's row is written once, and what is written later goes to
-- other rows and to nodes after its own.
use Rattle.lib_base.proofs.Prelude.{ℕ, ◌≤◌, ◌<◌, ◌+◌, ◌-◌, suc, zero, ◌*◌, ◌≡◌, refl, ◌∙◌, sym, ap, subst, ◌≢◌, Option}
use Rattle.lib_base.proofs.Prelude.{List, [], ◌∷◌, ◌++◌, map, append_assoc, append-nil, flat_map, length, get_or, take}
use Rattle.lib_base.proofs.Prelude.{length-set, set, length-append, List·getD-eq-default, List·getD-append}
use Rattle.lib_base.proofs.Prelude.{get_or-set_other, get_or-set_same, take-set-le, eqb, ltb, ne_eqb, eqb-true, eq-eqb}
use Rattle.lib_base.proofs.Prelude.{eqb-false, ltb-true, arith}
use lib.Seq.{get_or-append_seam}
use Rattle.lib_base.specs.Basics.{All}
use Rattle.lib_base.proofs.Tools.{split, all_at}
use Rattle.spec_language.specs.Syntax.{Expr, Phase, immediate, later, Behaviour, passive, active}
use Rattle.spec_language.specs.Dependence.{Response, follows, takes, defers, keeps, in_phase, handled, respond}
use Rattle.spec_language.specs.Order.{up_to}
use Rattle.spec_language.specs.Grammar.{TermFits, ClausesFit, ItemFits, EntryFits}
use Rattle.spec_language.specs.Code.{size_of}
use Rattle.spec_language.proofs.Laws.{handled_here, handled_there, length_up_to}
use Rattle.spec_language.proofs.RowLaws.{length_out}
use Rattle.spec_language.specs.Sheet.{Term, Clause, clause, Item, formula, state, row, Signal, Entry, cell_count, rename_term, rename_clauses, entries_out, priorities_of, allowed, senders_of, viewers_of, change_clauses}
use Rattle.spec_language.specs.Sheet.{fill_term, fill_clauses, fill_entries, fill}
use Rattle.spec_language.proofs.SheetLaws.{blank, length_priorities, length_fill, fill_at_law}
use Rattle.spec_language.specs.Reading.{entry, sheet}
use Rattle.draft_form.proofs.DraftLaws.{take_used}
use Rattle.draft_form.specs.Draft.{draft_length, behaviour_nodes, program_nodes, entry_of, place_of, moved, used_by, Stands, EntrySays, EntryIn, StartIs, Drafted, unfilled}
use Rattle.front_rows.specs.Cells.{cell_copied, cells_copied, row_copied}
use Rattle.front_rows.proofs.CellLaws.{cell_long, cell_take, cell_other, cell_entry, cell_start, cell_viewer, cell_place}
use Rattle.front_viewers.specs.Ending.{viewer}
use Rattle.front_behaviours.specs.Handler.{slot}
use Rattle.front_sheet.specs.Whole.{sender}
use Rattle.front_correct.proofs.Entries.{StandsBy, stands_kept, stands_some, SaysBy, says_kept}
use Rattle.front_correct.proofs.Handlers.{cell}
use Rattle.front_correct.proofs.Behaviours.{raw_item, RowIs, Blank, Grown, GrownBy}
use Rattle.front_correct.proofs.Spread.{spread_entry, spread, places_in, places, length_spread, spread_snoc, places_snoc, spread_fits, mover, move_item, rename_size, out_at, viewers_out, term_moved}

-- the cells cs, each at its place in a row
pub record Flat (rs : List Signal) (cs : List Entry) (ps : List ℕ) (d : List ℕ) (n : ℕ) : Type 0 where
  pub few : length rs ≤ 32
  pub long : length d ≡ draft_length
  pub rows : (i : ℕ) → i < length cs → RowIs d n i (raw_item (get_or cs i blank).item)
  pub blanks : (i : ℕ) → length cs ≤ i → i < 64 → Blank d i
  pub priorities : (e : ℕ) → e < length rs → get_or d (4224 + e) 0 ≡ get_or (priorities_of rs) e 0
  pub viewers : (i : ℕ) → i < length cs → get_or d (viewer i) 0 ≡ get_or (viewers_of cs) i 0
  pub senders : (e : ℕ) → e < length rs → get_or d (sender e) 0 ≡ get_or (senders_of rs) e 0
  pub placed : (i : ℕ) → i < 64 → place_of d i ≡ get_or ps i 0
  pub counted : length ps ≡ length cs

-- the entries bs, whose nodes stand in the order in which they are sent, a row's once
pub record Sofar (rs : List Signal) (bs : List Entry) (d : List ℕ) (n : ℕ) : Type 0 where
  pub flat : Flat rs (spread bs) (places bs) d n
  pub pool : take n d ≡ program_nodes (fill_entries unfilled bs)

-- ---- a list with one more at its end, mapped

module _ {A : Type 0} (f : A → ℕ) where
  snoc_new : (l : List A) (x : A) → get_or (map f (l ++ (x ∷ []))) (length l) 0 ≡ f x
  snoc_new [] x = refl
  snoc_new (y ∷ l) x = snoc_new l x

  snoc_old : (l : List A) (x : A) (e : ℕ) → e < length l → get_or (map f (l ++ (x ∷ []))) e 0 ≡ get_or (map f l) e 0
  snoc_old [] x e h = absurd (omega arith)
  snoc_old (y ∷ l) x zero h = refl
  snoc_old (y ∷ l) x (suc e) h = snoc_old l x e (omega arith)

  -- the new one stands at its place in d, and the old ones at theirs
  snoc_at : (l : List A) (x : A) (d : List ℕ) (place : ℕ) → get_or d (place + length l) 0 ≡ f x
      → ((e : ℕ) → e < length l → get_or d (place + e) 0 ≡ get_or (map f l) e 0)
      → (e : ℕ) → e < length (l ++ (x ∷ [])) → get_or d (place + e) 0 ≡ get_or (map f (l ++ (x ∷ []))) e 0
  snoc_at l x d place a b e h =
      split (eqb e (length l))
      (λ c. let q : e ≡ length l = eqb-true e (length l) c in rw (q, snoc_new l x) a)
      (λ c.
      let q : e < length l = omega (arith, eqb-false e (length l) c, length-append l (x ∷ [])) in
      rw (snoc_old l x e q) (b e q))

snoc_else : (l : List ℕ) (a i : ℕ) → i ≢ length l → get_or (l ++ (a ∷ [])) i 0 ≡ get_or l i 0
snoc_else [] a zero q = absurd (q refl)
snoc_else [] a (suc i) q = refl
snoc_else (y ∷ l) a zero q = refl
snoc_else (y ∷ l) a (suc i) q = snoc_else l a i (λ e. q (ap suc e))

-- ---- a cell more

-- only the first n nodes, and words that are not of behaviour i, are sure to be as they were; its place in a row aside
abbrev Near : ℕ → ℕ → List ℕ → List ℕ → Type 0
Near i n d d' =
    (take n d' ≡ take n d)
    × ((j : ℕ) → 2048 ≤ j → j < 4352 → ((e : ℕ) → e < 32 → j ≢ slot i e) → j ≢ 4096 + i → j ≢ 4160 + i → j ≢ 4256 + i → get_or d' j 0 ≡ get_or d j 0)

-- a behaviour whose words are as they were
module _ (n m : ℕ) (d d' : List ℕ) (le : n ≤ m) (top : take n d' ≡ take n d) (j : ℕ) (body_kept : get_or d' (4096 + j) 0 ≡ get_or d (4096 + j) 0)
    (start_kept : get_or d' (4160 + j) 0 ≡ get_or d (4160 + j) 0) (Slot_kept : (e : ℕ) → e < 32 → get_or d' (slot j e) 0 ≡ get_or d (slot j e) 0) where
  cell_kept : (e : ℕ) → cell d' j e ≡ cell d j e
  cell_kept e = split (ltb e 32) (λ c. rw c (Slot_kept e (ltb-true e 32 c))) (λ c. rw c refl)

  row_kept : (b : Behaviour) → RowIs d n j b → RowIs d' m j b
  row_kept (passive x) h = (rw body_kept (stands_kept d d' n m 1 (get_or d (4096 + j) 0) x le top h.0), start_kept ∙ h.1)
  row_kept (active w hs) h = (
    body_kept ∙ h.0,
    start_kept ∙ h.1,
    λ e. rw (cell_kept e) (says_kept d d' n m (cell d j e) (handled e hs) le top (h.2 e)),
  )

  blank_kept : Blank d j → Blank d' j
  blank_kept h = (body_kept ∙ h.0, start_kept ∙ h.1, λ e k. Slot_kept e k ∙ h.2 e k)

-- each other behaviour's are
module _ (i n m : ℕ) (d d' : List ℕ) (f : Near i n d d') (low : i < 64) (le : n ≤ m) (j : ℕ) (low' : j < 64) (apart : j ≢ i) where
  body_near : get_or d' (4096 + j) 0 ≡ get_or d (4096 + j) 0
  body_near = f.1 (4096 + j) (omega arith) (omega arith) (λ e h. omega arith) (omega arith) (omega arith) (omega arith)

  start_near : get_or d' (4160 + j) 0 ≡ get_or d (4160 + j) 0
  start_near = f.1 (4160 + j) (omega arith) (omega arith) (λ e h. omega arith) (omega arith) (omega arith) (omega arith)

  viewer_near : get_or d' (viewer j) 0 ≡ get_or d (viewer j) 0
  viewer_near = f.1 (viewer j) (omega arith) (omega arith) (λ e h. omega arith) (omega arith) (omega arith) (omega arith)

  slot_near : (e : ℕ) → e < 32 → get_or d' (slot j e) 0 ≡ get_or d (slot j e) 0
  slot_near e h = f.1 (slot j e) (omega arith) (omega arith) (λ g k. omega arith) (omega arith) (omega arith) (omega arith)

  row_near : (b : Behaviour) → RowIs d n j b → RowIs d' m j b
  row_near b h = row_kept n m d d' le f.0 j body_near start_near slot_near b h

  blank_near : Blank d j → Blank d' j
  blank_near h = blank_kept n m d d' le f.0 j body_near start_near slot_near h

-- x becomes the next cell, at place a
module _ (rs : List Signal) (cs : List Entry) (ps : List ℕ) (x : Entry) (a : ℕ) (d d' : List ℕ) (n m : ℕ) (s : Flat rs cs ps d n) (low : length cs < 64)
    (long : length d' ≡ draft_length) (f : Near (length cs) n d d') (le : n ≤ m) (here : RowIs d' m (length cs) (raw_item x.item))
    (seen : get_or d' (viewer (length cs)) 0 ≡ allowed x.viewer) (at : place_of d' (length cs) ≡ a) (others : (i : ℕ) → i < 64 → i ≢ length cs → place_of d' i ≡ place_of d i) where
  rows_more : (i : ℕ) → i < length (cs ++ (x ∷ [])) → RowIs d' m i (raw_item (get_or (cs ++ (x ∷ [])) i blank).item)
  rows_more i h =
      split (eqb i (length cs))
      (λ c.
      let q : i ≡ length cs = eqb-true i (length cs) c in
      rw (q, get_or-append_seam cs x [] blank) here)
      (λ c.
      let q : i < length cs = omega (arith, eqb-false i (length cs) c, length-append cs (x ∷ [])) in
      rw (List·getD-append cs (x ∷ []) blank i q)
      (row_near (length cs) n m d d' f low le i (omega arith) (omega arith) (raw_item (get_or cs i blank).item) (s.rows i q)))

  placed_more : (i : ℕ) → i < 64 → place_of d' i ≡ get_or (ps ++ (a ∷ [])) i 0
  placed_more i h =
      let l : length ps ≡ length cs = s.counted in
      split (eqb i (length cs))
      (λ c.
      let q : i ≡ length ps = eqb-true i (length cs) c ∙ sym l in
      let r : length ps ≡ length cs = l in
      rw (q, get_or-append_seam ps a [] 0) (rw r at))
      (λ c.
      let q : i ≢ length cs = eqb-false i (length cs) c in
      others i h q ∙ s.placed i h ∙ sym (snoc_else ps a i (omega arith)))

  more : Flat rs (cs ++ (x ∷ [])) (ps ++ (a ∷ [])) d' m
  more = record {
    few = s.few;
    long = long;
    rows = rows_more;
    blanks = λ i h b. blank_near (length cs) n m d d' f low le i b (omega (arith, length-append cs (x ∷ []))) (s.blanks i (omega (arith, length-append cs (x ∷ []))) b);
    priorities = λ e h.
        let few : length rs ≤ 32 = s.few in
        f.1 (4224 + e) (omega arith) (omega arith) (λ g k. omega arith) (omega arith) (omega arith) (omega arith) ∙ s.priorities e h;
    viewers = snoc_at (λ (x : Entry). allowed x.viewer) cs x d' 4256 seen
        (λ i h. viewer_near (length cs) n m d d' f low le i (omega arith) (omega arith) ∙ s.viewers i h);
    senders = λ e h.
        let few : length rs ≤ 32 = s.few in
        f.1 (sender e) (omega arith) (omega arith) (λ g k. omega arith) (omega arith) (omega arith) (omega arith) ∙ s.senders e h;
    placed = placed_more;
    counted = omega (arith, length-append ps (a ∷ []), length-append cs (x ∷ []), s.counted);
  }

-- what is read as one behaviour
module _ (rs : List Signal) (cs : List Entry) (ps : List ℕ) (x : Entry) (d d' : List ℕ) (n m : ℕ) (s : Flat rs cs ps d n) (g : Grown (length cs) d n x d' m) where
  place_framed : (i : ℕ) → i < 64 → place_of d' i ≡ place_of d i
  place_framed i h = let low : length cs < 64 = g.0 in g.2.1 (4352 + i) (omega arith) (λ e k. omega arith) (omega arith) (omega arith) (omega arith)

  past_end : (l : List ℕ) (i : ℕ) → length l ≤ i → get_or l i 0 ≡ 0
  past_end l i h = List·getD-eq-default l 0 h

  place_zero : place_of d' (length cs) ≡ 0
  place_zero = place_framed (length cs) g.0 ∙ s.placed (length cs) g.0 ∙ past_end ps (length cs) (omega (arith, s.counted))

  near : Near (length cs) n d d'
  near = (g.2.0, λ j a b c e h k. g.2.1 j a c e h k)

  single : Flat rs (cs ++ (x ∷ [])) (ps ++ (0 ∷ [])) d' m
  single = more rs cs ps x 0 d d' n m s g.0 g.1 near g.3 g.5 g.6 place_zero (λ i h q. place_framed i h)

  -- the same as the first cell of a row, with its place
  module _ (c : ℕ) where
    abbrev first : List ℕ
    first = set d' (4352 + length cs) (c * 16)

    first_other : (j : ℕ) → j ≢ 4352 + length cs → get_or first j 0 ≡ get_or d' j 0
    first_other j h = get_or-set_other d' (4352 + length cs) j (c * 16) 0 h

    headed : m ≤ 2048 → Flat rs (cs ++ (x ∷ [])) (ps ++ ((c * 16) ∷ [])) first m
    headed room =
        let low : length cs < 64 = g.0 in
        more rs cs ps x (c * 16) d first n m s low (length-set d' (4352 + length cs) (c * 16) ∙ g.1) (
          take-set-le n d' (4352 + length cs) (c * 16) (omega (arith, g.3)) ∙ near.0,
          λ j a b e h k l. first_other j (omega arith) ∙ near.1 j a b e h k l,
        )
        g.3
        (row_kept m m d' first (omega arith) (take-set-le m d' (4352 + length cs) (c * 16) (omega arith)) (length cs) (first_other (4096 + length cs) (omega arith))
        (first_other (4160 + length cs) (omega arith)) (λ e h. first_other (slot (length cs) e) (omega arith)) (raw_item x.item) g.5)
        (first_other (viewer (length cs)) (omega arith) ∙ g.6)
        (get_or-set_same d' (4352 + length cs) (c * 16) 0 (omega (arith, g.1)))
        (λ i h q. first_other (4352 + i) (omega arith) ∙ place_framed i h)

-- a copy of cell i, an active
module _ (rs : List Signal) (cs : List Entry) (ps : List ℕ) (i a w : ℕ) (hs : List Clause) (v : Option ℕ) (d : List ℕ) (n : ℕ) (s : Flat rs cs ps d n) (room : n ≤ 2048)
    (low : length cs < 64) (before : i < length cs) (is : get_or cs i blank ≡ entry (state w hs) v) where
  abbrev k : ℕ
  k = length cs

  abbrev copied : List ℕ
  copied = cell_copied d i k a

  copied_other : (j : ℕ) → ((e : ℕ) → e < 32 → j ≢ 2048 + k * 32 + e) → j ≢ 4160 + k → j ≢ 4256 + k → j ≢ 4352 + k → get_or copied j 0 ≡ get_or d j 0
  copied_other = cell_other d i k a s.long (omega arith) low (omega arith)

  copied_near : Near k n d copied
  copied_near = (
    cell_take d i k a s.long (omega arith) low (omega arith) n room,
    λ j b c e h y l. copied_other j e y l (omega arith),
  )

  first_row : RowIs d n i (active w (fill_clauses unfilled hs))
  first_row = rw is at (s.rows i before)

  same_cell : (e : ℕ) → cell copied k e ≡ cell d i e
  same_cell e = split (ltb e 32) (λ c. rw c (cell_entry d i k a s.long (omega arith) low (omega arith) e (ltb-true e 32 c))) (λ c. rw c refl)

  copied_row : RowIs copied n k (active w (fill_clauses unfilled hs))
  copied_row = (
    copied_other (4096 + k) (λ e h. omega arith) (omega arith) (omega arith) (omega arith) ∙ (s.blanks k (omega arith) low).0,
    cell_start d i k a s.long (omega arith) low (omega arith) ∙ first_row.1,
    λ e. rw (same_cell e) (says_kept d copied n n (cell d i e) (handled e (fill_clauses unfilled hs)) (omega arith) copied_near.0 (first_row.2 e)),
  )

  viewer_at_law : get_or (viewers_of cs) i 0 ≡ allowed v
  viewer_at_law = seen_at cs i before ∙ ap (λ (x : Entry). allowed x.viewer) is
    where
      seen_at : (l : List Entry) (j : ℕ) → j < length l → get_or (viewers_of l) j 0 ≡ allowed (get_or l j blank).viewer
      seen_at [] j h = absurd (omega arith)
      seen_at (x ∷ l) zero h = refl
      seen_at (x ∷ l) (suc j) h = seen_at l j (omega arith)

  copy_more : Flat rs (cs ++ (entry (state w hs) v ∷ [])) (ps ++ (a ∷ [])) copied n
  copy_more =
      more rs cs ps (entry (state w hs) v) a d copied n n s low (cell_long d i k a s.long (omega arith) low (omega arith)) copied_near (omega arith) copied_row
      (cell_viewer d i k a s.long (omega arith) low (omega arith) ∙ s.viewers i before ∙ viewer_at_law)
      (cell_place d i k a s.long (omega arith) low (omega arith))
      (λ j h q. copied_other (4352 + j) (λ e c. omega arith) (omega arith) (omega arith) (omega arith))

-- the copies of the first cell of a row
up_to_snoc : {A : Type 0} (n : ℕ) (f : ℕ → A) → up_to (suc n) f ≡ up_to n f ++ (f n ∷ [])
unfolding up_to
up_to_snoc zero f = refl
up_to_snoc (suc n) f = ap (λ (l : List _). f zero ∷ l) (up_to_snoc n (λ i. f (suc i)))

module _ (rs : List Signal) (cs : List Entry) (ps : List ℕ) (c w : ℕ) (hs : List Clause) (v : Option ℕ) (n : ℕ) (room : n ≤ 2048) (all : length cs + c ≤ 64) where
  abbrev x : Entry
  x = entry (state w hs) v

  abbrev xs : ℕ → List Entry
  xs t = up_to t (λ j. x)

  abbrev qs : ℕ → List ℕ
  qs t = up_to t (λ j. c * 16 + j)

  first_is : (t : ℕ) → get_or (cs ++ xs (suc t)) (length cs) blank ≡ x
  unfolding up_to
  first_is t = get_or-append_seam cs x (xs t) blank

  copies : (t : ℕ) → suc t ≤ c → (d : List ℕ) → Flat rs (cs ++ xs 1) (ps ++ qs 1) d n
      → Flat rs (cs ++ xs (suc t)) (ps ++ qs (suc t)) (cells_copied d (length cs) c t) n × (take n (cells_copied d (length cs) c t) ≡ take n d)
  unfolding cells_copied
  copies zero h d s = (s, refl)
  copies (suc t) h d s =
      let both = copies t (omega arith) d s in
      let ih = both.0 in
      let l : length (cs ++ xs (suc t)) ≡ length cs + t + 1 = length-append cs (xs (suc t)) ∙ rw (length_up_to (suc t) (λ j. x)) (omega arith) in
      let y : c * 16 + t + 1 ≡ c * 16 + suc t = omega arith in
      let z = copy_more rs (cs ++ xs (suc t)) (ps ++ qs (suc t)) (length cs) (c * 16 + t + 1) w hs v (cells_copied d (length cs) c t) n ih room (omega arith) (omega arith) (first_is t) in
      let u = (copied_near rs (cs ++ xs (suc t)) (ps ++ qs (suc t)) (length cs) (c * 16 + t + 1) w hs v (cells_copied d (length cs) c t) n ih room (omega arith) (omega arith) (first_is t)).0 in (
        rw (up_to_snoc (suc t) (λ j. x), up_to_snoc (suc t) (λ j. c * 16 + j), ← append_assoc cs (xs (suc t)) (x ∷ []), ← append_assoc ps (qs (suc t)) ((c * 16 + suc t) ∷ []), ← y, ← l) z,
        rw (← l) u ∙ both.1,
      )

program_snoc : (bs : List Entry) (b : Entry) → program_nodes (fill_entries unfilled (bs ++ (b ∷ []))) ≡ program_nodes (fill_entries unfilled bs) ++ behaviour_nodes (raw_item b.item)
unfolding program_nodes fill_entries
program_snoc [] b = append-nil (behaviour_nodes (raw_item b.item))
program_snoc (c ∷ bs) b =
    rw (program_snoc bs b) (sym (append_assoc (behaviour_nodes (raw_item c.item)) (program_nodes (fill_entries unfilled bs)) (behaviour_nodes (raw_item b.item))))

-- ---- an entry more: a behaviour, or a row

row_spread : (c w : ℕ) (hs : List Clause) (v : Option ℕ) → spread_entry (entry (row c w hs) v) ≡ up_to c (λ j. entry (state w hs) v)
unfolding up_to
row_spread zero w hs v = refl
row_spread (suc c) w hs v = ap (λ (l : List Entry). entry (state w hs) v ∷ l) (row_spread c w hs v)

module _ (rs : List Signal) (bs : List Entry) (d d' : List ℕ) (n m : ℕ) (s : Sofar rs bs d n) (room : m ≤ 2048) where
  grow_one : (x : Item) (v : Option ℕ) → places_in x ≡ 0 ∷ [] → spread_entry (entry x v) ≡ entry x v ∷ [] → Grown (length (spread bs)) d n (entry x v) d' m → Sofar rs (bs ++ (entry x v ∷ [])) d' m
  grow_one x v p q g = record {
    flat = rw (spread_snoc bs (entry x v), places_snoc bs (entry x v), p, q) (single rs (spread bs) (places bs) (entry x v) d d' n m s.flat g);
    pool = g.4 ∙ rw (s.pool, program_snoc bs (entry x v));
  }

  abbrev at : ℕ
  at = length (spread bs)

  first_cell : (c w : ℕ) (hs : List Clause) (v : Option ℕ) (y : List ℕ) → Flat rs (spread bs ++ (entry (state w hs) v ∷ [])) (places bs ++ ((c * 16) ∷ [])) y m
      → Flat rs (spread bs ++ up_to 1 (λ j. entry (state w hs) v)) (places bs ++ up_to 1 (λ j. c * 16 + j)) y m
  unfolding up_to
  first_cell c w hs v y h =
      let z : c * 16 ≡ c * 16 + 0 = omega arith in
      subst (λ (q : ℕ). Flat rs (spread bs ++ (entry (state w hs) v ∷ [])) (places bs ++ (q ∷ [])) y m) z h

  grow_row : (c w : ℕ) (hs : List Clause) (v : Option ℕ) → GrownBy at d n (row c w hs) v d' m → Sofar rs (bs ++ (entry (row c w hs) v ∷ [])) d' m
  unfolding row_copied
  grow_row c w hs v (some, within, d₁, g, e) =
      let o : suc (c - 1) ≡ c = omega arith in
      let h = headed rs (spread bs) (places bs) (entry (state w hs) v) d d₁ n m s.flat g c room in
      let f = copies rs (spread bs) (places bs) c w hs v m room within (c - 1) (omega arith) (set d₁ (4352 + at) (c * 16)) (first_cell c w hs v (set d₁ (4352 + at) (c * 16)) h) in
      record {
        flat = rw (spread_snoc bs (entry (row c w hs) v), places_snoc bs (entry (row c w hs) v), row_spread c w hs v, e)
            (subst (λ (q : ℕ). Flat rs (spread bs ++ up_to q (λ j. entry (state w hs) v)) (places bs ++ up_to q (λ j. c * 16 + j)) (cells_copied (set d₁ (4352 + at) (c * 16)) at c (c - 1)) m) o f.0);
        pool = rw e f.1 ∙ take-set-le m d₁ (4352 + at) (c * 16) (omega arith) ∙ g.4 ∙ rw (s.pool, program_snoc bs (entry (row c w hs) v));
      }

  pub grow : (x : Item) (v : Option ℕ) → GrownBy at d n x v d' m → Sofar rs (bs ++ (entry x v ∷ [])) d' m
  grow (formula x) v g = grow_one (formula x) v refl refl g
  grow (state w hs) v g = grow_one (state w hs) v refl refl g
  grow (row c w hs) v g = grow_row c w hs v g

-- ---- an event more

module _ (rs : List Signal) (r : Signal) (d : List ℕ) (sofar : Sofar rs [] d 0) (low : length rs < 32) where
  abbrev s : Flat rs (spread []) (places []) d 0
  s = sofar.flat

  abbrev ranked : List ℕ
  ranked = set d (4224 + length rs) r.priority

  abbrev sent : List ℕ
  sent = set ranked (sender (length rs)) (allowed r.sender)

  ranked_long : length ranked ≡ draft_length
  ranked_long = length-set d (4224 + length rs) r.priority ∙ s.long

  same_but : (j : ℕ) → j ≢ 4224 + length rs → j ≢ sender (length rs) → get_or sent j 0 ≡ get_or d j 0
  same_but j h k =
      get_or-set_other ranked (sender (length rs)) j (allowed r.sender) 0 k ∙ get_or-set_other d (4224 + length rs) j r.priority 0 h

  rank_there : get_or sent (4224 + length rs) 0 ≡ r.priority
  rank_there =
      get_or-set_other ranked (sender (length rs)) (4224 + length rs) (allowed r.sender) 0 (omega arith)
      ∙ get_or-set_same d (4224 + length rs) r.priority 0 (omega (arith, s.long))

  sender_there : get_or sent (sender (length rs)) 0 ≡ allowed r.sender
  sender_there = get_or-set_same ranked (sender (length rs)) (allowed r.sender) 0 (omega (arith, ranked_long))

  declared : Flat (rs ++ (r ∷ [])) (spread []) (places []) sent 0
  unfolding spread flat_map
  declared = record {
    few = omega (arith, length-append rs (r ∷ []));
    long = length-set ranked (sender (length rs)) (allowed r.sender) ∙ ranked_long;
    rows = λ i h. absurd (omega arith);
    blanks = λ i h k.
        let b = s.blanks i h k in (
          same_but (4096 + i) (omega arith) (omega arith) ∙ b.0,
          same_but (4160 + i) (omega arith) (omega arith) ∙ b.1,
          λ e c. same_but (slot i e) (omega arith) (omega arith) ∙ b.2 e c,
        );
    priorities = snoc_at (λ (x : Signal). x.priority) rs r sent 4224 rank_there
        (λ e h. same_but (4224 + e) (omega arith) (omega arith) ∙ s.priorities e h);
    viewers = λ i h. absurd (omega arith);
    senders = snoc_at (λ (x : Signal). allowed x.sender) rs r sent 4320 sender_there
        (λ e h. same_but (sender e) (omega arith) (omega arith) ∙ s.senders e h);
    placed = λ i h. same_but (4352 + i) (omega arith) (omega arith) ∙ s.placed i h;
    counted = s.counted;
  }

  pub declare : Sofar (rs ++ (r ∷ [])) [] sent 0
  declare = record { flat = declared; pool = sofar.pool }

-- ---- nothing read yet

pub nothing_yet : (d : List ℕ) → length d ≡ draft_length → ((j : ℕ) → j < draft_length → get_or d j 0 ≡ 0) → Sofar [] [] d 0
unfolding program_nodes fill_entries spread places flat_map
nothing_yet d long zeros = record {
  flat = record {
    few = omega arith;
    long = long;
    rows = λ i h. absurd (omega arith);
    blanks = λ i h k. (zeros (4096 + i) (omega arith), zeros (4160 + i) (omega arith), λ e c. zeros (slot i e) (omega arith));
    priorities = λ e h. absurd (omega arith);
    viewers = λ i h. absurd (omega arith);
    senders = λ e h. absurd (omega arith);
    placed = λ i h. zeros (4352 + i) (omega arith);
    counted = refl;
  };
  pool = refl;
}

-- ---- all is read

module _ (d : List ℕ) (n : ℕ) (room : n ≤ 2048) where
  stands : (kind v : ℕ) (x : Expr) → StandsBy d n kind v x → Stands d kind v x
  stands kind v x h = record { start = h.0; packed = h.1; within = omega arith; there = h.3 }

  says : (v : ℕ) (r : Response) → SaysBy d n v r → EntrySays d v r
  says v (follows x) h = stands 1 v x h
  says v (takes x) h = stands 2 v x h
  says v (defers x) h = stands 3 v x h
  says v keeps h = h

  row_says : (e i : ℕ) (b : Behaviour) → RowIs d n i b → EntrySays d (entry_of d e i) (respond e b)
  unfolding entry_of
  row_says e i (passive x) h = rw (ne_eqb (get_or d (4096 + i) 0) 0 (stands_some d n 1 (get_or d (4096 + i) 0) x h.0)) (stands 1 (get_or d (4096 + i) 0) x h.0)
  row_says e i (active w hs) h = rw (eq-eqb (get_or d (4096 + i) 0) 0 h.0) (says (cell d i e) (handled e hs) (h.2 e))

  stands_in : (kind v : ℕ) (x : Expr) → kind < 4 → StandsBy d n kind v x → EntryIn n v
  stands_in kind v x small h = omega (arith, h.1, h.2)

  says_in : (v : ℕ) (r : Response) → SaysBy d n v r → EntryIn n v
  says_in v (follows x) h = stands_in 1 v x (omega arith) h
  says_in v (takes x) h = stands_in 2 v x (omega arith) h
  says_in v (defers x) h = stands_in 3 v x (omega arith) h
  says_in v keeps h = omega (arith, h)

  row_in : (e i : ℕ) (b : Behaviour) → RowIs d n i b → EntryIn n (entry_of d e i)
  unfolding entry_of
  row_in e i (passive x) h =
      rw (ne_eqb (get_or d (4096 + i) 0) 0 (stands_some d n 1 (get_or d (4096 + i) 0) x h.0)) (stands_in 1 (get_or d (4096 + i) 0) x (omega arith) h.0)
  row_in e i (active w hs) h = rw (eq-eqb (get_or d (4096 + i) 0) 0 h.0) (says_in (cell d i e) (handled e hs) (h.2 e))

  pub all_held : (rs : List Signal) (bs : List Entry) → Sofar rs bs d n → (e i : ℕ) → i < cell_count bs → EntryIn n (entry_of d e i)
  all_held rs bs s e i h = row_in e i (raw_item (get_or (spread bs) i blank).item) (s.flat.rows i (omega (arith, length_spread bs)))

  row_starts : (i : ℕ) (b : Behaviour) → RowIs d n i b → StartIs d i b
  row_starts i (passive x) h = h.1
  row_starts i (active w hs) h = h.1

  -- what is said of a cell before its names are moved is said of the cell written out, of the nodes as it uses them
  module _ (rs : List Signal) (bs : List Entry) (s : Sofar rs bs d n) (l : ℕ) (fits : All (EntryFits l) bs) (few : cell_count bs ≤ 64) (i : ℕ) (h : i < cell_count bs) where
    abbrev f : ℕ → ℕ
    f = mover bs (get_or (places bs) i 0)

    stands_moved : (kind v : ℕ) (x : Term) {k : ℕ} → TermFits k x → Stands d kind v (fill_term unfilled x) → Stands (used_by d i) kind v (fill_term unfilled (rename_term f x))
    stands_moved kind v x t b =
        let z = rename_size f unfilled x in
        record {
          start = b.start;
          packed = rw z b.packed;
          within = rw z b.within;
          there = rw z (take_used d i (size_of (fill_term unfilled x)) b.start ∙ ap (map (moved d i)) b.there ∙ term_moved d bs l fits few s.flat.placed i (omega arith) t);
        }

    phase_moved : (v : ℕ) (φ : Phase) (x : Term) {k : ℕ} → TermFits k x → EntrySays d v (in_phase φ (fill_term unfilled x)) → EntrySays (used_by d i) v (in_phase φ (fill_term unfilled (rename_term f x)))
    phase_moved v immediate x t b = stands_moved 2 v x t b
    phase_moved v later x t b = stands_moved 3 v x t b

    handled_moved : (e v : ℕ) (cs : List Clause) → ClausesFit l cs → EntrySays d v (handled e (fill_clauses unfilled cs)) → EntrySays (used_by d i) v (handled e (fill_clauses unfilled (rename_clauses f cs)))
    unfolding handled fill_clauses change_clauses
    handled_moved e v [] t b = b
    handled_moved e v (clause g φ x ∷ cs) t b =
        split (eqb e g)
        (λ c. subst (EntrySays (used_by d i) v) (sym (handled_here e g φ (fill_term unfilled (rename_term f x)) (fill_clauses unfilled (rename_clauses f cs)) c))
        (phase_moved v φ x t.1 (subst (EntrySays d v) (handled_here e g φ (fill_term unfilled x) (fill_clauses unfilled cs) c) b)))
        (λ c. subst (EntrySays (used_by d i) v) (sym (handled_there e g φ (fill_term unfilled (rename_term f x)) (fill_clauses unfilled (rename_clauses f cs)) c))
        (handled_moved e v cs t.3 (subst (EntrySays d v) (handled_there e g φ (fill_term unfilled x) (fill_clauses unfilled cs) c) b)))

    item_moved : (e v : ℕ) (y : Item) → ItemFits l y → EntrySays d v (respond e (raw_item y)) → EntrySays (used_by d i) v (respond e (raw_item (move_item f y)))
    item_moved e v (formula x) t b = stands_moved 1 v x t b
    item_moved e v (state w cs) t b = handled_moved e v cs t.1 b
    item_moved e v (row c w cs) t b = handled_moved e v cs t.3 b

    item_starts : (y : Item) → StartIs d i (raw_item y) → StartIs d i (raw_item (move_item f y))
    item_starts (formula x) b = b
    item_starts (state w cs) b = b
    item_starts (row c w cs) b = b

    abbrev y : Item
    y = (get_or (spread bs) i blank).item

    here : RowIs d n i (raw_item y)
    here = s.flat.rows i (omega (arith, length_spread bs))

    own_fits : ItemFits l y
    own_fits = (all_at (EntryFits l) (spread bs) i blank (spread_fits l bs fits) (omega (arith, length_spread bs))).0

    cell_says : (e : ℕ) → EntrySays (used_by d i) (entry_of d e i) (respond e (raw_item (get_or (entries_out bs bs) i blank).item))
    cell_says e = rw (out_at bs l bs fits i h) (item_moved e (entry_of d e i) y own_fits (row_says e i (raw_item y) here))

    cell_starts : StartIs d i (raw_item (get_or (entries_out bs bs) i blank).item)
    cell_starts = rw (out_at bs l bs fits i h) (item_starts y (row_starts i (raw_item y) here))

  pub all_read : (rs : List Signal) (bs : List Entry) → Sofar rs bs d n → (l : ℕ) → All (EntryFits l) bs → cell_count bs ≤ 64 → Drafted (fill unfilled (sheet rs bs)) d n
  all_read rs bs s l fits few =
      let out = entries_out bs bs in
      let count : length (fill_entries unfilled out) ≡ cell_count bs = length_fill unfilled out ∙ length_out bs bs in
      record {
        long = s.flat.long;
        few = room;
        says = λ e i _ h. rw (fill_at_law unfilled out i) (cell_says rs bs s l fits few i (omega arith) e);
        starts = λ i h. rw (fill_at_law unfilled out i) (cell_starts rs bs s l fits few i (omega arith));
        priorities = λ e h. s.flat.priorities e (omega (arith, length_priorities rs));
        viewers = λ i h. s.flat.viewers i (omega (arith, length_spread bs)) ∙ ap (λ (v : List ℕ). get_or v i 0) (sym (viewers_out bs bs));
        senders = λ e h. s.flat.senders e (omega (arith, length_priorities rs));
      }
