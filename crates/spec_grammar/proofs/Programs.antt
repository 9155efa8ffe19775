-- Sheets: the reader accepts exactly the encodings of sheets within the limits, a sheet is determined by its bytes, and
-- a fault has a number from 4 to 10. Events and behaviours are read one after another: each is read back after those
-- before it, and what is got is one that fits after them.
use Rattle.lib_base.proofs.Prelude.{ℕ, ◌≤◌, ◌<◌, ◌+◌, suc, ◌≡◌, refl, ◌∙◌, sym, ap, true, false, Bool, ◌||◌, not}
use Rattle.lib_base.proofs.Prelude.{Option, some, none, List, [], ◌∷◌, ◌++◌, append-nil, length, get_or, length-append}
use Rattle.lib_base.proofs.Prelude.{eqb, ltb, leb, ne_eqb, eqb-true, le-ltb, ltb-false, eqb-false, lt-leb, leb-false}
use Rattle.lib_base.proofs.Prelude.{arith}
use Rattle.lib_base.specs.Basics.{pick, All}
use Rattle.lib_base.proofs.Tools.{by_test, none_of, all_split, all_join, all_at_or}
use Rattle.spec_language.specs.Sheet.{Item, formula, state, row, Signal, Entry, Sheet, cells, cell_count}
use Rattle.spec_language.proofs.RowLaws.{count_append}
use Rattle.spec_language.specs.Refusals.{crowded, off_scale}
use Rattle.spec_language.specs.Grammar.{ByteFits, field, tag_of, encode_behaviour, encode_behaviours, encode_sender, encode_event, encode_events, encode, ItemFits, SignalFits, EntryFits, SheetFits}
use Rattle.spec_language.specs.Reading.{Got, bad, got, filling, read_all, behaviour_in, due_at, signal, signal_in, read_sheet}
use Rattle.spec_grammar.proofs.Fields.{Bytes, field-reads, field_of, field_bytes_law}
use Rattle.spec_grammar.proofs.Results.{Says, none_left, then_of, SaysMany, many-reads, many_says}
use Rattle.spec_grammar.proofs.Behaviours.{value_of, behaviour_tag, tag_due, tag_other, behaviour-reads, behaviour_says}

-- ---- reading back

-- at least one byte for each behaviour, and for each event
pub behaviour_bytes : (b : Entry) (s : List ℕ) → 1 ≤ length (encode_behaviour b ++ s)
behaviour_bytes b s = omega arith

pub many_behaviours : (bs : List Entry) → length bs ≤ length (encode_behaviours bs)
unfolding encode_behaviours
many_behaviours [] = omega arith
many_behaviours (b ∷ bs) =
    omega (arith, many_behaviours bs, length-append (encode_behaviour b) (encode_behaviours bs), length-append (encode_behaviour b) [], behaviour_bytes b [])

pub many_events : (rs : List Signal) → length rs ≤ length (encode_events rs)
unfolding encode_events
many_events [] = omega arith
many_events (r ∷ rs) = omega (arith, many_events rs, length-append (encode_event r) (encode_events rs))

-- a behaviour's field at the front
pub behaviour_at_law : (n : ℕ) (bs : List Entry) (b : Entry) (rest : List ℕ)
    → due_at n bs (encode_behaviour b ++ rest) ≡ filling (pick (leb 64 (cell_count bs)) (bad crowded) (behaviour_in n (cell_count bs) (tag_of b.item) (value_of b))) rest
behaviour_at_law n bs b rest = field-reads behaviour_tag (tag_of b.item) (value_of b) rest _ (tag_due b.item)

-- a behaviour is one of the 64 at least
cells_some : (n : ℕ) (c : Entry) → EntryFits n c → 1 ≤ cells c.item
cells_some n c h = item_some c.item h.0
  where
    item_some : (x : Item) → ItemFits n x → 1 ≤ cells x
    item_some (formula x) f = omega arith
    item_some (state s hs) f = omega arith
    item_some (row k s hs) f = omega (arith, f.0)

-- behaviours and events within the limits, n events being declared
abbrev pub EntriesFit : ℕ → List Entry → Type 0
EntriesFit n bs = (cell_count bs ≤ 64) × All (EntryFits n) bs

abbrev pub SignalsFit : List Signal → Type 0
SignalsFit rs = (length rs ≤ 32) × All SignalFits rs

-- where behaviours end, and events
abbrev pub at_end : List ℕ → Bool
at_end s = eqb (length s) 0

abbrev pub no_event : List ℕ → Bool
no_event s = not (eqb (get_or s 0 0) 1)

behaviours_read : (k n : ℕ) (cs : List Entry) → length cs < k → EntriesFit n cs → read_all at_end (due_at n) k [] (encode_behaviours cs) ≡ got cs []
unfolding encode_behaviours cell_count
behaviours_read k n cs b f =
    ap (λ (u : List ℕ). read_all at_end (due_at n) k [] u) (sym (append-nil (encode_behaviours cs)))
    ∙ many-reads encode_behaviour encode_behaviours refl (λ x xs. refl) at_end (due_at n) (EntriesFit n)
    (λ c rest. ne_eqb (length (encode_behaviour c ++ rest)) 0 (omega (arith, behaviour_bytes c rest))) each k [] cs [] refl b f
  where
    each : (bs : List Entry) (c : Entry) (cs : List Entry) (rest : List ℕ) → EntriesFit n (bs ++ (c ∷ cs)) → due_at n bs (encode_behaviour c ++ rest) ≡ got c rest
    each bs c cs rest f =
        let g = (all_split (EntryFits n) bs (c ∷ cs) f.1).1.0 in
        let q : cell_count (bs ++ (c ∷ cs)) ≡ cell_count bs + (cells c.item + cell_count cs) = count_append bs (c ∷ cs) in
        behaviour_at_law n bs c rest
        ∙ rw (lt-leb 64 (cell_count bs) (omega (arith, q, f.0, cells_some n c g)), behaviour-reads n (cell_count bs) c (omega (arith, q, f.0)) g)

-- an event at the front
event_at_law : (rs : List Signal) (r : ℕ) (m : Option ℕ) (rest : List ℕ)
    → signal_in rs (encode_event (signal r m) ++ rest) ≡ filling (pick (leb 32 (length rs)) (bad crowded) (pick (ltb 15 r) (bad off_scale) (got (signal r m) []))) rest
event_at_law rs r none rest = field-reads (eqb 1) 1 (r ∷ []) rest _ refl
event_at_law rs r (some m) rest = field-reads (eqb 1) 1 (r ∷ m ∷ []) rest _ refl

pub event-reads : (rs : List Signal) (q : Signal) (rest : List ℕ)
    → signal_in rs (encode_event q ++ rest) ≡ filling (pick (leb 32 (length rs)) (bad crowded) (pick (ltb 15 q.priority) (bad off_scale) (got q []))) rest
event-reads rs q rest = event_at_law rs q.priority q.sender rest

events_read : (k : ℕ) (qs : List Signal) (rest : List ℕ) → no_event rest ≡ true → length qs < k → SignalsFit qs
    → read_all no_event signal_in k [] (encode_events qs ++ rest) ≡ got qs rest
unfolding encode_events
events_read k qs rest z b f = many-reads encode_event encode_events refl (λ x xs. refl) no_event signal_in SignalsFit (λ q rest. refl) each k [] qs rest z b f
  where
    each : (rs : List Signal) (q : Signal) (qs : List Signal) (rest : List ℕ) → SignalsFit (rs ++ (q ∷ qs)) → signal_in rs (encode_event q ++ rest) ≡ got q rest
    each rs q qs rest f =
        let g = (all_split SignalFits rs (q ∷ qs) f.1).1.0 in
        event-reads rs q rest ∙ rw (lt-leb 32 (length rs) (omega (arith, f.0, length-append rs (q ∷ qs))), le-ltb 15 q.priority g.0)

-- events end before the behaviours
pub events_end : (cs : List Entry) → no_event (encode_behaviours cs) ≡ true
unfolding encode_behaviours
events_end [] = refl
events_end (c ∷ cs) = rw (tag_other c.item)

-- so many turns as there are bytes suffice
pub enough : (p : Sheet) → (length p.signals < suc (length (encode p))) × (length p.entries < suc (length (encode_behaviours p.entries)))
unfolding encode
enough p = (
  omega (arith, many_events p.signals, length-append (encode_events p.signals) (encode_behaviours p.entries)),
  omega (arith, many_behaviours p.entries),
)

pub reads_back : (p : Sheet) → SheetFits p → read_sheet (encode p) ≡ got p []
unfolding read_sheet encode
reads_back p h =
    rw (
      events_read (suc (length (encode p))) p.signals (encode_behaviours p.entries) (events_end p.entries) (enough p).0 (h.few_events, h.scale),
      behaviours_read (suc (length (encode_behaviours p.entries))) (length p.signals) p.entries (enough p).1 (h.few_behaviours, h.each),
    )

-- ---- what is read

-- one more behaviour, and one more event, after those before it
behaviour_next : (n : ℕ) (bs : List Entry) (s : List ℕ) → Says encode_behaviour (λ (x : Entry). EntryFits n x × (cell_count bs + cells x.item ≤ 64)) s (due_at n bs s)
behaviour_next n bs s =
    field_of (Says encode_behaviour (λ (x : Entry). EntryFits n x × (cell_count bs + cells x.item ≤ 64)) s) behaviour_tag s _ (λ m a b. (a, b))
    (λ t v rest due h. by_test (λ (g : Got Entry). Says encode_behaviour (λ (x : Entry). EntryFits n x × (cell_count bs + cells x.item ≤ 64)) s (filling g rest)) (leb 64 (cell_count bs)) (λ e. omega arith)
    (λ e. behaviour_says n (cell_count bs) s t v rest (leb-false 64 (cell_count bs) e) due h))

behaviours_say : (k n : ℕ) (s : List ℕ) → SaysMany encode_behaviours (EntriesFit n) at_end [] s (read_all at_end (due_at n) k [] s)
unfolding encode_behaviours cell_count
behaviours_say k n s =
    many_says encode_behaviour encode_behaviours refl (λ x xs. refl) at_end (due_at n) (EntriesFit n)
    (λ (bs : List Entry) (x : Entry). EntryFits n x × (cell_count bs + cells x.item ≤ 64)) more (behaviour_next n) k [] s
  where
    more : (bs : List Entry) (x : Entry) → EntriesFit n bs → EntryFits n x × (cell_count bs + cells x.item ≤ 64) → EntriesFit n (bs ++ (x ∷ []))
    more bs x f g = (omega (arith, g.1, count_append bs (x ∷ [])), all_join (EntryFits n) bs (x ∷ []) f.1 (g.0, tt))

abbrev SaysEvent : List Signal → List ℕ → Got Signal → Type 0
SaysEvent rs = Says encode_event (λ (x : Signal). (length rs < 32) × SignalFits x)

-- a value of one or two bytes
event_value : (v : List ℕ) → eqb (length v) 0 ≡ false → ltb 2 (length v) ≡ false
    → v ≡ get_or v 0 0 ∷ encode_sender (pick (eqb (length v) 1) none (some (get_or v 1 0)))
event_value [] a b = absurd (eqb-false 0 0 a refl)
event_value (r ∷ []) a b = refl
event_value (r ∷ (m ∷ [])) a b = refl
event_value (r ∷ (m ∷ (x ∷ v))) a b = absurd (omega (arith, ltb-false 2 (length (r ∷ (m ∷ (x ∷ v)))) b))

sender_fits : (v : List ℕ) → Bytes v → ByteFits (pick (eqb (length v) 1) none (some (get_or v 1 0)))
sender_fits v b = by_test ByteFits (eqb (length v) 1) (λ e. tt) (λ e. all_at_or (λ b. b < 256) v 1 0 b (omega arith))

event_next_law : (rs : List Signal) (s : List ℕ) → SaysEvent rs s (signal_in rs s)
event_next_law rs s =
    field_of (SaysEvent rs s) (eqb 1) s _ (λ m a b. (a, b))
    (λ t v rest due h.
    let P : Got Signal → Type 0 = λ g. SaysEvent rs s (filling g rest) in
    by_test P (leb 32 (length rs)) (λ e. omega arith)
    (λ e. by_test P (eqb (length v) 0 || ltb 2 (length v)) (λ d. omega arith)
    (λ d. by_test P (ltb 15 (get_or v 0 0)) (λ c. omega arith)
    (λ c b.
    let p = none_of (eqb (length v) 0) (ltb 2 (length v)) d in
    let q : s ≡ field 1 v ++ rest = rw (sym (eqb-true 1 t due)) at (h b) in (
      q ∙ ap (λ (u : List ℕ). field 1 u ++ rest) (event_value v p.0 p.1),
      (leb-false 32 (length rs) e, (ltb-false 15 (get_or v 0 0) c, sender_fits v (field_bytes_law 1 v rest s b q).0)),
    )))))

events_say : (k : ℕ) (s : List ℕ) → SaysMany encode_events SignalsFit no_event [] s (read_all no_event signal_in k [] s)
unfolding encode_events
events_say k s =
    many_says encode_event encode_events refl (λ x xs. refl) no_event signal_in SignalsFit (λ (rs : List Signal) (x : Signal). (length rs < 32) × SignalFits x)
    (λ rs r f g. (omega (arith, g.0, length-append rs (r ∷ [])), all_join SignalFits rs (r ∷ []) f.1 (g.1, tt))) event_next_law k [] s

-- the sheet got is what s has, to its end
abbrev SaysSheet : List ℕ → Got Sheet → Type 0
SaysSheet s (bad m) = (4 ≤ m) × (m ≤ 10)
SaysSheet s (got p rest) = Bytes s → (s ≡ encode p) × SignalsFit p.signals × EntriesFit (length p.signals) p.entries × (rest ≡ [])

sheet_says : (s : List ℕ) → SaysSheet s (read_sheet s)
unfolding read_sheet encode encode_events encode_behaviours cell_count
sheet_says s =
    then_of (SaysSheet s) (SaysMany encode_events SignalsFit no_event [] s) _ (λ m h. h)
    (λ rs left h. then_of (SaysSheet s) (SaysMany encode_behaviours (EntriesFit (length rs)) at_end [] left) _ (λ m g. g)
    (λ bs over g b.
    let r = h b (omega arith, tt) in
    let q = g (all_split (λ b. b < 256) (encode_events rs) left (rw r.0 at b)).1 (omega arith, tt) in
    let z : over ≡ [] = none_left over (eqb-true (length over) 0 q.2) in
    (r.0 ∙ ap (λ (u : List ℕ). encode_events rs ++ u) (q.0 ∙ rw z (append-nil (encode_behaviours bs))), r.1, q.1, z))
    (read_all at_end (due_at (length rs)) (suc (length left)) [] left) (behaviours_say (suc (length left)) (length rs) left))
    (read_all no_event signal_in (suc (length s)) [] s) (events_say (suc (length s)) s)

-- ---- the claims

pub reads_only : (s : List ℕ) → All (λ b. b < 256) s → length s ≤ 8192 → (p : Sheet) (rest : List ℕ)
    → read_sheet s ≡ got p rest → (s ≡ encode p) × SheetFits p × (rest ≡ [])
reads_only s b hi p rest e =
    let h : SaysSheet s (got p rest) = rw e at (sheet_says s) in
    let r = h b in (
      r.0,
      record {
        few_events = r.1.0;
        few_behaviours = r.2.0;
        scale = r.1.1;
        each = r.2.1;
        few_bytes = rw r.0 at hi;
      },
      r.3,
    )

-- the reader accepts s as p exactly if s is the encoding of p, and p within the limits
pub accepts_exactly : (s : List ℕ) → All (λ b. b < 256) s → length s ≤ 8192
    → ((p : Sheet) → read_sheet s ≡ got p [] → (encode p ≡ s) × SheetFits p) × ((p : Sheet) → encode p ≡ s → SheetFits p → read_sheet s ≡ got p [])
accepts_exactly s b hi = (
  λ p e. let r = reads_only s b hi p [] e in (sym r.0, r.1),
  λ p e f. rw (sym e) (reads_back p f),
)

-- the sheet in a result, or another in place of a fault
abbrev gotten : Sheet → Got Sheet → Sheet
gotten p (bad n) = p
gotten p (got q rest) = q

-- the sheet is determined by the bytes
pub encode_injective : (p q : Sheet) → SheetFits p → SheetFits q → encode p ≡ encode q → p ≡ q
encode_injective p q f g e = ap (gotten p) (sym (reads_back p f) ∙ ap read_sheet e ∙ reads_back q g)

-- a fault of reading is one of 4 to 10
pub fault_numbers : (s : List ℕ) (n : ℕ) → read_sheet s ≡ bad n → (4 ≤ n) × (n ≤ 10)
fault_numbers s n e = let h : SaysSheet s (bad n) = rw e at (sheet_says s) in h
