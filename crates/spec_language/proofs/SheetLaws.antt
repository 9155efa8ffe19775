-- Laws of a sheet and its filling: a filling has the sheet's shape and limits, depends on the parameters used alone,
-- and is that of the sheet written out. Each by induction on the sheet.
use Rattle.lib_base.proofs.Prelude.{ℕ, ◌≤◌, ◌<◌, ◌^◌, ◌≡◌, refl, ◌∙◌, sym, ap, false, Option, some, none, List, [], ◌∷◌}
use Rattle.lib_base.proofs.Prelude.{length, get_or, length-map, ltb-false, arith}
use lib.ListN.{get_or-map}
use Rattle.lib_base.specs.Basics.{All}
use Rattle.spec_language.specs.Syntax.{Behaviour, active}
use Rattle.spec_language.specs.Sheet.{Term, literal, variable, param, apply1, apply2, apply3, Clause, clause, Item, formula, state, row, Signal, Entry, Sheet, allowed, priorities_of, senders_of, viewers_of, change_clauses, change_item, change_entries, as_sent}
use Rattle.spec_language.specs.Sheet.{rows_out, fill_term, fill_clauses, fill_item, fill_entries, fill_cells, fill, write_term, as_written_out}
use Rattle.spec_language.specs.Sheet.{params_of, params_of_clauses, params_of_item, params_of_entries, uses}
use Rattle.spec_language.specs.Grammar.{TermFits, t_literal, t_variable, t_param, t_apply1, t_apply2, t_apply3, NoClauseFor, ClausesFit, ItemFits, ByteFits, SignalFits, EntryFits, SheetFits}
use Rattle.spec_language.specs.Fits.{Nested, n_con, n_name, n_app1, n_app2, n_app3, NoneFor, HandlersFit, BehaviourFits, Fits}
use Rattle.spec_language.specs.Code.{size_of}
use Rattle.spec_language.specs.Accepted.{SheetAccepted}
use Rattle.spec_language.specs.Valid.{Accepted}
use Rattle.spec_language.proofs.RowLaws.{length_out, out_most, rows_fit, written_rows}

-- ---- its shape

-- what stands past the last behaviour
abbrev pub blank : Entry
blank = record { item = state 0 []; viewer = none }

pub length_priorities : (l : List Signal) → length (priorities_of l) ≡ length l
length_priorities l = length-map l (λ (x : Signal). x.priority)

pub length_senders : (l : List Signal) → length (senders_of l) ≡ length l
length_senders l = length-map l (λ (x : Signal). allowed x.sender)

pub length_viewers : (l : List Entry) → length (viewers_of l) ≡ length l
length_viewers l = length-map l (λ (x : Entry). allowed x.viewer)

module _ (v : ℕ → ℕ) where
  pub length_fill : (bs : List Entry) → length (fill_entries v bs) ≡ length bs
  unfolding fill_entries
  length_fill bs = length-map bs (λ (x : Entry). fill_item v x.item)

  pub fill_at_law : (bs : List Entry) (i : ℕ) → get_or (fill_entries v bs) i (active 0 []) ≡ fill_item v (get_or bs i blank).item
  unfolding fill_entries fill_clauses
  fill_at_law bs i = get_or-map (λ (x : Entry). fill_item v x.item) bs i blank

-- 02, M-103: a parameter "counts as one in an expression's size"
pub param_size : (v : ℕ → ℕ) (n : ℕ) → size_of (fill_term v (param n)) ≡ 1
unfolding fill_term size_of
param_size v n = refl

pub size_fill : (v w : ℕ → ℕ) (x : Term) → size_of (fill_term v x) ≡ size_of (fill_term w x)
unfolding fill_term size_of
size_fill v w (literal z) = refl
size_fill v w (variable i) = refl
size_fill v w (param n) = refl
size_fill v w (apply1 f a) = rw (size_fill v w a)
size_fill v w (apply2 f a b) = rw (size_fill v w a, size_fill v w b)
size_fill v w (apply3 f a b c) = rw (size_fill v w a, size_fill v w b, size_fill v w c)

-- ---- with no parameter used, every filling is the same

module _ (v w : ℕ → ℕ) where
  unused_term : (x : Term) → params_of x ≡ 0 → fill_term v x ≡ fill_term w x
  unfolding fill_term params_of
  unused_term (literal z) h = refl
  unused_term (variable i) h = refl
  unused_term (param n) h = absurd (omega arith)
  unused_term (apply1 f a) h = rw (unused_term a h)
  unused_term (apply2 f a b) h = rw (unused_term a (omega arith), unused_term b (omega arith))
  unused_term (apply3 f a b c) h = rw (unused_term a (omega arith), unused_term b (omega arith), unused_term c (omega arith))

  unused_clauses : (cs : List Clause) → params_of_clauses cs ≡ 0 → fill_clauses v cs ≡ fill_clauses w cs
  unfolding fill_clauses params_of_clauses
  unused_clauses [] h = refl
  unused_clauses (clause e φ x ∷ cs) h = rw (unused_term x (omega arith), unused_clauses cs (omega arith))

  unused_item : (b : Item) → params_of_item b ≡ 0 → fill_item v b ≡ fill_item w b
  unused_item (formula x) h = rw (unused_term x h)
  unused_item (state s cs) h = rw (unused_clauses cs h)
  unused_item (row c s cs) h = rw (unused_clauses cs h)

  unused_entries : (bs : List Entry) → params_of_entries bs ≡ 0 → fill_entries v bs ≡ fill_entries w bs
  unfolding fill_entries params_of_entries
  unused_entries [] h = refl
  unused_entries (b ∷ bs) h = rw (unused_item b.item (omega arith), unused_entries bs (omega arith))

  pub fill_unused : (s : Sheet) → uses s ≡ false → fill v s ≡ fill w s
  fill_unused s h =
      let t = rows_out s in
      ap (λ (bs : List Behaviour). record { priorities = priorities_of t.signals; senders = senders_of t.signals; behaviours = bs; viewers = viewers_of t.entries })
      (unused_entries t.entries (omega (arith, out_most s.entries s.entries, ltb-false 0 (params_of_entries s.entries) h)))

-- ---- only the parameters 0 to 7 matter

module _ (v w : ℕ → ℕ) (same : (n : ℕ) → n < 8 → v n ≡ w n) where
  same_term : {k : ℕ} {x : Term} → TermFits k x → fill_term v x ≡ fill_term w x
  unfolding fill_term
  same_term (t_literal h) = refl
  same_term (t_variable h) = refl
  same_term (t_param {n = n} h) = rw (same n h)
  same_term (t_apply1 r a) = rw (same_term a)
  same_term (t_apply2 r a b) = rw (same_term a, same_term b)
  same_term (t_apply3 r a b c) = rw (same_term a, same_term b, same_term c)

  same_clauses : (n : ℕ) (cs : List Clause) → ClausesFit n cs → fill_clauses v cs ≡ fill_clauses w cs
  unfolding fill_clauses
  same_clauses n [] h = refl
  same_clauses n (clause e φ x ∷ cs) h = rw (same_term h.1, same_clauses n cs h.3)

  same_item : (n : ℕ) (b : Item) → ItemFits n b → fill_item v b ≡ fill_item w b
  same_item n (formula x) h = rw (same_term h)
  same_item n (state s cs) h = rw (same_clauses n cs h.1)
  same_item n (row c s cs) h = rw (same_clauses n cs h.3)

  same_entries : (n : ℕ) (bs : List Entry) → All (EntryFits n) bs → fill_entries v bs ≡ fill_entries w bs
  unfolding fill_entries
  same_entries n [] h = refl
  same_entries n (b ∷ bs) h = rw (same_item n b.item h.0.0, same_entries n bs h.1)

  pub fill_same : (s : Sheet) → SheetFits s → fill v s ≡ fill w s
  fill_same s h =
      let t = rows_out s in
      ap (λ (bs : List Behaviour). record { priorities = priorities_of t.signals; senders = senders_of t.signals; behaviours = bs; viewers = viewers_of t.entries })
      (same_entries (length s.signals) t.entries (rows_fit s h))

-- ---- the limits of a filling, with values that are words

scale_fits : (l : List Signal) → All SignalFits l → All (λ r. r ≤ 15) (priorities_of l)
scale_fits [] h = tt
scale_fits (x ∷ l) h = (h.0.0, scale_fits l h.1)

allowed_fits : (m : Option ℕ) → ByteFits m → allowed m < 256
allowed_fits none h = omega arith
allowed_fits (some m) h = h

senders_fit : (l : List Signal) → All SignalFits l → All (λ m. m < 256) (senders_of l)
senders_fit [] h = tt
senders_fit (x ∷ l) h = (allowed_fits x.sender h.0.1, senders_fit l h.1)

viewers_fit : (n : ℕ) (l : List Entry) → All (EntryFits n) l → All (λ m. m < 256) (viewers_of l)
viewers_fit n [] h = tt
viewers_fit n (x ∷ l) h = (allowed_fits x.viewer h.0.1, viewers_fit n l h.1)

module _ (v : ℕ → ℕ) (small : (n : ℕ) → n < 8 → v n < 2 ^ 32) where
  term_fits : {k : ℕ} {x : Term} → TermFits k x → Nested k (fill_term v x)
  unfolding fill_term
  term_fits (t_literal h) = n_con h
  term_fits (t_variable h) = n_name h
  term_fits (t_param {n = n} h) = n_con (small n h)
  term_fits (t_apply1 r a) = n_app1 r (term_fits a)
  term_fits (t_apply2 r a b) = n_app2 r (term_fits a) (term_fits b)
  term_fits (t_apply3 r a b c) = n_app3 r (term_fits a) (term_fits b) (term_fits c)

  none_fills : (e : ℕ) (cs : List Clause) → NoClauseFor e cs → NoneFor e (fill_clauses v cs)
  unfolding fill_clauses
  none_fills e [] h = tt
  none_fills e (clause f φ x ∷ cs) h = (h.0, none_fills e cs h.1)

  clauses_fit : (n : ℕ) (cs : List Clause) → ClausesFit n cs → HandlersFit n (fill_clauses v cs)
  unfolding fill_clauses
  clauses_fit n [] h = tt
  clauses_fit n (clause e φ x ∷ cs) h = (h.0, term_fits h.1, none_fills e cs h.2, clauses_fit n cs h.3)

  item_fits : (n : ℕ) (b : Item) → ItemFits n b → BehaviourFits n (fill_item v b)
  item_fits n (formula x) h = term_fits h
  item_fits n (state s cs) h = (h.0, clauses_fit n cs h.1)
  item_fits n (row c s cs) h = (h.2, clauses_fit n cs h.3)

  pub entries_fit : (n : ℕ) (bs : List Entry) → All (EntryFits n) bs → All (BehaviourFits n) (fill_entries v bs)
  unfolding fill_entries
  entries_fit n [] h = tt
  entries_fit n (b ∷ bs) h = (item_fits n b.item h.0.0, entries_fit n bs h.1)

  pub fill_fits : (s : Sheet) → SheetFits s → Fits (fill v s)
  fill_fits s h =
      let out = (rows_out s).entries in
      record {
        few_events = rw (length_priorities s.signals) h.few_events;
        few_behaviours = omega (arith, length_fill v out, length_out s.entries s.entries, h.few_behaviours);
        scale = scale_fits s.signals h.scale;
        each = rw (length_priorities s.signals) (entries_fit (length s.signals) out (rows_fit s h));
        all_senders = length_senders s.signals ∙ sym (length_priorities s.signals);
        all_viewers = length_viewers out ∙ sym (length_fill v out);
        send_bytes = senders_fit s.signals h.scale;
        view_bytes = viewers_fit (length s.signals) out (rows_fit s h);
      }

  -- an accepted sheet's filling is an accepted program
  pub filling_accepted : (lent : ℕ) (s : Sheet) → SheetAccepted v lent s → Accepted (fill v s)
  filling_accepted lent s h = record { fits = fill_fits s h.fits; known = h.known; acyclic = h.acyclic; short = h.short }

-- ---- the sheet written out uses no parameter, and has the same filling

module _ (v w : ℕ → ℕ) where
  written_term : (x : Term) → (params_of (write_term v x) ≡ 0) × (fill_term w (write_term v x) ≡ fill_term v x)
  unfolding fill_term as_sent params_of
  written_term (literal z) = (refl, refl)
  written_term (variable i) = (refl, refl)
  written_term (param n) = (refl, refl)
  written_term (apply1 f a) = let p = written_term a in (p.0, rw p.1)
  written_term (apply2 f a b) = let p = written_term a in let q = written_term b in (omega arith, rw (p.1, q.1))
  written_term (apply3 f a b c) =
      let p = written_term a in
      let q = written_term b in
      let r = written_term c in
      (omega arith, rw (p.1, q.1, r.1))

  written_clauses : (cs : List Clause) → (params_of_clauses (change_clauses (write_term v) cs) ≡ 0) × (fill_clauses w (change_clauses (write_term v) cs) ≡ fill_clauses v cs)
  unfolding fill_clauses change_clauses params_of_clauses
  written_clauses [] = (refl, refl)
  written_clauses (clause e φ x ∷ cs) =
      let p = written_term x in
      let q = written_clauses cs in
      (omega arith, rw (p.1, q.1))

  written_item : (b : Item) → (params_of_item (change_item (write_term v) b) ≡ 0) × (fill_item w (change_item (write_term v) b) ≡ fill_item v b)
  written_item (formula x) = let p = written_term x in (p.0, rw p.1)
  written_item (state s cs) = let p = written_clauses cs in (p.0, rw p.1)
  written_item (row c s cs) = let p = written_clauses cs in (p.0, rw p.1)

  written_entries : (bs : List Entry) → (params_of_entries (change_entries (write_term v) bs) ≡ 0) × (fill_entries w (change_entries (write_term v) bs) ≡ fill_entries v bs)
  unfolding fill_entries change_entries params_of_entries
  written_entries [] = (refl, refl)
  written_entries (b ∷ bs) =
      let p = written_item b.item in
      let q = written_entries bs in
      (omega arith, rw (p.1, q.1))

  written_viewers : (bs : List Entry) → viewers_of (change_entries (write_term v) bs) ≡ viewers_of bs
  unfolding change_entries
  written_viewers [] = refl
  written_viewers (b ∷ bs) = rw (written_viewers bs)

  pub written_unused : (s : Sheet) → uses (as_written_out v s) ≡ false
  written_unused s = rw (written_entries s.entries).0

  written_cells : (s : Sheet) → fill_cells w (as_written_out v s) ≡ fill_cells v s
  written_cells s = λ t. record {
    priorities = priorities_of s.signals;
    senders = senders_of s.signals;
    behaviours = (written_entries s.entries).1 t;
    viewers = written_viewers s.entries t;
  }

  pub fill_written : (s : Sheet) → fill w (as_written_out v s) ≡ fill v s
  fill_written s = ap (fill_cells w) (written_rows v s) ∙ written_cells (rows_out s)
