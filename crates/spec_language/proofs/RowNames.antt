-- 11 and rows: names exist as a row means them exactly if they exist as they are sent, since a row that begins within
-- the sheet ends there. By induction on the sheet.
use Rattle.lib_base.proofs.Prelude.{ℕ, ◌<◌, suc, zero, ◌≡◌, ◌∙◌, Option, List, [], ◌∷◌, ◌++◌, map, map-append, flat_map}
use Rattle.lib_base.proofs.Prelude.{arith}
use Rattle.lib_base.specs.Basics.{All}
use Rattle.lib_base.proofs.Tools.{split, all_join, all_split}
use Rattle.spec_language.specs.Sheet.{Term, literal, variable, param, apply1, apply2, apply3, Clause, clause, Item, formula, state, row, Entry, Sheet, cell_count, heads, meant, change_clauses}
use Rattle.spec_language.specs.Sheet.{rename_term, rename_clauses, cells_out, entry_out, entries_out, rows_out, fill_term, fill_clauses, fill_item, fill_entries, fill}
use Rattle.spec_language.specs.Order.{up_to}
use Rattle.spec_language.specs.Grammar.{ItemFits, EntryFits, SheetFits}
use Rattle.spec_language.specs.Accepted.{NamesIn, HandlerNamesIn, BehaviourNamesIn, Known}
use Rattle.spec_language.proofs.RowLaws.{length_out, head_within}
use Rattle.spec_language.proofs.SheetLaws.{length_fill}
use Rattle.spec_language.specs.Dependence.{size}

module _ (v : ℕ → ℕ) (n : ℕ) (f : ℕ → ℕ) (to : (m : ℕ) → m < n → f m < n) (from : (m : ℕ) → f m < n → m < n) where
  names_to : (x : Term) → NamesIn n (fill_term v x) → NamesIn n (fill_term v (rename_term f x))
  unfolding rename_term fill_term
  names_to (literal w) h = tt
  names_to (variable i) h = to i h
  names_to (param m) h = tt
  names_to (apply1 g a) h = names_to a h
  names_to (apply2 g a b) h = (names_to a h.0, names_to b h.1)
  names_to (apply3 g a b c) h = (names_to a h.0, names_to b h.1, names_to c h.2)

  names_from : (x : Term) → NamesIn n (fill_term v (rename_term f x)) → NamesIn n (fill_term v x)
  unfolding rename_term fill_term
  names_from (literal w) h = tt
  names_from (variable i) h = from i h
  names_from (param m) h = tt
  names_from (apply1 g a) h = names_from a h
  names_from (apply2 g a b) h = (names_from a h.0, names_from b h.1)
  names_from (apply3 g a b c) h = (names_from a h.0, names_from b h.1, names_from c h.2)

  clauses_to : (cs : List Clause) → All (HandlerNamesIn n) (fill_clauses v cs) → All (HandlerNamesIn n) (fill_clauses v (rename_clauses f cs))
  unfolding change_clauses fill_clauses
  clauses_to [] h = tt
  clauses_to (clause e φ x ∷ cs) h = (names_to x h.0, clauses_to cs h.1)

  clauses_from : (cs : List Clause) → All (HandlerNamesIn n) (fill_clauses v (rename_clauses f cs)) → All (HandlerNamesIn n) (fill_clauses v cs)
  unfolding change_clauses fill_clauses
  clauses_from [] h = tt
  clauses_from (clause e φ x ∷ cs) h = (names_from x h.0, clauses_from cs h.1)

module _ (v : ℕ → ℕ) (xs : List Entry) where
  abbrev n : ℕ
  n = cell_count xs

  abbrev In : List Entry → Type 0
  In ys = All (BehaviourNamesIn n) (fill_entries v ys)

  meant_to : (c j : ℕ) → j < c → (m : ℕ) → m < n → meant xs c j m < n
  meant_to c j b m h = split (heads xs c m) (λ t. rw t (omega (arith, head_within xs c m t))) (λ t. rw t h)

  meant_from : (c j : ℕ) → j < c → (m : ℕ) → meant xs c j m < n → m < n
  meant_from c j b m h = split (heads xs c m) (λ t. omega (arith, head_within xs c m t)) (λ t. rw t at h)

  abbrev made : Option ℕ → Item → Entry
  made m y = record { item = y; viewer = m }

  in_join : (ys zs : List Entry) → In ys → In zs → In (ys ++ zs)
  unfolding fill_entries
  in_join ys zs h k = rw (map-append (λ (x : Entry). fill_item v x.item) ys zs) (all_join (BehaviourNamesIn n) (fill_entries v ys) (fill_entries v zs) h k)

  in_split : (ys zs : List Entry) → In (ys ++ zs) → In ys × In zs
  unfolding fill_entries
  in_split ys zs h = all_split (BehaviourNamesIn n) (fill_entries v ys) (fill_entries v zs) (rw (map-append (λ (x : Entry). fill_item v x.item) ys zs) at h)

  made_in : (m : Option ℕ) (k : ℕ) (f : ℕ → Item) → ((j : ℕ) → j < k → BehaviourNamesIn n (fill_item v (f j))) → In (map (made m) (up_to k f))
  unfolding up_to fill_entries
  made_in m zero f h = tt
  made_in m (suc k) f h = (h zero (omega arith), made_in m k (λ j. f (suc j)) (λ j b. h (suc j) (omega arith)))

  made_first : (m : Option ℕ) (k : ℕ) (f : ℕ → Item) → 0 < k → In (map (made m) (up_to k f)) → BehaviourNamesIn n (fill_item v (f 0))
  unfolding up_to fill_entries
  made_first m zero f b h = absurd (omega arith)
  made_first m (suc k) f b h = h.0

  cells_to : (l : ℕ) (m : Option ℕ) (x : Item) → BehaviourNamesIn n (fill_item v x) → In (map (made m) (cells_out xs x))
  unfolding fill_entries
  cells_to l m (formula x) h = (h, tt)
  cells_to l m (state s cs) h = (h, tt)
  cells_to l m (row c s cs) h =
      made_in m c (λ j. state s (rename_clauses (meant xs c j) cs)) (λ j b. clauses_to v n (meant xs c j) (meant_to c j b) (meant_from c j b) cs h)

  cells_from : (l : ℕ) (m : Option ℕ) (x : Item) → ItemFits l x → In (map (made m) (cells_out xs x)) → BehaviourNamesIn n (fill_item v x)
  unfolding fill_entries
  cells_from l m (formula x) f h = h.0
  cells_from l m (state s cs) f h = h.0
  cells_from l m (row c s cs) f h =
      let b : 0 < c = omega (arith, f.0) in
      clauses_from v n (meant xs c 0) (meant_to c 0 b) (meant_from c 0 b) cs (made_first m c (λ j. state s (rename_clauses (meant xs c j) cs)) b h)

  out_to : (l : ℕ) (ys : List Entry) → In ys → In (entries_out xs ys)
  unfolding entries_out flat_map fill_entries
  out_to l [] h = tt
  out_to l (y ∷ ys) h = in_join (entry_out xs y) (entries_out xs ys) (cells_to l y.viewer y.item h.0) (out_to l ys h.1)

  out_from : (l : ℕ) (ys : List Entry) → All (EntryFits l) ys → In (entries_out xs ys) → In ys
  unfolding entries_out flat_map fill_entries
  out_from l [] f h = tt
  out_from l (y ∷ ys) f h =
      let r = in_split (entry_out xs y) (entries_out xs ys) h in
      (cells_from l y.viewer y.item f.0.0 r.0, out_from l ys f.1 r.1)

-- the names of a sheet's entries as they are sent, and those of its program
module _ (v : ℕ → ℕ) (s : Sheet) where
  sized : size (fill v s) ≡ cell_count s.entries
  sized = length_fill v (rows_out s).entries ∙ length_out s.entries s.entries

  pub names_known_law : All (BehaviourNamesIn (size (fill v s))) (fill_entries v s.entries) → Known (fill v s)
  names_known_law = rw sized (out_to v s.entries 0 s.entries)

  pub names_sent : SheetFits s
      → (All (BehaviourNamesIn (size (fill v s))) (fill_entries v s.entries) → Known (fill v s)) × (Known (fill v s) → All (BehaviourNamesIn (size (fill v s))) (fill_entries v s.entries))
  names_sent f = (names_known_law, rw sized (out_from v s.entries _ s.entries f.each))
