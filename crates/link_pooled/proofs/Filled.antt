-- The joined sheet means the two programs side by side: "parameters are lent as to compile and filled alike in all
-- three". By induction on the sheets.
use Rattle.lib_base.proofs.Prelude.{ℕ, ◌+◌, ◌≡◌, refl, ◌∙◌, sym, ap, ◌||◌, Option, some, none, List, [], ◌∷◌, ◌++◌, map}
use Rattle.lib_base.proofs.Prelude.{length}
use lib.Bits.{bit_and}
use Rattle.spec_language.specs.Syntax.{Behaviour}
use Rattle.spec_language.specs.Sheet.{Term, literal, variable, param, apply1, apply2, apply3, Clause, clause, Item, formula, state, row, Signal, Entry, Sheet, allowed, priorities_of, senders_of, viewers_of, change_clauses, change_item, change_entries}
use Rattle.spec_language.specs.Sheet.{rename_term, rows_out, fill_term, fill_clauses, fill_item, fill_entries, fill_cells, fill}
use Rattle.spec_language.specs.Sheet.{params_of_item, params_of_entries, uses}
use Rattle.spec_language.specs.Dependence.{size}
use Rattle.spec_language.specs.Grammar.{SheetFits}
use Rattle.spec_language.specs.Accepted.{Known}
use Rattle.spec_language.proofs.RowLaws.{length_out, rename_params, rename_clauses_params, either_uses, params_append}
use Rattle.spec_language.proofs.SheetLaws.{length_fill}
use Rattle.link_pooled.specs.Pooled.{merged_by_number, both_send, pool_signals, move_term, move_entries, count, pooled}
use Rattle.link_pooled.specs.Together.{move_expr, move_handlers, move_behaviour, together}
use Rattle.link_pooled.proofs.Rows.{fill_append, rows_pooled}

-- ---- events

priorities_pooled : (k l : List Signal) → priorities_of (pool_signals k l) ≡ merged_by_number (λ a b. a) (priorities_of k) (priorities_of l)
unfolding merged_by_number
priorities_pooled [] l = refl
priorities_pooled (a ∷ k) [] = refl
priorities_pooled (a ∷ k) (b ∷ l) = rw (priorities_pooled k l)

allowed_both : (a b : Option ℕ) → allowed (both_send a b) ≡ bit_and (allowed a) (allowed b)
allowed_both none none = refl
allowed_both none (some b) = refl
allowed_both (some a) none = refl
allowed_both (some a) (some b) = refl

senders_pooled : (k l : List Signal) → senders_of (pool_signals k l) ≡ merged_by_number bit_and (senders_of k) (senders_of l)
unfolding merged_by_number
senders_pooled [] l = refl
senders_pooled (a ∷ k) [] = refl
senders_pooled (a ∷ k) (b ∷ l) = rw (allowed_both a.sender b.sender, senders_pooled k l)

-- ---- behaviours

module _ (v : ℕ → ℕ) (n : ℕ) where
  term_moved : (x : Term) → fill_term v (move_term n x) ≡ move_expr n (fill_term v x)
  unfolding fill_term rename_term move_expr
  term_moved (literal w) = refl
  term_moved (variable i) = refl
  term_moved (param k) = refl
  term_moved (apply1 f a) = rw (term_moved a)
  term_moved (apply2 f a b) = rw (term_moved a, term_moved b)
  term_moved (apply3 f a b c) = rw (term_moved a, term_moved b, term_moved c)

  clauses_moved : (cs : List Clause) → fill_clauses v (change_clauses (move_term n) cs) ≡ move_handlers n (fill_clauses v cs)
  unfolding fill_clauses change_clauses move_handlers
  clauses_moved [] = refl
  clauses_moved (clause e φ x ∷ cs) = rw (term_moved x, clauses_moved cs)

  item_moved : (b : Item) → fill_item v (change_item (move_term n) b) ≡ move_behaviour n (fill_item v b)
  item_moved (formula x) = rw (term_moved x)
  item_moved (state s cs) = rw (clauses_moved cs)
  item_moved (row c s cs) = rw (clauses_moved cs)

  entries_moved : (bs : List Entry) → fill_entries v (move_entries n bs) ≡ map (move_behaviour n) (fill_entries v bs)
  unfolding fill_entries change_entries
  entries_moved [] = refl
  entries_moved (b ∷ bs) = rw (item_moved b.item, entries_moved bs)

  viewers_moved : (bs : List Entry) → viewers_of (move_entries n bs) ≡ viewers_of bs
  unfolding change_entries
  viewers_moved [] = refl
  viewers_moved (b ∷ bs) = rw (viewers_moved bs)

viewers_append : (k l : List Entry) → viewers_of (k ++ l) ≡ viewers_of k ++ viewers_of l
viewers_append [] l = refl
viewers_append (b ∷ k) l = rw (viewers_append k l)

-- of two lists of entries without rows, or with their rows written out
cells_pooled : (v : ℕ → ℕ) (k l : List Signal) (xs ys : List Entry) (n : ℕ) → n ≡ length (fill_entries v xs)
    → fill_cells v (record { signals = pool_signals k l; entries = xs ++ move_entries n ys }) ≡ together (fill_cells v (record { signals = k; entries = xs })) (fill_cells v (record { signals = l; entries = ys }))
cells_pooled v k l xs ys n q =
    let bs : fill_entries v (xs ++ move_entries n ys) ≡ fill_entries v xs ++ map (move_behaviour (length (fill_entries v xs))) (fill_entries v ys) =
    fill_append v xs (move_entries n ys) ∙ ap (λ (l : List Behaviour). fill_entries v xs ++ l) (entries_moved v n ys ∙ ap (λ (m : ℕ). map (move_behaviour m) (fill_entries v ys)) q) in
    let vs : viewers_of (xs ++ move_entries n ys) ≡ viewers_of xs ++ viewers_of ys =
    viewers_append xs (move_entries n ys) ∙ ap (λ (l : List ℕ). viewers_of xs ++ l) (viewers_moved v n ys) in
    λ i. record {
      priorities = priorities_pooled k l i;
      senders = senders_pooled k l i;
      behaviours = bs i;
      viewers = vs i;
    }

pub size_fill : (v : ℕ → ℕ) (s : Sheet) → size (fill v s) ≡ count s
size_fill v s = length_fill v (rows_out s).entries ∙ length_out s.entries s.entries

pub fill_pooled : (v : ℕ → ℕ) (s t : Sheet) → SheetFits s → Known (fill v s) → fill v (pooled s t) ≡ together (fill v s) (fill v t)
fill_pooled v s t f h =
    let n : size (fill v s) ≡ count s = size_fill v s in
    let out = rows_pooled v (length s.signals) s.entries t.entries f.each (rw n at h) in
    ap (λ (es : List Entry). fill_cells v (record { signals = pool_signals s.signals t.signals; entries = es })) out
    ∙ cells_pooled v s.signals t.signals (rows_out s).entries (rows_out t).entries (count s) (sym n)

-- ---- parameters used

module _ (n : ℕ) where
  item_params : (b : Item) → params_of_item (change_item (move_term n) b) ≡ params_of_item b
  item_params (formula x) = rename_params (λ i. n + i) x
  item_params (state s cs) = rename_clauses_params (λ i. n + i) cs
  item_params (row c s cs) = rename_clauses_params (λ i. n + i) cs

  entries_params : (bs : List Entry) → params_of_entries (move_entries n bs) ≡ params_of_entries bs
  unfolding params_of_entries change_entries
  entries_params [] = refl
  entries_params (b ∷ bs) = rw (item_params b.item, entries_params bs)

pub uses_pooled : (s t : Sheet) → uses (pooled s t) ≡ uses s || uses t
uses_pooled s t =
    let k = s.entries in
    let l = t.entries in
    rw (params_append k (move_entries (count s) l), entries_params (count s) l) (sym (either_uses (params_of_entries k) (params_of_entries l)))
