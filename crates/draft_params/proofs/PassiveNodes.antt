-- The passives of a sheet written out are those that were sent, so their nodes are among the draft's: a row has none.
-- By induction on the sheet.
use Rattle.lib_base.proofs.Prelude.{ℕ, ◌≤◌, ◌+◌, suc, zero, ◌≡◌, refl, ◌∙◌, ap, Option, List, [], ◌∷◌, ◌++◌, map}
use Rattle.lib_base.proofs.Prelude.{map-append, flat_map, length, length-append, arith}
use Rattle.spec_language.specs.Syntax.{Behaviour}
use Rattle.spec_language.specs.Sheet.{Clause, Item, formula, state, row, Entry, meant, rename_clauses, cells_out, entry_out, entries_out, fill_term, fill_item, fill_entries}
use Rattle.spec_language.specs.Order.{up_to}
use Rattle.draft_form.specs.Draft.{behaviour_nodes, program_nodes, passive_nodes}
use Rattle.draft_form.proofs.DraftLaws.{length_nodes}

module _ (v : ℕ → ℕ) where
  one_more : (x : Item) (l m : List Behaviour) → passive_nodes (l ++ m) ≡ passive_nodes l + passive_nodes m
      → passive_nodes (fill_item v x ∷ (l ++ m)) ≡ passive_nodes (fill_item v x ∷ l) + passive_nodes m
  unfolding passive_nodes
  one_more (formula x) l m h = omega arith
  one_more (state s cs) l m h = h
  one_more (row c s cs) l m h = h

  together : (ys : List Entry) (m : List Behaviour) → passive_nodes (fill_entries v ys ++ m) ≡ passive_nodes (fill_entries v ys) + passive_nodes m
  unfolding fill_entries passive_nodes
  together [] m = omega arith
  together (y ∷ ys) m = one_more y.item (fill_entries v ys) m (together ys m)

  passives_append : (ys zs : List Entry) → passive_nodes (fill_entries v (ys ++ zs)) ≡ passive_nodes (fill_entries v ys) + passive_nodes (fill_entries v zs)
  unfolding fill_entries
  passives_append ys zs = ap passive_nodes (map-append (λ (x : Entry). fill_item v x.item) ys zs) ∙ together ys (fill_entries v zs)

  -- actives have none
  none_made : (m : Option ℕ) (s k : ℕ) (f : ℕ → List Clause) → passive_nodes (fill_entries v (map (λ (y : Item). record { item = y; viewer = m }) (up_to k (λ j. state s (f j))))) ≡ 0
  unfolding up_to fill_entries passive_nodes
  none_made m s zero f = refl
  none_made m s (suc k) f = none_made m s k (λ j. f (suc j))

  cells_few : (xs : List Entry) (m : Option ℕ) (x : Item)
      → passive_nodes (fill_entries v (map (λ (y : Item). record { item = y; viewer = m }) (cells_out xs x))) ≤ length (behaviour_nodes (fill_item v x))
  unfolding fill_entries passive_nodes
  cells_few xs m (formula x) = omega (arith, length_nodes (fill_term v x))
  cells_few xs m (state s cs) = omega arith
  cells_few xs m (row c s cs) = omega (arith, none_made m s c (λ j. rename_clauses (meant xs c j) cs))

  pub passives_few : (xs ys : List Entry) → passive_nodes (fill_entries v (entries_out xs ys)) ≤ length (program_nodes (fill_entries v ys))
  unfolding entries_out flat_map fill_entries program_nodes passive_nodes
  passives_few xs [] = omega arith
  passives_few xs (y ∷ ys) =
      omega (
        arith,
        passives_append (entry_out xs y) (entries_out xs ys),
        cells_few xs y.viewer y.item,
        passives_few xs ys,
        length-append (behaviour_nodes (fill_item v y.item)) (program_nodes (fill_entries v ys)),
      )
