-- The passives' code of a sheet's program fits into 4,096 instructions, also where no event is declared: each constant,
-- name and application has four bytes of the sheet at least, a behaviour's head three, a row no passive, and a sheet
-- has 8,192. By induction on expressions and behaviours.
use Rattle.lib_base.proofs.Prelude.{ℕ, ◌≤◌, ◌+◌, suc, zero, ◌*◌, ◌≡◌, refl, ◌∙◌, ap, Option, List, [], ◌∷◌, ◌++◌, map}
use Rattle.lib_base.proofs.Prelude.{map-append, flat_map, sum, length, get_or, length-append, arith}
use Rattle.spec_language.specs.Syntax.{Handler, Behaviour, active}
use Rattle.spec_language.specs.Sheet.{Term, literal, variable, param, apply1, apply2, apply3, Clause, Item, formula, state, row, Entry, Sheet, meant, rename_clauses, cells_out, entry_out, entries_out, fill_term, fill_clauses, fill_item, fill_entries, fill}
use Rattle.spec_language.specs.Grammar.{encode_expr, encode_item, encode_behaviours, encode, SheetFits}
use Rattle.spec_language.specs.Valid.{Valid}
use Rattle.spec_language.specs.Dependence.{Response, follows, takes, defers, keeps, handled, respond}
use Rattle.spec_language.specs.Order.{up_to}
use Rattle.spec_language.specs.Code.{size_of}
use Rattle.spec_semantics.proofs.Handlers.{Says, handled_says}
use Rattle.spec_model.proofs.Passives.{passive_share, passives_length_law}
use Rattle.format_image.specs.Table.{passives_code}

-- an active has no part in the passives' code
no_share : (hs : List Handler) (r : Response) → Says 0 hs r → passive_share r ≡ 0
no_share hs (follows x) h = absurd h
no_share hs (takes x) h = refl
no_share hs (defers x) h = refl
no_share hs keeps h = refl

module _ (v : ℕ → ℕ) where
  term_bytes : (x : Term) → size_of (fill_term v x) * 4 ≤ length (encode_expr x)
  unfolding fill_term size_of encode_expr
  term_bytes (literal w) = omega arith
  term_bytes (variable i) = omega arith
  term_bytes (param n) = omega arith
  term_bytes (apply1 f a) = omega (arith, term_bytes a)
  term_bytes (apply2 f a b) = simp length-append (omega (arith, term_bytes a, term_bytes b))
  term_bytes (apply3 f a b c) = simp length-append (omega (arith, term_bytes a, term_bytes b, term_bytes c))

  -- what the passives among behaviours have in it
  unfoldable shares : List Behaviour → ℕ
  shares [] = 0
  shares (b ∷ bs) = passive_share (respond 0 b) + shares bs

  shares_sum : (bs : List Behaviour) → sum ◌+◌ 0 (up_to (length bs) (λ i. passive_share (respond 0 (get_or bs i (active 0 []))))) ≡ shares bs
  unfolding up_to sum shares
  shares_sum [] = refl
  shares_sum (b ∷ bs) = ap (λ (n : ℕ). passive_share (respond 0 b) + n) (shares_sum bs)

  shares_append : (l m : List Behaviour) → shares (l ++ m) ≡ shares l + shares m
  unfolding shares
  shares_append [] m = omega arith
  shares_append (b ∷ l) m = omega (arith, shares_append l m)

  active_none : (cs : List Clause) → passive_share (handled 0 (fill_clauses v cs)) ≡ 0
  active_none cs = no_share (fill_clauses v cs) (handled 0 (fill_clauses v cs)) (handled_says 0 (fill_clauses v cs))

  -- a row's cells are actives
  row_none : (m : Option ℕ) (s k : ℕ) (f : ℕ → List Clause) → shares (fill_entries v (map (λ (y : Item). record { item = y; viewer = m }) (up_to k (λ j. state s (f j))))) ≡ 0
  unfolding up_to fill_entries shares
  row_none m s zero f = refl
  row_none m s (suc k) f = omega (arith, active_none (f zero), row_none m s k (λ j. f (suc j)))

  cells_bytes : (xs : List Entry) (m : Option ℕ) (x : Item)
      → shares (fill_entries v (map (λ (y : Item). record { item = y; viewer = m }) (cells_out xs x))) * 3 ≤ length (encode_item x) + 3
  unfolding fill_entries shares
  cells_bytes xs m (formula x) = omega (arith, term_bytes x)
  cells_bytes xs m (state s cs) = omega (arith, active_none cs)
  cells_bytes xs m (row c s cs) = omega (arith, row_none m s c (λ j. rename_clauses (meant xs c j) cs))

  entries_append : (ys zs : List Entry) → shares (fill_entries v (ys ++ zs)) ≡ shares (fill_entries v ys) + shares (fill_entries v zs)
  unfolding fill_entries
  entries_append ys zs = ap shares (map-append (λ (x : Entry). fill_item v x.item) ys zs) ∙ shares_append (fill_entries v ys) (fill_entries v zs)

  entries_bytes : (xs ys : List Entry) → shares (fill_entries v (entries_out xs ys)) * 3 ≤ length (encode_behaviours ys)
  unfolding entries_out flat_map fill_entries shares encode_behaviours
  entries_bytes xs [] = omega arith
  entries_bytes xs (y ∷ ys) =
      let a = cells_bytes xs y.viewer y.item in
      let b = entries_bytes xs ys in
      let c = entries_append (entry_out xs y) (entries_out xs ys) in
      simp length-append (omega arith)

  pub sheet_short : (s : Sheet) → Valid (fill v s) → SheetFits s → length (passives_code (fill v s)) ≤ 4096
  unfolding passives_code encode
  sheet_short s ok fits =
      let n = passives_length_law (fill v s) ok 0 (omega arith) in
      let m = shares_sum (fill_entries v (entries_out s.entries s.entries)) in
      let b = entries_bytes s.entries s.entries in
      let c = fits.few_bytes in
      let e : length (encode_behaviours s.entries) ≤ 8192 = omega (arith, rw length-append at c) in
      omega arith
