-- The programs of two sheets that are alike but for hidden start values: the same but for these, so that every event
-- has the same code in both. The code is written as a function of the number of behaviours and of what each does on the
-- event; start values are in neither.
use Rattle.lib_base.proofs.Prelude.{ℕ, ◌+◌, ◌-◌, suc, zero, ◌≡◌, refl, ◌∙◌, sym, ap, subst, true, false, Bool, not}
use Rattle.lib_base.proofs.Prelude.{Option, List, [], ◌∷◌, ◌++◌, map, Forall₂·nil, Forall₂·cons, flat_map, flatten}
use Rattle.lib_base.proofs.Prelude.{length, get_or, eqb, ltb}
use mathlib.Core.List.{Forall₂}
use Rattle.lib_base.specs.Basics.{pick}
use Rattle.spec_language.specs.Syntax.{Behaviour, passive, active, Program}
use Rattle.spec_language.specs.Sheet.{Clause, Item, state, Entry, Sheet, allowed, cells, is_row, heads, meant, rename_clauses, cells_out, entry_out, entries_out, rows_out, priorities_of, senders_of, viewers_of, fill_item, fill_entries, fill}
use Rattle.spec_language.specs.Rights.{may, may_see}
use Rattle.spec_language.specs.Dependence.{Response, size, events, respond, behaviour_at, response, needs}
use Rattle.spec_language.specs.Order.{up_to, order, early, met_at_once, phase_one}
use Rattle.spec_language.specs.Code.{Instr, off, on, copy, restore, copied, of_c, first_code, later_code, move_code, again_code, in_order, copy_part, first_part, second_part, restore_part, code}
use Rattle.secrecy_model.specs.Sight.{ItemAlike, two_formulas, two_states, two_rows, EntryAlike, AlikeBut}

-- ---- the same but for hidden start values

abbrev pub BehaviourAlike : Bool → Behaviour → Behaviour → Type 0
BehaviourAlike seen (passive x) (passive y) = x ≡ y
BehaviourAlike seen (passive x) (active t hs) = ⊥
BehaviourAlike seen (active s hs) (passive y) = ⊥
BehaviourAlike seen (active s hs) (active t gs) = (seen ≡ true → s ≡ t) × (hs ≡ gs)

pub record Alike (player : ℕ) (p q : Program) : Type 0 where
  pub priorities : p.priorities ≡ q.priorities
  pub senders : p.senders ≡ q.senders
  pub viewers : p.viewers ≡ q.viewers
  pub sizes : size p ≡ size q
  pub each : (i : ℕ) → BehaviourAlike (may_see p player i) (behaviour_at p i) (behaviour_at q i)

-- ---- of two sheets, their rows written out: the same numbers are first cells of rows in both, so the cells' names
-- mean the same

cells_same : {seen : Bool} {x y : Item} → ItemAlike seen x y → cells x ≡ cells y
cells_same two_formulas = refl
cells_same (two_states h) = refl
cells_same (two_rows h) = refl

is_row_same : {seen : Bool} {x y : Item} (c : ℕ) → ItemAlike seen x y → is_row c x ≡ is_row c y
is_row_same c two_formulas = refl
is_row_same c (two_states h) = refl
is_row_same c (two_rows h) = refl

module _ (player : ℕ) where
  abbrev EntriesAlike : List Entry → List Entry → Type 0
  EntriesAlike = Forall₂ (EntryAlike player)

  heads_same : {xs ys : List Entry} → EntriesAlike xs ys → (c m : ℕ) → heads xs c m ≡ heads ys c m
  unfolding heads
  heads_same Forall₂·nil c m = refl
  heads_same (Forall₂·cons {a = x} {b = y} {l₁ = xs} {l₂ = ys} h hs) c m =
      let k : cells x.item ≡ cells y.item = cells_same h.1 in
      λ z. pick (eqb m 0) (is_row_same c h.1 z) (pick (ltb m (k z)) false (heads_same {xs = xs} {ys = ys} hs c (m - k z) z))

  -- entries with the same right to see
  abbrev out : Option ℕ → List Item → List Entry
  out viewer = map (λ (y : Item). record { item = y; viewer = viewer })

  up_to_alike : (w u : Option ℕ) → w ≡ u → (n : ℕ) (f g : ℕ → Item) → ((j : ℕ) → ItemAlike (may (allowed w) player) (f j) (g j))
      → EntriesAlike (out w (up_to n f)) (out u (up_to n g))
  unfolding up_to
  up_to_alike w u e zero f g h = Forall₂·nil
  up_to_alike w u e (suc n) f g h = Forall₂·cons (e, h 0) (up_to_alike w u e n (λ i. f (suc i)) (λ i. g (suc i)) (λ j. h (suc j)))

  append_alike : {xs ys us ws : List Entry} → EntriesAlike xs ys → EntriesAlike us ws → EntriesAlike (xs ++ us) (ys ++ ws)
  append_alike Forall₂·nil k = k
  append_alike (Forall₂·cons {l₁ = xs} {l₂ = ys} h hs) k = Forall₂·cons h (append_alike {xs = xs} {ys = ys} hs k)

  module _ (xs ys : List Entry) (whole : EntriesAlike xs ys) where
    cells_alike : (w u : Option ℕ) → w ≡ u → {x y : Item} → ItemAlike (may (allowed w) player) x y → EntriesAlike (out w (cells_out xs x)) (out u (cells_out ys y))
    cells_alike w u e two_formulas = Forall₂·cons (e, two_formulas) Forall₂·nil
    cells_alike w u e (two_states h) = Forall₂·cons (e, two_states h) Forall₂·nil
    cells_alike w u e (two_rows {c = c} {s = s} {t = t} {cs = cs} h) =
        up_to_alike w u e c (λ j. state s (rename_clauses (meant xs c j) cs)) (λ j. state t (rename_clauses (meant ys c j) cs))
        (λ j. subst (λ (ds : List Clause). ItemAlike (may (allowed w) player) (state s (rename_clauses (meant xs c j) cs)) (state t ds))
        (λ z. rename_clauses (λ m. pick (heads_same whole c m z) (m + j) m) cs) (two_states h))

    entries_out_law : {us ws : List Entry} → EntriesAlike us ws → EntriesAlike (entries_out xs us) (entries_out ys ws)
    unfolding entries_out flat_map
    entries_out_law Forall₂·nil = Forall₂·nil
    entries_out_law (Forall₂·cons {a = a} {b = b} {l₁ = us} {l₂ = ws} h hs) =
        append_alike {xs = entry_out xs a} {ys = entry_out ys b} (cells_alike a.viewer b.viewer h.0 h.1) (entries_out_law {us = us} {ws = ws} hs)

-- ---- and filled

module _ (v : ℕ → ℕ) (player : ℕ) where
  item_alike : {seen : Bool} {x y : Item} → ItemAlike seen x y → BehaviourAlike seen (fill_item v x) (fill_item v y)
  item_alike two_formulas = refl
  item_alike (two_states h) = (h, refl)
  item_alike (two_rows h) = (h, refl)

  entries_viewers : {xs ys : List Entry} → EntriesAlike player xs ys → viewers_of xs ≡ viewers_of ys
  entries_viewers Forall₂·nil = refl
  entries_viewers (Forall₂·cons {l₁ = xs} {l₂ = ys} h hs) = λ t. allowed (h.0 t) ∷ entries_viewers {xs = xs} {ys = ys} hs t

  entries_length : {xs ys : List Entry} → EntriesAlike player xs ys → length (fill_entries v xs) ≡ length (fill_entries v ys)
  unfolding fill_entries
  entries_length Forall₂·nil = refl
  entries_length (Forall₂·cons {l₁ = xs} {l₂ = ys} h hs) = ap suc (entries_length {xs = xs} {ys = ys} hs)

  entries_each : {xs ys : List Entry} → EntriesAlike player xs ys → (i : ℕ)
      → BehaviourAlike (may (get_or (viewers_of xs) i 0) player) (get_or (fill_entries v xs) i (active 0 [])) (get_or (fill_entries v ys) i (active 0 []))
  unfolding fill_entries
  entries_each Forall₂·nil i = (λ k. refl, refl)
  entries_each (Forall₂·cons h hs) zero = item_alike h.1
  entries_each (Forall₂·cons {l₁ = xs} {l₂ = ys} h hs) (suc i) = entries_each {xs = xs} {ys = ys} hs i

  pub sheets_alike : (s t : Sheet) → AlikeBut player s t → Alike player (fill v s) (fill v t)
  sheets_alike s t h =
      let k : EntriesAlike player (rows_out s).entries (rows_out t).entries = entries_out_law player s.entries t.entries h.1 h.1 in
      record {
        priorities = ap priorities_of h.0;
        senders = ap senders_of h.0;
        viewers = entries_viewers {xs = (rows_out s).entries} {ys = (rows_out t).entries} k;
        sizes = entries_length {xs = (rows_out s).entries} {ys = (rows_out t).entries} k;
        each = entries_each {xs = (rows_out s).entries} {ys = (rows_out t).entries} k;
      }

-- ---- what is the same in both

respond_same : (e : ℕ) (seen : Bool) (b c : Behaviour) → BehaviourAlike seen b c → respond e b ≡ respond e c
respond_same e seen (passive x) (passive y) h = ap (λ d. respond e (passive d)) h
respond_same e seen (passive x) (active t hs) h = absurd h
respond_same e seen (active s hs) (passive y) h = absurd h
respond_same e seen (active s hs) (active t gs) h = ap (λ l. respond e (active 0 l)) h.1

-- an event's code, of n behaviours with these responses
module _ (n : ℕ) (r : ℕ → Response) where
  abbrev order_of : List ℕ
  order_of = order n (λ i j. needs i j (r i)) n (up_to n (λ i. not (early (r i))))

  abbrev in_c_Of : ℕ → Bool
  in_c_Of i = copied (r i)

  abbrev numbered : (ℕ → Response → List Instr) → List Instr
  numbered f = flatten (up_to n (λ i. f i (r i)))

  abbrev ordered : (ℕ → Response → List Instr) → List Instr
  ordered f = flat_map (λ i. f i (r i)) order_of

  abbrev code_of : List Instr
  code_of =
      (off ∷ (numbered (of_c copy) ++ (on ∷ [])))
      ++ ((ordered (first_code in_c_Of) ++ numbered (later_code in_c_Of))
      ++ ((numbered move_code ++ ordered (again_code in_c_Of)) ++ (off ∷ (numbered (of_c restore) ++ (on ∷ [])))))

code_of_law : (p : Program) (e : ℕ) → code p e ≡ code_of (size p) (response p e)
unfolding code copy_part first_part second_part restore_part in_order phase_one met_at_once
code_of_law p e = refl

module _ (player : ℕ) (p q : Program) (alike : Alike player p q) where
  pub events_same : events p ≡ events q
  events_same = ap length alike.priorities

  pub response_same : (e i : ℕ) → response p e i ≡ response q e i
  response_same e i = respond_same e (may_see p player i) (behaviour_at p i) (behaviour_at q i) (alike.each i)

  pub code_same : (e : ℕ) → code p e ≡ code q e
  code_same e =
      let same : code_of (size p) (response p e) ≡ code_of (size q) (response q e) = λ t. code_of (alike.sizes t) (λ i. response_same e i t) in
      code_of_law p e ∙ same ∙ sym (code_of_law q e)
