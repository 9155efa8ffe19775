-- A draft that is filled in is that of the sheet's filling, and a parameter is found in it exactly if the sheet uses
-- one: node by node, each by induction on the sheet.
use Rattle.lib_base.proofs.Prelude.{ℕ, ◌≤◌, ◌<◌, ◌+◌, ◌-◌, suc, zero, ◌*◌, ◌%◌, ◌/◌, ◌^◌, max, ◌≡◌, refl, ◌∙◌, sym, ap}
use Rattle.lib_base.proofs.Prelude.{subst, true, false, Bool, ◌||◌, ◌&&◌, or-false, or-true, and-false, and-true}
use Rattle.lib_base.proofs.Prelude.{or_assoc, ◌≢◌, List, [], ◌∷◌, ◌++◌, map, map-append, length, get_or, take, drop}
use Rattle.lib_base.proofs.Prelude.{length-set, length-drop, length-map, get_or-set_other, get_or-set_same, ext_get_or}
use Rattle.lib_base.proofs.Prelude.{length-take-le, get_or-drop, take-suc, get_or-take, eqb, ltb, ne_eqb, eqb-true, lt-ltb}
use Rattle.lib_base.proofs.Prelude.{eq-eqb, eqb-false, ltb-true, arith}
use Rattle.lib_base.specs.Basics.{All}
use Rattle.lib_base.proofs.Tools.{split, by_test, all_at, all_at_or}
use Rattle.lib_word.specs.Word.{get_at, get}
use Rattle.spec_language.specs.Syntax.{Phase, immediate, later}
use Rattle.spec_language.specs.Sheet.{Term, Clause, clause, Item, formula, state, row, Entry, Sheet, rows_out, priorities_of, cell_count}
use Rattle.spec_language.specs.Sheet.{fill_term, fill_clauses, fill_item, fill_entries, fill, params_of, params_of_clauses, params_of_item, params_of_entries, uses}
use Rattle.spec_language.specs.Dependence.{handled, in_phase, respond}
use Rattle.spec_language.specs.Grammar.{Arity, unary, ternary, binary, TermFits, t_literal, t_variable, t_param, t_apply1, t_apply2, t_apply3, ClausesFit, ItemFits, EntryFits, SheetFits}
use Rattle.spec_language.specs.Code.{size_of}
use Rattle.spec_language.proofs.Laws.{handled_here, handled_there}
use Rattle.spec_language.proofs.RowLaws.{length_out, rows_fit, either_uses}
use Rattle.spec_language.proofs.RowNames.{names_sent}
use Rattle.spec_language.proofs.SheetLaws.{blank, length_priorities, length_fill, fill_at_law, size_fill, entries_fit, fill_fits}
use Rattle.draft_form.specs.Draft.{draft_length, nodes, handler_nodes, behaviour_nodes, program_nodes, entry_of, place_of, moved, used_by, Stands, EntrySays, EntryIn, StartIs, Drafted, DraftOf, unfilled, SheetDraft}
use Rattle.draft_form.proofs.DraftLaws.{take_used, moved_places}
use Rattle.draft_form.specs.Entry.{node_tag, node_word}
use Rattle.draft_params.proofs.PassiveNodes.{passives_few}
use Rattle.draft_params.specs.Filling.{parameter_value, filled_node, fill_to, any_param, lacks_param}

-- ---- values are words

pub get_small : (ps : List ℕ) → All (λ b. b < 256) ps → (n : ℕ) → get ps n < 2 ^ 32
unfolding get get_at
get_small ps h n =
    let a = all_at_or (λ b. b < 256) ps (n * 4) 0 h (omega arith) in
    let b = all_at_or (λ b. b < 256) ps (n * 4 + 1) 0 h (omega arith) in
    let c = all_at_or (λ b. b < 256) ps (n * 4 + 2) 0 h (omega arith) in
    let d = all_at_or (λ b. b < 256) ps (n * 4 + 3) 0 h (omega arith) in
    omega arith

value_small : (ps : List ℕ) → All (λ b. b < 256) ps → (n : ℕ) → n < 8 → parameter_value ps n < 2 ^ 32
unfolding parameter_value
value_small ps h n b = by_test (λ (z : ℕ). z < 2 ^ 32) (ltb (length ps) 32) (λ _. omega arith) (λ _. get_small ps h n)

-- ---- the nodes of an expression

module _ (ps : List ℕ) where
  unfoldable fill_all : List ℕ → List ℕ
  fill_all = map (filled_node ps)

  fill_append : (l m : List ℕ) → fill_all (l ++ m) ≡ fill_all l ++ fill_all m
  unfolding fill_all
  fill_append l m = map-append (filled_node ps) l m

  other_node : (x : ℕ) → node_tag x ≢ 19 → filled_node ps x ≡ x
  unfolding filled_node
  other_node x h = rw (ne_eqb (node_tag x) 19 h)

  app_node : (f n : ℕ) → Arity f n → filled_node ps (77309411328 + f) ≡ 77309411328 + f
  app_node f n unary = other_node (77309411328 + f) (λ e. omega arith)
  app_node f n ternary = other_node (77309411328 + f) (λ e. omega arith)
  app_node f n (binary h k q) = other_node (77309411328 + f) (λ e. omega arith)

  param_node : (n : ℕ) → n < 8 → filled_node ps (68719476736 + (12884901888 + n)) ≡ 68719476736 + parameter_value ps n
  unfolding filled_node
  param_node n h =
      let t : node_tag (68719476736 + (12884901888 + n)) ≡ 19 = omega arith in
      let k : (68719476736 + (12884901888 + n)) % 8 ≡ n = omega arith in
      rw (eq-eqb (node_tag (68719476736 + (12884901888 + n))) 19 t, k)

  term_nodes : {k : ℕ} {x : Term} → TermFits k x → fill_all (nodes (fill_term unfilled x)) ≡ nodes (fill_term (parameter_value ps) x)
  unfolding fill_all fill_term nodes
  term_nodes (t_literal {w = w} h) = rw (other_node (68719476736 + w) (λ e. omega arith))
  term_nodes (t_variable {i = i} h) = rw (other_node (73014444032 + i) (λ e. omega arith))
  term_nodes (t_param {n = n} h) = rw (param_node n h)
  term_nodes (t_apply1 {f = f} {a = a} r p) =
      rw (fill_append (nodes (fill_term unfilled a)) ((77309411328 + f) ∷ []), term_nodes p, app_node f 1 r, fill_all)
  term_nodes (t_apply2 {f = f} {a = a} {b = b} r p q) =
      rw (
        fill_append (nodes (fill_term unfilled a)) (nodes (fill_term unfilled b) ++ ((77309411328 + f) ∷ [])),
        fill_append (nodes (fill_term unfilled b)) ((77309411328 + f) ∷ []),
        term_nodes p,
        term_nodes q,
        app_node f 2 r,
        fill_all,
      )
  term_nodes (t_apply3 {f = f} {a = a} {b = b} {c = c} r p q t) =
      rw (
        fill_append (nodes (fill_term unfilled a)) (nodes (fill_term unfilled b) ++ (nodes (fill_term unfilled c) ++ ((77309411328 + f) ∷ []))),
        fill_append (nodes (fill_term unfilled b)) (nodes (fill_term unfilled c) ++ ((77309411328 + f) ∷ [])),
        fill_append (nodes (fill_term unfilled c)) ((77309411328 + f) ∷ []),
        term_nodes p,
        term_nodes q,
        term_nodes t,
        app_node f 3 r,
        fill_all,
      )

  clause_nodes : (n : ℕ) (cs : List Clause) → ClausesFit n cs → fill_all (handler_nodes (fill_clauses unfilled cs)) ≡ handler_nodes (fill_clauses (parameter_value ps) cs)
  unfolding fill_all fill_clauses handler_nodes
  clause_nodes n [] h = refl
  clause_nodes n (clause e φ x ∷ cs) h =
      rw (fill_append (nodes (fill_term unfilled x)) (handler_nodes (fill_clauses unfilled cs)), term_nodes h.1, clause_nodes n cs h.3)

  item_nodes : (n : ℕ) (b : Item) → ItemFits n b → fill_all (behaviour_nodes (fill_item unfilled b)) ≡ behaviour_nodes (fill_item (parameter_value ps) b)
  item_nodes n (formula x) h = term_nodes h
  item_nodes n (state s cs) h = clause_nodes n cs h.1
  item_nodes n (row c s cs) h = clause_nodes n cs h.3

  entries_nodes : (n : ℕ) (bs : List Entry) → All (EntryFits n) bs → fill_all (program_nodes (fill_entries unfilled bs)) ≡ program_nodes (fill_entries (parameter_value ps) bs)
  unfolding fill_all fill_entries program_nodes
  entries_nodes n [] h = refl
  entries_nodes n (b ∷ bs) h =
      rw (fill_append (behaviour_nodes (fill_item unfilled b.item)) (program_nodes (fill_entries unfilled bs)), item_nodes n b.item h.0.0, entries_nodes n bs h.1)

  -- ---- the draft

  length_fill_all : (l : List ℕ) → length (fill_all l) ≡ length l
  unfolding fill_all
  length_fill_all l = length-map l (filled_node ps)

  get_d_fill_all : (l : List ℕ) (i : ℕ) → i < length l → get_or (fill_all l) i 0 ≡ filled_node ps (get_or l i 0)
  unfolding fill_all
  get_d_fill_all [] i h = absurd (omega arith)
  get_d_fill_all (x ∷ l) zero h = refl
  get_d_fill_all (x ∷ l) (suc i) h = get_d_fill_all l i (omega arith)

  length_fill_to : (d : List ℕ) (k : ℕ) → length (fill_to ps d k) ≡ length d
  unfolding fill_to
  length_fill_to d zero = refl
  length_fill_to d (suc k) = length-set (fill_to ps d k) k (filled_node ps (get_or (fill_to ps d k) k 0)) ∙ length_fill_to d k

  -- nodes from k on are as they were, and those before it filled in
  after_fill_to : (d : List ℕ) (k j : ℕ) → k ≤ j → get_or (fill_to ps d k) j 0 ≡ get_or d j 0
  unfolding fill_to
  after_fill_to d zero j h = refl
  after_fill_to d (suc k) j h =
      get_or-set_other (fill_to ps d k) k j (filled_node ps (get_or (fill_to ps d k) k 0)) 0 (omega arith) ∙ after_fill_to d k j (omega arith)

  before_fill_to : (d : List ℕ) (k j : ℕ) → j < k → k ≤ length d → get_or (fill_to ps d k) j 0 ≡ filled_node ps (get_or d j 0)
  unfolding fill_to
  before_fill_to d zero j h b = absurd (omega arith)
  before_fill_to d (suc k) j h b =
      split (eqb j k)
      (λ c.
      let q : j ≡ k = eqb-true j k c in
      rw q
      (get_or-set_same (fill_to ps d k) k (filled_node ps (get_or (fill_to ps d k) k 0)) 0 (omega (arith, length_fill_to d k))
      ∙ ap (filled_node ps) (after_fill_to d k k (omega arith))))
      (λ c.
      let q : j ≢ k = eqb-false j k c in
      get_or-set_other (fill_to ps d k) k j (filled_node ps (get_or (fill_to ps d k) k 0)) 0 q ∙ before_fill_to d k j (omega arith) (omega arith))

  part_filled : (d : List ℕ) → length d ≡ draft_length → (n : ℕ) → n ≤ 2048 → (a m : ℕ) → a + m ≤ n → take m (drop a (fill_to ps d n)) ≡ fill_all (take m (drop a d))
  part_filled d long n few a m h =
      let l₁ : length (drop a (fill_to ps d n)) ≡ draft_length - a = length-drop a (fill_to ps d n) ∙ rw (length_fill_to d n, long) in
      let l₂ : length (drop a d) ≡ draft_length - a = length-drop a d ∙ rw long in
      let e₁ : length (take m (drop a (fill_to ps d n))) ≡ m = length-take-le m (drop a (fill_to ps d n)) (omega arith) in
      let e₂ : length (take m (drop a d)) ≡ m = length-take-le m (drop a d) (omega arith) in
      ext_get_or 0 (take m (drop a (fill_to ps d n))) (fill_all (take m (drop a d))) (e₁ ∙ sym (length_fill_all (take m (drop a d)) ∙ e₂))
      (λ i b.
      let c : i < m = omega arith in
      get_or-take m (drop a (fill_to ps d n)) i 0 c ∙ get_or-drop a (fill_to ps d n) i 0 ∙ before_fill_to d n (a + i) (omega arith) (omega arith)
      ∙ sym (get_d_fill_all (take m (drop a d)) i (omega arith) ∙ ap (filled_node ps) (get_or-take m (drop a d) i 0 c ∙ get_or-drop a d i 0)))

  -- a node that a behaviour uses, filled in (02, M-110): its name is moved before or after
  module _ (bytes : All (λ b. b < 256) ps) (d : List ℕ) (i : ℕ) where
    constant_node : (x : ℕ) → node_tag (68719476736 + parameter_value ps (x % 8)) ≢ 17
    constant_node x e = omega (arith, value_small ps bytes (x % 8) (omega arith))

    moved_tag : (x : ℕ) → node_tag x ≡ 17 → node_tag (moved d i x) ≡ 17
    unfolding moved
    moved_tag x e =
        by_test (λ (y : ℕ). node_tag y ≡ 17) (eqb (node_tag x) 17)
        (λ a. by_test (λ (y : ℕ). node_tag y ≡ 17) (ltb (node_word x) 64)
        (λ b. by_test (λ (y : ℕ). node_tag y ≡ 17) (eqb (place_of d (node_word x)) (place_of d i / 16 * 16)) (λ c. omega (arith, ltb-true (node_word x) 64 b)) (λ c. e))
        (λ b. e))
        (λ a. e)

    not_moved : (x : ℕ) → node_tag x ≢ 17 → moved d i x ≡ x
    unfolding moved
    not_moved x h = rw (ne_eqb (node_tag x) 17 h)

    still : (x : ℕ) → node_tag x ≢ 17 → node_tag (filled_node ps x) ≢ 17
    unfolding filled_node
    still x h = by_test (λ (y : ℕ). node_tag y ≢ 17) (eqb (node_tag x) 19) (λ _. constant_node x) (λ _. h)

    moved_filled : (x : ℕ) → moved d i (filled_node ps x) ≡ filled_node ps (moved d i x)
    moved_filled x =
        split (eqb (node_tag x) 17)
        (λ t.
        let e : node_tag x ≡ 17 = eqb-true (node_tag x) 17 t in
        let m = moved_tag x e in
        ap (moved d i) (other_node x (omega arith)) ∙ sym (other_node (moved d i x) (omega arith)))
        (λ t. let e : node_tag x ≢ 17 = eqb-false (node_tag x) 17 t in not_moved (filled_node ps x) (still x e) ∙ ap (filled_node ps) (sym (not_moved x e)))

    fill_moved : (l : List ℕ) → map (moved d i) (fill_all l) ≡ fill_all (map (moved d i) l)
    unfolding fill_all
    fill_moved [] = refl
    fill_moved (x ∷ l) = λ t. moved_filled x t ∷ fill_moved l t

  module _ (bytes : All (λ b. b < 256) ps) (d : List ℕ) (long : length d ≡ draft_length) (n : ℕ) (room : n ≤ 2048) where
    abbrev d' : List ℕ
    d' = fill_to ps d n

    same_moves : (i : ℕ) (l : List ℕ) → map (moved d' i) l ≡ map (moved d i) l
    same_moves i [] = refl
    same_moves i (x ∷ l) = λ t. moved_places d d' i x (λ j. after_fill_to d n (4352 + j) (omega arith)) t ∷ same_moves i l t

    used_filled : (i a m : ℕ) → a + m ≤ n → take m (drop a (used_by d' i)) ≡ fill_all (take m (drop a (used_by d i)))
    used_filled i a m h =
        take_used d' i m a ∙ ap (map (moved d' i)) (part_filled d long n room a m h) ∙ same_moves i (fill_all (take m (drop a d))) ∙ fill_moved bytes d i (take m (drop a d))
        ∙ ap fill_all (sym (take_used d i m a))

    stands_filled : (kind v : ℕ) (x : Term) {k : ℕ} → TermFits k x → kind < 4 → EntryIn n v → (i : ℕ) → Stands (used_by d i) kind v (fill_term unfilled x) → Stands (used_by d' i) kind v (fill_term (parameter_value ps) x)
    stands_filled kind v x f small held i s =
        let z = size_fill (parameter_value ps) unfilled x in
        record {
          start = s.start;
          packed = rw z s.packed;
          within = rw z s.within;
          there = rw z (used_filled i s.start (size_of (fill_term unfilled x)) (omega (arith, s.packed, s.within, held)) ∙ ap fill_all s.there ∙ term_nodes f);
        }

    phase_filled : (i v : ℕ) (φ : Phase) (x : Term) {k : ℕ} → TermFits k x → EntryIn n v → EntrySays (used_by d i) v (in_phase φ (fill_term unfilled x)) → EntrySays (used_by d' i) v (in_phase φ (fill_term (parameter_value ps) x))
    phase_filled i v immediate x f held s = stands_filled 2 v x f (omega arith) held i s
    phase_filled i v later x f held s = stands_filled 3 v x f (omega arith) held i s

    handled_filled : (i l e v : ℕ) (cs : List Clause) → ClausesFit l cs → EntryIn n v → EntrySays (used_by d i) v (handled e (fill_clauses unfilled cs)) → EntrySays (used_by d' i) v (handled e (fill_clauses (parameter_value ps) cs))
    unfolding handled fill_clauses
    handled_filled i l e v [] f held s = s
    handled_filled i l e v (clause g φ x ∷ cs) f held s =
        split (eqb e g)
        (λ c. subst (EntrySays (used_by d' i) v) (sym (handled_here e g φ (fill_term (parameter_value ps) x) (fill_clauses (parameter_value ps) cs) c))
        (phase_filled i v φ x f.1 held (subst (EntrySays (used_by d i) v) (handled_here e g φ (fill_term unfilled x) (fill_clauses unfilled cs) c) s)))
        (λ c. subst (EntrySays (used_by d' i) v) (sym (handled_there e g φ (fill_term (parameter_value ps) x) (fill_clauses (parameter_value ps) cs) c))
        (handled_filled i l e v cs f.3 held (subst (EntrySays (used_by d i) v) (handled_there e g φ (fill_term unfilled x) (fill_clauses unfilled cs) c) s)))

    item_filled : (i l e v : ℕ) (b : Item) → ItemFits l b → EntryIn n v → EntrySays (used_by d i) v (respond e (fill_item unfilled b)) → EntrySays (used_by d' i) v (respond e (fill_item (parameter_value ps) b))
    item_filled i l e v (formula x) f held s = stands_filled 1 v x f (omega arith) held i s
    item_filled i l e v (state w cs) f held s = handled_filled i l e v cs f.1 held s
    item_filled i l e v (row c w cs) f held s = handled_filled i l e v cs f.3 held s

    start_filled : (i : ℕ) (b : Item) → StartIs d i (fill_item unfilled b) → StartIs d' i (fill_item (parameter_value ps) b)
    start_filled i (formula x) h = after_fill_to d n (4160 + i) (omega arith) ∙ h
    start_filled i (state w cs) h = after_fill_to d n (4160 + i) (omega arith) ∙ h
    start_filled i (row c w cs) h = after_fill_to d n (4160 + i) (omega arith) ∙ h

    entry_filled : (e i : ℕ) → entry_of d' e i ≡ entry_of d e i
    unfolding entry_of
    entry_filled e i = rw (after_fill_to d n (4096 + i) (omega arith), after_fill_to d n (2048 + i * 32 + e) (omega arith))

    fill_drafted : (s : Sheet) → SheetFits s → ((e i : ℕ) → i < cell_count s.entries → EntryIn n (entry_of d e i)) → Drafted (fill unfilled s) d n → Drafted (fill (parameter_value ps) s) d' n
    fill_drafted s f held h =
        let out = (rows_out s).entries in
        let l = length s.signals in
        let p : length (fill_entries unfilled out) ≡ length out = length_fill unfilled out in
        let q : length (fill_entries (parameter_value ps) out) ≡ length out = length_fill (parameter_value ps) out in
        record {
          long = length_fill_to d n ∙ long;
          few = h.few;
          says = λ e i a b.
              rw (entry_filled e i, fill_at_law (parameter_value ps) out i)
              (item_filled i l e (entry_of d e i) (get_or out i blank).item
              (all_at (EntryFits l) out i blank (rows_fit s f) (omega arith)).0 (held e i (omega (arith, length_out s.entries s.entries)))
              (rw (fill_at_law unfilled out i) at (h.says e i a (omega arith))));
          starts = λ i b.
              rw (fill_at_law (parameter_value ps) out i) (start_filled i (get_or out i blank).item (rw (fill_at_law unfilled out i) at (h.starts i (omega arith))));
          priorities = λ e b. after_fill_to d n (4224 + e) (omega arith) ∙ h.priorities e b;
          viewers = λ i b. after_fill_to d n (4256 + i) (omega arith) ∙ h.viewers i (omega arith);
          senders = λ e b. after_fill_to d n (4320 + e) (omega arith) ∙ h.senders e b;
        }

-- the draft of a sheet, filled in, is that of its filling
pub draft_filled : {ev bs n : ℕ} {d : List ℕ} (ps : List ℕ) → All (λ b. b < 256) ps → SheetDraft ev bs n d → DraftOf ev bs n (fill_to ps d n)
draft_filled {n = n} {d = d} ps bytes o =
    let s = o.sheet in
    let l : length (priorities_of s.signals) ≡ length s.signals = length_priorities s.signals in
    let same_pool : take n (fill_to ps d n) ≡ program_nodes (fill_entries (parameter_value ps) s.entries) =
    part_filled ps d o.drafted.long n o.drafted.few 0 n (omega arith) ∙ ap (fill_all ps) o.pool ∙ entries_nodes ps (length s.signals) s.entries o.fits.each in
    record {
      program = fill (parameter_value ps) s;
      fits = fill_fits (parameter_value ps) (value_small ps bytes) s o.fits;
      events_are = o.events_are ∙ sym l;
      size_is = o.size_is ∙ sym (length_fill (parameter_value ps) (rows_out s).entries ∙ length_out s.entries s.entries);
      drafted = fill_drafted ps bytes d o.drafted.long n o.drafted.few s o.fits (λ e i h. o.held e i (omega (arith, o.size_is))) o.drafted;
      sent = fill_entries (parameter_value ps) s.entries;
      pool = same_pool;
      few_passives =
          let m : length (program_nodes (fill_entries (parameter_value ps) s.entries)) ≤ n = omega (arith, ap length same_pool, length-take-le n (fill_to ps d n) (omega (arith, length_fill_to ps d n, o.drafted.long, o.drafted.few))) in
          omega (arith, passives_few (parameter_value ps) s.entries s.entries, m);
      sent_fits = rw l (entries_fit (parameter_value ps) (value_small ps bytes) (length s.signals) s.entries o.fits.each);
      sent_known = names_sent (parameter_value ps) s o.fits;
    }

pub filled_program : {ev bs n : ℕ} {d : List ℕ} (ps : List ℕ) (bytes : All (λ b. b < 256) ps) (o : SheetDraft ev bs n d)
    → (draft_filled ps bytes o).program ≡ fill (parameter_value ps) o.sheet
unfolding draft_filled
filled_program ps bytes o = refl

-- ---- a parameter among the nodes

unfoldable any_in : List ℕ → Bool
any_in [] = false
any_in (x ∷ l) = eqb (node_tag x) 19 || any_in l

any_append : (l m : List ℕ) → any_in (l ++ m) ≡ any_in l || any_in m
unfolding any_in
any_append [] m = refl
any_append (x ∷ l) m = rw (any_append l m) (sym (or_assoc (eqb (node_tag x) 19) (any_in l) (any_in m)))

no_param : (x : ℕ) → node_tag x ≢ 19 → any_in (x ∷ []) ≡ false
unfolding any_in
no_param x h = rw (ne_eqb (node_tag x) 19 h, any_in)

app_none : (f n : ℕ) → Arity f n → any_in ((77309411328 + f) ∷ []) ≡ false
app_none f n unary = no_param (77309411328 + f) (λ e. omega arith)
app_none f n ternary = no_param (77309411328 + f) (λ e. omega arith)
app_none f n (binary h k q) = no_param (77309411328 + f) (λ e. omega arith)

param_found : (n : ℕ) → n < 8 → any_in ((68719476736 + (12884901888 + n)) ∷ []) ≡ true
unfolding any_in
param_found n h = rw (eq-eqb (node_tag (68719476736 + (12884901888 + n))) 19 (omega arith))

term_any : {k : ℕ} {x : Term} → TermFits k x → any_in (nodes (fill_term unfilled x)) ≡ ltb 0 (params_of x)
unfolding fill_term nodes params_of
term_any (t_literal {w = w} h) = no_param (68719476736 + w) (λ e. omega arith)
term_any (t_variable {i = i} h) = no_param (73014444032 + i) (λ e. omega arith)
term_any (t_param {n = n} h) = param_found n h ∙ sym (lt-ltb 0 (suc n) (omega arith))
term_any (t_apply1 {f = f} {a = a} r p) =
    rw (any_append (nodes (fill_term unfilled a)) ((77309411328 + f) ∷ []), app_none f 1 r, or-false) (term_any p)
term_any (t_apply2 {f = f} {a = a} {b = b} r p q) =
    rw (
      any_append (nodes (fill_term unfilled a)) (nodes (fill_term unfilled b) ++ ((77309411328 + f) ∷ [])),
      any_append (nodes (fill_term unfilled b)) ((77309411328 + f) ∷ []),
      app_none f 2 r,
      or-false,
      term_any p,
      term_any q,
    )
    (either_uses (params_of a) (params_of b))
term_any (t_apply3 {f = f} {a = a} {b = b} {c = c} r p q t) =
    rw (
      any_append (nodes (fill_term unfilled a)) (nodes (fill_term unfilled b) ++ (nodes (fill_term unfilled c) ++ ((77309411328 + f) ∷ []))),
      any_append (nodes (fill_term unfilled b)) (nodes (fill_term unfilled c) ++ ((77309411328 + f) ∷ [])),
      any_append (nodes (fill_term unfilled c)) ((77309411328 + f) ∷ []),
      app_none f 3 r,
      or-false,
      term_any p,
      term_any q,
      term_any t,
      either_uses (params_of b) (params_of c),
    )
    (either_uses (params_of a) (max (params_of b) (params_of c)))

clauses_any : (n : ℕ) (cs : List Clause) → ClausesFit n cs → any_in (handler_nodes (fill_clauses unfilled cs)) ≡ ltb 0 (params_of_clauses cs)
unfolding any_in fill_clauses handler_nodes params_of_clauses
clauses_any n [] h = refl
clauses_any n (clause e φ x ∷ cs) h =
    rw (any_append (nodes (fill_term unfilled x)) (handler_nodes (fill_clauses unfilled cs)), term_any h.1, clauses_any n cs h.3)
    (either_uses (params_of x) (params_of_clauses cs))

item_any : (n : ℕ) (b : Item) → ItemFits n b → any_in (behaviour_nodes (fill_item unfilled b)) ≡ ltb 0 (params_of_item b)
item_any n (formula x) h = term_any h
item_any n (state s cs) h = clauses_any n cs h.1
item_any n (row c s cs) h = clauses_any n cs h.3

entries_any : (n : ℕ) (bs : List Entry) → All (EntryFits n) bs → any_in (program_nodes (fill_entries unfilled bs)) ≡ ltb 0 (params_of_entries bs)
unfolding any_in fill_entries program_nodes params_of_entries
entries_any n [] h = refl
entries_any n (b ∷ bs) h =
    rw (any_append (behaviour_nodes (fill_item unfilled b.item)) (program_nodes (fill_entries unfilled bs)), item_any n b.item h.0.0, entries_any n bs h.1)
    (either_uses (params_of_item b.item) (params_of_entries bs))

pass_any : (d : List ℕ) (n : ℕ) → n ≤ length d → any_param d n ≡ any_in (take n d)
unfolding any_param any_in
pass_any d zero h = refl
pass_any d (suc n) h =
    let e : any_in (take (suc n) d) ≡ any_in (take n d) || eqb (node_tag (get_or d n 0)) 19 =
    rw (take-suc d n 0 (omega arith), any_append (take n d) (get_or d n 0 ∷ []), any_in, or-false) in
    split (eqb (node_tag (get_or d n 0)) 19)
    (λ t. rw (e, t, any_param, or-true (any_in (take n d))))
    (λ t. rw (e, t, any_param, or-false) (pass_any d n (omega arith)))

-- a parameter is found exactly if the sheet uses one
draft_uses : {ev bs n : ℕ} {d : List ℕ} (o : SheetDraft ev bs n d) → any_param d n ≡ uses o.sheet
draft_uses {n = n} {d = d} o =
    pass_any d n (omega (arith, o.drafted.long, o.drafted.few))
    ∙ rw o.pool (entries_any (length o.sheet.signals) o.sheet.entries o.fits.each)

pub draft_lacks : {ev bs n : ℕ} {d : List ℕ} (o : SheetDraft ev bs n d) (ps : List ℕ) → lacks_param d n ps ≡ uses o.sheet && ltb (length ps) 32
unfolding lacks_param
draft_lacks o ps =
    split (ltb (length ps) 32) (λ c. rw (c, and-true) (draft_uses o)) (λ c. rw (c, and-false))
