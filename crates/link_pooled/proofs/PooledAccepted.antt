-- The sheet pooled from two accepted ones is accepted, but for 3, 7 and 13: names are known, parameters are lent, there
-- is no circle, each field is within its limits. From the two programs side by side.
use Rattle.lib_base.proofs.Prelude.{ℕ, ◌≤◌, ◌<◌, ◌+◌, ◌^◌, ◌≡◌, ◌∙◌, sym, true, ⊎_elim, Option, some, none, List, []}
use Rattle.lib_base.proofs.Prelude.{◌∷◌, length, arith}
use lib.Bits.{and_le_l, and_le_r}
use Rattle.lib_base.specs.Basics.{All}
use Rattle.lib_base.proofs.Tools.{or_either, all_imp, all_join}
use Rattle.spec_language.specs.Sheet.{Term, Clause, clause, Item, formula, state, row, Signal, Entry, Sheet, rename_term, fill_term, fill_clauses, fill_item, fill_entries, fill, uses, change_clauses, change_item, change_entries}
use Rattle.spec_language.specs.Dependence.{size, NoCycle}
use Rattle.spec_language.specs.Grammar.{TermFits, t_literal, t_variable, t_param, t_apply1, t_apply2, t_apply3, NoClauseFor, ClausesFit, ItemFits, ByteFits, SignalFits, EntryFits, encode}
use Rattle.spec_language.specs.Code.{all_instructions}
use Rattle.spec_language.specs.Accepted.{NamesIn, HandlerNamesIn, BehaviourNamesIn, Known, SheetAccepted}
use Rattle.spec_language.specs.Valid.{Valid}
use Rattle.spec_language.proofs.SheetLaws.{filling_accepted}
use Rattle.link_pooled.specs.Pooled.{merged_by_number, both_send, pool_signal, pool_signals, move_term, move_entries, count, pooled}
use Rattle.link_pooled.specs.Together.{together}
use Rattle.link_pooled.proofs.TogetherValid.{shared_first, shared_second, shared_most, together_valid}
use Rattle.link_pooled.proofs.Filled.{size_fill, fill_pooled, uses_pooled}
use Rattle.link_pooled.proofs.Rows.{known_back}

-- ---- events

both_fits : (a b : Option ℕ) → ByteFits a → ByteFits b → ByteFits (both_send a b)
both_fits none none h g = tt
both_fits none (some b) h g = omega (arith, and_le_r 255 b)
both_fits (some a) none h g = omega (arith, and_le_l a 255)
both_fits (some a) (some b) h g = omega (arith, and_le_l a b)

signals_fit : (k l : List Signal) → All SignalFits k → All SignalFits l → All SignalFits (pool_signals k l)
unfolding merged_by_number
signals_fit [] l h g = g
signals_fit (a ∷ k) [] h g = h
signals_fit (a ∷ k) (b ∷ l) h g = ((h.0.0, both_fits a.sender b.sender h.0.1 g.0.1), signals_fit k l h.1 g.1)

-- ---- behaviours, with more events declared

module _ (m n : ℕ) (le : m ≤ n) where
  clauses_more : (cs : List Clause) → ClausesFit m cs → ClausesFit n cs
  clauses_more [] h = tt
  clauses_more (clause e φ x ∷ cs) h = (omega (arith, h.0), h.1, h.2, clauses_more cs h.3)

  item_more : (b : Item) → ItemFits m b → ItemFits n b
  item_more (formula x) h = h
  item_more (state s cs) h = (h.0, clauses_more cs h.1)
  item_more (row c s cs) h = (h.0, h.1, h.2, clauses_more cs h.3)

  entry_more : (x : Entry) → EntryFits m x → EntryFits n x
  entry_more x h = (item_more x.item h.0, h.1)

-- ---- and with names moved: k of them, up by n

module _ (v : ℕ → ℕ) (n k : ℕ) (small : n + k ≤ 256) where
  term_moves : {d : ℕ} {x : Term} → TermFits d x → NamesIn k (fill_term v x) → TermFits d (move_term n x)
  unfolding rename_term fill_term
  term_moves (t_literal w) h = t_literal w
  term_moves (t_variable {i = i} w) h = let b : n + i < 256 = omega arith in t_variable b
  term_moves (t_param w) h = t_param w
  term_moves (t_apply1 r a) h = t_apply1 r (term_moves a h)
  term_moves (t_apply2 r a b) h = t_apply2 r (term_moves a h.0) (term_moves b h.1)
  term_moves (t_apply3 r a b c) h = t_apply3 r (term_moves a h.0) (term_moves b h.1) (term_moves c h.2)

  none_moves : (e : ℕ) (cs : List Clause) → NoClauseFor e cs → NoClauseFor e (change_clauses (move_term n) cs)
  unfolding change_clauses
  none_moves e [] h = tt
  none_moves e (clause f φ x ∷ cs) h = (h.0, none_moves e cs h.1)

  clauses_move : (m : ℕ) (cs : List Clause) → ClausesFit m cs → All (HandlerNamesIn k) (fill_clauses v cs) → ClausesFit m (change_clauses (move_term n) cs)
  unfolding change_clauses fill_clauses
  clauses_move m [] h w = tt
  clauses_move m (clause e φ x ∷ cs) h w = (h.0, term_moves h.1 w.0, none_moves e cs h.2, clauses_move m cs h.3 w.1)

  item_moves : (m : ℕ) (b : Item) → ItemFits m b → BehaviourNamesIn k (fill_item v b) → ItemFits m (change_item (move_term n) b)
  item_moves m (formula x) h w = term_moves h w
  item_moves m (state s cs) h w = (h.0, clauses_move m cs h.1 w)
  item_moves m (row c s cs) h w = (h.0, h.1, h.2, clauses_move m cs h.3 w)

  entries_move : (m : ℕ) (bs : List Entry) → All (EntryFits m) bs → All (BehaviourNamesIn k) (fill_entries v bs) → All (EntryFits m) (move_entries n bs)
  unfolding change_entries fill_entries
  entries_move m [] h w = tt
  entries_move m (b ∷ bs) h w = ((item_moves m b.item h.0.0 w.0, h.0.1), entries_move m bs h.1 w.1)

-- ---- the whole

pub valid_filling : (v : ℕ → ℕ) → ((n : ℕ) → n < 8 → v n < 2 ^ 32) → (lent : ℕ) (s : Sheet) → SheetAccepted v lent s → Valid (fill v s)
valid_filling v small lent s a =
    let h = filling_accepted v small lent s a in
    record { each = h.fits.each; known = h.known; acyclic = h.acyclic }

-- what is accepted but for the number of bytes, of behaviours and of instructions
pub record Nearly (v : ℕ → ℕ) (lent : ℕ) (s : Sheet) : Type 0 where
  pub few_events : length s.signals ≤ 32
  pub scale : All SignalFits s.signals
  pub each : All (EntryFits (length s.signals)) s.entries
  pub known : Known (fill v s)
  pub given : uses s ≡ true → 32 ≤ lent
  pub acyclic : NoCycle (fill v s)

module _ (v : ℕ → ℕ) (small : (n : ℕ) → n < 8 → v n < 2 ^ 32) (lent : ℕ) (s t : Sheet) (one : SheetAccepted v lent s) (two : SheetAccepted v lent t) where
  few_sizes : size (fill v s) + size (fill v t) ≤ 256
  few_sizes = omega (arith, size_fill v s, size_fill v t, one.fits.few_behaviours, two.fits.few_behaviours)

  pub pooled_valid : Valid (together (fill v s) (fill v t))
  pooled_valid = together_valid (fill v s) (fill v t) (valid_filling v small lent s one) (valid_filling v small lent t two) few_sizes

  pub pooled_nearly : Nearly v lent (pooled s t)
  pooled_nearly =
      let w : Valid (fill v (pooled s t)) = rw (fill_pooled v s t one.fits one.known) pooled_valid in
      let n : ℕ = length (pool_signals s.signals t.signals) in
      let z : size (fill v t) ≡ count t = size_fill v t in
      record {
        few_events = shared_most pool_signal s.signals t.signals 32 one.fits.few_events two.fits.few_events;
        scale = signals_fit s.signals t.signals one.fits.scale two.fits.scale;
        each = all_join (EntryFits n) s.entries (move_entries (count s) t.entries)
            (all_imp (EntryFits (length s.signals)) (EntryFits n) (entry_more (length s.signals) n (shared_first pool_signal s.signals t.signals)) s.entries one.fits.each)
            (entries_move v (count s) (count t) (omega (arith, one.fits.few_behaviours, two.fits.few_behaviours)) n t.entries
            (all_imp (EntryFits (length t.signals)) (EntryFits n) (entry_more (length t.signals) n (shared_second pool_signal s.signals t.signals)) t.entries two.fits.each)
            (known_back v (count t) (length t.signals) t.entries t.entries two.fits.each (rw z at two.known)));
        known = w.known;
        given = λ u. ⊎_elim one.given two.given (or_either (uses s) (uses t) (sym (uses_pooled s t) ∙ u));
        acyclic = w.acyclic;
      }

  pub pooled_accepted : length (encode (pooled s t)) ≤ 8192 → count (pooled s t) ≤ 64 → all_instructions (fill v (pooled s t)) ≤ 4096 → SheetAccepted v lent (pooled s t)
  pooled_accepted h k l =
      let w = pooled_nearly in
      record {
        fits = record { few_events = w.few_events; few_behaviours = k; scale = w.scale; each = w.each; few_bytes = h };
        known = w.known;
        given = w.given;
        acyclic = w.acyclic;
        short = l;
      }
