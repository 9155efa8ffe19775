-- The tokens worked out from the bytes of events, handlers and behaviours are those of the text that describes them. By
-- induction on the sheet: the fields of one tag end where another tag begins.
use Rattle.lib_base.proofs.Prelude.{ℕ, ◌≤◌, ◌<◌, ◌+◌, suc, zero, ◌^◌, ◌≡◌, refl, ◌∙◌, sym, ap, ◌≢◌, Option, some}
use Rattle.lib_base.proofs.Prelude.{none, List, [], ◌∷◌, ◌++◌, append_assoc, length, get_or, length-append, add-one}
use Rattle.lib_base.proofs.Prelude.{ne_eqb, le-ltb, arith}
use Rattle.lib_base.specs.Basics.{All}
use Rattle.spec_language.specs.Syntax.{Phase, immediate, later}
use Rattle.spec_language.specs.Sheet.{Clause, clause, Item, formula, state, row, Signal, Entry, cells, cell_count}
use Rattle.spec_language.specs.Grammar.{field, word, encode_expr, encode_phase, encode_handler, encode_handlers, tag_of, encode_item, encode_viewer, encode_behaviour, encode_behaviours, encode_sender, encode_event, encode_events, ClausesFit, ItemFits, ByteFits, SignalFits, EntryFits}
use Rattle.spec_language.specs.Reading.{phase_of}
use Rattle.spec_grammar.proofs.Programs.{behaviour_bytes}
use Rattle.source_language.specs.Tokens.{SheetToken, number, name, rank_word, from_word, by_word, seen_word, on_word, equals, bracket, unbracket, event_keyword, passive_word, active_word, row_word}
use Rattle.source_language.specs.Text.{behaviour}
use Rattle.source_rendering.specs.Describe.{event_name, behaviour_name, described_constant, phrase_of, described_reactions, described_body, players_in, described_behaviours, described_events, mark, value_tokens, phrase_tokens, from_tokens, seen_tokens, phase_tokens, event_tokens, reaction_tokens, behaviour_token, behaviour_tokens}
use Rattle.source_rendering.proofs.Described.{some_cells}
use Rattle.sheet_walk.specs.Fields.{after_field, past_fields}
use Rattle.source_terms.specs.Terms.{term_tokens}
use Rattle.source_describe.specs.Walk.{handlers_tokens, viewer_tokens, active_tokens, entry_tokens, entries_tokens, sender_tokens, signals_tokens}
use Rattle.sheet_walk.proofs.Fields.{after_field_law, after_term, after_behaviour, cells_in_front_law, word_in_front_law}
use Rattle.source_terms.proofs.Terms.{value_on, term_walks}
use Rattle.source_describe.proofs.Rights.{right_walks}

abbrev Tokens : Type 0
Tokens = List SheetToken

-- ---- what stands behind

after_handler : (h : Clause) (rest : List ℕ) → after_field (encode_handler h ++ rest) ≡ rest
after_handler (clause e φ x) rest = after_field_law 5 (e ∷ encode_phase φ ∷ encode_expr x) rest

after_event : (r : Signal) (rest : List ℕ) → after_field (encode_event r ++ rest) ≡ rest
after_event r rest = after_field_law 1 (r.priority ∷ encode_sender r.sender) rest

pub past_handlers : (k : ℕ) (cs : List Clause) (rest : List ℕ) → length cs ≤ k → get_or rest 0 0 ≢ 5 → past_fields 5 k (encode_handlers cs ++ rest) ≡ rest
unfolding past_fields encode_handlers
past_handlers zero [] rest h n = refl
past_handlers (suc k) [] rest h n = rw (ne_eqb (get_or rest 0 0) 5 n)
past_handlers zero (c ∷ cs) rest h n = absurd (omega arith)
past_handlers (suc k) (clause e φ x ∷ cs) rest h n =
    rw (append_assoc (encode_handler (clause e φ x)) (encode_handlers cs) rest, after_handler (clause e φ x) (encode_handlers cs ++ rest))
    (past_handlers k cs rest (omega arith) n)

pub past_events : (k : ℕ) (rs : List Signal) (rest : List ℕ) → length rs ≤ k → get_or rest 0 0 ≢ 1 → past_fields 1 k (encode_events rs ++ rest) ≡ rest
unfolding past_fields encode_events
past_events zero [] rest h n = refl
past_events (suc k) [] rest h n = rw (ne_eqb (get_or rest 0 0) 1 n)
past_events zero (r ∷ rs) rest h n = absurd (omega arith)
past_events (suc k) (r ∷ rs) rest h n =
    rw (append_assoc (encode_event r) (encode_events rs) rest, after_event r (encode_events rs ++ rest)) (past_events k rs rest (omega arith) n)

-- a behaviour begins with none of the other tags
pub behaviour_tag_law : (t : ℕ) → t ≢ 0 → t ≢ 2 → t ≢ 3 → t ≢ 6 → (ys : List Entry) → get_or (encode_behaviours ys) 0 0 ≢ t
unfolding encode_behaviours
behaviour_tag_law t n a b c [] = λ e. n (sym e)
behaviour_tag_law t n a b c (y ∷ ys) = of_item y.item
  where
    of_item : (x : Item) → tag_of x ≢ t
    of_item (formula x) = λ e. a (sym e)
    of_item (state s cs) = λ e. b (sym e)
    of_item (row k s cs) = λ e. c (sym e)

-- nor does what stands behind handlers begin with one more
ending_tag : (o : Option ℕ) (ys : List Entry) → get_or (encode_viewer o ++ encode_behaviours ys) 0 0 ≢ 5
ending_tag none ys = behaviour_tag_law 5 (omega arith) (omega arith) (omega arith) (omega arith) ys
ending_tag (some m) ys = omega arith

-- ---- events

sender_walks : (r : ℕ) (o : Option ℕ) (rest : List ℕ) (ts : Tokens) → ByteFits o
    → sender_tokens (field 1 (r ∷ encode_sender o) ++ rest) ++ ts ≡ from_tokens (players_in o) ts
sender_walks r none rest ts h = refl
sender_walks r (some m) rest ts h = ap (λ (us : Tokens). mark from_word us) (right_walks m ts h)

pub signals_walk : (k i : ℕ) (rs : List Signal) (rest : List ℕ) (ts : Tokens) → length rs ≤ k → get_or rest 0 0 ≢ 1 → All SignalFits rs
    → signals_tokens k i (encode_events rs ++ rest) ++ ts ≡ event_tokens (described_events i rs) ts
unfolding signals_tokens encode_events described_events event_tokens
signals_walk zero i [] rest ts h n f = refl
signals_walk (suc k) i [] rest ts h n f = rw (ne_eqb (get_or rest 0 0) 1 n)
signals_walk zero i (r ∷ rs) rest ts h n f = absurd (omega arith)
signals_walk (suc k) i (r ∷ rs) rest ts h n f =
    let after = encode_events rs ++ rest in
    rw (append_assoc (encode_event r) (encode_events rs) rest, after_event r after, add-one i)
    (ap (λ (us : Tokens). mark event_keyword (name 0 (event_name i) ∷ mark rank_word (number 0 r.priority ∷ us)))
    (append_assoc (sender_tokens (encode_event r ++ after)) (signals_tokens k (suc i) after) ts
    ∙ (rw (signals_walk k (suc i) rs rest ts (omega arith) n f.1) (sender_walks r.priority r.sender after (event_tokens (described_events (suc i) rs) ts) f.0.1))))

-- ---- who may see

viewer_walks : (o : Option ℕ) (ys : List Entry) (ts : Tokens) → ByteFits o → viewer_tokens (encode_viewer o ++ encode_behaviours ys) ++ ts ≡ seen_tokens (players_in o) ts
viewer_walks none ys ts h = rw (ne_eqb (get_or (encode_behaviours ys) 0 0) 8 (behaviour_tag_law 8 (omega arith) (omega arith) (omega arith) (omega arith) ys))
viewer_walks (some m) ys ts h = ap (λ (us : Tokens). mark seen_word (mark by_word us)) (right_walks m ts h)

-- ---- handlers

many_handlers : (cs : List Clause) → length cs ≤ length (encode_handlers cs)
unfolding encode_handlers
many_handlers [] = omega arith
many_handlers (clause e φ x ∷ cs) = omega (arith, many_handlers cs, length-append (encode_handler (clause e φ x)) (encode_handlers cs))

phase_on : (φ : Phase) (ts : Tokens) → phase_tokens (phase_of (encode_phase φ)) [] ++ ts ≡ phase_tokens φ ts
phase_on immediate ts = refl
phase_on later ts = refl

three_parts : (A B C ts : Tokens) → ((A ++ B) ++ C) ++ ts ≡ A ++ (B ++ (C ++ ts))
three_parts A B C ts = simp append_assoc

right_parts : (A B C ts : Tokens) → (A ++ (B ++ C)) ++ ts ≡ A ++ (B ++ (C ++ ts))
right_parts A B C ts = simp append_assoc

module _ (m : ℕ) (xs : List Entry) (f : All (EntryFits m) xs) (n : ℕ) (long : length xs ≤ n) where
  abbrev bytes : List ℕ
  bytes = encode_behaviours xs

  handlers_walk : (k : ℕ) (cs : List Clause) (rest : List ℕ) (ts : Tokens) → length cs ≤ k → get_or rest 0 0 ≢ 5 → ClausesFit m cs
      → handlers_tokens n bytes k (encode_handlers cs ++ rest) ++ ts ≡ reaction_tokens (described_reactions xs cs) ts
  unfolding handlers_tokens encode_handlers described_reactions reaction_tokens
  handlers_walk zero [] rest ts h z g = refl
  handlers_walk (suc k) [] rest ts h z g = rw (ne_eqb (get_or rest 0 0) 5 z)
  handlers_walk zero (c ∷ cs) rest ts h z g = absurd (omega arith)
  handlers_walk (suc k) (clause e φ x ∷ cs) rest ts h z g =
      let after = encode_handlers cs ++ rest in
      let ps = phase_tokens (phase_of (encode_phase φ)) [] in
      let us = reaction_tokens (described_reactions xs cs) ts in
      rw (append_assoc (encode_expr x) (encode_handlers cs) rest, after_handler (clause e φ x) after)
      (ap (λ (us : Tokens). mark on_word (name 0 (event_name e) ∷ us))
      (three_parts ps (term_tokens n bytes 16 6 (encode_expr x ++ after)) (handlers_tokens n bytes k after) ts
      ∙ rw (handlers_walk k cs rest ts (omega arith) z g.3, term_walks m xs f n long g.1 6 after us) (phase_on φ (phrase_tokens 6 (phrase_of xs x) us))))

  -- ---- behaviours

  active_walks : (w : ℕ) (cs : List Clause) (o : Option ℕ) (ys : List Entry) (ts : Tokens) → w < 2 ^ 32 → ClausesFit m cs → ByteFits o → length cs ≤ n
      → active_tokens n bytes (field 4 (word w) ++ (encode_handlers cs ++ (encode_viewer o ++ encode_behaviours ys))) ++ ts
      ≡ value_tokens (described_constant w) (seen_tokens (players_in o) (reaction_tokens (described_reactions xs cs) ts))
  active_walks w cs o ys ts h g b l =
      let rest = encode_viewer o ++ encode_behaviours ys in
      let us = reaction_tokens (described_reactions xs cs) ts in
      rw (word_in_front_law w (encode_handlers cs ++ rest) h, past_handlers n cs rest l (ending_tag o ys))
      (right_parts (value_tokens (described_constant w) []) (viewer_tokens rest) (handlers_tokens n bytes n (encode_handlers cs ++ rest)) ts
      ∙ rw (handlers_walk n cs rest ts l (ending_tag o ys) g, viewer_walks o ys us b) (value_on w (seen_tokens (players_in o) us)))

  entry_walks : (j : ℕ) (x : Item) (o : Option ℕ) (ys : List Entry) (ts : Tokens) → ItemFits m x → ByteFits o → length (encode_item x) ≤ n
      → entry_tokens n bytes j (encode_behaviour (record { item = x; viewer = o }) ++ encode_behaviours ys) ++ ts
      ≡ behaviour_token (behaviour (behaviour_name j) (described_body xs x) (players_in o)) ts
  entry_walks j (formula x) o ys ts g b l =
      let rest = encode_viewer o ++ encode_behaviours ys in
      rw (append_assoc (encode_expr x) (encode_viewer o) (encode_behaviours ys), after_term x rest)
      (ap (λ (us : Tokens). mark passive_word (name 0 (behaviour_name j) ∷ mark equals us))
      (append_assoc (term_tokens n bytes 16 6 (encode_expr x ++ rest)) (viewer_tokens rest) ts
      ∙ rw (viewer_walks o ys ts b) (term_walks m xs f n long g 6 rest (seen_tokens (players_in o) ts))))
  entry_walks j (state s cs) o ys ts g b l =
      rw (append_assoc (encode_handlers cs) (encode_viewer o) (encode_behaviours ys))
      (ap (λ (us : Tokens). mark active_word (name 0 (behaviour_name j) ∷ mark equals us))
      (active_walks s cs o ys ts g.0 g.1 b (omega (arith, many_handlers cs))))
  entry_walks j (row c s cs) o ys ts g b l =
      rw (append_assoc (encode_handlers cs) (encode_viewer o) (encode_behaviours ys))
      (ap (λ (us : Tokens). mark row_word (name 0 (behaviour_name j) ∷ mark bracket (number 0 c ∷ mark unbracket (mark equals us))))
      (active_walks s cs o ys ts g.2 g.3 b (omega (arith, many_handlers cs))))

  pub entries_walk : (k j : ℕ) (ys : List Entry) (ts : Tokens) → length ys ≤ k → length (encode_behaviours ys) ≤ n → j + cell_count ys ≤ 64 → All (EntryFits m) ys
      → entries_tokens n bytes k j (encode_behaviours ys) ++ ts ≡ behaviour_tokens (described_behaviours xs j ys) ts
  unfolding entries_tokens encode_behaviours described_behaviours behaviour_tokens cell_count
  entries_walk zero j [] ts h l few g = refl
  entries_walk (suc k) j [] ts h l few g = refl
  entries_walk zero j (y ∷ ys) ts h l few g = absurd (omega arith)
  entries_walk (suc k) j (y ∷ ys) ts h l few g =
      let some = some_cells m y.item g.0.0 in
      let r = encode_behaviours ys in
      let c = cells y.item in
      let e = length-append (encode_behaviour y) r in
      let i = length-append (encode_item y.item) (encode_viewer y.viewer) in
      rw (ne_eqb (length (encode_behaviour y ++ r)) 0 (omega (arith, behaviour_bytes y r)), le-ltb 63 j (omega arith), cells_in_front_law y r, after_behaviour y r)
      (append_assoc (entry_tokens n bytes j (encode_behaviour y ++ r)) (entries_tokens n bytes k (j + c) r) ts
      ∙ rw (entries_walk k (j + c) ys ts (omega arith) (omega arith) (omega arith) g.1)
      (entry_walks j y.item y.viewer ys (behaviour_tokens (described_behaviours xs (j + c) ys) ts) g.0.0 g.0.1 (omega arith)))
