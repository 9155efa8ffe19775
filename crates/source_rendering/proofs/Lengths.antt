-- "No accepted sheet's text is longer than a text may be": a token is its spelling and the blanks before it; formulas,
-- handlers and behaviours take at most six bytes of text for each byte of the sheet, events and parameters are few. By
-- induction on the sheet.
use Rattle.lib_base.proofs.Prelude.{ℕ, ◌≤◌, ◌<◌, ◌+◌, ◌-◌, suc, zero, ◌*◌, ◌%◌, ◌/◌, ◌^◌, ◌≡◌, refl, true, Bool, Option}
use Rattle.lib_base.proofs.Prelude.{some, none, List, [], ◌∷◌, ◌++◌, length, length-append, eqb, ltb, leb, eqb-true}
use Rattle.lib_base.proofs.Prelude.{ltb-false, ltb-true, leb-true, arith}
use Rattle.lib_base.specs.Basics.{pick, All}
use Rattle.lib_base.proofs.Tools.{by_test, all_below, each_below}
use Rattle.lib_signature.specs.Signature.{level, last}
use Rattle.spec_language.specs.Syntax.{immediate, later}
use Rattle.spec_language.specs.Sheet.{Term, Clause, clause, Item, formula, state, row, Signal, Entry, Sheet, cells, cell_count, fill_term, fill_clauses, fill_item, fill_entries}
use Rattle.spec_language.specs.Grammar.{encode, encode_expr, encode_handlers, encode_item, encode_viewer, encode_behaviour, encode_behaviours, encode_events, unary, ternary, binary, TermFits, t_literal, t_variable, t_param, t_apply1, t_apply2, t_apply3, ClausesFit, ItemFits, EntryFits, SignalFits, SheetFits}
use Rattle.spec_language.specs.Accepted.{NamesIn, HandlerNamesIn, BehaviourNamesIn}
use Rattle.source_language.specs.Tokens.{SheetToken, number, name, sign, opening, closing, comma, on_word, param_word, end_sign, marks, reserved}
use Rattle.source_language.specs.Text.{TextConstant, Phrase, behaviour}
use Rattle.source_rendering.specs.Describe.{behaviour_name, described_constant, cell_named, phrase_of, described_reactions, described_body, players_from, players_in, described_behaviours, described_events, parameters_from, text_of, mark, unless, value_tokens, phrase_tokens, number_tokens, player_tokens, from_tokens, seen_tokens, parameter_tokens, event_tokens, reaction_tokens, behaviour_token, behaviour_tokens, text_tokens, spelled_as, spell, last_of, first_byte, run_together, space_between, gap, rendered, render, described}
use Rattle.spec_language.specs.Sheet.{params_of_entries}
use Rattle.source_rendering.proofs.Digits.{one_digit, few_digits, ten_digits}
use Rattle.source_rendering.proofs.Described.{some_cells}
use Rattle.source_rendering.proofs.DescribedFits.{entries_few}

-- ---- a token's share

-- the most that stands before a token
abbrev before : SheetToken → ℕ
before (number p n) = 1
before (name p s) = 1
before (sign p c) = pick (eqb c on_word) 3 1

unfoldable share : List SheetToken → ℕ
share [] = 0
share (t ∷ ts) = length (spell t) + before t + share ts

between_short : (t u : SheetToken) → length (space_between t u) ≤ 1
between_short t u =
    by_test (λ (l : List ℕ). length l ≤ 1) (run_together (last_of (spell t)) (first_byte (spell u))) (λ e. omega arith) (λ e. omega arith)

gap_short : (t u : SheetToken) → length (gap t u) ≤ before u
gap_short t (number p n) = between_short t (number p n)
gap_short t (name p s) = between_short t (name p s)
gap_short t (sign p c) =
    by_test (λ (l : List ℕ). length l ≤ before (sign p c)) (leb param_word c) (λ e. one_before c)
    (λ e. by_test (λ (l : List ℕ). length l ≤ before (sign p c)) (eqb c on_word) (λ d. rw d (omega arith)) (λ d. rw d (between_short t (sign p c))))
  where
    one_before : (c : ℕ) → 1 ≤ pick (eqb c on_word) 3 1
    one_before c = by_test (λ n. 1 ≤ n) (eqb c on_word) (λ d. omega arith) (λ d. omega arith)

rendered_short : (t : SheetToken) (ts : List SheetToken) → length (rendered t ts) ≤ share ts
unfolding rendered share
rendered_short t [] = omega arith
rendered_short t (u ∷ us) =
    omega (arith, length-append (gap t u) (spell u ++ rendered u us), length-append (spell u) (rendered u us), gap_short t u, rendered_short u us)

render_short : (ts : List SheetToken) → length (render ts) ≤ share ts
unfolding render share
render_short [] = omega arith
render_short (t ∷ ts) = omega (arith, length-append (spell t) (rendered t ts), rendered_short t ts)

-- ---- formulas

short_sign : ℕ → Bool
short_sign c = leb (length (spell (sign 0 c))) 2

signs_short : all_below (suc last) short_sign ≡ true
unfolding all_below short_sign spelled_as marks reserved
signs_short = refl

few_bytes : (f : ℕ) → f ≤ last → length (spell (sign 0 f)) ≤ 2
unfolding short_sign
few_bytes f h = leb-true (length (spell (sign 0 f))) 2 (each_below (suc last) short_sign signs_short f (omega arith))

-- an operator and its bracket
operator_share : (f : ℕ) → f ≤ last → (ts : List SheetToken) → share (mark f ts) ≤ 3 + share ts
unfolding share
operator_share f h ts = by_test (λ n. length (spell (sign 0 f)) + n + share ts ≤ 3 + share ts) (eqb f on_word)
    (λ e. absurd (omega (arith, eqb-true f on_word e))) (λ e. omega (arith, few_bytes f h))

opening_share : (b : Bool) (ts : List SheetToken) → share (unless b opening ts) ≤ 2 + share ts
unfolding share spelled_as marks reserved
opening_share b ts = by_test (λ (l : List SheetToken). share l ≤ 2 + share ts) b (λ e. omega arith) (λ e. omega arith)

closing_share : (b : Bool) (ts : List SheetToken) → share (unless b closing ts) ≤ 2 + share ts
unfolding share spelled_as marks reserved
closing_share b ts = by_test (λ (l : List SheetToken). share l ≤ 2 + share ts) b (λ e. omega arith) (λ e. omega arith)

value_share : (w : ℕ) → w < 2 ^ 32 → (ts : List SheetToken) → share (value_tokens (described_constant w) ts) ≤ 13 + share ts
unfolding share spelled_as marks reserved
value_share w h ts =
    by_test (λ (c : TextConstant). share (value_tokens c ts) ≤ 13 + share ts) (ltb w 2147483648)
    (λ e. omega (arith, ten_digits w (omega (arith, ltb-true w 2147483648 e))))
    (λ e. omega (arith, ten_digits (4294967296 - w) (omega (arith, ltb-false w 2147483648 e))))

cell_share : (l j : ℕ) (xs : List Entry) (i : ℕ) → j ≤ i → i < 100 → (ts : List SheetToken) → share (phrase_tokens l (cell_named j xs i) ts) ≤ 11 + share ts
unfolding share phrase_tokens cell_named spelled_as marks reserved
cell_share l j [] i h k ts = omega (arith, few_digits i k)
cell_share l j (x ∷ xs) i h k ts =
    by_test (λ (e : Phrase). share (phrase_tokens l e ts) ≤ 11 + share ts) (eqb i j) (λ e. omega (arith, few_digits j (omega arith)))
    (λ e. by_test (λ (e : Phrase). share (phrase_tokens l e ts) ≤ 11 + share ts) (ltb i (j + cells x.item))
    (λ d. omega (arith, few_digits j (omega arith), few_digits (i - j) (omega arith)))
    (λ d. cell_share l (j + cells x.item) xs i (ltb-false i (j + cells x.item) d) k ts))

module _ (xs : List Entry) (m : ℕ) (few : m ≤ 64) (v : ℕ → ℕ) where
  term_share : {k : ℕ} {x : Term} → TermFits k x → NamesIn m (fill_term v x) → (l : ℕ) (ts : List SheetToken)
      → share (phrase_tokens l (phrase_of xs x) ts) ≤ 6 * length (encode_expr x) + share ts
  unfolding phrase_tokens phrase_of fill_term encode_expr share spelled_as marks reserved
  term_share (t_literal {w = w} h) n l ts = omega (arith, value_share w h ts)
  term_share (t_variable {i = i} h) n l ts = omega (arith, cell_share l 0 xs i (omega arith) (omega arith) ts)
  term_share (t_param {n = i} h) n l ts = omega (arith, few_digits i (omega arith))
  term_share (t_apply1 unary a) n l ts = omega (arith, term_share a n 0 ts)
  term_share (t_apply2 {f = f} {a = x} {b = y} (binary q r s) a b) n l ts =
      let c = unless (leb (level f) l) closing ts in
      let d = phrase_tokens (level f - 1) (phrase_of xs y) c in
      let e = phrase_tokens (level f) (phrase_of xs x) (mark f d) in
      omega (
        arith,
        length-append (encode_expr x) (encode_expr y),
        opening_share (leb (level f) l) e,
        term_share a n.0 (level f) (mark f d),
        operator_share f r d,
        term_share b n.1 (level f - 1) c,
        closing_share (leb (level f) l) ts,
      )
  term_share (t_apply3 {a = x} {b = y} {c = z} ternary a b c) n l ts =
      let e = phrase_tokens 6 (phrase_of xs z) (mark closing ts) in
      let d = phrase_tokens 6 (phrase_of xs y) (mark comma e) in
      omega (
        arith,
        length-append (encode_expr x) (encode_expr y ++ encode_expr z),
        length-append (encode_expr y) (encode_expr z),
        term_share a n.0 6 (mark comma d),
        term_share b n.1 6 (mark comma e),
        term_share c n.2 6 (mark closing ts),
      )

-- ---- players

numbers_share : (k n m : ℕ) → n + k ≤ 8 → (ts : List SheetToken) → share (number_tokens (players_from k n m) ts) ≤ 2 * k + share ts
unfolding number_tokens players_from share
numbers_share zero n m h ts = omega arith
numbers_share (suc k) n m h ts =
    by_test (λ (l : List ℕ). share (number_tokens (l ++ players_from k (suc n) m) ts) ≤ 2 * suc k + share ts) (eqb (m / 2 ^ n % 2) 1)
    (λ e. omega (arith, one_digit n (omega arith), numbers_share k (suc n) m (omega arith) ts)) (λ e. omega (arith, numbers_share k (suc n) m (omega arith) ts))

players_share : (ns : List ℕ) (ts : List SheetToken) → share (number_tokens ns ts) ≤ 16 + share ts → share (player_tokens ns ts) ≤ 16 + share ts
unfolding number_tokens share spelled_as marks reserved
players_share [] ts h = omega arith
players_share (n ∷ ns) ts h = h

seen_share : (m : Option ℕ) (ts : List SheetToken) → share (seen_tokens (players_in m) ts) ≤ 6 * length (encode_viewer m) + share ts
unfolding share spelled_as marks reserved
seen_share none ts = omega arith
seen_share (some m) ts = omega (arith, players_share (players_from 8 0 m) ts (omega (arith, numbers_share 8 0 m (omega arith) ts)))

from_share : (m : Option ℕ) (ts : List SheetToken) → share (from_tokens (players_in m) ts) ≤ 21 + share ts
unfolding share spelled_as marks reserved
from_share none ts = omega arith
from_share (some m) ts = omega (arith, players_share (players_from 8 0 m) ts (omega (arith, numbers_share 8 0 m (omega arith) ts)))

-- ---- behaviours

module _ (xs : List Entry) (m n : ℕ) (few : m ≤ 64) (less : n ≤ 32) (v : ℕ → ℕ) where
  reactions_share : (cs : List Clause) → ClausesFit n cs → All (HandlerNamesIn m) (fill_clauses v cs) → (ts : List SheetToken)
      → share (reaction_tokens (described_reactions xs cs) ts) ≤ 6 * length (encode_handlers cs) + share ts
  unfolding reaction_tokens described_reactions fill_clauses encode_handlers share spelled_as marks reserved
  reactions_share [] f h ts = omega arith
  reactions_share (clause e immediate x ∷ cs) f h ts =
      let us = reaction_tokens (described_reactions xs cs) ts in
      omega (
        arith,
        few_digits e (omega (arith, f.0)),
        term_share xs m few v f.1 h.0 6 us,
        reactions_share cs f.3 h.1 ts,
        length-append (encode_expr x) (encode_handlers cs),
      )
  reactions_share (clause e later x ∷ cs) f h ts =
      let us = reaction_tokens (described_reactions xs cs) ts in
      omega (
        arith,
        few_digits e (omega (arith, f.0)),
        term_share xs m few v f.1 h.0 6 us,
        reactions_share cs f.3 h.1 ts,
        length-append (encode_expr x) (encode_handlers cs),
      )

  item_share : (j : ℕ) → j < 100 → (x : Item) (r : Option ℕ) → ItemFits n x → BehaviourNamesIn m (fill_item v x) → (ts : List SheetToken)
      → share (behaviour_token (behaviour (behaviour_name j) (described_body xs x) (players_in r)) ts) ≤ 6 * (3 + (length (encode_item x) + length (encode_viewer r))) + share ts
  unfolding share spelled_as marks reserved
  item_share j h (formula x) r f k ts =
      let us = seen_tokens (players_in r) ts in
      omega (arith, few_digits j h, term_share xs m few v f k 6 us, seen_share r ts)
  item_share j h (state s cs) r f k ts =
      let us = reaction_tokens (described_reactions xs cs) ts in
      let vs = seen_tokens (players_in r) us in
      omega (arith, few_digits j h, value_share s f.0 vs, seen_share r us, reactions_share cs f.1 k ts)
  item_share j h (row c s cs) r f k ts =
      let us = reaction_tokens (described_reactions xs cs) ts in
      let vs = seen_tokens (players_in r) us in
      omega (arith, few_digits j h, few_digits c (omega (arith, f.1)), value_share s f.2 vs, seen_share r us, reactions_share cs f.3 k ts)

  behaviours_share : (j : ℕ) (ys : List Entry) → j + cell_count ys ≤ 64 → All (EntryFits n) ys → All (BehaviourNamesIn m) (fill_entries v ys) → (ts : List SheetToken)
      → share (behaviour_tokens (described_behaviours xs j ys) ts) ≤ 6 * length (encode_behaviours ys) + share ts
  unfolding behaviour_tokens described_behaviours cell_count fill_entries encode_behaviours
  behaviours_share j [] h f k ts = omega arith
  behaviours_share j (y ∷ ys) h f k ts =
      let us = behaviour_tokens (described_behaviours xs (j + cells y.item) ys) ts in
      let c = some_cells n y.item f.0.0 in
      omega (
        arith,
        item_share j (omega arith) y.item y.viewer f.0.0 k.0 us,
        behaviours_share (j + cells y.item) ys (omega arith) f.1 k.1 ts,
        length-append (encode_behaviour y) (encode_behaviours ys),
        length-append (encode_item y.item) (encode_viewer y.viewer),
      )

-- ---- events and parameters

events_share : (i : ℕ) (xs : List Signal) → i + length xs ≤ 32 → All SignalFits xs → (ts : List SheetToken) → share (event_tokens (described_events i xs) ts) ≤ 39 * length xs + share ts
unfolding event_tokens described_events share spelled_as marks reserved
events_share i [] h f ts = omega arith
events_share i (x ∷ xs) h f ts =
    let us = event_tokens (described_events (suc i) xs) ts in
    omega (arith, few_digits i (omega arith), few_digits x.priority (omega (arith, f.0.0)), from_share x.sender us, events_share (suc i) xs (omega arith) f.1 ts)

parameters_share : (k i : ℕ) → i + k ≤ 8 → (ts : List SheetToken) → share (parameter_tokens (parameters_from k i) ts) ≤ 10 * k + share ts
unfolding parameter_tokens parameters_from share spelled_as marks reserved
parameters_share zero i h ts = omega arith
parameters_share (suc k) i h ts = omega (arith, few_digits i (omega arith), parameters_share k (suc i) (omega arith) ts)

-- ---- the text

pub described_short : (v : ℕ → ℕ) (s : Sheet) → SheetFits s → All (BehaviourNamesIn (cell_count s.entries)) (fill_entries v s.entries) → length (described s) ≤ 65536
unfolding described encode share spelled_as marks reserved
described_short v s f n =
    let xs = s.entries in
    let p = params_of_entries xs in
    let last = behaviour_tokens (described_behaviours xs 0 xs) (mark end_sign []) in
    let mid = event_tokens (described_events 0 s.signals) last in
    omega (
      arith,
      render_short (text_tokens (text_of s)),
      entries_few (length s.signals) xs f.each,
      parameters_share p 0 (omega (arith, entries_few (length s.signals) xs f.each)) mid,
      events_share 0 s.signals (omega (arith, f.few_events)) f.scale last,
      f.few_events,
      behaviours_share xs (cell_count xs) (length s.signals) f.few_behaviours f.few_events v 0 xs (omega (arith, f.few_behaviours)) f.each n (mark end_sign []),
      f.few_bytes,
      length-append (encode_events s.signals) (encode_behaviours xs),
    )
