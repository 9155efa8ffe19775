-- The reading of every sheet's encoding, also of one outside the limits: the sheet, or its first fault as a function on
-- the sheet. By induction on the sheet. That fault does not depend on whether a parameter, of 0 to 7, or a constant
-- stands in an expression.
use Rattle.lib_base.proofs.Prelude.{ℕ, ◌≤◌, ◌<◌, ◌+◌, suc, zero, ◌≡◌, refl, ◌∙◌, sym, ap, true, false, Bool, Option}
use Rattle.lib_base.proofs.Prelude.{List, [], ◌∷◌, ◌++◌, append_assoc, append-nil, length, length-append, eqb, ltb, leb}
use Rattle.lib_base.proofs.Prelude.{ne_eqb, le-ltb, arith}
use Rattle.lib_base.specs.Basics.{pick}
use Rattle.lib_base.proofs.Tools.{split}
use Rattle.lib_word.specs.Word.{get_at}
use Rattle.lib_signature.specs.Numbers.{not_fn, if_fn}
use Rattle.lib_signature.specs.Signature.{last}
use Rattle.spec_language.specs.Syntax.{Phase, immediate, later}
use Rattle.spec_language.specs.Sheet.{Term, literal, variable, param, apply1, apply2, apply3, Clause, clause, Item, formula, state, row, Signal, Entry, Sheet, cells, cell_count, change_clauses, change_item, change_entries, as_sent, fill_term, write_term, as_written_out, params_of, params_of_clauses, params_of_item, params_of_entries}
use Rattle.spec_language.proofs.RowLaws.{count_append, written_cells_count}
use Rattle.spec_language.specs.Grammar.{field, word, encode_expr, encode_handler, encode_handlers, tag_of, encode_viewer, encode_behaviour, encode_behaviours, encode_event, encode_events, encode}
use Rattle.spec_language.specs.Reading.{Got, bad, got, then, sized, filling, field_at, read_all, args_of, term_in, is_term, expr_at, handles, handler_in, entry, ending_in, active_as, behaviour_in, due_at, signal_in, sheet, read_sheet}
use Rattle.spec_grammar.proofs.Fields.{field-reads}
use Rattle.spec_grammar.proofs.Results.{word_back}
use Rattle.spec_grammar.proofs.Handlers.{stops, handler_goes, many_handlers}
use Rattle.spec_grammar.proofs.Endings.{stops_there, ending-reads}
use Rattle.spec_grammar.proofs.Behaviours.{value_of}
use Rattle.spec_grammar.proofs.Programs.{behaviour_bytes, behaviour_at_law, at_end, no_event, event-reads, events_end, enough}

-- ---- a result by its fault, 0 for none

abbrev pub result_of : {A : Type 0} → ℕ → A → List ℕ → Got A
result_of zero x rest = got x rest
result_of (suc n) x rest = bad (suc n)

-- the first of two faults
abbrev pub first : ℕ → ℕ → ℕ
first zero m = m
first (suc n) m = suc n

onwards : {A B : Type 0} (f : A → List ℕ → Got B) (m o : ℕ) (x : A) (l : List ℕ) (y : B) (rest : List ℕ) → f x l ≡ result_of o y rest
    → then (result_of m x l) f ≡ result_of (first m o) y rest
onwards f zero o x l y rest h = h
onwards f (suc m) o x l y rest h = refl

filled_result : {A : Type 0} (n : ℕ) (x : A) (rest : List ℕ) → filling (result_of n x []) rest ≡ result_of n x rest
filled_result zero x rest = refl
filled_result (suc n) x rest = refl

-- one after another, each with its fault after those before it
many_result : {A : Type 0} (enc : A → List ℕ) (encs : List A → List ℕ) → encs [] ≡ [] → ((x : A) (xs : List A) → encs (x ∷ xs) ≡ enc x ++ encs xs)
    → (ended : List ℕ → Bool) (one : List A → List ℕ → Got A) → ((x : A) (rest : List ℕ) → ended (enc x ++ rest) ≡ false)
    → (fault : List A → A → ℕ) → ((xs : List A) (y : A) (rest : List ℕ) → one xs (enc y ++ rest) ≡ result_of (fault xs y) y rest)
    → (faults : List A → List A → ℕ) → ((xs : List A) → faults xs [] ≡ 0) → ((xs : List A) (y : A) (ys : List A) → faults xs (y ∷ ys) ≡ first (fault xs y) (faults (xs ++ (y ∷ [])) ys))
    → (k : ℕ) (xs ys : List A) (rest : List ℕ) → ended rest ≡ true → length ys < k → read_all ended one k xs (encs ys ++ rest) ≡ result_of (faults xs ys) (xs ++ ys) rest
unfolding read_all
many_result enc encs nil cons ended one on fault each faults none next zero xs ys rest z b = absurd (omega arith)
many_result enc encs nil cons ended one on fault each faults none next (suc k) xs [] rest z b = rw (nil, z, none xs, append-nil xs)
many_result {A} enc encs nil cons ended one on fault each faults none next (suc k) xs (y ∷ ys) rest z b =
    rw (cons y ys, append_assoc (enc y) (encs ys) rest, on y (encs ys ++ rest), each xs y (encs ys ++ rest), next xs y ys)
    (onwards (λ (x : A) (l : List ℕ). read_all ended one k (xs ++ (x ∷ [])) l) (fault xs y) (faults (xs ++ (y ∷ [])) ys) y (encs ys ++ rest) (xs ++ (y ∷ ys)) rest
    (rw (append_assoc xs (y ∷ []) ys) at (many_result enc encs nil cons ended one on fault each faults none next k (xs ++ (y ∷ [])) ys rest z (omega arith))))

-- ---- expressions

-- a function's byte is judged before its arguments
abbrev judged : ℕ → ℕ → ℕ
judged f m = pick (eqb f 0) 8 (pick (ltb last f) 8 m)

-- with k levels of nesting left
unfoldable pub expr_fault : ℕ → Term → ℕ
expr_fault zero x = 9
expr_fault (suc k) (literal w) = 0
expr_fault (suc k) (variable i) = 0
expr_fault (suc k) (param n) = pick (ltb 7 n) 8 0
expr_fault (suc k) (apply1 f a) = judged f (first (expr_fault k a) (pick (eqb f not_fn) 0 4))
expr_fault (suc k) (apply2 f a b) = judged f (first (expr_fault k a) (pick (eqb f not_fn) 6 (first (expr_fault k b) (pick (eqb f if_fn) 4 0))))
expr_fault (suc k) (apply3 f a b c) =
    judged f (first (expr_fault k a) (pick (eqb f not_fn) 6 (first (expr_fault k b) (pick (eqb f if_fn) (first (expr_fault k c) 0) 6))))

-- nothing is left where an argument is due
none_due : (k : ℕ) → expr_at k [] ≡ bad 4
unfolding expr_at field_at
none_due zero = refl
none_due (suc k) = refl

-- every expression has bytes
some_bytes : (x : Term) (v : List ℕ) → 0 < length (encode_expr x ++ v)
unfolding encode_expr
some_bytes (literal w) v = omega arith
some_bytes (variable i) v = omega arith
some_bytes (param n) v = omega arith
some_bytes (apply1 f a) v = omega arith
some_bytes (apply2 f a b) v = omega arith
some_bytes (apply3 f a b c) v = omega arith

-- one more is left over
two_over : (x y : Term) (g : Got Term) → sized 0 (encode_expr x ++ encode_expr y) g ≡ bad 6
two_over x y g = rw (ne_eqb (length (encode_expr x ++ encode_expr y)) 0 (omega (arith, some_bytes x (encode_expr y))))

left_over : (x : Term) (g : Got Term) → sized 0 (encode_expr x) g ≡ bad 6
left_over x g = rw (ne_eqb (length (encode_expr x)) 0 (omega (arith, some_bytes x [], length-append (encode_expr x) [])))

deep : (t : ℕ) (v rest : List ℕ) → is_term t ≡ true → expr_at 0 (field t v ++ rest) ≡ bad 9
unfolding expr_at
deep t v rest e = field-reads is_term t v rest _ e

app_judged : (k f m : ℕ) (v rest : List ℕ) (x : Term) → filling (args_of (expr_at k) f v) rest ≡ result_of m x rest → expr_at (suc k) (field 18 (f ∷ v) ++ rest) ≡ result_of (judged f m) x rest
unfolding expr_at
app_judged k f m v rest x h =
    field-reads is_term 18 (f ∷ v) rest (term_in (expr_at k)) refl
    ∙ split (eqb f 0) (λ e. rw e) (λ e. split (ltb last f) (λ d. rw (e, d)) (λ d. rw (e, d) h))

module _ (k f : ℕ) (rest : List ℕ) where
  one_arg : (a : Term) (n : ℕ) → expr_at k (encode_expr a) ≡ result_of n a []
      → filling (args_of (expr_at k) f (encode_expr a)) rest ≡ result_of (first n (pick (eqb f not_fn) 0 4)) (apply1 f a) rest
  one_arg a zero h = rw h (split (eqb f not_fn) (λ e. rw e) (λ e. rw (e, none_due k)))
  one_arg a (suc n) h = rw h

  two_args : (a b : Term) (n m : ℕ) → expr_at k (encode_expr a ++ encode_expr b) ≡ result_of n a (encode_expr b) → expr_at k (encode_expr b) ≡ result_of m b []
      → filling (args_of (expr_at k) f (encode_expr a ++ encode_expr b)) rest ≡ result_of (first n (pick (eqb f not_fn) 6 (first m (pick (eqb f if_fn) 4 0)))) (apply2 f a b) rest
  two_args a b (suc n) m h i = rw h
  two_args a b zero (suc m) h i = rw h (split (eqb f not_fn) (λ e. rw e (left_over b (got (apply1 f a) rest))) (λ e. rw (e, i)))
  two_args a b zero zero h i =
      rw h (split (eqb f not_fn) (λ e. rw e (left_over b (got (apply1 f a) rest))) (λ e. rw (e, i) (split (eqb f if_fn) (λ d. rw (d, none_due k)) (λ d. rw d))))

  three_args : (a b c : Term) (n m o : ℕ) → expr_at k (encode_expr a ++ (encode_expr b ++ encode_expr c)) ≡ result_of n a (encode_expr b ++ encode_expr c)
      → expr_at k (encode_expr b ++ encode_expr c) ≡ result_of m b (encode_expr c) → expr_at k (encode_expr c) ≡ result_of o c []
      → filling (args_of (expr_at k) f (encode_expr a ++ (encode_expr b ++ encode_expr c))) rest
      ≡ result_of (first n (pick (eqb f not_fn) 6 (first m (pick (eqb f if_fn) (first o 0) 6)))) (apply3 f a b c) rest
  three_args a b c (suc n) m o h i j = rw h
  three_args a b c zero (suc m) o h i j = rw h (split (eqb f not_fn) (λ e. rw e (two_over b c (got (apply1 f a) rest))) (λ e. rw (e, i)))
  three_args a b c zero zero (suc o) h i j =
      rw h
      (split (eqb f not_fn) (λ e. rw e (two_over b c (got (apply1 f a) rest)))
      (λ e. rw (e, i) (split (eqb f if_fn) (λ d. rw (d, j)) (λ d. rw d (left_over c (got (apply2 f a b) rest))))))
  three_args a b c zero zero zero h i j =
      rw h
      (split (eqb f not_fn) (λ e. rw e (two_over b c (got (apply1 f a) rest)))
      (λ e. rw (e, i) (split (eqb f if_fn) (λ d. rw (d, j)) (λ d. rw d (left_over c (got (apply2 f a b) rest))))))

pub expr_result : (k : ℕ) (x : Term) (rest : List ℕ) → expr_at k (encode_expr x ++ rest) ≡ result_of (expr_fault k x) x rest
unfolding encode_expr expr_fault expr_at
expr_result zero (literal w) rest = deep 16 (word w) rest refl
expr_result zero (variable i) rest = deep 17 (i ∷ []) rest refl
expr_result zero (param n) rest = deep 19 (n ∷ []) rest refl
expr_result zero (apply1 f a) rest = deep 18 (f ∷ encode_expr a) rest refl
expr_result zero (apply2 f a b) rest = deep 18 (f ∷ (encode_expr a ++ encode_expr b)) rest refl
expr_result zero (apply3 f a b c) rest = deep 18 (f ∷ (encode_expr a ++ (encode_expr b ++ encode_expr c))) rest refl
expr_result (suc k) (literal w) rest = field-reads is_term 16 (word w) rest (term_in (expr_at k)) refl ∙ rw (word_back w)
expr_result (suc k) (variable i) rest = field-reads is_term 17 (i ∷ []) rest (term_in (expr_at k)) refl
expr_result (suc k) (param n) rest = field-reads is_term 19 (n ∷ []) rest (term_in (expr_at k)) refl ∙ split (ltb 7 n) (λ e. rw e) (λ e. rw e)
expr_result (suc k) (apply1 f a) rest =
    app_judged k f (first (expr_fault k a) (pick (eqb f not_fn) 0 4)) (encode_expr a) rest (apply1 f a)
    (one_arg k f rest a (expr_fault k a) (rw (append-nil (encode_expr a)) at (expr_result k a [])))
expr_result (suc k) (apply2 f a b) rest =
    app_judged k f (first (expr_fault k a) (pick (eqb f not_fn) 6 (first (expr_fault k b) (pick (eqb f if_fn) 4 0)))) (encode_expr a ++ encode_expr b) rest (apply2 f a b)
    (two_args k f rest a b (expr_fault k a) (expr_fault k b) (expr_result k a (encode_expr b)) (rw (append-nil (encode_expr b)) at (expr_result k b [])))
expr_result (suc k) (apply3 f a b c) rest =
    app_judged k f (first (expr_fault k a) (pick (eqb f not_fn) 6 (first (expr_fault k b) (pick (eqb f if_fn) (first (expr_fault k c) 0) 6))))
    (encode_expr a ++ (encode_expr b ++ encode_expr c)) rest (apply3 f a b c)
    (three_args k f rest a b c (expr_fault k a) (expr_fault k b) (expr_fault k c) (expr_result k a (encode_expr b ++ encode_expr c)) (expr_result k b (encode_expr c))
    (rw (append-nil (encode_expr c)) at (expr_result k c [])))

fills : (F : Term → Clause) (x : Term) (rest : List ℕ) → filling (then (expr_at 16 (encode_expr x)) (λ y left. got (F y) left)) rest ≡ result_of (expr_fault 16 x) (F x) rest
fills F x rest = rw (rw (append-nil (encode_expr x)) at (expr_result 16 x [])) (of (expr_fault 16 x))
  where
    of : (n : ℕ) → filling (then (result_of n x []) (λ y left. got (F y) left)) rest ≡ result_of n (F x) rest
    of zero = refl
    of (suc n) = refl

-- ---- handlers

abbrev pub clause_fault : ℕ → List Clause → Clause → ℕ
clause_fault n hs (clause e φ x) = pick (leb n e) 8 (pick (handles e hs) 10 (expr_fault 16 x))

unfoldable pub clauses_fault : ℕ → List Clause → List Clause → ℕ
clauses_fault n hs [] = 0
clauses_fault n hs (h ∷ ks) = first (clause_fault n hs h) (clauses_fault n (hs ++ (h ∷ [])) ks)

handler_result : (n : ℕ) (hs : List Clause) (h : Clause) (rest : List ℕ) → handler_in n hs (encode_handler h ++ rest) ≡ result_of (clause_fault n hs h) h rest
handler_result n hs (clause e immediate x) rest =
    field-reads (eqb 5) 5 (e ∷ 0 ∷ encode_expr x) rest _ refl
    ∙ split (leb n e) (λ c. rw c) (λ c. split (handles e hs) (λ d. rw (c, d)) (λ d. rw (c, d) (fills (clause e immediate) x rest)))
handler_result n hs (clause e later x) rest =
    field-reads (eqb 5) 5 (e ∷ 1 ∷ encode_expr x) rest _ refl
    ∙ split (leb n e) (λ c. rw c) (λ c. split (handles e hs) (λ d. rw (c, d)) (λ d. rw (c, d) (fills (clause e later) x rest)))

handlers_result : (k n : ℕ) (ks : List Clause) (rest : List ℕ) → stops rest ≡ true → length ks < k
    → read_all stops (handler_in n) k [] (encode_handlers ks ++ rest) ≡ result_of (clauses_fault n [] ks) ks rest
unfolding encode_handlers clauses_fault
handlers_result k n ks rest z b =
    many_result encode_handler encode_handlers refl (λ x xs. refl) stops (handler_in n) handler_goes (clause_fault n) (handler_result n) (clauses_fault n) (λ xs. refl) (λ xs y ys. refl)
    k [] ks rest z b

-- ---- behaviours

-- after i others
abbrev pub item_fault : ℕ → ℕ → Item → ℕ
item_fault n i (formula x) = expr_fault 16 x
item_fault n i (state s hs) = clauses_fault n [] hs
item_fault n i (row c s hs) = pick (ltb c 2) 8 (pick (ltb 16 c) 8 (pick (ltb 64 (i + c)) 7 (clauses_fault n [] hs)))

active_result : (make : ℕ → List Clause → Item) (n s : ℕ) (hs : List Clause) (m : Option ℕ)
    → active_as make n (value_of (entry (state s hs) m)) ≡ result_of (clauses_fault n [] hs) (entry (make s hs) m) []
active_result make n s hs m =
    let few : length hs < suc (length (encode_handlers hs ++ encode_viewer m)) =
    omega (arith, many_handlers hs, length-append (encode_handlers hs) (encode_viewer m)) in
    rw (
      field-reads (eqb 4) 4 (word s) (encode_handlers hs ++ encode_viewer m) (λ t w. sized 4 w (got (get_at w 0) [])) refl,
      word_back s,
      handlers_result (suc (length (encode_handlers hs ++ encode_viewer m))) n hs (encode_viewer m) (stops_there m) few,
    ) (ends (clauses_fault n [] hs))
  where
    ends : (k : ℕ) → then (result_of k hs (encode_viewer m)) (λ hs left. ending_in (make s hs) left) ≡ result_of k (entry (make s hs) m) []
    ends zero = ending-reads (make s hs) m
    ends (suc k) = refl

pub item_result : (n i : ℕ) (b : Item) (m : Option ℕ) → behaviour_in n i (tag_of b) (value_of (entry b m)) ≡ result_of (item_fault n i b) (entry b m) []
item_result n i (formula x) m = rw (expr_result 16 x (encode_viewer m)) (ends (expr_fault 16 x))
  where
    ends : (k : ℕ) → then (result_of k x (encode_viewer m)) (λ x left. ending_in (formula x) left) ≡ result_of k (entry (formula x) m) []
    ends zero = ending-reads (formula x) m
    ends (suc k) = refl
item_result n i (state s hs) m = active_result state n s hs m
item_result n i (row c s hs) m =
    split (ltb c 2) (λ e. rw e)
    (λ e. split (ltb 16 c) (λ d. rw (e, d))
    (λ d. split (ltb 64 (i + c)) (λ o. rw (e, d, o)) (λ o. rw (e, d, o) (active_result (row c) n s hs m))))

pub entry_result : (n i : ℕ) (b : Entry) → behaviour_in n i (tag_of b.item) (value_of b) ≡ result_of (item_fault n i b.item) b []
entry_result n i b = item_result n i b.item b.viewer

-- ---- the whole: n events are declared, and m behaviours before these

unfoldable pub entries_fault : ℕ → ℕ → List Entry → ℕ
entries_fault n m [] = 0
entries_fault n m (c ∷ cs) = pick (leb 64 m) 7 (first (item_fault n m c.item) (entries_fault n (m + cells c.item) cs))

unfoldable pub events_fault : ℕ → List Signal → List Entry → ℕ
events_fault n [] cs = entries_fault n 0 cs
events_fault n (q ∷ qs) cs = pick (leb 32 n) 7 (pick (ltb 15 q.priority) 8 (events_fault (suc n) qs cs))

-- a behaviour, and an event, after those before it
abbrev next_fault : ℕ → List Entry → Entry → ℕ
next_fault n bs c = pick (leb 64 (cell_count bs)) 7 (item_fault n (cell_count bs) c.item)

abbrev event_fault : ℕ → Signal → ℕ
event_fault n q = pick (leb 32 n) 7 (pick (ltb 15 q.priority) 8 0)

unfoldable signals_fault : ℕ → List Signal → ℕ
signals_fault n [] = 0
signals_fault n (q ∷ qs) = first (event_fault n q) (signals_fault (suc n) qs)

next_result : (n : ℕ) (bs : List Entry) (c : Entry) (rest : List ℕ) → due_at n bs (encode_behaviour c ++ rest) ≡ result_of (next_fault n bs c) c rest
next_result n bs c rest =
    behaviour_at_law n bs c rest
    ∙ split (leb 64 (cell_count bs)) (λ e. rw e) (λ e. rw (e, entry_result n (cell_count bs) c) (filled_result (item_fault n (cell_count bs) c.item) c rest))

behaviours_result : (k n : ℕ) (cs : List Entry) → length cs < k → read_all at_end (due_at n) k [] (encode_behaviours cs) ≡ result_of (entries_fault n 0 cs) cs []
unfolding encode_behaviours entries_fault cell_count
behaviours_result k n cs b =
    ap (λ (u : List ℕ). read_all at_end (due_at n) k [] u) (sym (append-nil (encode_behaviours cs)))
    ∙ many_result encode_behaviour encode_behaviours refl (λ x xs. refl) at_end (due_at n)
    (λ c rest. ne_eqb (length (encode_behaviour c ++ rest)) 0 (omega (arith, behaviour_bytes c rest)))
    (next_fault n) (next_result n) (λ bs. entries_fault n (cell_count bs)) (λ bs. refl) next k [] cs [] refl b
  where
    next : (bs : List Entry) (c : Entry) (cs : List Entry) → entries_fault n (cell_count bs) (c ∷ cs) ≡ first (next_fault n bs c) (entries_fault n (cell_count (bs ++ (c ∷ []))) cs)
    next bs c cs =
        let z : cell_count (bs ++ (c ∷ [])) ≡ cell_count bs + cells c.item = omega (arith, count_append bs (c ∷ [])) in
        split (leb 64 (cell_count bs)) (λ e. rw e) (λ e. rw (e, z))

event_result : (rs : List Signal) (q : Signal) (rest : List ℕ) → signal_in rs (encode_event q ++ rest) ≡ result_of (event_fault (length rs) q) q rest
event_result rs q rest = event-reads rs q rest ∙ split (leb 32 (length rs)) (λ e. rw e) (λ e. rw e (split (ltb 15 q.priority) (λ d. rw d) (λ d. rw d)))

signals_result : (k : ℕ) (qs : List Signal) (rest : List ℕ) → no_event rest ≡ true → length qs < k → read_all no_event signal_in k [] (encode_events qs ++ rest) ≡ result_of (signals_fault 0 qs) qs rest
unfolding encode_events signals_fault
signals_result k qs rest z b =
    many_result encode_event encode_events refl (λ x xs. refl) no_event signal_in (λ q rest. refl) (λ rs. event_fault (length rs)) event_result (λ rs. signals_fault (length rs)) (λ rs. refl)
    (λ rs q qs. let y : length (rs ++ (q ∷ [])) ≡ suc (length rs) = omega (arith, length-append rs (q ∷ [])) in rw y) k [] qs rest z b

-- the events' first, then the behaviours'
events_first : (n m : ℕ) (qs : List Signal) (cs : List Entry) → n + length qs ≡ m → events_fault n qs cs ≡ first (signals_fault n qs) (entries_fault m 0 cs)
unfolding events_fault signals_fault
events_first n m [] cs e = ap (λ (k : ℕ). entries_fault k 0 cs) (omega arith)
events_first n m (q ∷ qs) cs e =
    split (leb 32 n) (λ c. rw c) (λ c. split (ltb 15 q.priority) (λ d. rw (c, d)) (λ d. rw (c, d) (events_first (suc n) m qs cs (omega arith))))

-- the first fault of a sheet's encoding
unfoldable pub sheet_fault : Sheet → ℕ
sheet_fault x = events_fault 0 x.signals x.entries

behaviours_made : (rs : List Signal) (cs : List Entry) (k : ℕ) → then (result_of k cs []) (λ bs over. got (sheet rs bs) over) ≡ result_of k (sheet rs cs) []
behaviours_made rs cs zero = refl
behaviours_made rs cs (suc k) = refl

pub sheet_result : (x : Sheet) → read_sheet (encode x) ≡ result_of (sheet_fault x) x []
unfolding read_sheet encode sheet_fault
sheet_result x =
    rw (
      signals_result (suc (length (encode x))) x.signals (encode_behaviours x.entries) (events_end x.entries) (enough x).0,
      events_first 0 (length x.signals) x.signals x.entries (omega arith),
    )
    (onwards _ (signals_fault 0 x.signals) (entries_fault (length x.signals) 0 x.entries) x.signals (encode_behaviours x.entries) x []
    (rw (behaviours_result (suc (length (encode_behaviours x.entries))) (length x.signals) x.entries (enough x).1)
    (behaviours_made x.signals x.entries (entries_fault (length x.signals) 0 x.entries))))

-- ---- parameters written out

module _ (v : ℕ → ℕ) where
  expr_written : (k : ℕ) (x : Term) → params_of x ≤ 8 → expr_fault k (write_term v x) ≡ expr_fault k x
  unfolding expr_fault fill_term as_sent params_of
  expr_written zero x h = refl
  expr_written (suc k) (literal w) h = refl
  expr_written (suc k) (variable i) h = refl
  expr_written (suc k) (param n) h = rw (le-ltb 7 n (omega arith))
  expr_written (suc k) (apply1 f a) h = rw (expr_written k a h)
  expr_written (suc k) (apply2 f a b) h = rw (expr_written k a (omega arith), expr_written k b (omega arith))
  expr_written (suc k) (apply3 f a b c) h = rw (expr_written k a (omega arith), expr_written k b (omega arith), expr_written k c (omega arith))

  handles_written : (e : ℕ) (hs : List Clause) → handles e (change_clauses (write_term v) hs) ≡ handles e hs
  unfolding handles change_clauses
  handles_written e [] = refl
  handles_written e (clause f φ x ∷ hs) = rw (handles_written e hs)

  write_snoc : (hs : List Clause) (e : ℕ) (φ : Phase) (x : Term) → change_clauses (write_term v) (hs ++ (clause e φ x ∷ [])) ≡ change_clauses (write_term v) hs ++ (clause e φ (write_term v x) ∷ [])
  unfolding change_clauses
  write_snoc [] e φ x = refl
  write_snoc (clause f ψ y ∷ hs) e φ x = ap (λ (l : List Clause). clause f ψ (write_term v y) ∷ l) (write_snoc hs e φ x)

  clauses_written : (n : ℕ) (hs ks : List Clause) → params_of_clauses ks ≤ 8 → clauses_fault n (change_clauses (write_term v) hs) (change_clauses (write_term v) ks) ≡ clauses_fault n hs ks
  unfolding clauses_fault change_clauses params_of_clauses
  clauses_written n hs [] h = refl
  clauses_written n hs (clause e φ x ∷ ks) h =
      let i = rw (write_snoc hs e φ x) at (clauses_written n (hs ++ (clause e φ x ∷ [])) ks (omega arith)) in
      rw (handles_written e hs, expr_written 16 x (omega arith), i)

  item_written : (n i : ℕ) (b : Item) → params_of_item b ≤ 8 → item_fault n i (change_item (write_term v) b) ≡ item_fault n i b
  unfolding change_clauses
  item_written n i (formula x) h = expr_written 16 x h
  item_written n i (state s hs) h = clauses_written n [] hs h
  item_written n i (row c s hs) h = rw (clauses_written n [] hs h)

  entries_written : (n m : ℕ) (cs : List Entry) → params_of_entries cs ≤ 8 → entries_fault n m (change_entries (write_term v) cs) ≡ entries_fault n m cs
  unfolding entries_fault change_entries params_of_entries
  entries_written n m [] h = refl
  entries_written n m (c ∷ cs) h = rw (item_written n m c.item (omega arith), written_cells_count v c.item, entries_written n (m + cells c.item) cs (omega arith))

  events_written : (n : ℕ) (qs : List Signal) (cs : List Entry) → params_of_entries cs ≤ 8 → events_fault n qs (change_entries (write_term v) cs) ≡ events_fault n qs cs
  unfolding events_fault
  events_written n [] cs h = entries_written n 0 cs h
  events_written n (q ∷ qs) cs h = rw (events_written (suc n) qs cs h)

  -- a sheet and the sheet written out have the same first fault, or none
  pub fault_written : (x : Sheet) → params_of_entries x.entries ≤ 8 → sheet_fault (as_written_out v x) ≡ sheet_fault x
  unfolding sheet_fault
  fault_written x h = events_written 0 x.signals x.entries h
