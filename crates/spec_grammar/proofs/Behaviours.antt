-- Behaviours: the value of a behaviour's field within its limits is read back, and what is read from a value is such a
-- behaviour. From the start word, and the facts on expressions, handlers and endings, with the reader's connectives.
use Rattle.lib_base.proofs.Prelude.{ℕ, ◌≤◌, ◌<◌, ◌+◌, suc, ◌^◌, ◌≡◌, refl, ◌∙◌, sym, ap, true, false, Bool, ◌||◌}
use Rattle.lib_base.proofs.Prelude.{false≢true, Option, List, [], ◌∷◌, ◌++◌, append_assoc, length, length-append, eqb}
use Rattle.lib_base.proofs.Prelude.{ltb, eqb-true, le-ltb, ltb-false, arith}
use Rattle.lib_base.proofs.Tools.{by_test, split, none_of, all_split}
use Rattle.lib_word.specs.Word.{get_at}
use Rattle.spec_language.specs.Sheet.{Clause, Item, formula, state, row, Entry, cells}
use Rattle.spec_language.specs.Grammar.{field, word, encode_expr, encode_handlers, tag_of, encode_item, encode_viewer, encode_behaviour, ClausesFit, ItemFits, EntryFits}
use Rattle.spec_language.specs.Reading.{Got, got, then, sized, filling, field_at, read_all, expr_at, handler_in, entry, ending_in, active_as, behaviour_in}
use Rattle.spec_grammar.proofs.Fields.{Bytes, field-reads, field_of, field_bytes_law}
use Rattle.spec_grammar.proofs.Results.{Says, word_bytes, word_back, then_of, sized_of, byte_of, SaysMany}
use Rattle.spec_grammar.proofs.Expressions.{expr-reads, SaysExpr, expr_says}
use Rattle.spec_grammar.proofs.Handlers.{stops, many_handlers, handlers_read, handlers_say}
use Rattle.spec_grammar.proofs.Endings.{stops_there, ending-reads, ending_of}

-- a behaviour's value
abbrev pub value_of : Entry → List ℕ
value_of x = encode_item x.item ++ encode_viewer x.viewer

-- the tags due, and that every behaviour has one; it is none of an event
abbrev pub behaviour_tag : ℕ → Bool
behaviour_tag t = eqb t 2 || eqb t 3 || eqb t 6

pub tag_due : (b : Item) → behaviour_tag (tag_of b) ≡ true
tag_due (formula x) = refl
tag_due (state s hs) = refl
tag_due (row c s hs) = refl

pub tag_other : (b : Item) → eqb (tag_of b) 1 ≡ false
tag_other (formula x) = refl
tag_other (state s hs) = refl
tag_other (row c s hs) = refl

-- ---- reading back

active-reads : (make : ℕ → List Clause → Item) (n s : ℕ) (hs : List Clause) (m : Option ℕ) → ItemFits n (state s hs)
    → active_as make n (value_of (entry (state s hs) m)) ≡ got (entry (make s hs) m) []
active-reads make n s hs m h =
    let few : length hs < suc (length (encode_handlers hs ++ encode_viewer m)) =
    omega (arith, many_handlers hs, length-append (encode_handlers hs) (encode_viewer m)) in
    rw (
      field-reads (eqb 4) 4 (word s) (encode_handlers hs ++ encode_viewer m) (λ t w. sized 4 w (got (get_at w 0) [])) refl,
      word_back s,
      handlers_read (suc (length (encode_handlers hs ++ encode_viewer m))) n [] hs (encode_viewer m) (stops_there m) few h.1,
    ) (ending-reads (make s hs) m)

item-reads : (n i : ℕ) (b : Item) (m : Option ℕ) → i + cells b ≤ 64 → ItemFits n b → behaviour_in n i (tag_of b) (value_of (entry b m)) ≡ got (entry b m) []
item-reads n i (formula x) m q h = rw (expr-reads h (encode_viewer m)) (ending-reads (formula x) m)
item-reads n i (state s hs) m q h = active-reads state n s hs m h
item-reads n i (row c s hs) m q h = rw (le-ltb c 2 h.0, le-ltb 16 c h.1, le-ltb 64 (i + c) q) (active-reads (row c) n s hs m (h.2, h.3))

pub behaviour-reads : (n i : ℕ) (b : Entry) → i + cells b.item ≤ 64 → EntryFits n b → behaviour_in n i (tag_of b.item) (value_of b) ≡ got b []
behaviour-reads n i b q h = item-reads n i b.item b.viewer q h.0

-- ---- what is read

abbrev SaysStart : List ℕ → Got ℕ → Type 0
SaysStart = Says (λ w. field 4 (word w)) (λ w. w < 2 ^ 32)

start_says : (s : List ℕ) → SaysStart s (field_at (eqb 4) s (λ t w. sized 4 w (got (get_at w 0) [])))
start_says s =
    field_of (SaysStart s) (eqb 4) s _ (λ m a b. (a, b))
    (λ t v rest due h. sized_of (λ (g : Got ℕ). SaysStart s (filling g rest)) 4 v _ (omega arith)
    (λ z b.
    let q : s ≡ field 4 v ++ rest = rw (sym (eqb-true 4 t due)) at (h b) in
    let r = word_bytes v z (field_bytes_law 4 v rest s b q).0 in
    (q ∙ ap (λ (u : List ℕ). field 4 u ++ rest) r.0, r.1)))

module _ (n i : ℕ) (s : List ℕ) where
  -- it is within its limits, and the behaviours before it, i of them, and its own are at most 64
  abbrev pub SaysBehaviour : Got Entry → Type 0
  SaysBehaviour = Says encode_behaviour (λ (x : Entry). EntryFits n x × (i + cells x.item ≤ 64)) s

  passive_says : i < 64 → (v rest : List ℕ) → (Bytes s → s ≡ field 2 v ++ rest) → SaysBehaviour (filling (then (expr_at 16 v) (λ x left. ending_in (formula x) left)) rest)
  passive_says low v rest h =
      then_of (λ (g : Got Entry). SaysBehaviour (filling g rest)) (SaysExpr 16 v) _ (λ m g. g)
      (λ x left g. ending_of SaysBehaviour (formula x) rest (λ m a b. (a, b)) left
      (λ m k b.
      let bv : Bytes v = (field_bytes_law 2 v rest s b (h b)).0 in
      let r = g bv in
      let q = k (all_split (λ b. b < 256) (encode_expr x) left (rw r.0 at bv)).1 in
      (h b ∙ rw (r.0, q.0), ((r.1, q.1), omega arith))))
      (expr_at 16 v) (expr_says 16 v)

  -- an active, or a row: what they make is encoded with these bytes before its own
  module _ (make : ℕ → List Clause → Item) (t : ℕ) (pre : List ℕ) (tagged : (w : ℕ) (hs : List Clause) → tag_of (make w hs) ≡ t)
      (shape : (w : ℕ) (hs : List Clause) → encode_item (make w hs) ≡ pre ++ (field 4 (word w) ++ encode_handlers hs))
      (fits : (w : ℕ) (hs : List Clause) → w < 2 ^ 32 → ClausesFit n hs → ItemFits n (make w hs)) (few : (w : ℕ) (hs : List Clause) → i + cells (make w hs) ≤ 64) where
    made : (w : ℕ) (hs : List Clause) (m : Option ℕ) (rest v : List ℕ) → v ≡ pre ++ ((field 4 (word w) ++ encode_handlers hs) ++ encode_viewer m) → s ≡ field t v ++ rest
        → s ≡ encode_behaviour (entry (make w hs) m) ++ rest
    made w hs m rest v e q =
        let z : v ≡ encode_item (make w hs) ++ encode_viewer m = e ∙ sym (append_assoc pre (field 4 (word w) ++ encode_handlers hs) (encode_viewer m)) ∙ ap (λ (l : List ℕ). l ++ encode_viewer m) (sym (shape w hs)) in
        q ∙ rw (z, tagged w hs)

    active_says : (v rest : List ℕ) → (Bytes s → s ≡ field t (pre ++ v) ++ rest) → SaysBehaviour (filling (active_as make n v) rest)
    unfolding encode_handlers
    active_says v rest h =
        let P : Got Entry → Type 0 = λ g. SaysBehaviour (filling g rest) in
        then_of P (SaysStart v) _ (λ m g. g)
        (λ w left g. then_of P (SaysMany encode_handlers (ClausesFit n) stops [] left) _ (λ m k. k)
        (λ hs over k. ending_of SaysBehaviour (make w hs) rest (λ m a b. (a, b)) over
        (λ m j b.
        let bv : Bytes v = (all_split (λ b. b < 256) pre v (field_bytes_law t (pre ++ v) rest s b (h b)).0).1 in
        let r = g bv in
        let bl : Bytes left = (field_bytes_law 4 (word w) left v bv r.0).1 in
        let q = k bl tt in
        let o = j (all_split (λ b. b < 256) (encode_handlers hs) over (rw q.0 at bl)).1 in
        let whole : v ≡ (field 4 (word w) ++ encode_handlers hs) ++ encode_viewer m = r.0 ∙ rw (q.0, o.0) in
        (made w hs m rest (pre ++ v) (rw whole) (h b), ((fits w hs r.1 q.1, o.1), few w hs))))
        (read_all stops (handler_in n) (suc (length left)) [] left) (handlers_say (suc (length left)) n left))
        (field_at (eqb 4) v (λ t w. sized 4 w (got (get_at w 0) []))) (start_says v)

  pub behaviour_says : (t : ℕ) (v rest : List ℕ) → i < 64 → behaviour_tag t ≡ true → (Bytes s → s ≡ field t v ++ rest) → SaysBehaviour (filling (behaviour_in n i t v) rest)
  behaviour_says t v rest low due h =
      let P : Got Entry → Type 0 = λ g. SaysBehaviour (filling g rest) in
      by_test P (eqb t 2)
      (λ e. passive_says low v rest (λ b. rw (eqb-true t 2 e) at (h b)))
      (λ e. by_test P (eqb t 6)
      (λ d. byte_of P v _ (omega arith)
      (λ c w y. by_test P (ltb c 2 || ltb 16 c) (λ a. omega arith)
      (λ a. let p = none_of (ltb c 2) (ltb 16 c) a in
      by_test P (ltb 64 (i + c)) (λ o. omega arith)
      (λ o. active_says (row c) 6 (c ∷ []) (λ w hs. refl) (λ w hs. refl) (λ w hs f g. (ltb-false c 2 p.0, ltb-false 16 c p.1, f, g)) (λ w hs. ltb-false 64 (i + c) o) w rest
      (λ b. rw (eqb-true t 6 d, y) at (h b))))))
      (λ d. let q : t ≡ 3 = split (eqb t 3) (eqb-true t 3) (λ c. absurd (false≢true (rw (e, c, d) at due))) in
      active_says state 3 [] (λ w hs. refl) (λ w hs. refl) (λ w hs a b. (a, b)) (λ w hs. omega arith) v rest (λ b. rw q at (h b))))
