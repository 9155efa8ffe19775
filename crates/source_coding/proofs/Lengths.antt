-- The bytes of the sheet that a text means are as many as `text_size` says, whatever its names mean: by induction on
-- the text.
use Rattle.lib_base.proofs.Prelude.{ℕ, ◌+◌, ◌≡◌, refl, ◌&&◌, Option, some, none, List, [], ◌∷◌, ◌++◌, map, length}
use Rattle.lib_base.proofs.Prelude.{length-append, eqb, ltb, arith}
use Rattle.lib_base.proofs.Tools.{by_test}
use Rattle.spec_language.specs.Sheet.{variable, Entry}
use Rattle.spec_language.specs.Reading.{sheet}
use Rattle.spec_language.specs.Grammar.{encode, encode_expr, encode_handlers, encode_item, encode_viewer, encode_behaviours, encode_sender, encode_events}
use Rattle.source_language.specs.Text.{Phrase, constant, named, cell, negation, operation, choice, Reaction, on, Body, passive, active, row, Parameter, TextEvent, event, TextBehaviour, behaviour, text}
use Rattle.source_language.specs.Faults.{OrFault, fault, fine, and_then}
use Rattle.source_language.specs.Meaning.{rights_of, NameMeaning, nothing, a_parameter, a_behaviour, a_row, name_term, cell_term, term_of, clauses_of, item_of, entries_of, signal_of}
use Rattle.source_coding.specs.Sizes.{phrase_size, reactions_size, body_size, viewer_size, sender_size, behaviours_size, events_size, text_size}

-- a result whose encoding has n bytes; nothing is said of a fault
abbrev Takes : {A : Type 0} → (A → List ℕ) → ℕ → OrFault A → Type 0
Takes encoded n (fault k p) = Unit {0}
Takes encoded n (fine x) = length (encoded x) ≡ n

on_takes : {A B : Type 0} (f : A → List ℕ) (g : B → List ℕ) (m n : ℕ) (h : A → OrFault B) → ((x : A) → length (f x) ≡ m → Takes g n (h x))
    → (r : OrFault A) → Takes f m r → Takes g n (and_then r h)
on_takes f g m n h k (fault j p) t = tt
on_takes f g m n h k (fine x) t = k x t

-- ---- formulas

name_takes : (p : ℕ) (f : NameMeaning) → Takes encode_expr 4 (name_term p f)
unfolding encode_expr
name_takes p nothing = tt
name_takes p (a_parameter i) = refl
name_takes p (a_behaviour i) = refl
name_takes p (a_row i n) = refl

variable_takes : (i : ℕ) → Takes encode_expr 4 (fine (variable i))
unfolding encode_expr
variable_takes i = refl

cell_takes : (c p q k : ℕ) (f : NameMeaning) → Takes encode_expr 4 (cell_term c p q k f)
cell_takes c p q k nothing = tt
cell_takes c p q k (a_parameter i) = tt
cell_takes c p q k (a_behaviour i) = tt
cell_takes c p q k (a_row i n) =
    by_test (Takes encode_expr 4) (ltb k n)
    (λ e. by_test (Takes encode_expr 4) (eqb k 0 && eqb n c) (λ d. tt) (λ d. variable_takes (i + k)))
    (λ e. tt)

module _ (find : List ℕ → NameMeaning) (c : ℕ) where
  pub term_takes : (e : Phrase) → Takes encode_expr (phrase_size e) (term_of find c e)
  unfolding term_of phrase_size encode_expr
  term_takes (constant x) = refl
  term_takes (named p s) = name_takes p (find s)
  term_takes (cell p s q k) = cell_takes c p q k (find s)
  term_takes (negation a) = on_takes encode_expr encode_expr _ _ _ (λ x h. omega (arith, h)) (term_of find c a) (term_takes a)
  term_takes (operation f a b) =
      on_takes encode_expr encode_expr _ _ _ (λ x h.
      on_takes encode_expr encode_expr _ _ _ (λ y g.
      omega (arith, h, g, length-append (encode_expr x) (encode_expr y)))
      (term_of find c b) (term_takes b)) (term_of find c a) (term_takes a)
  term_takes (choice a b d) =
      on_takes encode_expr encode_expr _ _ _ (λ x h.
      on_takes encode_expr encode_expr _ _ _ (λ y g.
      on_takes encode_expr encode_expr _ _ _ (λ z k.
      omega (arith, h, g, k, length-append (encode_expr x) (encode_expr y ++ encode_expr z), length-append (encode_expr y) (encode_expr z)))
      (term_of find c d) (term_takes d)) (term_of find c b) (term_takes b)) (term_of find c a) (term_takes a)

-- ---- behaviours

pub viewer_takes : (m : Option (List ℕ)) → length (encode_viewer (rights_of m)) ≡ viewer_size m
viewer_takes none = refl
viewer_takes (some ns) = refl

module _ (es : List TextEvent) (find : List ℕ → NameMeaning) where
  clauses_take : (c : ℕ) (hs : List Reaction) → Takes encode_handlers (reactions_size hs) (clauses_of es find c hs)
  unfolding clauses_of reactions_size encode_handlers
  clauses_take c [] = refl
  clauses_take c (on s φ e ∷ hs) =
      on_takes encode_expr encode_handlers _ _ _ (λ x h.
      on_takes encode_handlers encode_handlers _ _ _ (λ cs g.
      omega (arith, h, g, length-append (encode_expr x) (encode_handlers cs)))
      (clauses_of es find c hs) (clauses_take c hs)) (term_of find c e) (term_takes find c e)

  item_takes : (b : Body) → Takes encode_item (body_size b) (item_of es find b)
  item_takes (passive e) = on_takes encode_expr encode_item _ _ _ (λ x h. h) (term_of find 0 e) (term_takes find 0 e)
  item_takes (active v hs) = on_takes encode_handlers encode_item _ _ _ (λ cs h. omega (arith, h)) (clauses_of es find 0 hs) (clauses_take 0 hs)
  item_takes (row n v hs) = on_takes encode_handlers encode_item _ _ _ (λ cs h. omega (arith, h)) (clauses_of es find n hs) (clauses_take n hs)

  entries_take : (bs : List TextBehaviour) → Takes encode_behaviours (behaviours_size bs) (entries_of es find bs)
  unfolding entries_of behaviours_size encode_behaviours
  entries_take [] = refl
  entries_take (behaviour s b m ∷ bs) =
      on_takes encode_item encode_behaviours _ _ _ (λ x h.
      on_takes encode_behaviours encode_behaviours _ _ _ (λ xs g.
      omega (arith, h, g, viewer_takes m, length-append (encode_item x ++ encode_viewer (rights_of m)) (encode_behaviours xs), length-append (encode_item x) (encode_viewer (rights_of m))))
      (entries_of es find bs) (entries_take bs)) (item_of es find b) (item_takes b)

-- ---- events, and the whole

sender_takes : (m : Option (List ℕ)) → length (encode_sender (rights_of m)) ≡ sender_size m
sender_takes none = refl
sender_takes (some ns) = refl

events_take : (es : List TextEvent) → length (encode_events (map signal_of es)) ≡ events_size es
unfolding encode_events events_size
events_take [] = refl
events_take (event s n m ∷ es) =
    omega (arith, events_take es, sender_takes m, length-append (encode_sender (rights_of m)) (encode_events (map signal_of es)))

pub sheet_takes : (find : List ℕ → NameMeaning) (ps : List Parameter) (es : List TextEvent) (bs : List TextBehaviour) (xs : List Entry)
    → entries_of es find bs ≡ fine xs → length (encode (sheet (map signal_of es) xs)) ≡ text_size (text ps es bs)
unfolding encode
sheet_takes find ps es bs xs e =
    let h : length (encode_behaviours xs) ≡ behaviours_size bs = rw e at (entries_take es find bs) in
    omega (arith, h, events_take es, length-append (encode_events (map signal_of es)) (encode_behaviours xs))
