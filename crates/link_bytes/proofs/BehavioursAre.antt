-- The bytes of behaviours copied with each name moved up are those of the behaviours moved up, and the fields counted
-- are the behaviours. By induction on the sheet: a copy goes from tag to tag.
use Rattle.lib_base.proofs.Prelude.{ℕ, ◌≤◌, ◌<◌, ◌+◌, suc, zero, ◌%◌, ◌/◌, ◌≡◌, refl, ◌∙◌, sym, ap, Option, some, none}
use Rattle.lib_base.proofs.Prelude.{List, [], ◌∷◌, ◌++◌, append_assoc, length, length-append, ne_eqb, arith}
use Rattle.lib_base.specs.Basics.{All}
use Rattle.spec_language.specs.Sheet.{Term, literal, variable, param, apply1, apply2, apply3, Clause, clause, Item, formula, state, row, Entry, cells, cell_count, rename_term, change_clauses, change_item, change_entry, change_entries}
use Rattle.spec_language.specs.Grammar.{encode_expr, encode_handlers, tag_of, encode_item, encode_viewer, encode_behaviour, encode_behaviours}
use Rattle.spec_language.specs.Sheet.{fill_term, fill_clauses, fill_item, fill_entries}
use Rattle.spec_language.specs.Accepted.{NamesIn, HandlerNamesIn, BehaviourNamesIn}
use Rattle.link_pooled.specs.Pooled.{move_term, move_entries}
use Rattle.sheet_walk.specs.Scanner.{until_tag, left_after, tag_after, is_number}
use Rattle.sheet_walk.proofs.Fields.{after_behaviour, cells_in_front_law}
use Rattle.link_bytes.specs.Splice.{count_from, moved_byte, scan}

-- ---- names moved up leave every length as it was

module _ (m : ℕ) where
  length_term : (x : Term) → length (encode_expr (move_term m x)) ≡ length (encode_expr x)
  unfolding encode_expr rename_term
  length_term (literal w) = refl
  length_term (variable i) = refl
  length_term (param k) = refl
  length_term (apply1 f a) = rw (length_term a)
  length_term (apply2 f a b) = simp (length-append, length_term a, length_term b)
  length_term (apply3 f a b c) = simp (length-append, length_term a, length_term b, length_term c)

  length_clauses : (cs : List Clause) → length (encode_handlers (change_clauses (move_term m) cs)) ≡ length (encode_handlers cs)
  unfolding encode_handlers change_clauses
  length_clauses [] = refl
  length_clauses (clause e φ x ∷ cs) = simp (length-append, length_term x, length_clauses cs)

  length_item : (x : Item) → length (encode_item (change_item (move_term m) x)) ≡ length (encode_item x)
  length_item (formula x) = length_term x
  length_item (state s cs) = rw (length_clauses cs)
  length_item (row c s cs) = rw (length_clauses cs)

-- ---- the copy, where each name stays a byte: k names, moved up by m

module _ (v : ℕ → ℕ) (m k : ℕ) (small : m + k ≤ 256) where
  moved_name : (i : ℕ) → i < k → (i + m) % 256 ≡ m + i
  moved_name i h = omega arith

  -- where a tag comes, the tag before it does not count
  at_tag : (t : ℕ) (bs : List ℕ) → scan m t 0 bs ≡ scan m 0 0 bs
  unfolding scan moved_byte tag_after left_after is_number
  at_tag t [] = refl
  at_tag t (b ∷ bs) = refl

  scan_term : (x : Term) → NamesIn k (fill_term v x) → (rest : List ℕ) → scan m 0 0 (encode_expr x ++ rest) ≡ encode_expr (move_term m x) ++ scan m 0 0 rest
  unfolding scan moved_byte tag_after left_after until_tag is_number encode_expr rename_term fill_term
  scan_term (literal w) h rest = rw (at_tag 16 rest)
  scan_term (variable i) h rest = rw (moved_name i h, at_tag 17 rest)
  scan_term (param n) h rest = rw (at_tag 19 rest)
  scan_term (apply1 f a) h rest = rw (at_tag 18 (encode_expr a ++ rest), scan_term a h rest, length_term m a)
  scan_term (apply2 f a b) h rest =
      let n : length (encode_expr (move_term m a) ++ encode_expr (move_term m b)) ≡ length (encode_expr a ++ encode_expr b) = simp (length-append, length_term m a, length_term m b) in
      let s : scan m 0 0 (encode_expr a ++ encode_expr b ++ rest) ≡ encode_expr (move_term m a) ++ encode_expr (move_term m b) ++ scan m 0 0 rest =
      ap (scan m 0 0) (append_assoc (encode_expr a) (encode_expr b) rest)
      ∙ scan_term a h.0 (encode_expr b ++ rest)
      ∙ ap (λ (l : List ℕ). encode_expr (move_term m a) ++ l) (scan_term b h.1 rest)
      ∙ sym (append_assoc (encode_expr (move_term m a)) (encode_expr (move_term m b)) (scan m 0 0 rest)) in
      rw (at_tag 18 ((encode_expr a ++ encode_expr b) ++ rest), s, n)
  scan_term (apply3 f a b c) h rest =
      let a' : List ℕ = encode_expr (move_term m a) in
      let b' : List ℕ = encode_expr (move_term m b) in
      let c' : List ℕ = encode_expr (move_term m c) in
      let n : length (a' ++ (b' ++ c')) ≡ length (encode_expr a ++ (encode_expr b ++ encode_expr c)) = simp (length-append, length_term m a, length_term m b, length_term m c) in
      let s : scan m 0 0 (encode_expr a ++ (encode_expr b ++ encode_expr c) ++ rest) ≡ a' ++ (b' ++ c') ++ scan m 0 0 rest =
      ap (scan m 0 0) (append_assoc (encode_expr a) (encode_expr b ++ encode_expr c) rest)
      ∙ scan_term a h.0 (encode_expr b ++ encode_expr c ++ rest)
      ∙ ap (λ (l : List ℕ). a' ++ l)
      (ap (scan m 0 0) (append_assoc (encode_expr b) (encode_expr c) rest)
      ∙ scan_term b h.1 (encode_expr c ++ rest)
      ∙ ap (λ (l : List ℕ). b' ++ l) (scan_term c h.2 rest)
      ∙ sym (append_assoc b' c' (scan m 0 0 rest)))
      ∙ sym (append_assoc a' (b' ++ c') (scan m 0 0 rest)) in
      rw (at_tag 18 ((encode_expr a ++ (encode_expr b ++ encode_expr c)) ++ rest), s, n)

  scan_clauses : (cs : List Clause) → All (HandlerNamesIn k) (fill_clauses v cs) → (rest : List ℕ) → scan m 0 0 (encode_handlers cs ++ rest) ≡ encode_handlers (change_clauses (move_term m) cs) ++ scan m 0 0 rest
  unfolding scan moved_byte tag_after left_after until_tag is_number encode_handlers change_clauses fill_clauses
  scan_clauses [] h rest = refl
  scan_clauses (clause e φ x ∷ cs) h rest =
      let s : scan m 0 0 (encode_expr x ++ encode_handlers cs ++ rest) ≡ encode_expr (move_term m x) ++ encode_handlers (change_clauses (move_term m) cs) ++ scan m 0 0 rest =
      ap (scan m 0 0) (append_assoc (encode_expr x) (encode_handlers cs) rest)
      ∙ scan_term x h.0 (encode_handlers cs ++ rest)
      ∙ ap (λ (l : List ℕ). encode_expr (move_term m x) ++ l) (scan_clauses cs h.1 rest)
      ∙ sym (append_assoc (encode_expr (move_term m x)) (encode_handlers (change_clauses (move_term m) cs)) (scan m 0 0 rest)) in
      rw (at_tag 5 ((encode_expr x ++ encode_handlers cs) ++ rest), s, length_term m x)

  scan_viewer : (o : Option ℕ) (rest : List ℕ) → scan m 0 0 (encode_viewer o ++ rest) ≡ encode_viewer o ++ scan m 0 0 rest
  unfolding scan moved_byte tag_after left_after until_tag is_number
  scan_viewer none rest = refl
  scan_viewer (some b) rest = rw (at_tag 8 rest)

  scan_item : (x : Item) → BehaviourNamesIn k (fill_item v x) → (n : ℕ) (rest : List ℕ) → scan m 0 0 (tag_of x ∷ (n / 256) ∷ (n % 256) ∷ (encode_item x ++ rest)) ≡ tag_of x ∷ (n / 256) ∷ (n % 256) ∷ (encode_item (change_item (move_term m) x) ++ scan m 0 0 rest)
  unfolding scan moved_byte tag_after left_after until_tag is_number
  scan_item (formula x) h n rest = rw (at_tag 2 (encode_expr x ++ rest), scan_term x h rest)
  scan_item (state s cs) h n rest = rw (at_tag 4 (encode_handlers cs ++ rest), scan_clauses cs h rest)
  scan_item (row c s cs) h n rest = rw (at_tag 4 (encode_handlers cs ++ rest), scan_clauses cs h rest)

  tag_moved : (x : Item) → tag_of (change_item (move_term m) x) ≡ tag_of x
  tag_moved (formula x) = refl
  tag_moved (state s cs) = refl
  tag_moved (row c s cs) = refl

  scan_behaviour : (x : Entry) → BehaviourNamesIn k (fill_item v x.item) → (rest : List ℕ) → scan m 0 0 (encode_behaviour x ++ rest) ≡ encode_behaviour (change_entry (move_term m) x) ++ scan m 0 0 rest
  scan_behaviour x h rest =
      let n : length (encode_item (change_item (move_term m) x.item) ++ encode_viewer x.viewer) ≡ length (encode_item x.item ++ encode_viewer x.viewer) = simp (length-append, length_item m x.item) in
      let l : ℕ = length (encode_item x.item ++ encode_viewer x.viewer) in
      ap (λ (r : List ℕ). scan m 0 0 (tag_of x.item ∷ (l / 256) ∷ (l % 256) ∷ r)) (append_assoc (encode_item x.item) (encode_viewer x.viewer) rest)
      ∙ scan_item x.item h l (encode_viewer x.viewer ++ rest)
      ∙ ap (λ (r : List ℕ). tag_of x.item ∷ (l / 256) ∷ (l % 256) ∷ (encode_item (change_item (move_term m) x.item) ++ r)) (scan_viewer x.viewer rest)
      ∙ rw (tag_moved x.item, n, append_assoc (encode_item (change_item (move_term m) x.item)) (encode_viewer x.viewer) (scan m 0 0 rest))

  pub scan_behaviours : (xs : List Entry) → All (BehaviourNamesIn k) (fill_entries v xs) → scan m 0 0 (encode_behaviours xs) ≡ encode_behaviours (move_entries m xs)
  unfolding scan encode_behaviours change_entries fill_entries
  scan_behaviours [] h = refl
  scan_behaviours (x ∷ xs) h = scan_behaviour x h.0 (encode_behaviours xs) ∙ ap (λ (r : List ℕ). encode_behaviour (change_entry (move_term m) x) ++ r) (scan_behaviours xs h.1)

-- ---- moved by nothing

term_still : (x : Term) → move_term 0 x ≡ x
unfolding rename_term
term_still (literal w) = refl
term_still (variable i) = ap variable (omega arith)
term_still (param n) = refl
term_still (apply1 f a) = rw (term_still a)
term_still (apply2 f a b) = rw (term_still a, term_still b)
term_still (apply3 f a b c) = rw (term_still a, term_still b, term_still c)

clauses_still : (cs : List Clause) → change_clauses (move_term 0) cs ≡ cs
unfolding change_clauses
clauses_still [] = refl
clauses_still (clause e φ x ∷ cs) = rw (term_still x, clauses_still cs)

item_still : (x : Item) → change_item (move_term 0) x ≡ x
item_still (formula x) = ap formula (term_still x)
item_still (state s cs) = ap (state s) (clauses_still cs)
item_still (row c s cs) = ap (row c s) (clauses_still cs)

pub entries_still : (xs : List Entry) → move_entries 0 xs ≡ xs
unfolding change_entries
entries_still [] = refl
entries_still (x ∷ xs) = λ i. record { item = item_still x.item i; viewer = x.viewer } ∷ entries_still xs i

-- ---- counting: as many as the entries' cells

count_opens : (n : ℕ) (x : Entry) (rest : List ℕ) (c : ℕ) → count_from (suc n) (encode_behaviour x ++ rest) c ≡ count_from n rest (c + cells x.item)
unfolding count_from
count_opens n x rest c = rw (ne_eqb (length (encode_behaviour x ++ rest)) 0 (λ e. omega arith), after_behaviour x rest, cells_in_front_law x rest)

pub count_behaviours : (n : ℕ) (xs : List Entry) (c : ℕ) → length xs ≤ n → count_from n (encode_behaviours xs) c ≡ c + cell_count xs
unfolding count_from encode_behaviours cell_count
count_behaviours zero [] c l = omega arith
count_behaviours (suc n) [] c l = omega arith
count_behaviours zero (x ∷ xs) c l = absurd (omega arith)
count_behaviours (suc n) (x ∷ xs) c l =
    count_opens n x (encode_behaviours xs) c ∙ count_behaviours n xs (c + cells x.item) (omega arith) ∙ omega arith
