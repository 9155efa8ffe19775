-- The parameters counted over the bytes of behaviours are those that the behaviours need. By induction on the sheet:
-- the count goes from tag to tag.
use Rattle.lib_base.proofs.Prelude.{ℕ, ◌+◌, suc, ◌%◌, ◌/◌, max, ◌≡◌, refl, ◌∙◌, ap, add-one, Option, some, none, List, [], ◌∷◌}
use Rattle.lib_base.proofs.Prelude.{◌++◌, append_assoc, length, ltb, ltb-false, ltb-true, arith}
use Rattle.lib_base.specs.Basics.{pick}
use Rattle.lib_base.proofs.Tools.{by_test}
use Rattle.spec_language.specs.Sheet.{Term, literal, variable, param, apply1, apply2, apply3, Clause, clause, Item, formula, state, row, Entry}
use Rattle.spec_language.specs.Grammar.{encode_expr, encode_handlers, tag_of, encode_item, encode_viewer, encode_behaviours}
use Rattle.spec_language.specs.Sheet.{params_of, params_of_clauses, params_of_item, params_of_entries}
use Rattle.sheet_walk.specs.Scanner.{until_tag, left_after, tag_after, is_number}
use Rattle.source_walk.specs.Fields.{needed_after, needed_in}

one_more : (n b : ℕ) → pick (ltb n (b + 1)) (b + 1) n ≡ max n (suc b)
one_more n b =
    by_test (λ (x : ℕ). x ≡ max n (suc b)) (ltb n (b + 1)) (λ e. omega (arith, ltb-true n (b + 1) e)) (λ e. omega (arith, ltb-false n (b + 1) e))

pub most_needed : (n b : ℕ) → max n (b + 1) ≡ pick (ltb n (b + 1)) (b + 1) n
most_needed n b = rw (one_more n b, add-one b) refl

none_more : (n : ℕ) → n ≡ max n 0
none_more n = omega arith

of_both : (n a b : ℕ) → max (max n a) b ≡ max n (max a b)
of_both n a b = omega arith

-- where a tag comes, the tag before it does not count
at_tag : (t n : ℕ) (bs : List ℕ) → needed_in t 0 n bs ≡ needed_in 0 0 n bs
unfolding needed_in needed_after tag_after left_after is_number
at_tag t n [] = refl
at_tag t n (b ∷ bs) = refl

needed_term : (x : Term) (n : ℕ) (rest : List ℕ) → needed_in 0 0 n (encode_expr x ++ rest) ≡ needed_in 0 0 (max n (params_of x)) rest
unfolding needed_in needed_after tag_after left_after until_tag is_number encode_expr params_of
needed_term (literal w) n rest = at_tag 16 n rest ∙ ap (λ (k : ℕ). needed_in 0 0 k rest) (none_more n)
needed_term (variable i) n rest = at_tag 17 n rest ∙ ap (λ (k : ℕ). needed_in 0 0 k rest) (none_more n)
needed_term (param i) n rest = at_tag 19 (pick (ltb n (i + 1)) (i + 1) n) rest ∙ ap (λ (k : ℕ). needed_in 0 0 k rest) (one_more n i)
needed_term (apply1 f a) n rest = at_tag 18 n (encode_expr a ++ rest) ∙ needed_term a n rest
needed_term (apply2 f a b) n rest =
    at_tag 18 n ((encode_expr a ++ encode_expr b) ++ rest)
    ∙ ap (needed_in 0 0 n) (append_assoc (encode_expr a) (encode_expr b) rest)
    ∙ (needed_term a n (encode_expr b ++ rest)
    ∙ (needed_term b (max n (params_of a)) rest ∙ ap (λ (k : ℕ). needed_in 0 0 k rest) (of_both n (params_of a) (params_of b))))
needed_term (apply3 f a b c) n rest =
    at_tag 18 n ((encode_expr a ++ (encode_expr b ++ encode_expr c)) ++ rest)
    ∙ ap (needed_in 0 0 n) (append_assoc (encode_expr a) (encode_expr b ++ encode_expr c) rest ∙ ap (λ (l : List ℕ). encode_expr a ++ l) (append_assoc (encode_expr b) (encode_expr c) rest))
    ∙ (needed_term a n (encode_expr b ++ (encode_expr c ++ rest))
    ∙ (needed_term b (max n (params_of a)) (encode_expr c ++ rest)
    ∙ (needed_term c (max (max n (params_of a)) (params_of b)) rest
    ∙ ap (λ (k : ℕ). needed_in 0 0 k rest) (of_both (max n (params_of a)) (params_of b) (params_of c) ∙ of_both n (params_of a) (max (params_of b) (params_of c))))))

needed_clauses : (cs : List Clause) (n : ℕ) (rest : List ℕ) → needed_in 0 0 n (encode_handlers cs ++ rest) ≡ needed_in 0 0 (max n (params_of_clauses cs)) rest
unfolding needed_in needed_after tag_after left_after until_tag is_number encode_handlers params_of_clauses
needed_clauses [] n rest = ap (λ (k : ℕ). needed_in 0 0 k rest) (none_more n)
needed_clauses (clause e φ x ∷ cs) n rest =
    at_tag 5 n ((encode_expr x ++ encode_handlers cs) ++ rest)
    ∙ ap (needed_in 0 0 n) (append_assoc (encode_expr x) (encode_handlers cs) rest)
    ∙ (needed_term x n (encode_handlers cs ++ rest)
    ∙ (needed_clauses cs (max n (params_of x)) rest ∙ ap (λ (k : ℕ). needed_in 0 0 k rest) (of_both n (params_of x) (params_of_clauses cs))))

needed_viewer : (o : Option ℕ) (n : ℕ) (rest : List ℕ) → needed_in 0 0 n (encode_viewer o ++ rest) ≡ needed_in 0 0 n rest
unfolding needed_in needed_after tag_after left_after until_tag is_number
needed_viewer none n rest = refl
needed_viewer (some m) n rest = at_tag 8 n rest

needed_item : (x : Item) (h l n : ℕ) (rest : List ℕ) → needed_in 0 0 n (tag_of x ∷ h ∷ l ∷ (encode_item x ++ rest)) ≡ needed_in 0 0 (max n (params_of_item x)) rest
unfolding needed_in needed_after tag_after left_after until_tag is_number
needed_item (formula x) h l n rest = at_tag 2 n (encode_expr x ++ rest) ∙ needed_term x n rest
needed_item (state s cs) h l n rest = at_tag 4 n (encode_handlers cs ++ rest) ∙ needed_clauses cs n rest
needed_item (row c s cs) h l n rest = at_tag 4 n (encode_handlers cs ++ rest) ∙ needed_clauses cs n rest

pub needed_entries : (xs : List Entry) (n : ℕ) → needed_in 0 0 n (encode_behaviours xs) ≡ max n (params_of_entries xs)
unfolding needed_in encode_behaviours params_of_entries
needed_entries [] n = none_more n
needed_entries (x ∷ xs) n =
    let rest = encode_behaviours xs in
    let value = encode_item x.item ++ encode_viewer x.viewer in
    let h = length value / 256 in
    let l = length value % 256 in
    ap (λ (b : List ℕ). needed_in 0 0 n (tag_of x.item ∷ h ∷ l ∷ b)) (append_assoc (encode_item x.item) (encode_viewer x.viewer) rest)
    ∙ (needed_item x.item h l n (encode_viewer x.viewer ++ rest)
    ∙ (needed_viewer x.viewer (max n (params_of_item x.item)) rest
    ∙ (needed_entries xs (max n (params_of_item x.item)) ∙ of_both n (params_of_item x.item) (params_of_entries xs))))
