-- The tokens worked out from the bytes of an expression are those of the phrase that describes it. By induction on the
-- expression: behind a field's bytes stands what follows it, and the first cell of a behaviour's field is the one that
-- names it.
use Rattle.lib_base.proofs.Prelude.{ℕ, ◌≤◌, ◌+◌, ◌-◌, suc, zero, ◌≡◌, refl, ◌∙◌, sym, ap, List, [], ◌∷◌, ◌++◌}
use Rattle.lib_base.proofs.Prelude.{append_assoc, append-nil, length, eqb, ltb, leb, ne_eqb, eqb-true, le-ltb, lt-ltb}
use Rattle.lib_base.proofs.Prelude.{eq-eqb, ltb-false, eqb-false, arith}
use Rattle.lib_base.specs.Basics.{All}
use Rattle.lib_base.proofs.Tools.{split}
use Rattle.lib_signature.specs.Signature.{level, last}
use Rattle.lib_signature.specs.Numbers.{not_fn, if_fn}
use Rattle.lib_signature.proofs.Laws.{two_is}
use Rattle.spec_language.specs.Sheet.{Term, Entry, cells}
use Rattle.spec_language.specs.Grammar.{encode_expr, encode_behaviour, encode_behaviours, unary, ternary, binary, TermFits, t_literal, t_variable, t_param, t_apply1, t_apply2, t_apply3, EntryFits}
use Rattle.spec_grammar.proofs.Programs.{behaviour_bytes}
use Rattle.source_language.specs.Tokens.{SheetToken, opening, closing, comma}
use Rattle.source_rendering.specs.Describe.{described_constant, cell_named, phrase_of, mark, unless, value_tokens, phrase_tokens}
use Rattle.source_rendering.proofs.Described.{some_cells}
use Rattle.source_walk.specs.Fields.{first_cell}
use Rattle.sheet_walk.proofs.Fields.{after_term, after_behaviour, cells_in_front_law, word_in_front_law}
use Rattle.source_terms.specs.Terms.{cell_tokens, term_tokens}

-- ---- names

pub value_on : (w : ℕ) (ts : List SheetToken) → value_tokens (described_constant w) [] ++ ts ≡ value_tokens (described_constant w) ts
value_on w ts = split (ltb w 2147483648) (λ e. rw e) (λ e. rw e)

pub first_cell_law : (m k j : ℕ) (ys : List Entry) (i : ℕ) → length ys ≤ k → j ≤ i → All (EntryFits m) ys → (l : ℕ) (ts : List SheetToken)
    → cell_tokens (first_cell k j (encode_behaviours ys) i) i ++ ts ≡ phrase_tokens l (cell_named j ys i) ts
unfolding first_cell cell_named phrase_tokens encode_behaviours
first_cell_law m zero j [] i h a f l ts = rw (eq-eqb i i refl)
first_cell_law m (suc k) j [] i h a f l ts = rw (eq-eqb i i refl)
first_cell_law m zero j (y ∷ ys) i h a f l ts = absurd (omega arith)
first_cell_law m (suc k) j (y ∷ ys) i h a f l ts =
    let c = some_cells m y.item f.0.0 in
    let r = encode_behaviours ys in
    let z = ne_eqb (length (encode_behaviour y ++ r)) 0 (omega (arith, behaviour_bytes y r)) in
    rw (z, cells_in_front_law y r)
    (split (eqb i j)
    (λ e. let q = eqb-true i j e in rw (e, lt-ltb i (j + cells y.item) (omega arith), eq-eqb j i (sym q)))
    (λ e. let q = eqb-false i j e in split (ltb i (j + cells y.item))
    (λ d. rw (e, d, ne_eqb j i (λ p. q (sym p))))
    (λ d. rw (e, d, after_behaviour y r) (first_cell_law m k (j + cells y.item) ys i (omega arith) (ltb-false i (j + cells y.item) d) f.1 l ts))))

-- ---- expressions

abbrev Tokens : Type 0
Tokens = List SheetToken

-- an application with two arguments, A and B their tokens, before those that follow
two_on : (f l : ℕ) (A B ts : Tokens)
    → (unless (leb (level f) l) opening [] ++ (A ++ mark f (B ++ unless (leb (level f) l) closing []))) ++ ts
    ≡ unless (leb (level f) l) opening (A ++ mark f (B ++ unless (leb (level f) l) closing ts))
two_on f l A B ts =
    split (leb (level f) l)
    (λ e. rw e (simp append_assoc))
    (λ e. rw e (simp append_assoc))

-- one with three, after its bracket
three_on : (A B C ts : Tokens)
    → (A ++ mark comma (B ++ mark comma (C ++ mark closing []))) ++ ts ≡ A ++ mark comma (B ++ mark comma (C ++ mark closing ts))
three_on A B C ts = simp append_assoc

module _ (m : ℕ) (xs : List Entry) (f : All (EntryFits m) xs) (n : ℕ) (long : length xs ≤ n) where
  abbrev tokens : ℕ → ℕ → List ℕ → Tokens
  tokens = term_tokens n (encode_behaviours xs)

  pub term_walks : {k : ℕ} {x : Term} → TermFits k x → (l : ℕ) (rest : List ℕ) (ts : Tokens)
      → tokens k l (encode_expr x ++ rest) ++ ts ≡ phrase_tokens l (phrase_of xs x) ts
  unfolding term_tokens encode_expr phrase_of phrase_tokens level
  term_walks (t_literal {w = w} h) l rest ts = rw (word_in_front_law w rest h) (value_on w ts)
  term_walks (t_variable {i = i} h) l rest ts = first_cell_law m n 0 xs i long (omega arith) f l ts
  term_walks (t_param h) l rest ts = refl
  term_walks (t_apply1 {k = k} {a = a} unary p) l rest ts =
      rw (append-nil (tokens k 0 (encode_expr a ++ rest))) (ap (λ (us : Tokens). mark not_fn us) (term_walks p 0 rest ts))
  term_walks (t_apply2 {k = k} {f = g} {a = a} {b = b} (binary lo hi other) p q) l rest ts =
      let two = two_is g other in
      rw (ne_eqb g not_fn two.0, ne_eqb g if_fn two.1, ne_eqb g 0 (omega arith), le-ltb last g (omega arith), append_assoc (encode_expr a) (encode_expr b) rest, after_term a (encode_expr b ++ rest))
      (two_on g l (tokens k (level g) (encode_expr a ++ (encode_expr b ++ rest))) (tokens k (level g - 1) (encode_expr b ++ rest)) ts
      ∙ rw (
        term_walks q (level g - 1) rest (unless (leb (level g) l) closing ts),
        term_walks p (level g) (encode_expr b ++ rest) (mark g (phrase_tokens (level g - 1) (phrase_of xs b) (unless (leb (level g) l) closing ts))),
      ))
  term_walks (t_apply3 {k = k} {a = a} {b = b} {c = c} ternary p q r) l rest ts =
      let us = mark closing ts in
      let ws = mark comma (phrase_tokens 6 (phrase_of xs c) us) in
      let vs = mark comma (phrase_tokens 6 (phrase_of xs b) ws) in
      rw (
        append_assoc (encode_expr a) (encode_expr b ++ encode_expr c) rest,
        append_assoc (encode_expr b) (encode_expr c) rest,
        after_term a (encode_expr b ++ (encode_expr c ++ rest)),
        after_term b (encode_expr c ++ rest),
      ) (ap (λ (us : Tokens). mark if_fn (mark opening us))
      (three_on (tokens k 6 (encode_expr a ++ (encode_expr b ++ (encode_expr c ++ rest)))) (tokens k 6 (encode_expr b ++ (encode_expr c ++ rest)))
      (tokens k 6 (encode_expr c ++ rest)) ts
      ∙ rw (term_walks r 6 rest us, term_walks q 6 (encode_expr c ++ rest) ws, term_walks p 6 (encode_expr b ++ (encode_expr c ++ rest)) vs)))
