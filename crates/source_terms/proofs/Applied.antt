-- Laws of the tokens of an expression as the code puts them one after the other: none, a leaf, and an application of
-- one, two or three arguments. By unfolding one turn.
use Rattle.lib_base.proofs.Prelude.{ℕ, ◌-◌, suc, ◌≡◌, refl, ◌∙◌, sym, ap, ◌≢◌, List, [], ◌++◌, append-nil, get_or, drop}
use Rattle.lib_base.proofs.Prelude.{◌<◌, ◌⊎◌, inl, inr, eqb, leb, ne_eqb, eq-eqb, lt-ltb, arith}
use Rattle.lib_base.specs.Basics.{pick}
use Rattle.lib_signature.specs.Signature.{level, last}
use Rattle.lib_signature.specs.Numbers.{not_fn, if_fn}
use Rattle.source_language.specs.Tokens.{closing, comma}
use Rattle.source_rendering.specs.Describe.{mark, unless}
use Rattle.sheet_walk.specs.Fields.{after_field}
use Rattle.source_terms.specs.Terms.{head_tokens, between_tokens, first_level, second_level, application_tokens, leaf_tokens, term_tokens}

pub none_between : (f : ℕ) → f ≢ if_fn → (f ≡ 0) ⊎ (last < f) → [] ≡ between_tokens f
none_between f h (inl k) = rw (ne_eqb f if_fn h, eq-eqb f 0 k) refl
none_between f h (inr k) = rw (ne_eqb f if_fn h, ne_eqb f 0 (omega arith), lt-ltb last f k) refl

pub term_none : (n : ℕ) (bs : List ℕ) (room l : ℕ) (b : List ℕ) → room ≡ 0 → [] ≡ term_tokens n bs room l b
unfolding term_tokens
term_none n bs room l b e = rw e

one_turn : (n : ℕ) (bs : List ℕ) (k l : ℕ) (b : List ℕ)
    → term_tokens n bs (suc k) l b ≡ pick (eqb (get_or b 0 0) 18) (application_tokens (term_tokens n bs k) (get_or b 3 0) l (drop 4 b)) (leaf_tokens n bs b)
unfolding term_tokens
one_turn n bs k l b = refl

term_opens : (n : ℕ) (bs : List ℕ) (room l : ℕ) (b : List ℕ) → room ≢ 0
    → term_tokens n bs room l b ≡ pick (eqb (get_or b 0 0) 18) (application_tokens (term_tokens n bs (room - 1)) (get_or b 3 0) l (drop 4 b)) (leaf_tokens n bs b)
term_opens n bs room l b h =
    let e : room ≡ suc (room - 1) = omega arith in
    ap (λ (k : ℕ). term_tokens n bs k l b) e ∙ one_turn n bs (room - 1) l b

pub term_leaf : (n : ℕ) (bs : List ℕ) (room l : ℕ) (b : List ℕ) {x : ℕ} → room ≢ 0 → x ≡ get_or b 0 0 → x ≢ 18 → leaf_tokens n bs b ≡ term_tokens n bs room l b
term_leaf n bs room l b h e t = sym (term_opens n bs room l b h ∙ rw (ne_eqb (get_or b 0 0) 18 (λ q. t (e ∙ q))))

-- an application: the first byte and the function are read, the arguments stand in v
module _ (n : ℕ) (bs : List ℕ) (room l : ℕ) (b v : List ℕ) {x f l₁ : ℕ} (h : room ≢ 0) (e : x ≡ get_or b 0 0) (t : x ≡ 18) (g : f ≡ get_or b 3 0) (d : v ≡ drop 4 b)
    (p : l₁ ≡ first_level f) where
  applied : application_tokens (term_tokens n bs (room - 1)) f l v ≡ term_tokens n bs room l b
  applied = sym (term_opens n bs room l b h ∙ rw (eq-eqb (get_or b 0 0) 18 (sym e ∙ t), ← g, ← d))

  pub one_argument : f ≡ not_fn → head_tokens f l ++ term_tokens n bs (room - 1) l₁ v ≡ term_tokens n bs room l b
  one_argument q = sym (rw (eq-eqb f not_fn q, ← p, append-nil (term_tokens n bs (room - 1) l₁ v))) ∙ applied

  module _ {w : List ℕ} {l₂ : ℕ} (r : l₂ ≡ second_level f) (s : w ≡ after_field v) where
    pub two_arguments : f ≢ not_fn → f ≢ if_fn
        → head_tokens f l ++ (term_tokens n bs (room - 1) l₁ v ++ (between_tokens f ++ (term_tokens n bs (room - 1) l₂ w ++ unless (leb (level f) l) closing [])))
        ≡ term_tokens n bs room l b
    two_arguments q z = sym (rw (ne_eqb f not_fn q, ← p, ← r, ← s, ne_eqb f if_fn z)) ∙ applied

    pub three_arguments : {y : List ℕ} → y ≡ after_field w → f ≢ not_fn → f ≡ if_fn
        → head_tokens f l
        ++ (term_tokens n bs (room - 1) l₁ v
        ++ (between_tokens f ++ (term_tokens n bs (room - 1) l₂ w ++ mark comma (term_tokens n bs (room - 1) 6 y ++ mark closing []))))
        ≡ term_tokens n bs room l b
    three_arguments u q z = sym (rw (ne_eqb f not_fn q, ← p, ← r, ← s, ← u, eq-eqb f if_fn z)) ∙ applied
