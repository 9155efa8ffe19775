-- The words of an expression's nodes are those of its postfix code, by induction on the expression.
use Rattle.lib_base.proofs.Prelude.{ℕ, ◌≤◌, ◌<◌, ◌+◌, ◌-◌, ◌%◌, ◌^◌, ◌≡◌, refl, ◌∙◌, sym, ap, true, false, Bool, List}
use Rattle.lib_base.proofs.Prelude.{[], ◌∷◌, ◌++◌, append_assoc, append-nil, flat_map, length, get_or, take, drop}
use Rattle.lib_base.proofs.Prelude.{length-drop, get_or-drop, arith}
use Rattle.lib_base.specs.Basics.{pick}
use Rattle.spec_language.specs.Syntax.{Expr, Program}
use Rattle.spec_language.specs.Dependence.{size, response}
use Rattle.spec_language.specs.Grammar.{Arity, unary, ternary, binary}
use Rattle.spec_language.specs.Fits.{Nested, n_con, n_name, n_app1, n_app2, n_app3}
use Rattle.spec_language.specs.Accepted.{NamesIn}
use Rattle.spec_language.specs.Code.{Instr, load, fetch, apply, in_c, postfix}
use Rattle.format_image.specs.Image.{operation, constant}
use Rattle.format_image.specs.Table.{code_words}
use Rattle.draft_form.specs.Draft.{nodes, entry_of, moved, used_by, Drafted}
use Rattle.draft_form.specs.Entry.{entry_start, entry_count, node_tag, node_word}
use Rattle.draft_form.proofs.DraftLaws.{Holds, entry_of_law, length_used, used_at}
use Rattle.back_counts.proofs.CountIs.{copied_is}
use Rattle.back_emit.specs.Words.{each, name_words, node_words, expr_words}
use Rattle.back_emit.proofs.WritingLaws.{in_turn_each}
use Rattle.back_emit.proofs.BranchLaws.{node_push, node_name, node_apply}

-- ---- words of instructions

pub code_words_append : (is js : List Instr) → code_words (is ++ js) ≡ code_words is ++ code_words js
unfolding code_words
code_words_append [] js = refl
code_words_append (i ∷ is) js = ap (λ (l : List ℕ). operation i ∷ constant i ∷ l) (code_words_append is js)

flat_map_append : (f : ℕ → List ℕ) (xs ys : List ℕ) → flat_map f (xs ++ ys) ≡ flat_map f xs ++ flat_map f ys
unfolding flat_map
flat_map_append f [] ys = refl
flat_map_append f (x ∷ xs) ys = rw (flat_map_append f xs ys, append_assoc)

flat_map_one : (f : ℕ → List ℕ) (x : ℕ) → flat_map f (x ∷ []) ≡ f x
unfolding flat_map
flat_map_one f x = append-nil (f x)

-- ---- nodes

arity_low : {f n : ℕ} → Arity f n → f < 16
arity_low unary = omega arith
arity_low ternary = omega arith
arity_low (binary a b c) = omega arith

con_words : (d : List ℕ) (e w : ℕ) → w < 2 ^ 32 → node_words d e (68719476736 + w) ≡ 1280 ∷ w ∷ []
con_words d e w h =
    let t : node_tag (68719476736 + w) ≡ 16 = omega arith in
    let z : node_word (68719476736 + w) ≡ w = omega arith in
    sym (node_push d e (68719476736 + w) refl refl t) ∙ ap (λ (x : ℕ). 1280 ∷ x ∷ []) z

app_words : (d : List ℕ) (e f : ℕ) → f < 16 → node_words d e (77309411328 + f) ≡ (2048 + f) ∷ 0 ∷ []
app_words d e f h =
    let t : node_tag (77309411328 + f) ≡ 18 = omega arith in
    let z : node_word (77309411328 + f) % 16 ≡ f = omega arith in
    sym (node_apply d e (77309411328 + f) refl refl (λ u. omega arith) (λ u. omega arith)) ∙ ap (λ (x : ℕ). (2048 + x) ∷ 0 ∷ []) z

name_words_law : (d : List ℕ) (e i : ℕ) → i < 64 → node_words d e (73014444032 + i) ≡ name_words d e i
name_words_law d e i h =
    let t : node_tag (73014444032 + i) ≡ 17 = omega arith in
    let z : node_word (73014444032 + i) % 64 ≡ i = omega arith in
    sym (node_name d e (73014444032 + i) refl refl t) ∙ ap (name_words d e) z

fetched : (i : ℕ) (b : Bool) → pick (elim b [ true ↦ false | false ↦ true ]) ((1536 + i) ∷ 0 ∷ []) ((1792 + i) ∷ 0 ∷ []) ≡ code_words (pick b (fetch i) (load i) ∷ [])
unfolding code_words
fetched i true = refl
fetched i false = refl

-- ---- expressions

module _ (p : Program) (d : List ℕ) (n : ℕ) (dr : Drafted p d n) (few : size p ≤ 64) (e : ℕ) (b : e ≤ 32) where
  name_code : (i : ℕ) → i < size p → name_words d e i ≡ code_words (pick (in_c p e i) (fetch i) (load i) ∷ [])
  unfolding name_words
  name_code i h = rw (copied_is (used_by d i) (entry_of d e i) (response p e i) (entry_of_law p d n dr e i b h)) (fetched i (in_c p e i))

  nodes_code : {k : ℕ} {x : Expr} → Nested k x → NamesIn (size p) x → flat_map (node_words d e) (nodes x) ≡ code_words (postfix (in_c p e) x)
  unfolding nodes postfix code_words
  nodes_code (n_con {w = w} h) k = flat_map_one (node_words d e) (68719476736 + w) ∙ con_words d e w h
  nodes_code (n_name {i = i} h) k = flat_map_one (node_words d e) (73014444032 + i) ∙ name_words_law d e i (omega arith) ∙ name_code i k
  nodes_code (n_app1 {f = f} {a = x} h hx) k =
      rw (flat_map_append, flat_map_one, app_words d e f (arity_low h), nodes_code hx k) (sym (code_words_append (postfix (in_c p e) x) (apply f ∷ [])))
  nodes_code (n_app2 {f = f} {a = x} {b = y} h hx hy) k =
      rw (
        flat_map_append (node_words d e) (nodes x),
        flat_map_append (node_words d e) (nodes y),
        flat_map_one,
        app_words d e f (arity_low h),
        nodes_code hx k.0,
        nodes_code hy k.1,
        code_words_append (postfix (in_c p e) x),
        code_words_append (postfix (in_c p e) y),
      )
  nodes_code (n_app3 {f = f} {a = x} {b = y} {c = z} h hx hy hz) k =
      rw (
        flat_map_append (node_words d e) (nodes x),
        flat_map_append (node_words d e) (nodes y),
        flat_map_append (node_words d e) (nodes z),
        flat_map_one,
        app_words d e f (arity_low h),
        nodes_code hx k.0,
        nodes_code hy k.1,
        nodes_code hz k.2,
        code_words_append (postfix (in_c p e) x),
        code_words_append (postfix (in_c p e) y),
        code_words_append (postfix (in_c p e) z),
      )

  -- where its nodes stand, as behaviour i uses them
  pub expr_code : (i kind v : ℕ) (x : Expr) → Holds (used_by d i) kind v x → Nested 16 x → NamesIn (size p) x
      → expr_words d e i (entry_start v) (entry_count v) ≡ code_words (postfix (in_c p e) x)
  unfolding expr_words
  expr_code i kind v x h f k =
      let u : length (drop (entry_start v) (used_by d i)) ≡ length d - entry_start v = length-drop (entry_start v) (used_by d i) ∙ rw (length_used d i) in
      let l : entry_count v ≤ length (drop (entry_start v) (used_by d i)) = omega (arith, h.inside, dr.long) in
      let s : flat_map (node_words d e) (take (entry_count v) (drop (entry_start v) (used_by d i))) ≡ each (entry_count v) (λ j. node_words d e (get_or (drop (entry_start v) (used_by d i)) j 0)) =
      in_turn_each (node_words d e) (drop (entry_start v) (used_by d i)) (entry_count v) l in
      let g : flat_map (node_words d e) (take (entry_count v) (drop (entry_start v) (used_by d i))) ≡ each (entry_count v) (λ j. node_words d e (moved d i (get_or d (entry_start v + j) 0))) =
      simp (get_or-drop, used_at) at s in
      sym g ∙ rw (h.count_is, h.there) (nodes_code f k)
