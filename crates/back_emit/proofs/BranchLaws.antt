-- The words of a branch, from the fact that the code has there.
use Rattle.lib_base.proofs.Prelude.{ℕ, ◌+◌, ◌%◌, ◌≤◌, ◌≡◌, refl, ◌∙◌, sym, ap, List, [], ◌∷◌, ◌++◌, length, get_or, take, drop, flat_map}
use Rattle.lib_base.proofs.Prelude.{length-drop, get_or-drop, arith}
use Rattle.lib_base.proofs.Pick.{if_eq, if_not_eq}
use Rattle.draft_form.specs.Draft.{entry_of, moved}
use Rattle.draft_form.specs.Entry.{entry_kind, entry_start, entry_count, node_tag, node_word}
use Rattle.back_counts.specs.Counts.{EntriesInside}
use Rattle.back_counts.proofs.CountLaws.{sound_inside}
use Rattle.back_emit.specs.Words.{each, name_words, node_words, expr_words, turn_words, turn_words_of_kind, move_words, member_words}
use Rattle.back_emit.proofs.WritingLaws.{in_turn_each}

pub entry_within : {d : List ℕ} {e v : ℕ} (i : ℕ) → EntriesInside d e (i + 1) → v ≡ entry_of d e i → entry_start v + entry_count v ≤ length d
entry_within i s is = omega (arith, s.long, sound_inside s (omega arith) is)

module _ (d : List ℕ) (e j v : ℕ) (is : v ≡ entry_of d e j) where
  pub name_load : v ≡ 0 → (1536 + j) ∷ 0 ∷ [] ≡ name_words d e j
  unfolding name_words
  name_load h = if_eq _ _ _ _ (sym is ∙ h) refl

  pub name_fetch : (v ≡ 0 → ⊥) → (1792 + j) ∷ 0 ∷ [] ≡ name_words d e j
  unfolding name_words
  name_fetch h = if_not_eq _ _ _ _ (λ z. h (is ∙ z)) refl

  pub member_none : (op : ℕ) → v ≡ 0 → [] ≡ member_words d e op j
  unfolding member_words
  member_none op h = if_eq _ _ _ _ (sym is ∙ h) refl

  pub member_some : (op : ℕ) → (v ≡ 0 → ⊥) → (op + j) ∷ 0 ∷ [] ≡ member_words d e op j
  unfolding member_words
  member_some op h = if_not_eq _ _ _ _ (λ z. h (is ∙ z)) refl

  -- the expression's words, by the part of the draft with its nodes
  pub turn_is : (op : ℕ) {nodes : List ℕ} → nodes ≡ take (entry_count v) (drop (entry_start v) d) → entry_start v + entry_count v ≤ length d
      → flat_map (λ x. node_words d e (moved d j x)) nodes ++ ((op + j) ∷ 0 ∷ []) ≡ turn_words d e op j
  unfolding turn_words expr_words
  turn_is op q h =
      let l : entry_count v ≤ length (drop (entry_start v) d) = omega (arith, length-drop (entry_start v) d) in
      let s : flat_map (λ x. node_words d e (moved d j x)) (take (entry_count v) (drop (entry_start v) d)) ≡ each (entry_count v) (λ i. node_words d e (moved d j (get_or (drop (entry_start v) d) i 0))) =
      in_turn_each (λ x. node_words d e (moved d j x)) (drop (entry_start v) d) (entry_count v) l in
      let g : flat_map (λ x. node_words d e (moved d j x)) (take (entry_count v) (drop (entry_start v) d)) ≡ each (entry_count v) (λ i. node_words d e (moved d j (get_or d (entry_start v + i) 0))) =
      simp get_or-drop at s in
      rw (q, g, is)

-- by the kind of an entry
module _ (d : List ℕ) (e j : ℕ) {k : ℕ} (is : k ≡ entry_kind (entry_of d e j)) where
  pub kind_some : (kind op : ℕ) → k ≡ kind → turn_words d e op j ≡ turn_words_of_kind d e kind op j
  unfolding turn_words_of_kind
  kind_some kind op h = if_eq _ _ (entry_kind (entry_of d e j)) kind (sym is ∙ h) refl

  pub kind_none : (kind op : ℕ) → (k ≡ kind → ⊥) → [] ≡ turn_words_of_kind d e kind op j
  unfolding turn_words_of_kind
  kind_none kind op h = if_not_eq _ _ (entry_kind (entry_of d e j)) kind (λ z. h (is ∙ z)) refl

  pub move_some : k ≡ 3 → (2816 + j) ∷ 0 ∷ [] ≡ move_words d e j
  unfolding move_words
  move_some h = if_eq _ _ (entry_kind (entry_of d e j)) 3 (sym is ∙ h) refl

  pub move_none : (k ≡ 3 → ⊥) → [] ≡ move_words d e j
  unfolding move_words
  move_none h = if_not_eq _ _ (entry_kind (entry_of d e j)) 3 (λ z. h (is ∙ z)) refl

-- a node by its tag t and word w
module _ (d : List ℕ) (e x : ℕ) {t w : ℕ} (p : t ≡ node_tag x) (q : w ≡ node_word x) where
  pub node_push : t ≡ 16 → 1280 ∷ w ∷ [] ≡ node_words d e x
  unfolding node_words
  node_push h = if_eq _ _ (node_tag x) 16 (sym p ∙ h) (ap (λ (z : ℕ). 1280 ∷ z ∷ []) q)

  pub node_name : t ≡ 17 → name_words d e (w % 64) ≡ node_words d e x
  unfolding node_words
  node_name h =
      let u : node_tag x ≡ 17 = sym p ∙ h in
      if_not_eq _ _ (node_tag x) 16 (λ z. omega arith) (if_eq _ _ (node_tag x) 17 u (ap (λ (z : ℕ). name_words d e (z % 64)) q))

  pub node_apply : (t ≡ 16 → ⊥) → (t ≡ 17 → ⊥) → (2048 + w % 16) ∷ 0 ∷ [] ≡ node_words d e x
  unfolding node_words
  node_apply g h =
      if_not_eq _ _ (node_tag x) 16 (λ z. g (p ∙ z))
      (if_not_eq _ _ (node_tag x) 17 (λ z. h (p ∙ z)) (ap (λ (z : ℕ). (2048 + z % 16) ∷ 0 ∷ []) q))
