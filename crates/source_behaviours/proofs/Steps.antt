-- The reader's function for a behaviour is its name, its count and its body, one after the other; and it takes a token.
use Rattle.lib_base.proofs.Prelude.{ℕ, ◌<◌, ◌+◌, ◌≡◌, refl, sym, ap, false, ◌||◌, List, [], ◌∷◌, length, eqb, ltb, leb}
use Rattle.lib_base.proofs.Prelude.{ne_eqb, eqb-true, ltb-false, arith}
use Rattle.lib_base.specs.Basics.{pick}
use Rattle.lib_base.proofs.Tools.{by_test, split, none_of}
use Rattle.source_language.specs.Tokens.{SheetToken, number, name, sign, bracket, unbracket, passive_word, row_word}
use Rattle.source_language.specs.Text.{active, row, TextBehaviour}
use Rattle.source_language.specs.Faults.{outside, too_large, off_scale, too_many_fault, declared_twice_fault}
use Rattle.source_language.specs.Limits.{among, largest, NamesTaken, taken}
use Rattle.source_language.specs.Reader.{Phrased, bad, got, then_phrase, place_at, sign_at, tokens_after, past_sign, name_due, number_due, state_of, row_declared, kind_declared, behaviour_declared}
use Rattle.source_declarations.proofs.Many.{Leaves}
use Rattle.source_declarations.proofs.Shorter.{leaves_sign, leaves_name, leaves_number}
use Rattle.source_handlers.proofs.Steps.{then_pick, then_sign}
use Rattle.source_body.specs.Body.{body_made, kind_read}
use Rattle.source_behaviours.specs.Behaviours.{new_name, closed_cells, counted_cells, cells_said}
use Rattle.source_body.proofs.Steps.{leaves_state, leaves_passive}
use Rattle.source_language.proofs.Parses.{after_shorter}

-- ---- stages

module _ (es : List (List ℕ)) (i : ℕ) (s : List ℕ) where
  abbrev made_of : ℕ → List SheetToken → Phrased TextBehaviour
  made_of k us = state_of es s (body_made k) us

  is_row : (n : ℕ) (us : List SheetToken) → ltb n 2 || ltb 16 n ≡ false → past_sign unbracket (state_of es s (row n)) us ≡ then_phrase (closed_cells n us) made_of
  is_row n us h =
      let e : eqb n 0 ≡ false = ne_eqb n 0 (omega (arith, ltb-false n 2 (none_of (ltb n 2) (ltb 16 n) h).0)) in
      rw (then_sign made_of unbracket (got n) us, e)

  counted_steps : (ts : List SheetToken)
      → number_due largest (λ p n us. pick (ltb n 2 || ltb 16 n) (bad off_scale p) (pick (ltb 64 (i + n)) (bad too_many_fault p) (past_sign unbracket (state_of es s (row n)) us))) ts
      ≡ then_phrase (counted_cells i ts) made_of
  counted_steps [] = refl
  counted_steps (number p n ∷ us) =
      rw (
        then_pick made_of (ltb largest n) (bad too_large p) (pick (ltb n 2 || ltb 16 n) (bad off_scale p) (pick (ltb 64 (i + n)) (bad too_many_fault p) (closed_cells n us))),
        then_pick made_of (ltb n 2 || ltb 16 n) (bad off_scale p) (pick (ltb 64 (i + n)) (bad too_many_fault p) (closed_cells n us)),
        then_pick made_of (ltb 64 (i + n)) (bad too_many_fault p) (closed_cells n us),
      )
      (ap (pick (ltb largest n) (bad too_large p))
      (split (ltb n 2 || ltb 16 n) (λ e. rw e) (λ e. rw (e, is_row n us e))))
  counted_steps (name p t ∷ us) = refl
  counted_steps (sign p c ∷ us) = refl

  row_steps : (ts : List SheetToken) → row_declared es i s ts ≡ then_phrase (past_sign bracket (counted_cells i) ts) made_of
  unfolding row_declared past_sign
  row_steps ts =
      rw (then_pick made_of (eqb (sign_at ts) bracket) (counted_cells i (tokens_after ts)) (bad outside (place_at ts)))
      (ap (λ x. pick (eqb (sign_at ts) bracket) x (bad outside (place_at ts))) (counted_steps (tokens_after ts)))

  pub kind_steps : (c : ℕ) (ts : List SheetToken) → kind_declared es i c s ts ≡ then_phrase (cells_said i c ts) (kind_read es s c)
  kind_steps c ts =
      split (eqb c row_word)
      (λ e. let q : c ≡ row_word = eqb-true c row_word e in rw q (row_steps ts))
      (λ e. rw e)

pub name_steps : (es ns : List (List ℕ)) (i q c : ℕ) (ts : List SheetToken) → leb 64 i ≡ false
    → behaviour_declared es (taken ns i) (sign q c ∷ ts) ≡ then_phrase (new_name ns ts) (λ s us. kind_declared es i c s us)
unfolding behaviour_declared
name_steps es ns i q c ts h = rw h (named ts)
  where
    named : (ts : List SheetToken)
        → name_due (λ p s us. pick (among s ns) (bad declared_twice_fault p) (kind_declared es i c s us)) ts ≡ then_phrase (new_name ns ts) (λ s us. kind_declared es i c s us)
    named [] = refl
    named (number p n ∷ us) = refl
    named (name p s ∷ us) = sym (then_pick (λ s us. kind_declared es i c s us) (among s ns) (bad declared_twice_fault p) (got s us))
    named (sign p d ∷ us) = refl

-- ---- a behaviour takes a token

leaves_row : (es : List (List ℕ)) (i : ℕ) (s : List ℕ) (ts : List SheetToken) (b : ℕ) → length ts < b → Leaves b (row_declared es i s ts)
unfolding row_declared
leaves_row es i s ts b h =
    leaves_sign b bracket _ ts (λ us g.
    leaves_number b largest _ us (λ p n vs j.
    by_test (Leaves b) (ltb n 2 || ltb 16 n) (λ e. tt) (λ e.
    by_test (Leaves b) (ltb 64 (i + n)) (λ d. tt) (λ d.
    leaves_sign b unbracket (state_of es s (row n)) vs (λ ws k. leaves_state es s (row n) ws b (omega arith))))))

pub leaves_behaviour : (es : List (List ℕ)) (t : NamesTaken) (ts : List SheetToken) → Leaves (length ts) (behaviour_declared es t ts)
unfolding behaviour_declared
leaves_behaviour es (taken ns i) ts =
    by_test (Leaves (length ts)) (leb 64 i) (λ e. tt) (λ e.
    leaves_name (length ts) _ (tokens_after ts) (λ p s us h.
    by_test (Leaves (length ts)) (among s ns) (λ d. tt) (λ d.
    by_test (Leaves (length ts)) (eqb (sign_at ts) passive_word) (λ c. leaves_passive s us (length ts) (omega (arith, after_shorter ts))) (λ c.
    by_test (Leaves (length ts)) (eqb (sign_at ts) row_word)
    (λ b. leaves_row es i s us (length ts) (omega (arith, after_shorter ts)))
    (λ b. leaves_state es s active us (length ts) (omega (arith, after_shorter ts)))))))
