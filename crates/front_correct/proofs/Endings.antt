-- Endings: both readers find the same fault, or the draft has who may see the behaviour, 255 where the sheet says
-- nothing (02, M-107). By the tests of both in turn.
use Rattle.std.specs.Prelude.{Err, IsErrAnd}
use Rattle.spec_language.specs.Numbers.{refusal_number}
use Rattle.spec_language.specs.declared.refusals.Refusal.TheVariants.{WrongLength}
use Rattle.lib_base.proofs.Prelude.{ℕ, ◌≤◌, ◌+◌, ◌-◌, suc, ◌≡◌, refl, Option, some, none, List, [], ◌∷◌, length, get_or}
use Rattle.lib_base.proofs.Prelude.{drop, set, length-drop, eqb, eqb·suc-zero, ne_eqb, eqb-true, eq-eqb, eqb-false}
use Rattle.lib_base.proofs.Prelude.{arith}
use Rattle.lib_base.proofs.Tools.{split, by_two}
use Rattle.spec_language.specs.Sheet.{Item, Entry, allowed}
use Rattle.spec_language.specs.Reading.{Got, bad, got, then, sized, filling, entry, ending_in}
use Rattle.front_field.specs.Expression.{done, Out, out}
use Rattle.front_viewers.specs.Ending.{viewer, viewer_at, viewer_from, viewer_of, ending_of}
use Rattle.front_correct.proofs.Fields.{value_in, span, one_tag, same_field, value_length}

module _ (P : Got Entry → Out → Type 0) (x : Item) (r : List ℕ) (i : ℕ) (d : List ℕ) (all n : ℕ)
    (bads : (k : ℕ) (o : Out) → IsErrAnd o.0 (λ r. refusal_number r ≡ k) → P (bad k) o)
    (gots : (w : Option ℕ) → P (got (entry x w) r) (out (done all n) (set d (viewer i) (allowed w)))) where
  -- with who may see it
  abbrev Seen : Got ℕ → Out → Type 0
  Seen g o = P (filling (then g (λ m left. got (entry x (some m)) left)) r) o

  viewer_value : (s v : List ℕ) → length v + 3 ≡ span s → span s ≤ length s
      → Seen (filling (sized 1 v (got (get_or v 0 0) [])) (drop (span s) s)) (viewer_at v (length s) i d all n)
  unfolding viewer_at
  viewer_value s v q h =
      let l : length (drop (span s) s) ≡ length s - span s = length-drop (span s) s in
      by_two (λ (g : Got ℕ) (o : Out). Seen (filling g (drop (span s) s)) o) (eqb (length v) 1)
      (λ e. split (eqb (length s) 4)
      (λ c. rw (c, eq-eqb (length (drop (span s) s)) 0 (omega (arith, eqb-true (length v) 1 e, eqb-true (length s) 4 c))) (gots (some (get_or v 0 0))))
      (λ c. rw (c, ne_eqb (length (drop (span s) s)) 0 (λ z. eqb-false (length s) 4 c (omega (arith, eqb-true (length v) 1 e)))) (bads 6 (out (Err WrongLength) d) refl)))
      (λ e. bads 6 (out (Err WrongLength) d) refl)

  pub same_ending : (s : List ℕ) → P (filling (ending_in x s) r) (ending_of s i d all n)
  unfolding ending_of viewer_of
  same_ending [] = gots none
  same_ending (t ∷ s) =
      rw (eqb·suc-zero (length s))
      (by_two (λ (g : Got Entry) (o : Out). P (filling g r) o) (eqb t 8)
      (λ c. same_field Seen (eqb 8) 8 8 (t ∷ s) (λ t v. sized 1 v (got (get_or v 0 0) [])) (λ f v. viewer_from f v (suc (length s)) i d all n) (one_tag 8 t) (λ r. bads (refusal_number r) (out (Err r) d) refl)
      (λ fits due. viewer_value (t ∷ s) (value_in (t ∷ s)) (value_length (t ∷ s) fits) fits))
      (λ c. rw (eqb·suc-zero (length s)) (bads 6 (out (Err WrongLength) d) refl)))
