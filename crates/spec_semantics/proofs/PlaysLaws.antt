-- The rules play any list of declared events, to one store only: the evaluator's. By induction on the list, from the
-- agreement of rules and evaluator.
use Rattle.lib_base.proofs.Prelude.{ℕ, ◌≤◌, ◌<◌, ◌≡◌, refl, ◌∙◌, sym, subst, List, [], ◌∷◌, length, ext_get_or, arith}
use Rattle.lib_base.specs.Basics.{All}
use Rattle.spec_language.specs.Syntax.{Program}
use Rattle.spec_language.specs.Valid.{Valid}
use Rattle.spec_language.specs.Dependence.{size, events, no_event}
use Rattle.spec_semantics.specs.Rules.{Shows}
use Rattle.spec_semantics.specs.Meaning.{at, with_store}
use Rattle.spec_semantics.specs.Event.{event, play}
use Rattle.spec_semantics.proofs.Solution.{event_length}
use Rattle.spec_semantics.proofs.Agreement.{rules_give, rules_show, rules_alone, shows_alone}
use Rattle.spec_semantics.specs.Plays.{Plays, done, next}

module _ (p : Program) (v : Valid p) where
  pub plays : (es : List ℕ) → All (λ e. e < events p) es → (s : List ℕ) → length s ≡ size p → Plays p es s (play p es s)
  unfolding play
  plays [] h s w = done
  plays (e ∷ es) h s w =
      let d : e ≤ no_event p = omega arith in
      let k : length (event p e s) ≡ size p = event_length p v e d s w in
      next (rules_give p v e d s w) k (rules_show p v e d s w) (plays es h.1 (event p e s) k)

  pub plays_alone : (es : List ℕ) → All (λ e. e < events p) es → (s last : List ℕ) → length s ≡ size p → Plays p es s last → last ≡ play p es s
  unfolding play
  plays_alone [] h s last w done = refl
  plays_alone (e ∷ es) h s last w (next {s' = s'} r k sh q) =
      let d : e ≤ no_event p = omega arith in
      let moved : with_store p s' ≡ with_store p (event p e s) = (rules_alone p v e d s w _ (with_store p s') r).1 in
      let same : s' ≡ event p e s =
      ext_get_or 0 s' (event p e s) (k ∙ sym (event_length p v e d s w))
      (λ i b. shows_alone p v e d s w i (at s' i) (omega arith) (subst (λ (q : Program). Shows q i (at s' i)) moved (sh i (omega arith)))) in
      rw same at (plays_alone es h.1 s' last k q)
