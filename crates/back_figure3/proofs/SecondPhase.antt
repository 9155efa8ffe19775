-- Figure 3 gives no second phase where passives are in a cycle: whoever is placed names only those placed before.
use Rattle.lib_base.proofs.Prelude.{ℕ, ◌≡◌, refl, ◌∙◌, sym, ap, subst, true, false, Bool, false≢true, true≢false, ◌≢◌}
use Rattle.lib_base.proofs.Prelude.{List, eqb, eqb-true, ltb-false, eqb-false}
use Rattle.lib_base.specs.Basics.{All}
use Rattle.lib_base.proofs.Tools.{split}
use Rattle.spec_language.specs.Syntax.{Program}
use Rattle.spec_language.specs.Dependence.{Response, follows, takes, defers, keeps, size, response, needs, Reach}
use Rattle.spec_language.proofs.Laws.{none_past}
use Rattle.back_figure3.specs.Figure3.{Assign, assigned, every_behaviour, without, follow_needs, PassivesAcyclic, SecondPhaseRule, none₂, passive₂, immediate₂, later₂, unhandled₂}
use Rattle.back_figure3.proofs.Compiles.{first_step, not_round}
use Rattle.back_figure3.proofs.Derived.{without_is}

-- a passive's
abbrev is_follow : Response → Bool
is_follow (follows x) = true
is_follow (takes x) = false
is_follow (defers x) = false
is_follow keeps = false

others_need_nothing : (j : ℕ) (r : Response) → is_follow r ≡ false → follow_needs j r ≡ true → ⊥
others_need_nothing j (follows x) h d = true≢false h
others_need_nothing j (takes x) h d = false≢true d
others_need_nothing j (defers x) h d = false≢true d
others_need_nothing j keeps h d = false≢true d

-- what a passive needs, it needs for the event
needs_follow : (i j : ℕ) (r : Response) → follow_needs j r ≡ true → needs i j r ≡ true
needs_follow i j (follows x) d = d
needs_follow i j (takes x) d = absurd (false≢true d)
needs_follow i j (defers x) d = absurd (false≢true d)
needs_follow i j keeps d = absurd (false≢true d)

module _ (p : Program) (e : ℕ) where
  abbrev dep : ℕ → ℕ → Bool
  dep i j = follow_needs j (response p e i)

  abbrev Fine : ℕ → Type 0
  Fine i = Reach dep i i → ⊥

  other_fine : (i : ℕ) → is_follow (response p e i) ≡ false → Fine i
  other_fine i h = not_round (λ j d s. others_need_nothing j (response p e i) h d)

  not_this : {i b : ℕ} (r : Response) → response p e i ≡ r → is_follow r ≡ false → is_follow (response p e b) ≡ true → i ≢ b
  not_this r q h f z = true≢false (sym f ∙ ap (λ (x : ℕ). is_follow (response p e x)) (sym z) ∙ ap is_follow q ∙ h)

  -- every passive is assigned
  has_turn : {P : ℕ → Bool} {A : List Assign} → SecondPhaseRule p e P A → (b : ℕ) → P b ≡ true → is_follow (response p e b) ≡ true → All (λ a. assigned b a ≡ false) A → ⊥
  has_turn (none₂ h) b t f a = true≢false (sym t ∙ h b)
  has_turn (passive₂ {P = P} i s q d g) b t f a = has_turn d b (without_is i P b (eqb-false i b a.0) t) f a.1
  has_turn (immediate₂ {P = P} i s q d) b t f a = has_turn d b (without_is i P b (not_this (takes _) q refl f) t) f a
  has_turn (later₂ {P = P} i s q d) b t f a = has_turn d b (without_is i P b (not_this (defers _) q refl f) t) f a.1
  has_turn (unhandled₂ {P = P} i s q d) b t f a = has_turn d b (without_is i P b (not_this keeps q refl f) t) f a

  -- whoever is placed needs nobody that is left
  fine_next : (P : ℕ → Bool) (i : ℕ) (A : List Assign) → ((a : ℕ) → P a ≡ false → Fine a) → SecondPhaseRule p e (without i P) A
      → ((j : ℕ) → dep i j ≡ true → (i ≢ j) × All (λ b. assigned j b ≡ false) A) → Fine i
  fine_next P i A out d g =
      not_round (λ j h.
      split (P j)
      (λ t. split (is_follow (response p e j)) (λ f. let w = g j h in absurd (has_turn d j (without_is i P j w.0 t) f w.1)) (λ f. other_fine j f))
      (λ t. out j t))

  fine_less : (P : ℕ → Bool) (i : ℕ) → ((a : ℕ) → P a ≡ false → Fine a) → Fine i → (a : ℕ) → without i P a ≡ false → Fine a
  fine_less P i out h a t =
      split (eqb i a) (λ q. subst Fine (eqb-true i a q) h)
      (λ q. split (P a) (λ s. absurd (true≢false (sym (without_is i P a (eqb-false i a q) s) ∙ t))) (λ s. out a s))

  by_response : (i : ℕ) (r : Response) → response p e i ≡ r → is_follow r ≡ false → Fine i
  by_response i r q h = other_fine i (ap is_follow q ∙ h)

  derived_fine : {P : ℕ → Bool} {A : List Assign} → SecondPhaseRule p e P A → ((a : ℕ) → P a ≡ false → Fine a) → (a : ℕ) → Fine a
  derived_fine (none₂ h) out = λ a. out a (h a)
  derived_fine (passive₂ {P = P} i {A = A} s q d g) out =
      derived_fine d (fine_less P i out (fine_next P i A out d (λ j h. let w = g j (ap (follow_needs j) (sym q) ∙ h) in (eqb-false i j w.0, w.1))))
  derived_fine (immediate₂ {P = P} i s q d) out = derived_fine d (fine_less P i out (by_response i (takes _) q refl))
  derived_fine (later₂ {P = P} i s q d) out = derived_fine d (fine_less P i out (by_response i (defers _) q refl))
  derived_fine (unhandled₂ {P = P} i s q d) out = derived_fine d (fine_less P i out (by_response i keeps q refl))

pub second_acyclic : (p : Program) (e : ℕ) {A : List Assign} → SecondPhaseRule p e (every_behaviour p) A → PassivesAcyclic p e
second_acyclic p e d =
    derived_fine p e d
    (λ a t r. let w = first_step r in true≢false (sym (needs_follow a w.0 (response p e a) w.1) ∙ none_past p e a w.0 (ltb-false a (size p) t)))
