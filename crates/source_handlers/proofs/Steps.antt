-- The reader's function for a handler is its event, its phase and its formula, one after the other: what comes after a
-- step goes into its branches.
use Rattle.lib_base.proofs.Prelude.{ℕ, ◌<◌, ◌≡◌, refl, true, false, Bool, List, [], ◌∷◌, length, eqb, arith}
use Rattle.lib_base.specs.Basics.{pick}
use Rattle.lib_base.proofs.Tools.{by_test}
use Rattle.spec_language.specs.Syntax.{Phase, immediate, later}
use Rattle.source_language.specs.Tokens.{SheetToken, number, name, sign, colon, later_word}
use Rattle.source_language.specs.Text.{Reaction, on}
use Rattle.source_language.specs.Faults.{outside, second_handler_fault, unknown_name}
use Rattle.source_language.specs.Limits.{among}
use Rattle.source_language.specs.Reader.{Phrased, bad, got, then_phrase, place_at, sign_at, tokens_after, past_sign, name_due, formula_of, body_declared, reaction_of}
use Rattle.source_declarations.proofs.Many.{Leaves, leaves_then}
use Rattle.source_declarations.proofs.Shorter.{leaves_sign, leaves_name}
use Rattle.source_handlers.specs.Handlers.{handler_event, phase_declared, reaction_body}
use Rattle.source_handlers.proofs.Phrases.{leaves_formula}
use Rattle.source_language.proofs.Parses.{after_shorter}

module _ {A B : Type 0} (h : A → List SheetToken → Phrased B) where
  pub then_pick : (b : Bool) (x y : Phrased A) → then_phrase (pick b x y) h ≡ pick b (then_phrase x h) (then_phrase y h)
  then_pick true x y = refl
  then_pick false x y = refl

  pub then_sign : (c : ℕ) (f : List SheetToken → Phrased A) (ts : List SheetToken) → then_phrase (past_sign c f ts) h ≡ past_sign c (λ us. then_phrase (f us) h) ts
  unfolding past_sign
  then_sign c f ts = then_pick (eqb (sign_at ts) c) (f (tokens_after ts)) (bad outside (place_at ts))

module _ (es ns : List (List ℕ)) where
  event_first : (ts : List SheetToken)
      → name_due (λ p s us. pick (among s ns) (bad second_handler_fault p) (pick (among s es) (reaction_body s us) (bad unknown_name p))) ts
      ≡ then_phrase (handler_event es ns ts) reaction_body
  event_first [] = refl
  event_first (number p n ∷ ts) = refl
  event_first (name p s ∷ ts) =
      rw (
        then_pick reaction_body (among s ns) (bad second_handler_fault p) (pick (among s es) (got s ts) (bad unknown_name p)),
        then_pick reaction_body (among s es) (got s ts) (bad unknown_name p),
      )
  event_first (sign p c ∷ ts) = refl

  pub reaction_steps : (ts : List SheetToken) → reaction_of es ns ts ≡ then_phrase (handler_event es ns (tokens_after ts)) reaction_body
  unfolding reaction_of
  reaction_steps ts = event_first (tokens_after ts)

-- a formula, and so the handler
abbrev pub with_formula : List ℕ → Phase → List SheetToken → Phrased Reaction
with_formula s φ ts = then_phrase (formula_of ts) (λ e us. got (on s φ e) us)

pub body_steps : (s : List ℕ) (ts : List SheetToken) → reaction_body s ts ≡ then_phrase (phase_declared ts) (with_formula s)
body_steps s ts =
    rw (
      then_pick (with_formula s) (eqb (sign_at ts) later_word) (past_sign colon (got later) (tokens_after ts)) (past_sign colon (got immediate) ts),
      then_sign (with_formula s) colon (got later) (tokens_after ts),
      then_sign (with_formula s) colon (got immediate) ts,
    )

-- ---- a handler takes a token

leaves_body : (m : ℕ) (s : List ℕ) (φ : Phase) (ts : List SheetToken) → length ts < m → Leaves m (body_declared s φ ts)
leaves_body m s φ ts h =
    leaves_sign m colon (with_formula s φ) ts (λ us g.
    leaves_then (length us) m (formula_of us) (λ e vs. got (on s φ e) vs) (leaves_formula us) (λ e vs i. omega arith))

pub leaves_reaction : (es ns : List (List ℕ)) (ts : List SheetToken) → Leaves (length ts) (reaction_of es ns ts)
unfolding reaction_of
leaves_reaction es ns ts =
    leaves_name (length ts) _ (tokens_after ts) (λ p s us h.
    by_test (Leaves (length ts)) (among s ns) (λ e. tt) (λ e.
    by_test (Leaves (length ts)) (among s es)
    (λ d. by_test (Leaves (length ts)) (eqb (sign_at us) later_word)
    (λ b. leaves_body (length ts) s later (tokens_after us) (omega (arith, after_shorter us, after_shorter ts)))
    (λ b. leaves_body (length ts) s immediate us (omega (arith, after_shorter ts))))
    (λ d. tt)))
