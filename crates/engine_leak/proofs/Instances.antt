-- Instances of the claims' hypotheses that are no trivial ones. M-107's condition: b0 follows b1, which player 1 sees
-- too, and b2, which names b0, is hidden from it. Players at the bound: 7, and 8. What an answer names is the least.
use Rattle.lib_base.proofs.Prelude.{ℕ, ◌≤◌, ◌<◌, suc, zero, ◌≡◌, refl, subst, true, false, Bool, ◌||◌, false≢true, List}
use Rattle.lib_base.proofs.Prelude.{[], ◌∷◌, length, eqb, eqb-true, arith}
use Rattle.lib_base.specs.Basics.{All}
use Rattle.lib_word.specs.Word.{get}
use Rattle.spec_language.specs.Syntax.{name, immediate, handler, passive, active, Program}
use Rattle.spec_language.specs.Sheet.{Sheet}
use Rattle.spec_language.specs.Grammar.{encode}
use Rattle.spec_language.specs.Accepted.{SheetAccepted}
use Rattle.spec_language.specs.Dependence.{mentions}
use Rattle.spec_language.specs.Rights.{may_see}
use Rattle.secrecy_model.specs.Sight.{in_handlers, names, Sealed}
use Rattle.secrecy_model.proofs.Stores.{direct_sealed}
use Rattle.back_compile.specs.Number.{number_on}
use Rattle.ask_leak.specs.Leak.{leak_on}
use Rattle.engine_leak.specs.Leakless.{LeakNamed, LeakAnswer, LeakAnswers}

abbrev follower : Program
follower = record {
  priorities = 1 ∷ [];
  senders = 255 ∷ [];
  behaviours = passive (name 1) ∷ active 3 (handler 0 immediate (name 1) ∷ []) ∷ active 5 (handler 0 immediate (name 0) ∷ []) ∷ [];
  viewers = 255 ∷ 2 ∷ 4 ∷ [];
}

sees_b1 : (j : ℕ) → eqb 1 j ≡ true → may_see follower 1 j ≡ true
sees_b1 j h = subst (λ (k : ℕ). may_see follower 1 k ≡ true) (eqb-true 1 j h) refl

or_left : (b : Bool) → b || false ≡ true → b ≡ true
or_left true h = refl
or_left false h = h

direct : (i j : ℕ) → may_see follower 1 i ≡ true → names follower i j ≡ true → may_see follower 1 j ≡ true
unfolding mentions in_handlers
direct zero j s n = sees_b1 j n
direct (suc zero) j s n = sees_b1 j (or_left (eqb 1 j) n)
direct (suc (suc zero)) j s n = absurd (false≢true s)
direct (suc (suc (suc i))) j s n = absurd (false≢true n)

sealed : Sealed follower 1
sealed = direct_sealed follower 1 direct

player_7 : LeakAnswers → (s ps : List ℕ) → All (λ b. b < 256) s → All (λ b. b < 256) ps → (x : Sheet) → encode x ≡ s → SheetAccepted (get ps) (length ps) x → LeakAnswer s ps 7 x
player_7 h s ps a b x e t = (h s ps 7 a b).0 x e t (omega arith)

player_8 : LeakAnswers → (s ps : List ℕ) → All (λ b. b < 256) s → All (λ b. b < 256) ps → number_on s ps ≡ 0 → leak_on s ps 8 ≡ 24
player_8 h s ps a b z = (h s ps 8 a b).1 z (omega arith)

-- b3, which player 1 sees, names b2, and so does the one that is named; b2 is hidden from it
least_named : (p : Program) (answer : ℕ) (a : LeakNamed p 1 answer) → may_see p 1 3 ≡ true → names p 3 2 ≡ true → names p a.seen 2 ≡ true → may_see p 1 2 ≡ false
    → (a.seen ≤ 3) × (a.hidden ≤ 2)
least_named p answer a s n m h = (a.least_seen 3 2 s n h, a.least_hidden 2 m h)
