-- The limits of a program, as a sheet filled in and written out keeps them: what proofs ask of a program.
use Rattle.std.specs.Prelude.{ℕ, suc, ◌≤◌, ◌<◌, ◌^◌, ◌≡◌, ◌≢◌, List, [], ◌∷◌, length}
use Rattle.lib_base.specs.Basics.{All}
use Rattle.spec_language.specs.Syntax.{Expr, con, name, app1, app2, app3, Handler, handler, Behaviour, passive, active, Program}
use Rattle.spec_language.specs.Grammar.{Arity}

pub data Nested : ℕ → Expr → Type 0 where
  n_con : {k w : ℕ} → w < 2 ^ 32 → Nested (suc k) (con w)
  n_name : {k i : ℕ} → i < 256 → Nested (suc k) (name i)
  n_app1 : {k f : ℕ} {a : Expr} → Arity f 1 → Nested k a → Nested (suc k) (app1 f a)
  n_app2 : {k f : ℕ} {a b : Expr} → Arity f 2 → Nested k a → Nested k b → Nested (suc k) (app2 f a b)
  n_app3 : {k f : ℕ} {a b c : Expr} → Arity f 3 → Nested k a → Nested k b → Nested k c → Nested (suc k) (app3 f a b c)

abbrev pub NoneFor : ℕ → List Handler → Type 0
NoneFor e [] = Unit {0}
NoneFor e (handler f φ x ∷ hs) = (e ≢ f) × NoneFor e hs

abbrev pub HandlersFit : ℕ → List Handler → Type 0
HandlersFit n [] = Unit {0}
HandlersFit n (handler e φ x ∷ hs) = (e < n) × Nested 16 x × NoneFor e hs × HandlersFit n hs

abbrev pub BehaviourFits : ℕ → Behaviour → Type 0
BehaviourFits n (passive x) = Nested 16 x
BehaviourFits n (active s hs) = (s < 2 ^ 32) × HandlersFit n hs

pub record Fits (p : Program) : Type 0 where
  pub few_events : length p.priorities ≤ 32
  pub few_behaviours : length p.behaviours ≤ 64
  pub scale : All (λ r. r ≤ 15) p.priorities
  pub each : All (BehaviourFits (length p.priorities)) p.behaviours
  pub all_senders : length p.senders ≡ length p.priorities
  pub all_viewers : length p.viewers ≡ length p.behaviours
  pub send_bytes : All (λ m. m < 256) p.senders
  pub view_bytes : All (λ m. m < 256) p.viewers
