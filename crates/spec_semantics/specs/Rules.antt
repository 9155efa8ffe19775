-- The big-step rules, all four judgments. 003 Figure 1, with 01 "The meaning of one event". The figure keeps the state
-- in the program: an active's start value is its value now. Its rule for a name drops that name from the program, and
-- its rule for an active needs it there: here the program stays whole. An event is its number; one that is not declared
-- is the case of no event.
use Rattle.std.specs.Prelude.{ℕ, ◌<◌, ◌≡◌, List, ◌∷◌, length, get_or, eqb}
use Rattle.lib_base.specs.Basics.{pick}
use Rattle.lib_arith.specs.Functions.{result_of}
use Rattle.spec_language.specs.Syntax.{Expr, con, name, app1, app2, app3, Phase, immediate, Handler, handler, Behaviour, passive, active, Program}
use Rattle.spec_language.specs.Dependence.{size, behaviour_at, no_event}

-- d[x := c]
unfoldable pub substitute : ℕ → ℕ → Expr → Expr
substitute x c (con w) = con w
substitute x c (name i) = pick (eqb i x) (con c) (name i)
substitute x c (app1 f a) = app1 f (substitute x c a)
substitute x c (app2 f a b) = app2 f (substitute x c a) (substitute x c b)
substitute x c (app3 f a b d) = app3 f (substitute x c a) (substitute x c b) (substitute x c d)

-- H ≡ {I ⇒ d φ} ⊎ H'
pub data Handles (I : ℕ) (φ : Phase) (d : Expr) : List Handler → Type 0 where
  here : {hs : List Handler} → Handles I φ d (handler I φ d ∷ hs)
  there : {h : Handler} {hs : List Handler} → Handles I φ d hs → Handles I φ d (h ∷ hs)

-- what yields a value: an expression, or the behaviour b of name x
pub data Subject : Type 0 where
  expression : Expr → Subject
  behaviour : ℕ → Behaviour → Subject

-- P ⊢ b →I c: on event I, b yields c
pub data Yields (P : Program) (I : ℕ) : Subject → ℕ → Type 0 where
  y_name : {x c : ℕ} → x < size P → Yields P I (behaviour x (behaviour_at P x)) c → Yields P I (expression (name x)) c
  y_con : {c : ℕ} → Yields P I (expression (con c)) c
  y_app1 : {f u : ℕ} {a : Expr} → Yields P I (expression a) u → Yields P I (expression (app1 f a)) (result_of f u 0 0)
  y_app2 : {f u v : ℕ} {a b : Expr} → Yields P I (expression a) u → Yields P I (expression b) v → Yields P I (expression (app2 f a b)) (result_of f u v 0)
  y_app3 : {f u v w : ℕ} {a b d : Expr} → Yields P I (expression a) u → Yields P I (expression b) v → Yields P I (expression d) w
      → Yields P I (expression (app3 f a b d)) (result_of f u v w)
  y_passive : {x c : ℕ} {d : Expr} → Yields P I (expression d) c → Yields P I (behaviour x (passive d)) c
  y_immediate : {x c c' : ℕ} {H : List Handler} {d : Expr} → Handles I immediate d H → Yields P I (expression (substitute x c d)) c'
      → Yields P I (behaviour x (active c H)) c'
  y_still : {x c : ℕ} {H : List Handler} → ((d : Expr) → Handles I immediate d H → ⊥) → Yields P I (behaviour x (active c H)) c

-- P ⊢ b →I b': on event I, the behaviour b of name x is updated to b'
pub data Updates (P : Program) (I : ℕ) : ℕ → Behaviour → Behaviour → Type 0 where
  u_passive : {x : ℕ} {d : Expr} → Updates P I x (passive d) (passive d)
  u_handled : {x c c' : ℕ} {H : List Handler} {d : Expr} {φ : Phase} → Handles I φ d H → Yields P I (expression (substitute x c d)) c'
      → Updates P I x (active c H) (active c' H)
  u_still : {x c : ℕ} {H : List Handler} → ((φ : Phase) (d : Expr) → Handles I φ d H → ⊥) → Updates P I x (active c H) (active c H)

-- P ⊢ b →I c; b'
pub data Steps (P : Program) (I : ℕ) : ℕ → Behaviour → ℕ → Behaviour → Type 0 where
  both : {x c : ℕ} {b b' : Behaviour} → Yields P I (behaviour x b) c → Updates P I x b b' → Steps P I x b c b'

-- P →I S; P': the store S holds first-phase values
pub record Runs (P : Program) (I : ℕ) (S : List ℕ) (P' : Program) : Type 0 where
  pub same_events : P'.priorities ≡ P.priorities
  pub same_senders : P'.senders ≡ P.senders
  pub same_viewers : P'.viewers ≡ P.viewers
  pub same_size : size P' ≡ size P
  pub stored : length S ≡ size P
  pub each : (x : ℕ) → x < size P → Steps P I x (behaviour_at P x) (get_or S x 0) (behaviour_at P' x)

-- "The board shows second-phase values": those that the updated program yields with no event
abbrev pub Shows : Program → ℕ → ℕ → Type 0
Shows P' x c = Yields P' (no_event P') (behaviour x (behaviour_at P' x)) c
