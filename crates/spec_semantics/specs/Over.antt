-- When an event runs over, by the rules of Figure 1. 02, M-104: "set exactly if some application in that event's
-- meaning did so. An application is counted wherever the meaning evaluates it, `if` evaluating all three arguments."
use Rattle.std.specs.Prelude.{ℕ, ◌<◌, true, ◌≡◌, List}
use Rattle.lib_arith.specs.Functions.{over}
use Rattle.spec_language.specs.Syntax.{Expr, name, app1, app2, app3, Phase, immediate, Handler, passive, active, Program}
use Rattle.spec_language.specs.Dependence.{size, behaviour_at, no_event}
use Rattle.spec_semantics.specs.Rules.{substitute, Handles, Subject, expression, behaviour, Yields, Runs}

-- on event I, in the evaluation of a subject by `Yields`, some application runs over: rule by rule of `Yields`
pub data RunsOver (P : Program) (I : ℕ) : Subject → Type 0 where
  -- this application, to what its arguments yield
  o_app1 : {f u : ℕ} {a : Expr} → Yields P I (expression a) u → over f u 0 0 ≡ true → RunsOver P I (expression (app1 f a))
  o_app2 : {f u v : ℕ} {a b : Expr} → Yields P I (expression a) u → Yields P I (expression b) v → over f u v 0 ≡ true → RunsOver P I (expression (app2 f a b))
  o_app3 : {f u v w : ℕ} {a b d : Expr} → Yields P I (expression a) u → Yields P I (expression b) v → Yields P I (expression d) w
      → over f u v w ≡ true → RunsOver P I (expression (app3 f a b d))
  -- one in an argument, whichever it is
  o_only : {f : ℕ} {a : Expr} → RunsOver P I (expression a) → RunsOver P I (expression (app1 f a))
  o_first2 : {f : ℕ} {a b : Expr} → RunsOver P I (expression a) → RunsOver P I (expression (app2 f a b))
  o_second2 : {f : ℕ} {a b : Expr} → RunsOver P I (expression b) → RunsOver P I (expression (app2 f a b))
  o_first3 : {f : ℕ} {a b d : Expr} → RunsOver P I (expression a) → RunsOver P I (expression (app3 f a b d))
  o_second3 : {f : ℕ} {a b d : Expr} → RunsOver P I (expression b) → RunsOver P I (expression (app3 f a b d))
  o_third3 : {f : ℕ} {a b d : Expr} → RunsOver P I (expression d) → RunsOver P I (expression (app3 f a b d))
  -- one behind a name
  o_name : {x : ℕ} → x < size P → RunsOver P I (behaviour x (behaviour_at P x)) → RunsOver P I (expression (name x))
  o_passive : {x : ℕ} {d : Expr} → RunsOver P I (expression d) → RunsOver P I (behaviour x (passive d))
  o_immediate : {x c : ℕ} {H : List Handler} {d : Expr} → Handles I immediate d H → RunsOver P I (expression (substitute x c d))
      → RunsOver P I (behaviour x (active c H))

-- on event I the program P runs over: in what `Steps` evaluates of a behaviour, its first-phase value (`Yields`) or,
-- whichever the handler's phase, its new one (`Updates`), or in what the updated program then shows (`Shows`)
pub data EventOver (P : Program) (I : ℕ) : Type 0 where
  o_value : {x : ℕ} → x < size P → RunsOver P I (behaviour x (behaviour_at P x)) → EventOver P I
  o_update : {x c : ℕ} {H : List Handler} {d : Expr} {φ : Phase} → x < size P → behaviour_at P x ≡ active c H → Handles I φ d H
      → RunsOver P I (expression (substitute x c d)) → EventOver P I
  o_shown : {x : ℕ} {S : List ℕ} {P' : Program} → Runs P I S P' → x < size P' → RunsOver P' (no_event P') (behaviour x (behaviour_at P' x)) → EventOver P I
