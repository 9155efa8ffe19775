-- Which sheets are accepted, and of which programs. 01 "The sheet", "Why a call was turned down": compile; 02, M-103.
use Rattle.std.specs.Prelude.{ℕ, ◌≤◌, ◌<◌, true, ◌≡◌, length}
use Rattle.lib_base.specs.Basics.{All}
use Rattle.spec_language.specs.Syntax.{Expr, con, name, app1, app2, app3, Handler, handler, Behaviour, passive, active, Program}
use Rattle.spec_language.specs.Sheet.{Sheet, fill, uses}
use Rattle.spec_language.specs.Grammar.{SheetFits}
use Rattle.spec_language.specs.Dependence.{NoCycle}
use Rattle.spec_language.specs.Code.{all_instructions}

-- every name is a behaviour's, of n
abbrev pub NamesIn : ℕ → Expr → Type 0
NamesIn n (con w) = Unit {0}
NamesIn n (name i) = i < n
NamesIn n (app1 f a) = NamesIn n a
NamesIn n (app2 f a b) = NamesIn n a × NamesIn n b
NamesIn n (app3 f a b c) = NamesIn n a × NamesIn n b × NamesIn n c

abbrev pub HandlerNamesIn : ℕ → Handler → Type 0
HandlerNamesIn n (handler e φ x) = NamesIn n x

abbrev pub BehaviourNamesIn : ℕ → Behaviour → Type 0
BehaviourNamesIn n (passive x) = NamesIn n x
BehaviourNamesIn n (active s hs) = All (HandlerNamesIn n) hs

abbrev pub Known : Program → Type 0
Known p = All (BehaviourNamesIn (length p.behaviours)) p.behaviours

-- a sheet that is accepted where so many bytes of parameters are lent and parameter n has the value v n: it is within
-- 01's grammar and limits, uses a parameter only if 32 bytes are lent, and its filling names behaviours that exist, has
-- no cycle and is not overlong
pub record SheetAccepted (v : ℕ → ℕ) (lent : ℕ) (s : Sheet) : Type 0 where
  pub fits : SheetFits s
  pub known : Known (fill v s)
  pub given : uses s ≡ true → 32 ≤ lent
  pub acyclic : NoCycle (fill v s)
  pub short : all_instructions (fill v s) ≤ 4096
