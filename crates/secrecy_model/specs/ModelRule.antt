-- The rule for a player of two model engines, from which that of the exported functions follows (crate secrecy_engine,
-- Heard.antt). 02, M-107, M-112.
use Rattle.std.specs.Prelude.{ℕ, ◌≡◌, eqb}
use Rattle.std.proofs.Math.Option.{Option, none, some}
use mathlib.Core.List.{List, map, zip_with}
use Rattle.lib_base.specs.Basics.{pick}
use Rattle.spec_language.specs.Syntax.{Program}
use Rattle.spec_language.specs.Sheet.{Sheet, fill}
use Rattle.spec_language.specs.Valid.{Accepted}
use Rattle.spec_model.specs.Model.{Call, arrive, step, board, Answer, Turn, call, change, State, Reply, says, carried_over, replies, begun}
use Rattle.spec_model.specs.Claims.{forecast, program_after, engine_after}
use Rattle.spec_model.specs.Told.{told_to, previewed}
use Rattle.secrecy_model.specs.Sight.{Sealed, AlikeBut, Pair, in_one, in_other, SameHidden, AtChanges}

pub record Condition (player : ℕ) (v w : ℕ → ℕ) (s t : Sheet) : Type 0 where
  pub alike : AlikeBut player s t
  pub sealed : Sealed (fill v s) player
  pub filled : fill w t ≡ fill v t
  pub one : Accepted (fill v s)
  pub other : Accepted (fill v t)

-- "M-107's rule for a player needs its condition of both sheets, with the same behaviours hidden"
abbrev pub ConditionAt : ℕ → Program → (ℕ → ℕ) → (ℕ → ℕ) → Sheet → Sheet → Type 0
ConditionAt player p v w s t = Condition player v w s t × SameHidden player p (fill v s)

-- what a player gets of a call's answer: that to its own arrival or board reading, a step's as it is told to this
-- player, and none of the others' calls
abbrev pub hears : ℕ → Call → Answer → Option Answer
hears player (arrive e who) a = pick (eqb who player) (some a) none
hears player step a = some (told_to player a)
hears player (board i who) a = pick (eqb who player) (some a) none

abbrev pub as_reply : Option Answer → Option Reply
as_reply none = none
as_reply (some a) = some (says a)

-- what a player gets of a reply: of a call's as above, of a change's all
abbrev pub hears_of : ℕ → Turn → Reply → Option Reply
hears_of player (call c) (says a) = as_reply (hears player c a)
hears_of player (call c) carried_over = some carried_over
hears_of player (change q) r = some r

abbrev pub heard_of : ℕ → List Turn → State → List (Option Reply)
heard_of player ts s = zip_with (hears_of player) ts (replies ts s)

-- of the turns l, from fresh rounds of p and q; and of a preview of this player's and the count of steps to idle after
-- them
pub record EqualReplies (player : ℕ) (p q : Program) (l : List Pair) : Type 0 where
  pub turns : heard_of player (map in_one l) (begun p) ≡ heard_of player (map in_other l) (begun q)
  pub preview : (e i : ℕ)
      → previewed (program_after p (map in_one l)) (engine_after p (map in_one l)) e i player
      ≡ previewed (program_after q (map in_other l)) (engine_after q (map in_other l)) e i player
  pub forecast : forecast (program_after p (map in_one l)) (engine_after p (map in_one l))
      ≡ forecast (program_after q (map in_other l)) (engine_after q (map in_other l))

-- every player, every two such sheets, and every list of calls and changes
abbrev pub PlayersRule : Type 0
PlayersRule =
    (player : ℕ) (v w : ℕ → ℕ) (s t : Sheet) → Condition player v w s t
    → (l : List Pair) → AtChanges (ConditionAt player) l (begun (fill v s)) (begun (fill w t)) → EqualReplies player (fill v s) (fill w t) l
