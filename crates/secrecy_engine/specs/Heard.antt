-- The rule for a player as a claim about the exported functions: `compile_on`, `start_on`, `call_on`, `mend_on`,
-- `preview_on`, `forecast_on` and `told_on` are what their contracts cite. 02, M-107: "For a player it shall hold: if
-- no behaviour this player sees depends on a hidden one (by a name in its expression or in a handler of either phase,
-- directly or by a chain), then two rounds, from fresh on with the same calls in the same order and the same
-- parameters, their sheets differing only in start values of hidden behaviours, give this player equal answers,
-- refusals included." M-112: "M-107's rule for a player needs its condition of both sheets, with the same behaviours
-- hidden." The condition, and what a pair of turns is: crate secrecy_model, Sight.antt. Turns from sheets: crate
-- refine_lists, Lists.antt.
use Rattle.std.specs.Prelude.{ℕ, ◌≡◌, eqb}
use Rattle.std.proofs.Math.Option.{Option, none, some}
use mathlib.Core.List.{List, map, zip_with}
use Rattle.lib_base.specs.Basics.{pick, All}
use Rattle.spec_language.specs.Syntax.{Program}
use Rattle.spec_language.specs.Sheet.{Sheet, fill}
use Rattle.spec_model.specs.Model.{Call, arrive, step, board, begun}
use Rattle.back_compile.specs.Compiled.{program_of}
use Rattle.run_forecast.specs.Forecast.{forecast_on}
use Rattle.run_preview.specs.Preview.{preview_on}
use Rattle.refine_calls.specs.Refinement.{told_on, Bytes, numbers_on, bytes_after}
use Rattle.refine_lists.specs.Lists.{SheetTurn, calling, mending, Compiles, on_bytes, AllMean, fresh_round_on, Prepared}
use Rattle.secrecy_model.specs.Sight.{Sealed, AlikeBut, Pair, in_one, in_other, SameHidden, AtChanges}

-- ---- the two sheets x and y, which compile accepts as the bytes s and z with the parameters ps and qs

pub record TwoSheets (player : ℕ) (s z ps qs t₀ l₀ t₁ l₁ : List ℕ) (x y : Sheet) : Type 0 where
  pub one : Prepared s ps t₀ l₀ x
  pub other : Prepared z qs t₁ l₁ y
  -- "their sheets differing only in start values of hidden behaviours", and "the same parameters": or others where the
  -- program filled in is the same
  pub alike : AlikeBut player x y
  pub filled : program_of qs y ≡ program_of ps y

-- ---- "equal answers, refusals included"

-- what a player gets of the number that a call gives: that of its own arrival or board reading, a step's as the host
-- alone gets it and the others by the further call, and none of the others' calls
abbrev pub hears_on : ℕ → Call → ℕ → Option ℕ
hears_on player (arrive e who) v = pick (eqb who player) (some v) none
hears_on player step v = some (pick (eqb player 0) v (told_on v))
hears_on player (board i who) v = pick (eqb who player) (some v) none

-- and of a turn's: a change's whoever it is
abbrev pub hears_in : ℕ → SheetTurn → ℕ → Option ℕ
hears_in player (calling c) v = hears_on player c v
hears_in player (mending s ps t) v = some v

-- of the turns xs on the bytes b, and ys on the bytes c; and of a preview of this player's and the count of steps to
-- idle, called after them on the table then in force
pub record HeardAlike (player : ℕ) (b : Bytes) (xs : List SheetTurn) (c : Bytes) (ys : List SheetTurn) : Type 0 where
  pub turns : zip_with (hears_in player) xs (numbers_on (map on_bytes xs) b) ≡ zip_with (hears_in player) ys (numbers_on (map on_bytes ys) c)
  pub preview : (e i : ℕ)
      → preview_on (bytes_after (map on_bytes xs) b).table (bytes_after (map on_bytes xs) b).round e i player
      ≡ preview_on (bytes_after (map on_bytes ys) c).table (bytes_after (map on_bytes ys) c).round e i player
  pub forecast : forecast_on (bytes_after (map on_bytes xs) b).table (bytes_after (map on_bytes xs) b).round
      ≡ forecast_on (bytes_after (map on_bytes ys) c).table (bytes_after (map on_bytes ys) c).round

-- ---- the rule: every player, every two such sheets of which "no behaviour this player sees depends on a hidden one",
-- and every two lists of turns that are the pairs l, where the same is asked of the new sheets at each change that is
-- made. "The same calls in the same order", cs, are the case `map both cs`, of which nothing more is asked

-- a change to the sheets a and b, filled with v and w, the program p being in force: they are alike as above, "with the
-- same behaviours hidden"
abbrev pub AlikeAt : ℕ → Program → (ℕ → ℕ) → (ℕ → ℕ) → Sheet → Sheet → Type 0
AlikeAt player p v w a b = AlikeBut player a b × (fill w b ≡ fill v b) × SameHidden player p (fill v a)

abbrev pub RuleOn : Type 0
RuleOn =
    (player : ℕ) (s z ps qs t₀ l₀ t₁ l₁ : List ℕ) (x y : Sheet) → TwoSheets player s z ps qs t₀ l₀ t₁ l₁ x y
    → Sealed (program_of ps x) player → (l : List Pair)
    → AtChanges (λ p v w a b. AlikeAt player p v w a b × Sealed (fill v a) player) l (begun (program_of ps x)) (begun (program_of qs y))
    → (xs ys : List SheetTurn) → All Compiles xs → All Compiles ys → AllMean xs (map in_one l) → AllMean ys (map in_other l)
    → HeardAlike player (fresh_round_on s ps t₀ l₀) xs (fresh_round_on z qs t₁ l₁) ys
