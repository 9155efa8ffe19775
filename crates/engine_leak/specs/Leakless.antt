-- What the call `leak` says of M-107's condition, and the rule for a player with no condition left. 02, M-107: "For a
-- player it shall hold: if no behaviour this player sees depends on a hidden one (by a name in its expression or in a
-- handler of either phase, directly or by a chain), then two rounds, from fresh on with the same calls in the same
-- order and the same parameters, their sheets differing only in start values of hidden behaviours, give this player
-- equal answers, refusals included." M-112: "M-107's rule for a player needs its condition of both sheets, with the
-- same behaviours hidden." The condition is `Sealed` of crate secrecy_model, Sight.antt.
use Rattle.std.specs.Prelude.{ℕ, ◌≤◌, ◌<◌, true, false, ◌≡◌, ◌≢◌, List, map, length}
use Rattle.lib_base.specs.Basics.{All}
use Rattle.lib_word.specs.Word.{get}
use Rattle.spec_language.specs.Syntax.{Program}
use Rattle.spec_language.specs.Sheet.{Sheet}
use Rattle.spec_language.specs.Grammar.{encode}
use Rattle.spec_language.specs.Accepted.{SheetAccepted}
use Rattle.spec_language.specs.Dependence.{size}
use Rattle.spec_language.specs.Rights.{may_see}
use Rattle.spec_model.specs.Model.{begun}
use Rattle.secrecy_model.specs.Sight.{names, Sealed, Pair, in_one, in_other, AtChanges}
use Rattle.back_compile.specs.Number.{number_on}
use Rattle.back_compile.specs.Compiled.{program_of}
use Rattle.refine_lists.specs.Lists.{SheetTurn, calling, mending, Compiles, AllMean, fresh_round_on}
use Rattle.secrecy_engine.specs.Heard.{TwoSheets, HeardAlike, AlikeAt}
use Rattle.ask_leak.specs.Answer.{packed_leak}
use Rattle.ask_leak.specs.Leak.{leak_on}

-- ---- 0 exactly under M-107's condition, and what is named is true: of a sheet that compile accepts

-- the answer names a behaviour that the player sees and a hidden one that it names: the least of each
pub record LeakNamed (p : Program) (player answer : ℕ) : Type 0 where
  pub seen : ℕ
  pub hidden : ℕ
  pub is : answer ≡ packed_leak seen hidden
  pub seen_in : seen < size p
  pub hidden_in_law : hidden < size p
  pub sees : may_see p player seen ≡ true
  pub not_sees : may_see p player hidden ≡ false
  pub named : names p seen hidden ≡ true
  pub least_seen : (i j : ℕ) → may_see p player i ≡ true → names p i j ≡ true → may_see p player j ≡ false → seen ≤ i
  pub least_hidden : (j : ℕ) → names p seen j ≡ true → may_see p player j ≡ false → hidden ≤ j

pub record LeakAnswer (s ps : List ℕ) (player : ℕ) (x : Sheet) : Type 0 where
  pub zero_if : Sealed (program_of ps x) player → leak_on s ps player ≡ 0
  pub only_if : leak_on s ps player ≡ 0 → Sealed (program_of ps x) player
  pub named : leak_on s ps player ≢ 0 → LeakNamed (program_of ps x) player (leak_on s ps player)

abbrev pub LeakAnswers : Type 0
LeakAnswers =
    (s ps : List ℕ) (player : ℕ) → All (λ b. b < 256) s → All (λ b. b < 256) ps
    → ((x : Sheet) → encode x ≡ s → SheetAccepted (get ps) (length ps) x → player < 8 → LeakAnswer s ps player x)
    × (number_on s ps ≡ 0 → 7 < player → leak_on s ps player ≡ 24)
    × (number_on s ps ≢ 0 → leak_on s ps player ≡ number_on s ps)

-- ---- the rule for a player of whom `leak` answers 0: two sheets that differ only in start values of hidden
-- behaviours; with changes of sheets (02, M-112), where `leak` answers 0 for every sheet of the list. The same calls
-- cs in both rounds are the case `map both cs`, of which nothing more is asked

-- `leak` answers 0 for the sheet of a change
abbrev pub SealedToo : ℕ → SheetTurn → Type 0
SealedToo player (calling c) = Unit {0}
SealedToo player (mending s ps t) = leak_on s ps player ≡ 0

abbrev pub RuleWithChanges : Type 0
RuleWithChanges =
    (player : ℕ) (s z ps qs t₀ l₀ t₁ l₁ : List ℕ) (x y : Sheet) → TwoSheets player s z ps qs t₀ l₀ t₁ l₁ x y
    → leak_on s ps player ≡ 0 → (l : List Pair) → AtChanges (AlikeAt player) l (begun (program_of ps x)) (begun (program_of qs y))
    → (xs ys : List SheetTurn) → All Compiles xs → All Compiles ys → AllMean xs (map in_one l) → AllMean ys (map in_other l)
    → All (SealedToo player) xs → HeardAlike player (fresh_round_on s ps t₀ l₀) xs (fresh_round_on z qs t₁ l₁) ys

pub record WithNoCondition : Type 0 where
  pub answers : LeakAnswers
  pub rule : RuleWithChanges
