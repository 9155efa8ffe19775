-- Agreement on one behaviour in the app's words: phones that share an order hand it in by deliveries, each at its own
-- speed (crate engine_order, Orders.antt and Changes.antt). Where `agree_for` is 0 for a behaviour, its value is equal
-- on both when both are idle with the same number taken in; where it is 0 for every behaviour, in each sheet, so are
-- the boards.
use Rattle.std.specs.Prelude.{ℕ, ◌≤◌, ◌<◌, ◌≡◌, List, length}
use Rattle.lib_base.specs.Basics.{All}
use Rattle.spec_language.specs.Sheet.{Sheet}
use Rattle.spec_language.specs.Dependence.{size}
use Rattle.spec_semantics.specs.Meaning.{at}
use Rattle.back_compile.specs.Compiled.{program_of}
use Rattle.refine_lists.specs.Lists.{board_of, IdleNow, fresh_round_on, TwoRounds}
use Rattle.ask_agree_for.specs.AgreeFor.{agree_for_on}
use Rattle.engine_order.specs.Orders.{EventOrder, AppCall, Offered, app_after, taken_now, TwoPhonesWhere}
use Rattle.engine_order.specs.Changes.{TwoChangedWhere}
use Rattle.engine_agree_for.specs.OneBehaviour.{ZeroForEach}

-- "then this behaviour's value is equal on both phones when both are idle, for every two lists .. as in item 2 without
-- changes of sheets, whatever the rest of the board does"
abbrev pub OneValueInOrder : Type 0
OneValueInOrder =
    (s ps qs t₀ l₀ t₁ l₁ : List ℕ) (x : Sheet) → TwoRounds s ps qs t₀ l₀ t₁ l₁ x → (order : EventOrder) → length order ≤ 1000000
    → (cs ds : List AppCall) → All (Offered order) cs → All (Offered order) ds
    → taken_now (app_after order cs (fresh_round_on s ps t₀ l₀)) ≡ taken_now (app_after order ds (fresh_round_on s qs t₁ l₁))
    → (b : ℕ) → b < size (program_of ps x) → agree_for_on s ps b ≡ 0
    → IdleNow (app_after order cs (fresh_round_on s ps t₀ l₀)) → IdleNow (app_after order ds (fresh_round_on s qs t₁ l₁))
    → at (board_of (program_of ps x) (app_after order cs (fresh_round_on s ps t₀ l₀)).round) b
    ≡ at (board_of (program_of ps x) (app_after order ds (fresh_round_on s qs t₁ l₁)).round) b

-- the promise of an order with "`agree_for` is 0 for every behaviour" in place of "`agree` is 0"
pub record EachInOrder : Type 0 where
  pub agreed : TwoPhonesWhere (λ s ps p l. ZeroForEach s ps)
  -- with changes of sheets, where it is so of each sheet
  pub changed : TwoChangedWhere ZeroForEach
