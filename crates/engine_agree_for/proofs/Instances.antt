-- An instance of the hypotheses at their bounds: phones that share an order of 1,000,000 entries, and the last
-- behaviour of three. And b3 of three, which is none. Each is the claim applied, so that one whose hypothesis was
-- narrowed does not fit.
use Rattle.lib_base.proofs.Prelude.{ℕ, ◌≡◌, List, length, arith}
use Rattle.lib_base.specs.Basics.{All}
use Rattle.spec_language.specs.Sheet.{Sheet}
use Rattle.spec_language.specs.Dependence.{size}
use Rattle.spec_semantics.specs.Meaning.{at}
use Rattle.back_compile.specs.Compiled.{program_of}
use Rattle.refine_lists.specs.Lists.{board_of, IdleNow, fresh_round_on, TwoRounds}
use Rattle.ask_agree_for.specs.AgreeFor.{agree_for_on}
use Rattle.engine_order.specs.Orders.{EventOrder, AppCall, Offered, app_after, taken_now}
use Rattle.engine_agree_for.specs.OneBehaviour.{AgreeForAnswer}
use Rattle.engine_agree_for.specs.OneBehaviourInOrder.{OneValueInOrder}

last_of_three : OneValueInOrder
    → (s ps qs t₀ l₀ t₁ l₁ : List ℕ) (x : Sheet) → TwoRounds s ps qs t₀ l₀ t₁ l₁ x → (order : EventOrder) → length order ≡ 1000000
    → (cs ds : List AppCall) → All (Offered order) cs → All (Offered order) ds
    → taken_now (app_after order cs (fresh_round_on s ps t₀ l₀)) ≡ taken_now (app_after order ds (fresh_round_on s qs t₁ l₁))
    → size (program_of ps x) ≡ 3 → agree_for_on s ps 2 ≡ 0
    → IdleNow (app_after order cs (fresh_round_on s ps t₀ l₀)) → IdleNow (app_after order ds (fresh_round_on s qs t₁ l₁))
    → at (board_of (program_of ps x) (app_after order cs (fresh_round_on s ps t₀ l₀)).round) 2
    ≡ at (board_of (program_of ps x) (app_after order ds (fresh_round_on s qs t₁ l₁)).round) 2
last_of_three h s ps qs t₀ l₀ t₁ l₁ x r order n cs ds a b e k = h s ps qs t₀ l₀ t₁ l₁ x r order (omega arith) cs ds a b e 2 (omega arith)

no_fourth : (s ps : List ℕ) (x : Sheet) → AgreeForAnswer s ps 3 x → size (program_of ps x) ≡ 3 → agree_for_on s ps 3 ≡ 18
no_fourth s ps x a h = a.none_such (omega arith)
