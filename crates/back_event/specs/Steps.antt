-- What each step of the work for one event gives: 02, M-109.
use Rattle.std.specs.Prelude.{ℕ, true, ◌≡◌, List, ◌++◌}
use Rattle.spec_language.specs.Syntax.{Program}
use Rattle.spec_language.specs.Dependence.{size, Acyclic}
use Rattle.spec_language.specs.Code.{copy_part, first_part, second_part, restore_part}
use Rattle.format_image.specs.Table.{code_words}
use Rattle.back_schedule.specs.Ordering.{order_under, is_ordered}
use Rattle.back_phases.specs.Phases.{first_words, second_words}
use Rattle.back_event.specs.Handlers.{masked_words, event_words}

-- what each step writes for event e, from the draft d of program p
pub record EventParts (p : Program) (d : List ℕ) (e : ℕ) : Type 0 where
  pub copies : masked_words d e 768 (size p) ≡ code_words (copy_part p e)
  pub first : first_words d e (size p) (order_under d e (size p)) ≡ code_words (first_part p e)
  pub second : second_words d e (size p) (order_under d e (size p)) ≡ code_words (second_part p e)
  pub restores : masked_words d e 1024 (size p) ≡ code_words (restore_part p e)
  pub in_a_row : event_words d e (size p) (order_under d e (size p)) ≡ code_words (copy_part p e ++ (first_part p e ++ (second_part p e ++ restore_part p e)))
  pub checked : ((is_ordered d e (size p) ≡ true → Acyclic p e) × (Acyclic p e → is_ordered d e (size p) ≡ true))
