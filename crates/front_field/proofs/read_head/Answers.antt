-- The tests are those of `head_of`, in its order.
use Rattle.lib_base.proofs.Prelude.{refl, sym, ◌∙◌}
use Rattle.front_field.specs.Expression.{head_of}
use Rattle.front_field.proofs.read_head.Goals as goal

pub returns-in_default-clause-value : goal.returns-in_default-clause-value
unfolding head_of
returns-in_default-clause-value c = rw (sym c.field_answer-a.ensures.value ∙ c.unwrap_err.ensures) refl

pub returns-clause-value : goal.returns-clause-value
unfolding head_of
returns-clause-value c = rw (← c.field_value.ensures.result_value, sym c.field_answer-a.ensures.value ∙ c.in-Ok.is) c.head_of.ensures.value
