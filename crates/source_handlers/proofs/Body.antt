-- A handler from its phase on: the answers of `body_at`, stage by stage.
use Rattle.std.specs.Prelude.{Option, Err}
use Rattle.source_coding.specs.declared.faults.Fault.{Fault}
use Rattle.source_due.specs.Due.{found}
use Rattle.source_field.specs.Formula.{formula_done}
use Rattle.source_handlers.specs.Parts.{part}
use Rattle.lib_base.proofs.Prelude.{ℕ, ◌≤◌, ◌+◌, ◌≡◌, List, length}
use Rattle.spec_language.specs.Grammar.{encode_phase}
use Rattle.source_language.specs.Text.{on}
use Rattle.source_language.specs.Meaning.{NameMeaning, event_named}
use Rattle.source_language.specs.Reader.{got, formula_of}
use Rattle.source_coding.specs.Places.{tokens_from}
use Rattle.source_field.specs.Formula.{FormulaWritten, FormulaRead}
use Rattle.source_handlers.specs.Parts.{DueRead}
use Rattle.source_handlers.specs.Handlers.{handler_coding, phase_declared, PhaseNumbered, HandlerRead}
use Rattle.source_handlers.proofs.Steps.{with_formula, body_steps}
use Rattle.source_handlers.proofs.Stages.{due_fails, due_goes, formula_fails, formula_goes}
use Rattle.sheet_write.specs.Writes.{as_field}
use Rattle.source_handlers.proofs.Written.{opened, handler_written}

module _ (text : List ℕ) (find : List ℕ → NameMeaning) (c e at n : ℕ) (o : List ℕ) where
  pub phase_refused : (p : List ℕ) (w : Fault) → DueRead PhaseNumbered text (Err w) (phase_declared (tokens_from text at)) → HandlerRead text find c e at n o p (Err w)
  phase_refused p w h es s i =
      rw (body_steps s (tokens_from text at)) (due_fails (handler_coding es find c) text n o p (with_formula s) PhaseNumbered w (phase_declared (tokens_from text at)) h)

  module _ (i v next : ℕ) (phased : DueRead PhaseNumbered text (found i v next) (phase_declared (tokens_from text at))) where
    pub formula_refused : (m : ℕ) (p q r : List ℕ) (w : Fault) → FormulaRead text find c m q r (Err w) (formula_of (tokens_from text next))
        → HandlerRead text find c e at n o p (Err w)
    formula_refused m p q r w h es s j =
        rw (body_steps s (tokens_from text at))
        (due_goes (handler_coding es find c) text n o p (with_formula s) PhaseNumbered i v next (Err w) (phase_declared (tokens_from text at)) phased (λ φ z.
        formula_fails (handler_coding es find c) text find c n m o p q r (λ x us. got (on s φ x) us) w (formula_of (tokens_from text next)) h))

    pub handler_read : (q : List ℕ) (to depth end : ℕ) (w : Option Fault) → FormulaRead text find c (n + 5) (opened o n e v) q (formula_done to depth end w) (formula_of (tokens_from text next))
        → n + 5 ≤ end → length o ≤ 8192 → length q ≡ length o → HandlerRead text find c e at n o (as_field 5 n end q) (part to end w)
    handler_read q to depth end w f h b l es s j =
        rw (body_steps s (tokens_from text at))
        (due_goes (handler_coding es find c) text n o (as_field 5 n end q) (with_formula s) PhaseNumbered i v next (part to end w) (phase_declared (tokens_from text at)) phased (λ φ z.
        formula_goes (handler_coding es find c) text find c n (n + 5) o (as_field 5 n end q) (opened o n e v) q (λ x us. got (on s φ x) us) to depth end w (part to end w)
        (formula_of (tokens_from text next)) f (λ x us g.
        let g' : FormulaWritten text find c (n + 5) (opened o n (event_named es s) (encode_phase φ)) q to depth end w x us = rw (j, z) at g in
        handler_written es find c text s φ n to depth end w o q x us g' h b l)))
