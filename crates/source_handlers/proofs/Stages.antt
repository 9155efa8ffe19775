-- A part read in stages: where a stage is at fault so is the part, else it goes on behind the stage.
use Rattle.std.specs.Prelude.{Option, Err}
use Rattle.source_coding.specs.declared.faults.Fault.{Fault}
use Rattle.source_due.specs.Due.{found}
use Rattle.source_field.specs.Formula.{formula_done}
use Rattle.source_handlers.specs.Parts.{PartDue}
use Rattle.lib_base.proofs.Prelude.{ℕ, ◌≡◌, refl, List}
use Rattle.source_language.specs.Tokens.{SheetToken}
use Rattle.source_language.specs.Text.{Phrase}
use Rattle.source_language.specs.Faults.{OrFault, fault, fine, and_then}
use Rattle.source_language.specs.Meaning.{NameMeaning}
use Rattle.source_language.specs.Reader.{Phrased, bad, got, then_phrase}
use Rattle.source_coding.specs.FaultWords.{fault_in}
use Rattle.source_coding.specs.Places.{tokens_from}
use Rattle.source_field.specs.Formula.{FormulaWritten, FormulaRead}
use Rattle.source_handlers.specs.Parts.{Coding, PartAgrees, DueRead}

module _ {A B C : Type 0} (k : Coding B C) (text : List ℕ) (n : ℕ) (o p : List ℕ) (h : A → List SheetToken → Phrased B) where
  pub due_fails : (P : ℕ → ℕ → A → Type 0) (w : Fault) (x : Phrased A) → DueRead P text (Err w) x → PartAgrees k text n o p (Err w) (then_phrase x h)
  due_fails P w (bad j q) e = e
  due_fails P w (got a us) e = absurd e

  pub due_goes : (P : ℕ → ℕ → A → Type 0) (i v next : ℕ) (r : PartDue) (x : Phrased A) → DueRead P text (found i v next) x
      → ((a : A) → P i v a → PartAgrees k text n o p r (h a (tokens_from text next))) → PartAgrees k text n o p r (then_phrase x h)
  due_goes P i v next r (bad j q) e g = absurd e
  due_goes P i v next r (got a us) e g = rw e.0 (g a e.1)

module _ {B C : Type 0} (k : Coding B C) (text : List ℕ) (find : List ℕ → NameMeaning) (c n m : ℕ) (o p q s : List ℕ) (h : Phrase → List SheetToken → Phrased B) where
  pub formula_fails : (w : Fault) (x : Phrased Phrase) → FormulaRead text find c m q s (Err w) x → PartAgrees k text n o p (Err w) (then_phrase x h)
  formula_fails w (bad j i) e = e
  formula_fails w (got a us) e = absurd e

  pub formula_goes : (to depth end : ℕ) (w : Option Fault) (r : PartDue) (x : Phrased Phrase) → FormulaRead text find c m q s (formula_done to depth end w) x
      → ((e : Phrase) (us : List SheetToken) → FormulaWritten text find c m q s to depth end w e us → PartAgrees k text n o p r (h e us))
      → PartAgrees k text n o p r (then_phrase x h)
  formula_goes to depth end w r (bad j i) e g = absurd e
  formula_goes to depth end w r (got a us) e g = g a us e

-- what is made of a result has its fault
pub made_fault : {A B : Type 0} (g : A → B) (a : OrFault A) → fault_in (and_then a (λ x. fine (g x))) ≡ fault_in a
made_fault g (fault k p) = refl
made_fault g (fine x) = refl
