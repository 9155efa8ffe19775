-- A part read in stages, of which one says who may see it: where that is at fault so is the part, else it goes on.
use Rattle.std.specs.Prelude.{Err}
use Rattle.std.specs.Prelude as Code
use Rattle.source_coding.specs.declared.faults.Fault.{Fault}
use Rattle.source_declarations.specs.Players.{given}
use Rattle.source_handlers.specs.Parts.{PartDue, part}
use Rattle.lib_base.proofs.Prelude.{ℕ, ◌≡◌, Option, List}
use Rattle.source_language.specs.Tokens.{SheetToken}
use Rattle.source_language.specs.Reader.{Phrased, bad, got, then_phrase}
use Rattle.source_coding.specs.Places.{tokens_from}
use Rattle.source_declarations.specs.Players.{rights_number, RightsRead}
use Rattle.source_handlers.specs.Parts.{Coding, PartWritten, PartAgrees}

module _ {B C : Type 0} (k : Coding B C) (text : List ℕ) (n : ℕ) (o p : List ℕ) (h : Option (List ℕ) → List SheetToken → Phrased B) where
  pub rights_fail : (w : Fault) (x : Phrased (Option (List ℕ))) → RightsRead text (Err w) x → PartAgrees k text n o p (Err w) (then_phrase x h)
  rights_fail w (bad j q) e = e
  rights_fail w (got a us) e = absurd e

  pub rights_go : (to bits : ℕ) (r : PartDue) (x : Phrased (Option (List ℕ))) → RightsRead text (given to bits) x
      → ((m : Option (List ℕ)) → bits ≡ rights_number m → PartAgrees k text n o p r (h m (tokens_from text to))) → PartAgrees k text n o p r (then_phrase x h)
  rights_go to bits r (bad j q) e g = absurd e
  rights_go to bits r (got m us) e g = rw e.0 (g m e.1)

-- a list of parts was read, and becomes one
pub list_fails : {A B C D : Type 0} (k : Coding A B) (l : Coding C D) (text : List ℕ) (m n : ℕ) (o p q r : List ℕ) (h : A → List SheetToken → Phrased C) (w : Fault) (x : Phrased A)
    → PartAgrees k text m o p (Err w) x → PartAgrees l text n q r (Err w) (then_phrase x h)
list_fails k l text m n o p q r h w (bad j i) e = e
list_fails k l text m n o p q r h w (got a us) e = absurd e

pub list_goes : {A B C D : Type 0} (k : Coding A B) (l : Coding C D) (text : List ℕ) (m n : ℕ) (o p q r : List ℕ) (h : A → List SheetToken → Phrased C) (to end : ℕ) (w : Code.Option Fault) (s : PartDue) (x : Phrased A)
    → PartAgrees k text m o p (part to end w) x → ((a : A) (us : List SheetToken) → PartWritten k text m o p to end w a us → PartAgrees l text n q r s (h a us))
    → PartAgrees l text n q r s (then_phrase x h)
list_goes k l text m n o p q r h to end w s (bad j i) e g = absurd e
list_goes k l text m n o p q r h to end w s (got a us) e g = g a us e
