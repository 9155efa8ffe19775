-- A start value, which is due behind `=`.
use Rattle.std.specs.Prelude.{Ok, Err}
use Rattle.source_coding.specs.declared.faults.Fault.{Fault}
use Rattle.source_due.specs.Due.{Due}
use Rattle.lib_base.proofs.Prelude.{ℕ, ◌≤◌, ◌<◌, ◌≡◌, refl, List, ◌∷◌, arith}
use Rattle.source_language.specs.Tokens.{sign, equals}
use Rattle.source_language.specs.Faults.{outside}
use Rattle.source_language.specs.Reader.{place_at, sign_at, value_of}
use Rattle.source_coding.specs.FaultWords.{fault_of}
use Rattle.source_coding.specs.Places.{tokens_from}
use Rattle.source_due.specs.Due.{FaultTold, ConstantFound, DueWithin}
use Rattle.source_handlers.specs.Parts.{DueRead}
use Rattle.source_handlers.proofs.Events.{no_sign, past_there}
use Rattle.source_body.specs.Body.{start_declared, StartWordIs, StartWithin}

pub start_missing : (text : List ℕ) (at : ℕ) (w : Fault) → (sign_at (tokens_from text at) ≡ equals → ⊥) × (w ≡ fault_of outside (place_at (tokens_from text at)))
    → DueRead StartWordIs text (Err w) (start_declared (tokens_from text at))
start_missing text at w h = no_sign StartWordIs text equals value_of w (tokens_from text at) h.0 h.1

abbrev ValueHere : List ℕ → ℕ → Due → Type 0
ValueHere text at (Ok d) = ConstantFound text at d.number d.next
ValueHere text at (Err w) = FaultTold (value_of (tokens_from text at)) w

value_read : (text : List ℕ) (at : ℕ) (r : Due) → ValueHere text at r → DueRead StartWordIs text r (value_of (tokens_from text at))
value_read text at (Ok d) h = rw h.read (refl, h.written)
value_read text at (Err w) h = rw h.turned h.told

pub start_found : (text : List ℕ) (at q next : ℕ) (r : Due) → tokens_from text at ≡ sign q equals ∷ tokens_from text next → ValueHere text next r
    → DueRead StartWordIs text r (start_declared (tokens_from text at))
start_found text at q next r h v = rw (past_there equals q value_of (tokens_from text at) (tokens_from text next) h) (value_read text next r v)

pub start_within : (long at p from : ℕ) (r : Due) → at ≤ p → p < from → DueWithin long from r → StartWithin long at r
start_within long at p from (Ok d) a b h = (omega arith, h.2, h.3)
start_within long at p from (Err w) a b h = tt
