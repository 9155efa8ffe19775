-- The small pieces of behaviours: a name, and a row's count.
use Rattle.std.specs.Prelude.{Err}
use Rattle.source_coding.specs.declared.faults.Fault.{Fault}
use Rattle.lib_base.proofs.Prelude.{ℕ, ◌≡◌, refl, true, false, List}
use Rattle.lib_base.proofs.Prelude.{◌∷◌, ne_eqb, eq-eqb}
use Rattle.source_language.specs.Tokens.{name, sign, bracket, unbracket, row_word}
use Rattle.source_language.specs.Faults.{outside, declared_twice_fault}
use Rattle.source_language.specs.Limits.{among}
use Rattle.source_language.specs.Reader.{got, place_at, sign_at}
use Rattle.source_coding.specs.FaultWords.{fault_of}
use Rattle.source_coding.specs.Places.{tokens_from, name_at, names_held}
use Rattle.source_due.specs.Due.{Due, found, NoName}
use Rattle.source_handlers.specs.Parts.{DueRead}
use Rattle.source_handlers.proofs.Events.{no_name, no_sign, past_there}
use Rattle.source_behaviours.specs.Behaviours.{new_name, closed_cells, counted_cells, cells_said, NamedAt, CountIs}

-- ---- a name

module _ (text names : List ℕ) (count at p next : ℕ) (there : tokens_from text at ≡ name p (name_at text p) ∷ tokens_from text next) where
  pub name_taken : (w : Fault) → among (name_at text p) (names_held text names count) ≡ true → w ≡ fault_of declared_twice_fault p
      → DueRead (NamedAt text) text (Err w) (new_name (names_held text names count) (tokens_from text at))
  name_taken w a h = rw (there, a) h

  pub name_new : (v : ℕ) → among (name_at text p) (names_held text names count) ≡ false
      → DueRead (NamedAt text) text (found p v next) (new_name (names_held text names count) (tokens_from text at))
  name_new v a = rw (there, a) (refl, refl)

pub name_missing : (text names : List ℕ) (count at : ℕ) (w : Fault) → NoName (tokens_from text at) × (w ≡ fault_of outside (place_at (tokens_from text at)))
    → DueRead (NamedAt text) text (Err w) (new_name (names_held text names count) (tokens_from text at))
name_missing text names count at w h = no_name (NamedAt text) text _ w (tokens_from text at) h.0 h.1

-- ---- a row's count

pub closed_fails : (text : List ℕ) (at v : ℕ) (w : Fault) → (sign_at (tokens_from text at) ≡ unbracket → ⊥) × (w ≡ fault_of outside (place_at (tokens_from text at)))
    → DueRead CountIs text (Err w) (closed_cells v (tokens_from text at))
closed_fails text at v w h = no_sign CountIs text unbracket (got v) w (tokens_from text at) h.0 h.1

pub closed_found : (text : List ℕ) (at q p v next : ℕ) → tokens_from text at ≡ sign q unbracket ∷ tokens_from text next
    → DueRead CountIs text (found p v next) (closed_cells v (tokens_from text at))
closed_found text at q p v next h = rw (past_there unbracket q (got v) (tokens_from text at) (tokens_from text next) h) (refl, refl)

module _ (text : List ℕ) (at i c : ℕ) where
  pub no_row : (c ≡ row_word → ⊥) → DueRead CountIs text (found at 0 at) (cells_said i c (tokens_from text at))
  no_row h = rw (ne_eqb c row_word h) (refl, refl)

  pub row_unopened : (w : Fault) → c ≡ row_word → (sign_at (tokens_from text at) ≡ bracket → ⊥) × (w ≡ fault_of outside (place_at (tokens_from text at)))
      → DueRead CountIs text (Err w) (cells_said i c (tokens_from text at))
  row_unopened w e h = rw (eq-eqb c row_word e) (no_sign CountIs text bracket (counted_cells i) w (tokens_from text at) h.0 h.1)

  pub row_opened : (q next : ℕ) (r : Due) → c ≡ row_word → tokens_from text at ≡ sign q bracket ∷ tokens_from text next → DueRead CountIs text r (counted_cells i (tokens_from text next))
      → DueRead CountIs text r (cells_said i c (tokens_from text at))
  row_opened q next r e h d = rw (eq-eqb c row_word e, past_there bracket q (counted_cells i) (tokens_from text at) (tokens_from text next) h) d
