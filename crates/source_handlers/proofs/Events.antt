-- What a handler's event is, from the name that stands there and the marks: the answers of `event_due`, and of the
-- phase behind it.
use Rattle.std.specs.Prelude.{Err}
use Rattle.source_coding.specs.declared.faults.Fault.{Fault}
use Rattle.source_due.specs.Due.{Due, found}
use Rattle.lib_base.proofs.Prelude.{ℕ, ◌≤◌, ◌<◌, ◌≡◌, refl, ◌∙◌, ap, true, false, ◌≢◌, List, ◌∷◌, []}
use Rattle.lib_base.proofs.Prelude.{length, get_or, eqb, ne_eqb, le-ltb, lt-ltb, eq-eqb, arith}
use Rattle.spec_language.specs.Syntax.{immediate, later}
use Rattle.source_language.specs.Tokens.{SheetToken, number, name, sign, colon, later_word}
use Rattle.source_language.specs.Faults.{outside, unknown_name}
use Rattle.source_language.specs.Limits.{among}
use Rattle.source_language.specs.Reader.{Phrased, got, place_at, sign_at, past_sign, name_due}
use Rattle.source_coding.specs.FaultWords.{fault_of}
use Rattle.source_coding.specs.Places.{tokens_from, name_at, names_held, index_in}
use Rattle.source_due.specs.Due.{NoName}
use Rattle.source_handlers.specs.Parts.{DueRead}
use Rattle.source_handlers.specs.Handlers.{phase_declared, HandledEventRead, PhaseNumbered, ColonRead}
use Rattle.source_handlers.proofs.Names.{among_held}

-- where no name stands, whatever was to be read behind it is at fault
pub no_name : {A : Type 0} (P : ℕ → ℕ → A → Type 0) (text : List ℕ) (f : ℕ → List ℕ → List SheetToken → Phrased A) (w : Fault) (ts : List SheetToken)
    → NoName ts → w ≡ fault_of outside (place_at ts) → DueRead P text (Err w) (name_due f ts)
no_name P text f w [] h e = e
no_name P text f w (number p n ∷ ts) h e = e
no_name P text f w (name p s ∷ ts) h e = absurd h
no_name P text f w (sign p c ∷ ts) h e = e

module _ (text events marks : List ℕ) (at p next e : ℕ) (there : tokens_from text at ≡ name p (name_at text p) ∷ tokens_from text next) (numbered : e ≡ index_in text events (name_at text p)) where
  none_marked : (ns : List (List ℕ)) → (get_or marks e 0 ≡ 1 → ⊥) → among (name_at text p) ns ≡ eqb (get_or marks (index_in text events (name_at text p)) 0) 1
      → among (name_at text p) ns ≡ false
  none_marked ns m k = k ∙ ne_eqb (get_or marks (index_in text events (name_at text p)) 0) 1 (λ h. m (ap (λ i. get_or marks i 0) numbered ∙ h))

  pub event_unknown : (w : Fault) → (get_or marks e 0 ≡ 1 → ⊥) → length events ≤ e → w ≡ fault_of unknown_name p → HandledEventRead text events marks at (Err w)
  event_unknown w m l h ns k =
      let a : among (name_at text p) ns ≡ false = none_marked ns m (k (name_at text p)) in
      let b : among (name_at text p) (names_held text events (length events)) ≡ false =
      among_held text events (name_at text p) (length events) (omega arith) ∙ le-ltb (index_in text events (name_at text p)) (length events) (omega arith) in
      rw (there, a, b) h

  pub event_found : (get_or marks e 0 ≡ 1 → ⊥) → e < length events → HandledEventRead text events marks at (found p e next)
  event_found m l ns k =
      let a : among (name_at text p) ns ≡ false = none_marked ns m (k (name_at text p)) in
      let b : among (name_at text p) (names_held text events (length events)) ≡ true =
      among_held text events (name_at text p) (length events) (omega arith) ∙ lt-ltb (index_in text events (name_at text p)) (length events) (omega arith) in
      rw (there, a, b) (refl, numbered)

-- ---- phases

-- a sign that is due and does not stand there
pub no_sign : {A : Type 0} (P : ℕ → ℕ → A → Type 0) (text : List ℕ) (c : ℕ) (f : List SheetToken → Phrased A) (w : Fault) (ts : List SheetToken)
    → (sign_at ts ≡ c → ⊥) → w ≡ fault_of outside (place_at ts) → DueRead P text (Err w) (past_sign c f ts)
unfolding past_sign
no_sign P text c f w ts h e = rw (ne_eqb (sign_at ts) c h) e

pub past_there : {A : Type 0} (c p : ℕ) (f : List SheetToken → Phrased A) (ts us : List SheetToken) → ts ≡ sign p c ∷ us → past_sign c f ts ≡ f us
unfolding past_sign
past_there c p f ts us h = rw (h, eq-eqb c c refl)

pub colon_fails : (text : List ℕ) (at v : ℕ) (w : Fault) → (sign_at (tokens_from text at) ≢ colon) × (w ≡ fault_of outside (place_at (tokens_from text at))) → ColonRead text at v (Err w)
colon_fails text at v w h φ e = no_sign PhaseNumbered text colon (got φ) w (tokens_from text at) h.0 h.1

pub colon_found : (text : List ℕ) (at p v next : ℕ) → tokens_from text at ≡ sign p colon ∷ tokens_from text next → ColonRead text at v (found p v next)
colon_found text at p v next h φ e = rw (past_there colon p (got φ) (tokens_from text at) (tokens_from text next) h) (refl, e)

pub phase_now : (text : List ℕ) (at : ℕ) (w : Fault) (r : Due) → (sign_at (tokens_from text at) ≢ later_word) × (w ≡ fault_of outside (place_at (tokens_from text at))) → ColonRead text at 0 r
    → DueRead PhaseNumbered text r (phase_declared (tokens_from text at))
phase_now text at w r h g = rw (ne_eqb (sign_at (tokens_from text at)) later_word h.0) (g immediate refl)

pub phase_later : (text : List ℕ) (at p next : ℕ) (r : Due) → tokens_from text at ≡ sign p later_word ∷ tokens_from text next → ColonRead text next 1 r
    → DueRead PhaseNumbered text r (phase_declared (tokens_from text at))
phase_later text at p next r h g = rw h (g later refl)
