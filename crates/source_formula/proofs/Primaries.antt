-- Operands without brackets around them: `!`, `if` and the rest, each as `read_primary` has it.
use Rattle.std.specs.Prelude.{Ok, Err, None}
use Rattle.source_coding.specs.declared.faults.Fault.{Fault}
use Rattle.source_coding.specs.FaultWords.{fault_of}
use Rattle.lib_base.proofs.Prelude.{ℕ, ◌≤◌, ◌<◌, ◌-◌, suc, ◌*◌, ◌≡◌, refl, ◌∙◌, ap, false, List, ◌∷◌, length, []}
use Rattle.lib_base.proofs.Prelude.{eqb, ne_eqb, le-ltb, lt-ltb, arith}
use Rattle.lib_base.proofs.Tools.{by_test}
use Rattle.lib_signature.specs.Numbers.{not_fn, if_fn, subtract_fn}
use Rattle.source_language.specs.Tokens.{SheetToken, number, name, sign, end_sign}
use Rattle.source_language.specs.Text.{Phrase, negation}
use Rattle.source_language.specs.Faults.{outside, too_deep}
use Rattle.source_language.specs.Meaning.{NameMeaning}
use Rattle.source_language.specs.Reader.{Phrased, bad, got, then_phrase, sign_at, value_of, read_constant, read_negation, read_choice, signed_of, read_primary, phrase_within}
use Rattle.source_coding.specs.Places.{tokens_from}
use Rattle.source_field.specs.Formula.{Read, FormulaRead, FormulaWithin, FewerLeft, PartRead}
use Rattle.source_field.specs.Fields.{applied_by, headed_in, Headable}
use Rattle.source_field.proofs.Parts.{negation_written}
use Rattle.source_operand.specs.Operand.{plain_of}
use Rattle.source_onward.specs.Onward.{SignBefore}

-- ---- by the sign there

not_as : (next : ℕ → List SheetToken → Phrased Phrase) (room p : ℕ) (ts us : List SheetToken) → ts ≡ sign p not_fn ∷ us → 1 < room
    → read_primary next room ts ≡ then_phrase (next 0 us) (λ a vs. got (negation a) vs)
unfolding signed_of read_negation
not_as next room p ts us e h = rw (e, lt-ltb 1 room h)

if_as : (next : ℕ → List SheetToken → Phrased Phrase) (room p : ℕ) (ts us : List SheetToken) → ts ≡ sign p if_fn ∷ us → 1 < room → read_primary next room ts ≡ read_choice (next 6) us
unfolding signed_of
if_as next room p ts us e h = rw (e, lt-ltb 1 room h)

not_deep : (next : ℕ → List SheetToken → Phrased Phrase) (room p : ℕ) (ts us : List SheetToken) → ts ≡ sign p not_fn ∷ us → room ≤ 1 → read_primary next room ts ≡ bad too_deep p
unfolding signed_of
not_deep next room p ts us e h = rw (e, le-ltb 1 room h)

if_deep : (next : ℕ → List SheetToken → Phrased Phrase) (room p : ℕ) (ts us : List SheetToken) → ts ≡ sign p if_fn ∷ us → room ≤ 1 → read_primary next room ts ≡ bad too_deep p
unfolding signed_of
if_deep next room p ts us e h = rw (e, le-ltb 1 room h)

-- a sign that begins no constant is outside, there too
no_constant : (p c : ℕ) (ts : List SheetToken) → eqb c subtract_fn ≡ false → read_constant (sign p c ∷ ts) ≡ bad outside p
unfolding read_constant value_of
no_constant p c ts e = rw e

plain_as : (next : ℕ → List SheetToken → Phrased Phrase) (room : ℕ) (ts : List SheetToken) → (sign_at ts ≡ not_fn → ⊥) → (sign_at ts ≡ if_fn → ⊥) → plain_of ts ≡ read_primary next room ts
unfolding signed_of
plain_as next room [] h g = refl
plain_as next room (number p n ∷ ts) h g = refl
plain_as next room (name p s ∷ ts) h g = refl
plain_as next room (sign p c ∷ ts) h g =
    rw (ne_eqb c not_fn h, ne_eqb c if_fn g)
    (by_test (λ (x : Phrased Phrase). read_constant (sign p c ∷ ts) ≡ x) (eqb c subtract_fn) (λ e. refl) (λ e. no_constant p c ts e))

-- ---- the operands

-- there is room for the head before the argument of `!`, whatever it is
pub not_headable : (long room at next n : ℕ) (q : Read) → FormulaWithin long (room - 1) next n q → (at < next) × (next ≤ long) → n ≤ at * 16 → room ≤ 16 → long ≤ 65536 → Headable n 0 q
not_headable long room at next n (Err w) b z h k l = tt
not_headable long room at next n (Ok f) b z h k l = omega arith

module _ (text : List ℕ) (find : List ℕ → NameMeaning) (c room at n p s next : ℕ) (o : List ℕ) (st : SignBefore text at p s next) where
  pub plain_read : (o₂ : List ℕ) (r : Read) → (s ≡ not_fn → ⊥) → (s ≡ if_fn → ⊥) → 0 < room → PartRead text find c 1 at n o o₂ r (plain_of (tokens_from text at))
      → PartRead text find c room at n o o₂ r (read_primary (phrase_within (room - 1)) room (tokens_from text at))
  plain_read o₂ r h g k x =
      let e = plain_as (phrase_within (room - 1)) room (tokens_from text at) (λ q. h (st.not_is q)) (λ q. g (st.if_is q)) in
      record { reads = rw (← e) x.reads; within = roomier r x.within; fewer = x.fewer; kept = x.kept }
    where
      roomier : (q : Read) → FormulaWithin (length text) 1 at n q → FormulaWithin (length text) room at n q
      roomier (Err w) b = tt
      roomier (Ok f) b = omega arith

  deep_read : (v : Fault) → read_primary (phrase_within (room - 1)) room (tokens_from text at) ≡ bad too_deep p → v ≡ fault_of too_deep p
      → PartRead text find c room at n o o (Err v) (read_primary (phrase_within (room - 1)) room (tokens_from text at))
  deep_read v e w = record { reads = rw e w; within = tt; fewer = tt; kept = refl }

  pub not_too_deep : (v : Fault) → s ≡ not_fn → room < 2 → v ≡ fault_of too_deep p → PartRead text find c room at n o o (Err v) (read_primary (phrase_within (room - 1)) room (tokens_from text at))
  not_too_deep v e h w =
      deep_read v (not_deep (phrase_within (room - 1)) room p (tokens_from text at) (tokens_from text next) (st.onward (omega arith) (omega arith) ∙ rw e) (omega arith)) w

  pub if_too_deep : (v : Fault) → s ≡ if_fn → room < 2 → v ≡ fault_of too_deep p → PartRead text find c room at n o o (Err v) (read_primary (phrase_within (room - 1)) room (tokens_from text at))
  if_too_deep v e h w =
      deep_read v (if_deep (phrase_within (room - 1)) room p (tokens_from text at) (tokens_from text next) (st.onward (omega arith) (omega arith) ∙ rw e) (omega arith)) w

  -- the places and tokens behind the sign
  module _ (few : (0 < s) × (s < end_sign)) where
    behind_sign : (at < next) × (next ≤ length text)
    behind_sign = st.further few.0 few.1

    fewer_behind : length (tokens_from text at) ≡ suc (length (tokens_from text next))
    fewer_behind = ap length (st.onward few.0 few.1)

    fewer_at : (q : Read) → FewerLeft text next q → FewerLeft text at q
    fewer_at (Err w) h = tt
    fewer_at (Ok f) h = let z = fewer_behind in omega arith

    within_at : (q : Read) → FormulaWithin (length text) room next n q → FormulaWithin (length text) room at n q
    within_at (Err w) h = tt
    within_at (Ok f) h = let z = behind_sign in omega arith

    pub if_read : (o₂ : List ℕ) (r : Read) → s ≡ if_fn → 1 < room → PartRead text find c room next n o o₂ r (read_choice (phrase_within (room - 1) 6) (tokens_from text next))
        → PartRead text find c room at n o o₂ r (read_primary (phrase_within (room - 1)) room (tokens_from text at))
    if_read o₂ r e h x =
        let z = if_as (phrase_within (room - 1)) room p (tokens_from text at) (tokens_from text next) (st.onward few.0 few.1 ∙ rw e) h in
        record { reads = rw z x.reads; within = within_at r x.within; fewer = fewer_at r x.fewer; kept = x.kept }

    module _ (o₁ : List ℕ) (q : Read) (x : PartRead text find c (room - 1) next n o o₁ q (phrase_within (room - 1) 0 (tokens_from text next))) where
      negated : (y : Read) (g : Phrased Phrase) → FormulaRead text find c n o o₁ y g → FormulaRead text find c n o (headed_in not_fn n y o₁) (applied_by 0 None y) (then_phrase g (λ a vs. got (negation a) vs))
      negated (Err w) (bad k z) a = a
      negated (Err w) (got e us) a = absurd a
      negated (Ok f) (bad k z) a = absurd a
      negated (Ok f) (got e us) a = negation_written x.kept a

      within_not : (y : Read) → 1 < room → FormulaWithin (length text) (room - 1) next n y → FormulaWithin (length text) room at n (applied_by 0 None y)
      within_not (Err w) h b = tt
      within_not (Ok f) h b = let z = behind_sign in omega arith

      fewer_not : (y : Read) → FewerLeft text next y → FewerLeft text at (applied_by 0 None y)
      fewer_not (Err w) h = tt
      fewer_not (Ok f) h = let z = fewer_behind in omega arith

      pub not_read : (o₂ : List ℕ) (r : Read) → s ≡ not_fn → 1 < room → r ≡ applied_by 0 None q → o₂ ≡ headed_in not_fn n q o₁ → length o₂ ≡ length o₁
          → PartRead text find c room at n o o₂ r (read_primary (phrase_within (room - 1)) room (tokens_from text at))
      not_read o₂ r e h f d k =
          let z = not_as (phrase_within (room - 1)) room p (tokens_from text at) (tokens_from text next) (st.onward few.0 few.1 ∙ rw e) h in
          record {
            reads = rw (z, f, d) (negated q (phrase_within (room - 1) 0 (tokens_from text next)) x.reads);
            within = rw f (within_not q h x.within);
            fewer = rw f (fewer_not q x.fewer);
            kept = k ∙ x.kept;
          }
