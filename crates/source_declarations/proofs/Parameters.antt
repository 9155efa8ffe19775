-- Parameters read one after the other: those so far come before those that are left, and their names stand at the first
-- places (`ParameterTurn`). What each return of the readers of parameters comes to.
use Rattle.std.specs.Prelude.{Err}
use Rattle.source_coding.specs.declared.faults.Fault.{Fault}
use Rattle.source_coding.specs.FaultWords.{fault_of}
use Rattle.source_language.specs.Faults.{declared_twice_fault, too_many_fault}
use Rattle.lib_base.proofs.Prelude.{ℕ, ◌≤◌, ◌<◌, ◌+◌, ◌≡◌, refl, ◌∙◌, sym, true, false, Bool, Option, List, []}
use Rattle.lib_base.proofs.Prelude.{◌∷◌, ◌++◌, map, map-append, length, take, length-set, set, length-append, eqb, leb}
use Rattle.lib_base.proofs.Prelude.{ne_eqb, leb-false, arith}
use Rattle.lib_base.proofs.Tools.{split}
use Rattle.source_language.specs.Tokens.{SheetToken, sign, equals, param_word}
use Rattle.source_language.specs.Text.{TextConstant, Parameter, parameter}
use Rattle.source_language.specs.Limits.{among, with_parameter}
use Rattle.source_language.specs.Reader.{Phrased, bad, got, sign_at, default_of, parameter_of, many_of}
use Rattle.source_coding.specs.Places.{tokens_from, name_at, names_held}
use Rattle.source_due.specs.Due.{Due, found, FaultTold, SignTold, NameTold, ValueTold, DueWithin}
use Rattle.source_declarations.specs.Declarations.{ParameterRead, ParameterWithin, parameters_declared, declared, name_of_parameter, ParametersRead}
use Rattle.source_declarations.proofs.Many.{prepended, prepended_none, many_turn, many_faults, many_over}
use Rattle.source_declarations.proofs.Shorter.{leaves_parameter}
use Rattle.source_declarations.proofs.Held.{held_count, held_more, named_more}
use Rattle.source_declarations.proofs.Named.{new_crowded, new_unnamed, new_twice, new_named_law}

-- ---- a default value

module _ (text : List ℕ) (q at : ℕ) (d : Due) where
  pub default_none : (w : Fault) → SignTold text at equals d → d ≡ Err w → ParameterRead text (found q 0 at) (default_of (name_at text q) (tokens_from text at))
  unfolding default_of
  default_none w h e = let g = rw e at h in rw (ne_eqb (sign_at (tokens_from text at)) equals g.0) (refl, refl)

  pub default_bad : (r : Due) (p v next : ℕ) (w : Fault) → SignTold text at equals d → d ≡ found p v next → ValueTold text next r → r ≡ Err w
      → ParameterRead text (Err w) (default_of (name_at text q) (tokens_from text at))
  unfolding default_of
  default_bad r p v next w h e g f =
      let x = rw e at h in
      let y = rw f at g in
      rw (x, y.turned) y.told

  pub default_good : (r : Due) (p v next i u to : ℕ) → SignTold text at equals d → d ≡ found p v next → ValueTold text next r → r ≡ found i u to
      → ParameterRead text (found q 0 to) (default_of (name_at text q) (tokens_from text at))
  unfolding default_of
  default_good r p v next i u to h e g f =
      let x = rw e at h in
      let y = rw f at g in
      rw (x, y.read) (refl, refl)

-- ---- one parameter

module _ (text names : List ℕ) (p at count : ℕ) where
  abbrev one_parameter : Phrased Parameter
  one_parameter = parameter_of (names_held text names count) (sign p param_word ∷ tokens_from text at)

  pub parameter_crowded : (w : Fault) → 8 ≤ count → w ≡ fault_of too_many_fault p → ParameterRead text (Err w) one_parameter
  unfolding parameter_of
  parameter_crowded w h e = rw (held_count text names count, new_crowded 8 count (names_held text names count) default_of p text at h) e

  pub parameter_unnamed : (d : Due) (w : Fault) → count < 8 → NameTold text at d → d ≡ Err w → ParameterRead text (Err w) one_parameter
  unfolding parameter_of
  parameter_unnamed d w h g e =
      let x = rw e at g in
      rw (held_count text names count, new_unnamed 8 count (names_held text names count) default_of p text at w h x) x.1

  pub parameter_twice : (d : Due) (q v next : ℕ) (w : Fault) (b : Bool) → count < 8 → NameTold text at d → d ≡ found q v next → b ≡ among (name_at text q) (names_held text names count) → b ≡ true
      → w ≡ fault_of declared_twice_fault q → ParameterRead text (Err w) one_parameter
  unfolding parameter_of
  parameter_twice d q v next w b h g e i j f =
      let x = rw e at g in
      rw (held_count text names count, new_twice 8 count (names_held text names count) default_of p text at q v next h x (sym i ∙ j)) f

  pub parameter_new : (d : Due) (q v next : ℕ) (b : Bool) (r : Due) → count < 8 → NameTold text at d → d ≡ found q v next → b ≡ among (name_at text q) (names_held text names count) → b ≡ false
      → ParameterRead text r (default_of (name_at text q) (tokens_from text next)) → ParameterRead text r one_parameter
  unfolding parameter_of
  parameter_new d q v next b r h g e i j f =
      let x = rw e at g in
      rw (held_count text names count, new_named_law 8 count (names_held text names count) default_of p text at q v next h x (sym i ∙ j)) f

-- ---- all of them

pub record ParameterTurn (text : List ℕ) (at : ℕ) (names : List ℕ) (here count : ℕ) : Type 0 where
  pub found : List Parameter
  pub whole : parameters_declared (tokens_from text at)
      ≡ prepended found (many_of (λ c. eqb c param_word) parameter_of with_parameter (length (tokens_from text here)) (names_held text names count) (tokens_from text here))
  pub counted : count ≡ length found
  pub few : count ≤ 8
  pub named : map (name_at text) (take count names) ≡ map name_of_parameter found
  pub onward : at ≤ here
  pub within : here ≤ length text
  pub kept : length names ≡ 72

pub parameters_start : (text : List ℕ) (at : ℕ) (names : List ℕ) → at ≤ length text → length names ≡ 72 → ParameterTurn text at names at 0
unfolding names_held
parameters_start text at names h k = record {
  found = [];
  whole = prepended_none (parameters_declared (tokens_from text at));
  counted = refl;
  few = omega arith;
  named = refl;
  onward = omega arith;
  within = h;
  kept = k;
}

pub parameters_stop : {text : List ℕ} {at : ℕ} {names : List ℕ} {here count : ℕ} (d : Due) (w : Fault) → ParameterTurn text at names here count → SignTold text here param_word d → d ≡ Err w
    → ParametersRead text names (declared here count 0) (parameters_declared (tokens_from text at))
parameters_stop {text} {at} {names} {here} {count} d w t h e =
    let g = rw e at h in
    let z : parameters_declared (tokens_from text at) ≡ got t.found (tokens_from text here) =
    t.whole ∙ many_over (λ c. eqb c param_word) parameter_of with_parameter refl leaves_parameter t.found (length (tokens_from text here)) (names_held text names count) (tokens_from text here)
    (ne_eqb (sign_at (tokens_from text here)) param_word g.0) in
    rw z (record { onward = refl; counted = t.counted; few = t.few; named = t.named; nothing_written = refl })

-- what was read of one
fault_in_law : (text : List ℕ) (w : Fault) (x : Phrased Parameter) → ParameterRead text (Err w) x → FaultTold x w
fault_in_law text w (bad k p) h = record { kind = k; place = p; turned = refl; told = h }
fault_in_law text w (got x us) h = absurd h

record ParameterGot (text : List ℕ) (q to : ℕ) (x : Phrased Parameter) : Type 0 where
  pub value : Option TextConstant
  pub read : x ≡ got (parameter (name_at text q) value) (tokens_from text to)

got_in : (text : List ℕ) (q v to : ℕ) (x : Phrased Parameter) → ParameterRead text (found q v to) x → ParameterGot text q to x
got_in text q v to (bad k p) h = absurd h
got_in text q v to (got (parameter s d) us) h = record { value = d; read = rw (h.0, h.1) }

-- one that is read had room
room_left : (ns : List (List ℕ)) (ts us : List SheetToken) (x : Parameter) → parameter_of ns ts ≡ got x us → length ns < 8
unfolding parameter_of
room_left ns ts us x e =
    split (leb 8 (length ns))
    (λ b. let f = rw b at e in let z : ◌≡◌ {A = ℕ} 0 1 = cc in absurd (omega arith))
    (λ b. omega (arith, leb-false 8 (length ns) b))

pub parameters_fault : {text : List ℕ} {at : ℕ} {names : List ℕ} {here count : ℕ} (d r : Due) (p v after : ℕ) (w : Fault) → ParameterTurn text at names here count → SignTold text here param_word d
    → d ≡ found p v after → ParameterRead text r (parameter_of (names_held text names count) (sign p param_word ∷ tokens_from text after)) → r ≡ Err w
    → ParametersRead text names (Err w) (parameters_declared (tokens_from text at))
parameters_fault {text} {at} {names} {here} {count} d r p v after w t h e g f =
    let x = rw e at h in
    let y = fault_in_law text w (parameter_of (names_held text names count) (sign p param_word ∷ tokens_from text after)) (rw f at g) in
    let z : parameters_declared (tokens_from text at) ≡ bad y.kind y.place =
    t.whole ∙ many_faults (λ c. eqb c param_word) parameter_of with_parameter refl leaves_parameter t.found (names_held text names count) (tokens_from text here) y.kind y.place
    (rw x) (rw x y.turned) in
    rw z y.told

-- one takes bytes of the text
pub parameters_onward : {text : List ℕ} {at : ℕ} {names : List ℕ} {here count : ℕ} (d r : Due) (p v after q u to : ℕ) → ParameterTurn text at names here count
    → DueWithin (length text) here d → d ≡ found p v after → ParameterWithin (length text) after r → r ≡ found q u to → (here < to) × (to ≤ length text)
parameters_onward d r p v after q u to t h e g f =
    let x = rw e at h in
    let y = rw f at g in
    (omega arith, omega arith)

pub parameters_turn : {text : List ℕ} {at : ℕ} {names : List ℕ} {here count : ℕ} (d r : Due) (p v after q u to : ℕ) → ParameterTurn text at names here count → SignTold text here param_word d
    → d ≡ found p v after → ParameterRead text r (parameter_of (names_held text names count) (sign p param_word ∷ tokens_from text after)) → r ≡ found q u to → (here < to) × (to ≤ length text)
    → ParameterTurn text at (set names count q) to (count + 1)
parameters_turn {text} {at} {names} {here} {count} d r p v after q u to t h e g f b =
    let x = rw e at h in
    let y = got_in text q u to (parameter_of (names_held text names count) (sign p param_word ∷ tokens_from text after)) (rw f at g) in
    let l = room_left (names_held text names count) (sign p param_word ∷ tokens_from text after) (tokens_from text to) (parameter (name_at text q) y.value) y.read in
    let c : count < length names = omega (arith, t.few, t.kept) in
    record {
      found = t.found ++ (parameter (name_at text q) y.value ∷ []);
      whole =
          t.whole
          ∙ many_turn (λ c. eqb c param_word) parameter_of with_parameter refl leaves_parameter t.found (names_held text names count) (tokens_from text here)
          (parameter (name_at text q) y.value) (tokens_from text to) (rw x) (rw x y.read)
          ∙ rw (held_more text names count q c);
      counted = rw length-append (omega (arith, t.counted));
      few = omega (arith, held_count text names count);
      named = named_more text names count q c ∙ rw t.named (sym (map-append name_of_parameter t.found (parameter (name_at text q) y.value ∷ [])));
      onward = omega (arith, t.onward);
      within = b.1;
      kept = rw length-set t.kept;
    }
