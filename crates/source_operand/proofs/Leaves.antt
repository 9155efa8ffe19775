-- Constants, names and cells: what is due there makes up what the definition reads (`read_constant`, `cell_of`), and a
-- field of no parts is `FormulaWritten`.
use Rattle.std.specs.Prelude.{Ok, Err, None}
use Rattle.source_coding.specs.declared.faults.Fault.{Fault}
use Rattle.lib_base.proofs.Prelude.{ℕ, ◌≤◌, ◌<◌, ◌+◌, suc, ◌≡◌, refl, ◌∙◌, sym, ap, ◌≢◌, List, ◌∷◌, length, get_or, []}
use Rattle.lib_base.proofs.Prelude.{eqb, ltb, ne_eqb, arith}
use Rattle.lib_base.proofs.Tools.{by_test, by_two}
use Rattle.spec_language.specs.Sheet.{Term}
use Rattle.spec_language.specs.Grammar.{field, word, encode_expr}
use Rattle.sheet_write.specs.Writes.{fitted}
use Rattle.source_language.specs.Tokens.{SheetToken, number, name, sign, bracket, unbracket}
use Rattle.source_language.specs.Text.{TextConstant, plus, minus, Phrase, constant, named, cell}
use Rattle.source_language.specs.Faults.{Kind, outside, OrFault, fault, fine}
use Rattle.source_language.specs.Limits.{largest, phrase_nesting}
use Rattle.source_language.specs.Meaning.{NameMeaning, name_term, cell_term, term_of}
use Rattle.source_language.specs.Reader.{Phrased, bad, got, then_phrase, place_at, sign_at, tokens_after, past_sign, number_due, value_of, cell_of, read_constant}
use Rattle.source_coding.specs.Places.{tokens_from, name_at}
use Rattle.source_coding.specs.Sizes.{phrase_size}
use Rattle.source_tokens.specs.Token.{TokenAt, TokenWithin, PassedOver}
use Rattle.source_tokens.specs.declared.Token.{Token}
use Rattle.source_tokens.specs.declared.Token.TheVariants.{Number, Name, Sign}
use Rattle.source_tokens.proofs.Opened.{bracket_by_byte}
use Rattle.source_due.specs.Due.{Due, found, SignTold, NumberTold, ValueTold, DueWithin}
use Rattle.source_due.proofs.Passes.{sign_passes, sign_fails, number_passes}
use Rattle.source_field.specs.Formula.{Read, formula_done, FormulaRead, FormulaWithin, FewerLeft, PartRead}
use Rattle.source_field.proofs.Laid.{laid_leaf, laid_fault, encoded_of}
use Rattle.source_field.proofs.Parts.{laid_written}
use Rattle.source_operand.specs.Operand.{LeafDue, LeafAs, leaf_done, leaf_placed, cell_number, CellDue, BracketTold, NoMoreLeft, plain_of, PlaceWithin, SettledRead}
use Rattle.source_language.proofs.Parses.{after_shorter}

-- ---- a cell's number

past_then : {A B : Type 0} (c : ℕ) (f : List SheetToken → Phrased A) (g : A → List SheetToken → Phrased B) (ts : List SheetToken)
    → past_sign c (λ us. then_phrase (f us) g) ts ≡ then_phrase (past_sign c f ts) g
unfolding past_sign
past_then c f g ts = by_two (λ (x : Phrased _) (y : Phrased _). x ≡ then_phrase y g) (eqb (sign_at ts) c) (λ t. refl) (λ t. refl)

pub cell_unclosed : (text : List ℕ) (at p v next : ℕ) (w : Fault) (r q : Due) → NumberTold text at largest r → r ≡ found p v next → SignTold text next unbracket q → q ≡ Err w → CellDue text at (Err w)
cell_unclosed text at p v next w r q h e g d =
    let s = rw d at g in
    record {
      kind = outside;
      place = place_at (tokens_from text next);
      turned = number_passes text at largest _ p v next (rw e at h) ∙ sign_fails text next unbracket _ w s;
      told = s.1;
    }

pub cell_numbered : (text : List ℕ) (at p v next s c to : ℕ) (r q : Due) → NumberTold text at largest r → r ≡ found p v next → SignTold text next unbracket q → q ≡ found s c to
    → CellDue text at (found p v to)
cell_numbered text at p v next s c to r q h e g d =
    let n = rw e at h in
    let z = rw d at g in (
      number_passes text at largest _ p v next n ∙ sign_passes text next unbracket _ s c to z,
      rw (n.0, z) (omega arith),
    )

-- ---- a name or a cell

named_as : (p : ℕ) (s : List ℕ) (ts : List SheetToken) → sign_at ts ≢ bracket → cell_of p s ts ≡ got (named p s) ts
unfolding cell_of
named_as p s ts h = rw (ne_eqb (sign_at ts) bracket h)

cell_then : (p : ℕ) (s : List ℕ) (q : ℕ) (us : List SheetToken)
    → number_due largest (λ r n vs. past_sign unbracket (λ ws. got (cell p s q n) ws) vs) us ≡ then_phrase (cell_number us) (λ k vs. got (cell p s q k) vs)
cell_then p s q [] = refl
cell_then p s q (number r n ∷ ts) =
    by_two (λ (x : Phrased Phrase) (y : Phrased ℕ). x ≡ then_phrase y (λ k vs. got (cell p s q k) vs)) (ltb largest n)
    (λ t. refl) (λ t. past_then unbracket (λ ws. got n ws) (λ k vs. got (cell p s q k) vs) ts)
cell_then p s q (name r t ∷ ts) = refl
cell_then p s q (sign r c ∷ ts) = refl

cell_as : (p : ℕ) (s : List ℕ) (q : ℕ) (ts us : List SheetToken) → ts ≡ sign q bracket ∷ us → cell_of p s ts ≡ then_phrase (cell_number us) (λ k vs. got (cell p s q k) vs)
unfolding cell_of
cell_as p s q ts us e = rw e (cell_then p s q us)

-- a field of four bytes, or a name's fault
leaf_read_law : (text : List ℕ) (find : List ℕ → NameMeaning) (c n : ℕ) (o : List ℕ) (to : ℕ) (e : Phrase) (us : List SheetToken) (leaf : LeafDue) (x : OrFault Term) → term_of find c e ≡ x → LeafAs leaf x
    → phrase_size e ≡ 4 → phrase_nesting e ≡ 1 → us ≡ tokens_from text to → FormulaRead text find c n o (leaf_placed n leaf o) (leaf_done to n leaf) (got e us)
leaf_read_law text find c n o to e us (Ok l) (fault k p) t h s d u = absurd h
leaf_read_law text find c n o to e us (Ok l) (fine x) t h s d u =
    laid_written (fine (field l.tag (l.number ∷ []))) u (sym d) (sym s) (rw t (ap fine h.0)) (laid_leaf n (field l.tag (l.number ∷ [])) o)
leaf_read_law text find c n o to e us (Err w) (fault k p) t h s d u =
    laid_written (fault k p) u (sym d) (sym s) (rw t) (rw h (laid_fault n 4 o k p))
leaf_read_law text find c n o to e us (Err w) (fine x) t h s d u = absurd h

leaf_within : (long p n to : ℕ) (leaf : LeafDue) → p < to → to ≤ long → FormulaWithin long 1 p n (leaf_done to n leaf)
leaf_within long p n to (Ok l) h g = omega arith
leaf_within long p n to (Err w) h g = omega arith

leaf_left : (text : List ℕ) (at n to : ℕ) (leaf : LeafDue) → length (tokens_from text to) ≤ length (tokens_from text at) → NoMoreLeft text at (leaf_done to n leaf)
leaf_left text at n to (Ok l) h = h
leaf_left text at n to (Err w) h = h

-- what a name's reading promises, after its length is kept
abbrev pub NameRead : List ℕ → (List ℕ → NameMeaning) → ℕ → ℕ → ℕ → ℕ → List ℕ → List ℕ → Read → Phrased Phrase → Type 0
NameRead text find c p next n o o₂ r g = FormulaRead text find c n o o₂ r g × (FormulaWithin (length text) 1 p n r × NoMoreLeft text next r)

module _ (text : List ℕ) (find : List ℕ → NameMeaning) (c p next n : ℕ) (s o : List ℕ) (bounds : (p < next) × (next ≤ length text)) where
  pub name_read : (w : Fault) (q : Due) (leaf : LeafDue) (r : Read) (o₂ : List ℕ) → BracketTold text next q → q ≡ Err w → LeafAs leaf (name_term p (find s)) → r ≡ leaf_done next n leaf
      → o₂ ≡ leaf_placed n leaf o → NameRead text find c p next n o o₂ r (cell_of p s (tokens_from text next))
  unfolding term_of phrase_size phrase_nesting
  name_read w q leaf r o₂ d e h f g =
      let z = rw e at d in
      rw (f, g, named_as p s (tokens_from text next) z) (
        leaf_read_law text find c n o next (named p s) (tokens_from text next) leaf (name_term p (find s)) refl h refl refl refl,
        (leaf_within (length text) p n next leaf bounds.0 bounds.1, leaf_left text next n next leaf (omega arith)),
      )

  module _ (q b inside : ℕ) (d : Due) (due : BracketTold text next d) (is : d ≡ found q b inside) where
    opened : tokens_from text next ≡ sign q bracket ∷ tokens_from text inside
    opened = rw is at due

    pub cell_misread : (w : Fault) (x : Due) → CellDue text inside x → x ≡ Err w → NameRead text find c p next n o o (Err w) (cell_of p s (tokens_from text next))
    cell_misread w x h e =
        let f = rw e at h in
        rw (cell_as p s q (tokens_from text next) (tokens_from text inside) opened, f.turned) (f.told, (tt, tt))

    pub cell_read : (j k to : ℕ) (x : Due) (leaf : LeafDue) (r : Read) (o₂ : List ℕ) → CellDue text inside x → x ≡ found j k to → (next ≤ inside) × (inside < to) × (to ≤ length text)
        → LeafAs leaf (cell_term c p q k (find s)) → r ≡ leaf_done to n leaf → o₂ ≡ leaf_placed n leaf o → NameRead text find c p next n o o₂ r (cell_of p s (tokens_from text next))
    unfolding term_of phrase_size phrase_nesting
    cell_read j k to x leaf r o₂ h e b l f g =
        let z = rw e at h in
        let m : length (tokens_from text next) ≡ suc (length (tokens_from text inside)) = ap length opened in
        rw (f, g, cell_as p s q (tokens_from text next) (tokens_from text inside) opened, z.0) (
          leaf_read_law text find c n o to (cell p s q k) (tokens_from text to) leaf (cell_term c p q k (find s)) refl l refl refl refl,
          (leaf_within (length text) p n to leaf (omega arith) (omega arith), leaf_left text next n to leaf (omega arith)),
        )

-- ---- `[`

module _ (text : List ℕ) (at p : ℕ) (o : PassedOver text at p) where
  pub bracket_none : (w : Fault) → (get_or text p 0 ≡ 91 → ⊥) → BracketTold text at (Err w)
  bracket_none w h = bracket_by_byte text at p o h

-- ---- constants

number_falls : {A : Type 0} (top : ℕ) (f : ℕ → A) (x : A) (ts us : List SheetToken) → number_due top (λ p n vs. got (f n) vs) ts ≡ got x us → length us < length ts
number_falls top f x [] us = λ e. let z : ◌≡◌ {A = ℕ} 0 1 = cc in absurd (omega arith)
number_falls top f x (number p n ∷ ts) us =
    by_test (λ (y : Phrased _). y ≡ got x us → length us < suc (length ts)) (ltb top n) (λ t e. let z : ◌≡◌ {A = ℕ} 0 1 = cc in absurd (omega arith))
    (λ t e. let q : ts ≡ us = cc in rw q (omega arith))
number_falls top f x (name p s ∷ ts) us = λ e. let z : ◌≡◌ {A = ℕ} 0 1 = cc in absurd (omega arith)
number_falls top f x (sign p c ∷ ts) us = λ e. let z : ◌≡◌ {A = ℕ} 0 1 = cc in absurd (omega arith)

value_falls : (x : TextConstant) (ts us : List SheetToken) → value_of ts ≡ got x us → length us < length ts
unfolding value_of
value_falls x ts us =
    by_test (λ (y : Phrased TextConstant). y ≡ got x us → length us < length ts) (eqb (sign_at ts) 5)
    (λ t e. let h = after_shorter ts in let g = number_falls (suc largest) minus x (tokens_after ts) us e in omega arith) (λ t e. number_falls largest plus x ts us e)

constant_as : (ts us : List SheetToken) (x : TextConstant) → value_of ts ≡ got x us → read_constant ts ≡ got (constant x) us
unfolding read_constant
constant_as ts us x e = rw e

constant_none : (ts : List SheetToken) (k : Kind) (p : ℕ) → value_of ts ≡ bad k p → read_constant ts ≡ bad k p
unfolding read_constant
constant_none ts k p e = rw e

abbrev pub ConstantRead : List ℕ → ℕ → ℕ → List ℕ → List ℕ → Read → Type 0
ConstantRead text at n o o₂ r =
    ((find : List ℕ → NameMeaning) (c : ℕ) → FormulaRead text find c n o o₂ r (read_constant (tokens_from text at)))
    × (FormulaWithin (length text) 1 at n r × FewerLeft text at r)

pub constant_misread : (text : List ℕ) (at n : ℕ) (w : Fault) (o : List ℕ) (x : Due) → ValueTold text at x → x ≡ Err w → ConstantRead text at n o o (Err w)
constant_misread text at n w o x h e =
    let f = rw e at h in
    (λ find c. rw (constant_none (tokens_from text at) f.kind f.place f.turned) f.told, (tt, tt))

pub constant_read : (text : List ℕ) (at n p w next : ℕ) (o o₂ : List ℕ) (x : Due) → ValueTold text at x → x ≡ found p w next → DueWithin (length text) at x
    → o₂ ≡ fitted o n (field 16 (word w)) → ConstantRead text at n o o₂ (formula_done next 1 (n + 7) None)
unfolding term_of phrase_size phrase_nesting encode_expr
constant_read text at n p w next o o₂ x h e b g =
    let f = rw e at h in
    let d = rw e at b in
    let v : List ℕ = field 16 (word w) in (
      λ find c.
          let z : encoded_of find c (constant f.constant) ≡ fine v = rw f.written refl in
          rw (constant_as (tokens_from text at) (tokens_from text next) f.constant f.read, g)
          (laid_written (fine v) refl refl refl z (laid_leaf n v o)),
      (omega arith, value_falls f.constant (tokens_from text at) (tokens_from text next) f.read),
    )

-- ---- each kind of operand

module _ (text : List ℕ) (find : List ℕ → NameMeaning) (c at n : ℕ) (o o₂ : List ℕ) (r : Read) (long : length o₂ ≡ length o) where
  constant_part : plain_of (tokens_from text at) ≡ read_constant (tokens_from text at) → ConstantRead text at n o o₂ r → PartRead text find c 1 at n o o₂ r (plain_of (tokens_from text at))
  constant_part e h = rw e record { reads = h.0 find c; within = h.1.0; fewer = h.1.1; kept = long }

  pub number_part : (p v next : ℕ) (t : Token) → TokenAt text at t → t ≡ Number p v next → ConstantRead text at n o o₂ r → PartRead text find c 1 at n o o₂ r (plain_of (tokens_from text at))
  number_part p v next t h e = constant_part (let z = rw e at h in rw z.1)

  pub sign_part : (p s next : ℕ) (t : Token) → TokenAt text at t → t ≡ Sign p s next → ConstantRead text at n o o₂ r → PartRead text find c 1 at n o o₂ r (plain_of (tokens_from text at))
  sign_part p s next t h e = constant_part (let z = rw e at h in rw z)

  within_earlier : (p : ℕ) (q : Read) → at ≤ p → FormulaWithin (length text) 1 p n q → FormulaWithin (length text) 1 at n q
  within_earlier p (Err w) h g = tt
  within_earlier p (Ok f) h g = omega arith

  fewer_left : (next : ℕ) (q : Read) → length (tokens_from text at) ≡ suc (length (tokens_from text next)) → NoMoreLeft text next q → FewerLeft text at q
  fewer_left next (Err w) h g = tt
  fewer_left next (Ok f) h g = omega arith

  pub name_part : (p next : ℕ) (t : Token) → TokenAt text at t → TokenWithin (length text) at t → t ≡ Name p next → NameRead text find c p next n o o₂ r (cell_of p (name_at text p) (tokens_from text next))
      → PartRead text find c 1 at n o o₂ r (plain_of (tokens_from text at))
  name_part p next t h b e f =
      let z = rw e at h in
      let d = rw e at b in
      let q : plain_of (tokens_from text at) ≡ cell_of p (name_at text p) (tokens_from text next) = rw z in
      rw q record { reads = f.0; within = within_earlier p r d.0 f.1.0; fewer = fewer_left next r (ap length z) f.1.1; kept = long }

-- ---- up to the token behind it

pub read_within : (long room at n : ℕ) (r : Read) → FormulaWithin long room at n r → PlaceWithin long r
read_within long room at n (Err w) h = tt
read_within long room at n (Ok f) h = h.1

module _ (text : List ℕ) (find : List ℕ → NameMeaning) (c room at n : ℕ) (o p : List ℕ) where
  settled-reads : (r q : Read) (g : Phrased Phrase) → FormulaRead text find c n o p r g → SettledRead text r q → FormulaRead text find c n o p q g
  settled-reads (Err w) q g h e = rw e h
  settled-reads (Ok f) q (bad k j) h e = absurd h
  settled-reads (Ok f) q (got x us) h (next, e, b) =
      rw e record { onward = h.onward ∙ b.all; nests = h.nests; size = h.size; names = h.names; bytes = h.bytes }

  settled_within : (r q : Read) → FormulaWithin (length text) room at n r → SettledRead text r q → FormulaWithin (length text) room at n q
  settled_within (Err w) q h e = rw e tt
  settled_within (Ok f) q h (next, e, b) = rw e (omega (arith, b.onward, b.within))

  settled_fewer : (r q : Read) → FewerLeft text at r → SettledRead text r q → FewerLeft text at q
  settled_fewer (Err w) q h e = rw e tt
  settled_fewer (Ok f) q h (next, e, b) = rw (e, ← b.all) h

  pub settled_part : (r q : Read) (g : Phrased Phrase) → PartRead text find c room at n o p r g → SettledRead text r q → PartRead text find c room at n o p q g
  settled_part r q g h e =
      record { reads = settled-reads r q g h.reads e; within = settled_within r q h.within e; fewer = settled_fewer r q h.fewer e; kept = h.kept }
