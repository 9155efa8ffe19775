-- What a formula's loop keeps, and its start, turns and ends: the operand so far stands in `after_operand` (`Midway`).
use Rattle.std.specs.Prelude.{Option, Ok, Err}
use Rattle.source_coding.specs.declared.faults.Fault.{Fault}
use Rattle.lib_base.proofs.Prelude.{ℕ, ◌≤◌, ◌<◌, ◌-◌, suc, zero, ◌*◌, ◌≡◌, refl, ◌∙◌, sym, ap, ◌≢◌, List, length}
use Rattle.lib_base.proofs.Prelude.{ne_eqb, arith}
use Rattle.source_language.specs.Tokens.{SheetToken, opening}
use Rattle.source_language.specs.Text.{Phrase, operation}
use Rattle.source_language.specs.Meaning.{NameMeaning}
use Rattle.source_language.specs.Reader.{Phrased, bad, got, then_phrase, sign_at, after_operand, read_primary, from_operand, phrase_within}
use Rattle.source_coding.specs.Places.{tokens_from}
use Rattle.source_field.specs.Formula.{Read, formula_done, FormulaWritten, FormulaRead, FormulaWithin, FewerLeft, PartRead}
use Rattle.source_field.specs.Fields.{applied_by, headed_in, Headable}
use Rattle.source_field.specs.declared.Formula.{Formula}
use Rattle.source_field.proofs.Parts.{operation_written}
use Rattle.source_onward.specs.Onward.{OnwardDue, BracketsOpened, OnwardRead}
use Rattle.source_onward.specs.declared.Onward.TheVariants as N

-- ---- the loop's measure: the bytes after a reading

abbrev pub bytes_left : ℕ → Read → ℕ
bytes_left long (Err w) = 0
bytes_left long (Ok f) = long - f.next

closed_left : (long room to next end depth : ℕ) (w : Option Fault) (q : Read) → (to < next) × (next ≤ long) → FormulaWithin long room next end q → bytes_left long (applied_by depth w q) < long - to
closed_left long room to next end depth w (Err v) h b = omega arith
closed_left long room to next end depth w (Ok g) h b = omega arith

-- ---- the state

pub record Midway (text : List ℕ) (find : List ℕ → NameMeaning) (c room l n : ℕ) (o p : List ℕ) (opened to depth end : ℕ) (w : Option Fault) (g : Phrased Phrase) : Type 0 where
  pub expr : Phrase
  pub left : ℕ
  pub enough : length (tokens_from text to) ≤ left
  pub is : g ≡ after_operand (phrase_within (room - 1)) room l left opened expr (tokens_from text to)
  pub written : FormulaWritten text find c n o p to depth end w expr (tokens_from text to)

abbrev pub Chained : List ℕ → (List ℕ → NameMeaning) → ℕ → ℕ → ℕ → ℕ → List ℕ → List ℕ → ℕ → Read → Phrased Phrase → Type 0
Chained text find c room l n o p opened (Err w) g = FormulaRead text find c n o p (Err w) g
Chained text find c room l n o p opened (Ok f) g = Midway text find c room l n o p opened f.next f.depth f.end f.stray g

pub record Turn (text : List ℕ) (find : List ℕ → NameMeaning) (c room l at n : ℕ) (o p : List ℕ) (opened : ℕ) (r : Read) : Type 0 where
  pub whole : Chained text find c room l n o p opened r (phrase_within room l (tokens_from text at))
  pub inside : FormulaWithin (length text) room at n r
  pub fewer : FewerLeft text at r
  pub kept : length p ≡ length o

onto : {text : List ℕ} {find : List ℕ → NameMeaning} {c n : ℕ} {o p : List ℕ} {to depth end : ℕ} {w : Option Fault} {e : Phrase} {us : List SheetToken} (next : ℕ)
    → FormulaWritten text find c n o p to depth end w e us → FormulaWritten text find c n o p next depth end w e (tokens_from text next)
onto next f = record { onward = refl; nests = f.nests; size = f.size; names = f.names; bytes = f.bytes }

-- ---- its start

phrase_as_law : (room l : ℕ) (ts : List SheetToken) → 0 < room → phrase_within room l ts ≡ from_operand (phrase_within (room - 1)) room l (length ts) 0 ts
unfolding phrase_within
phrase_as_law zero l ts h = absurd (omega arith)
phrase_as_law (suc room) l ts h = let z : suc room - 1 ≡ room = omega arith in rw z

operand_as : (next : ℕ → List SheetToken → Phrased Phrase) (room l m k : ℕ) (ts : List SheetToken) → 0 < m → sign_at ts ≢ opening
    → from_operand next room l m k ts ≡ then_phrase (read_primary next room ts) (λ a us. after_operand next room l (m - 1) k a us)
unfolding from_operand
operand_as next room l zero k ts h g = absurd (omega arith)
operand_as next room l (suc m) k ts h g = let z : suc m - 1 ≡ m = omega arith in rw (z, ne_eqb (sign_at ts) opening g)

module _ (text : List ℕ) (find : List ℕ → NameMeaning) (c room l at n : ℕ) (o p : List ℕ) (first opened : ℕ) (some : 0 < room) (b : BracketsOpened text at first opened) where
  up : phrase_within room l (tokens_from text at)
      ≡ then_phrase (read_primary (phrase_within (room - 1)) room (tokens_from text first)) (λ a us. after_operand (phrase_within (room - 1)) room l (length (tokens_from text first) - 1) opened a us)
  up =
      phrase_as_law room l (tokens_from text at) some
      ∙ ap (λ (m : ℕ). from_operand (phrase_within (room - 1)) room l m 0 (tokens_from text at)) (sym b.counted)
      ∙ b.whole (phrase_within (room - 1)) room l (length (tokens_from text first))
      ∙ operand_as (phrase_within (room - 1)) room l (length (tokens_from text first)) opened (tokens_from text first) b.some b.other

  begun : (r : Read) (g : Phrased Phrase) → read_primary (phrase_within (room - 1)) room (tokens_from text first) ≡ g → FormulaRead text find c n o p r g → FewerLeft text first r
      → Chained text find c room l n o p opened r (phrase_within room l (tokens_from text at))
  begun (Err w) (bad k q) e a f = let z : phrase_within room l (tokens_from text at) ≡ bad k q = up ∙ rw e in rw z a
  begun (Err w) (got x us) e a f = absurd a
  begun (Ok y) (bad k q) e a f = absurd a
  begun (Ok y) (got x us) e a f =
      record {
        expr = x;
        left = length (tokens_from text first) - 1;
        enough = omega arith;
        is = up ∙ rw (e, a.onward);
        written = onto y.next a;
      }

  started : (r : Read) → FormulaWithin (length text) room first n r → FormulaWithin (length text) room at n r
  started (Err w) h = tt
  started (Ok f) h = omega (arith, b.from)

  fewer_from : (r : Read) → FewerLeft text first r → FewerLeft text at r
  fewer_from (Err w) h = tt
  fewer_from (Ok f) h = omega (arith, b.counted)

  pub turn_start : (r : Read) → PartRead text find c room first n o p r (read_primary (phrase_within (room - 1)) room (tokens_from text first)) → Turn text find c room l at n o p opened r
  turn_start r h =
      record {
        whole = begun r (read_primary (phrase_within (room - 1)) room (tokens_from text first)) refl h.reads h.fewer;
        inside = started r h.within;
        fewer = fewer_from r h.fewer;
        kept = h.kept;
      }

  pub turn_begun : (r : Read) (f : Formula) → r ≡ Ok f → PartRead text find c room first n o p r (read_primary (phrase_within (room - 1)) room (tokens_from text first))
      → Turn text find c room l at n o p opened (Ok f)
  turn_begun r f e h = rw e at (turn_start r h)

-- ---- its ends

module _ (text : List ℕ) (find : List ℕ → NameMeaning) (c room l at n : ℕ) (o p : List ℕ) (opened : ℕ) (r : Read) (t : Turn text find c room l at n o p opened r) where
  pub turn_fault : (w : Fault) → r ≡ Err w → PartRead text find c room at n o p (Err w) (phrase_within room l (tokens_from text at))
  turn_fault w q = record { reads = rw q at t.whole; within = tt; fewer = tt; kept = t.kept }

  module _ (to depth end : ℕ) (w : Option Fault) (is : r ≡ formula_done to depth end w) (some : 0 < length (tokens_from text to)) where
    midway : Midway text find c room l n o p opened to depth end w (phrase_within room l (tokens_from text at))
    midway = rw is at t.whole

    -- the bound is above 0
    goes : (m : ℕ) → length (tokens_from text to) ≤ m → m ≡ suc (m - 1)
    goes m h = omega arith

    further : phrase_within room l (tokens_from text at) ≡ after_operand (phrase_within (room - 1)) room l (suc (midway.left - 1)) opened midway.expr (tokens_from text to)
    further =
        midway.is
        ∙ ap (λ (m : ℕ). after_operand (phrase_within (room - 1)) room l m opened midway.expr (tokens_from text to)) (goes midway.left midway.enough)

    inside_of : FormulaWithin (length text) room at n (formula_done to depth end w)
    inside_of = rw is at t.inside

    fewer_of : FewerLeft text at (formula_done to depth end w)
    fewer_of = rw is at t.fewer

    pub turn_end : (y : OnwardDue) → y ≡ (Ok N.Ended) → OnwardRead text to l opened depth room y → PartRead text find c room at n o p (formula_done to depth end w) (phrase_within room l (tokens_from text at))
    turn_end y e told =
        let h : OnwardRead text to l opened depth room (Ok N.Ended) = rw e at told in
        let z : phrase_within room l (tokens_from text at) ≡ got midway.expr (tokens_from text to) = further ∙ h (phrase_within (room - 1)) (midway.left - 1) midway.expr in
        record { reads = rw z midway.written; within = inside_of; fewer = fewer_of; kept = t.kept }

    pub turn_stop : (v : Fault) (y : OnwardDue) → y ≡ Err v → OnwardRead text to l opened depth room y → PartRead text find c room at n o p (Err v) (phrase_within room l (tokens_from text at))
    turn_stop v y e told =
        let h : OnwardRead text to l opened depth room (Err v) = rw e at told in
        let f = h (phrase_within (room - 1)) (midway.left - 1) midway.expr (sym midway.written.nests) in
        let z : phrase_within room l (tokens_from text at) ≡ bad f.kind f.place = further ∙ f.turned in
        record { reads = rw z f.told; within = tt; fewer = tt; kept = t.kept }

    -- ---- a bracket closes

    pub closing_on : (next : ℕ) (y : OnwardDue) → y ≡ Ok (N.Closed next) → OnwardRead text to l opened depth room y → (0 < opened) × (to < next) × (next ≤ length text)
    closing_on next y e told =
        let h : OnwardRead text to l opened depth room (Ok (N.Closed next)) = rw e at told in
        let b = h.2 in
        omega (arith, h.1)

    pub turn_closed : (next : ℕ) (y : OnwardDue) → y ≡ Ok (N.Closed next) → OnwardRead text to l opened depth room y → Turn text find c room l at n o p (opened - 1) (formula_done next depth end w)
    turn_closed next y e told =
        let h : OnwardRead text to l opened depth room (Ok (N.Closed next)) = rw e at told in
        let i = inside_of in
        let f = fewer_of in
        let b = h.2 in
        record {
          whole = record {
            expr = midway.expr;
            left = midway.left - 1;
            enough = omega (arith, midway.enough);
            is = further ∙ h.0 (phrase_within (room - 1)) (midway.left - 1) midway.expr;
            written = onto next midway.written;
          };
          inside = omega arith;
          fewer = omega arith;
          kept = t.kept;
        }

    -- ---- an operator and its right operand

    module _ (f s next : ℕ) (y₀ : OnwardDue) (found : y₀ ≡ Ok (N.Operator f s next)) (told : OnwardRead text to l opened depth room y₀) where
      h : OnwardRead text to l opened depth room (Ok (N.Operator f s next))
      h = rw found at told

      pub operand_room : n ≤ at * 16 → room ≤ 16 → (to < next) × (next ≤ length text) × (end ≤ next * 16) × (s ≤ 6) × (0 < room - 1) × (room - 1 ≤ 16)
      operand_room g k = let i = inside_of in let b = h.3 in omega (arith, h.1, h.2)

      module _ (q : Read) (p₁ : List ℕ) (x : PartRead text find c (room - 1) next end p p₁ q (phrase_within (room - 1) s (tokens_from text next))) where
        headable : (y : Read) → FormulaWithin (length text) (room - 1) next end y → n ≤ at * 16 → room ≤ 16 → length text ≤ 65536 → Headable n depth y
        headable (Err v) e g k m = tt
        headable (Ok z₂) e g k m = let i = inside_of in let b = h.3 in omega (arith, h.2)

        pub operand_headable : n ≤ at * 16 → room ≤ 16 → length text ≤ 65536 → Headable n depth q
        operand_headable = headable q x.within

        chained : (y : Read) (g : Phrased Phrase) → phrase_within (room - 1) s (tokens_from text next) ≡ g → FormulaRead text find c end p p₁ y g → FewerLeft text next y
            → Chained text find c room l n o (headed_in f n y p₁) opened (applied_by depth w y) (phrase_within room l (tokens_from text at))
        chained (Err v) (bad k z) e a d =
            let y : phrase_within room l (tokens_from text at) ≡ bad k z =
            further ∙ h.0 (phrase_within (room - 1)) (midway.left - 1) midway.expr (sym midway.written.nests) ∙ rw e in
            rw y a
        chained (Err v) (got b us) e a d = absurd a
        chained (Ok z₂) (bad k z) e a d = absurd a
        chained (Ok z₂) (got b us) e a d =
            let i = h.3 in
            record {
              expr = operation f midway.expr b;
              left = midway.left - 1;
              enough = omega (arith, midway.enough);
              is = further ∙ h.0 (phrase_within (room - 1)) (midway.left - 1) midway.expr (sym midway.written.nests) ∙ rw (e, a.onward);
              written = onto z₂.next (operation_written f t.kept x.kept midway.written a);
            }

        within_two : (y : Read) → FormulaWithin (length text) (room - 1) next end y → FormulaWithin (length text) room at n (applied_by depth w y)
        within_two (Err v) e = tt
        within_two (Ok z₂) e = let i = inside_of in let b = h.3 in omega (arith, h.2)

        fewer_two : (y : Read) → FewerLeft text next y → FewerLeft text at (applied_by depth w y)
        fewer_two (Err v) e = tt
        fewer_two (Ok z₂) e = let i = fewer_of in let b = h.3 in omega arith

        pub operator_less : (d : ℕ) (v : Option Fault) (r₂ : Read) → r₂ ≡ applied_by d v q → bytes_left (length text) r₂ < bytes_left (length text) r
        operator_less d v r₂ e = let b = h.3 in rw (is, e) (closed_left (length text) (room - 1) to next end d v q (b.0, b.1) x.within)

        pub turn_operator : (r₂ : Read) (p₂ : List ℕ) → r₂ ≡ applied_by depth w q → p₂ ≡ headed_in f n q p₁ → length p₂ ≡ length p₁ → Turn text find c room l at n o p₂ opened r₂
        turn_operator r₂ p₂ e d k =
            record {
              whole = rw (e, d) (chained q (phrase_within (room - 1) s (tokens_from text next)) refl x.reads x.fewer);
              inside = rw e (within_two q x.within);
              fewer = rw e (fewer_two q x.fewer);
              kept = k ∙ x.kept ∙ t.kept;
            }
