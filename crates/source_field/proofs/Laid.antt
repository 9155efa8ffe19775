-- Fields laid one after another, and a head before them: each is its bytes or the first fault of its names (`Laid`),
-- and a formula's parts make up what the definition says of the whole (`encoded_of`).
use Rattle.std.specs.Prelude.{Option, None, Some}
use Rattle.source_coding.specs.declared.faults.Fault.{Fault}
use Rattle.lib_base.proofs.Prelude.{ℕ, ◌≤◌, ◌+◌, ◌≡◌, refl, ◌∙◌, sym, ap, ◌&&◌, List, ◌∷◌, ◌++◌, append_assoc, length}
use Rattle.lib_base.proofs.Prelude.{take, length-append, eqb, ltb, arith}
use Rattle.lib_base.proofs.Tools.{by_test}
use Rattle.lib_signature.specs.Numbers.{not_fn, if_fn}
use Rattle.spec_language.specs.Sheet.{Term, apply1, apply2, apply3}
use Rattle.spec_language.specs.Grammar.{field, encode_expr}
use Rattle.sheet_write.specs.Writes.{fitted, as_application}
use Rattle.sheet_write.proofs.Laws.{fitted_taken, applied_taken}
use Rattle.source_language.specs.Text.{Phrase, constant, named, cell, negation, operation, choice}
use Rattle.source_language.specs.Faults.{Kind, OrFault, fault, fine, and_then}
use Rattle.source_language.specs.Meaning.{NameMeaning, nothing, a_parameter, a_behaviour, a_row, name_term, cell_term, term_of}
use Rattle.source_coding.specs.FaultWords.{fault_of, fault_in}
use Rattle.std.specs.Option.{option_or}
use Rattle.source_coding.specs.Sizes.{phrase_size}

-- ---- bytes or a fault

pub fault≢fine : {A : Type 0} {k : Kind} {p : ℕ} {x : A} → fault k p ≡ fine x → ⊥
fault≢fine {A} {k} {p} {x} e = let z : ◌≡◌ {A = ℕ} 0 1 = cc in omega arith

pub fine_same : {A : Type 0} {x y : A} → ◌≡◌ {A = OrFault A} (fine x) (fine y) → x ≡ y
fine_same e = cc

abbrev pub OrBytes : Type 0
OrBytes = OrFault (List ℕ)

abbrev pub both : OrBytes → OrBytes → OrBytes
both x y = and_then x (λ u. and_then y (λ v. fine (u ++ v)))

abbrev pub headed : ℕ → OrBytes → OrBytes
headed f x = and_then x (λ v. fine (field 18 (f ∷ v)))

fault_both : (x y : OrBytes) → option_or (fault_in x) (fault_in y) ≡ fault_in (both x y)
fault_both (fault k p) y = refl
fault_both (fine u) (fault k p) = refl
fault_both (fine u) (fine v) = refl

record InTwo (x y : OrBytes) (v : List ℕ) : Type 0 where
  pub one : List ℕ
  pub two : List ℕ
  pub one_is : x ≡ fine one
  pub two_is : y ≡ fine two
  pub whole : v ≡ one ++ two

in_two : (x y : OrBytes) (v : List ℕ) → both x y ≡ fine v → InTwo x y v
in_two (fault k p) y v e = absurd (fault≢fine e)
in_two (fine u) (fault k p) v e = absurd (fault≢fine e)
in_two (fine u) (fine w) v e = record { one = u; two = w; one_is = refl; two_is = refl; whole = sym (fine_same e) }

fault_headed : (f : ℕ) (x : OrBytes) → fault_in x ≡ fault_in (headed f x)
fault_headed f (fault k p) = refl
fault_headed f (fine v) = refl

record InHead (f : ℕ) (x : OrBytes) (v : List ℕ) : Type 0 where
  pub inner : List ℕ
  pub is : x ≡ fine inner
  pub whole : v ≡ field 18 (f ∷ inner)

in_head : (f : ℕ) (x : OrBytes) (v : List ℕ) → headed f x ≡ fine v → InHead f x v
in_head f (fault k p) v e = absurd (fault≢fine e)
in_head f (fine u) v e = record { inner = u; is = refl; whole = sym (fine_same e) }

abbrev Sized : OrBytes → ℕ → Type 0
Sized x s = (v : List ℕ) → x ≡ fine v → length v ≡ s

sized_both : (x y : OrBytes) {s t : ℕ} → Sized x s → Sized y t → Sized (both x y) (s + t)
sized_both x y a b v e =
    let i = in_two x y v e in
    rw (i.whole, length-append i.one i.two, a i.one i.one_is, b i.two i.two_is)

sized_headed : (f : ℕ) (x : OrBytes) {s : ℕ} → Sized x s → Sized (headed f x) (4 + s)
sized_headed f x a v e = let i = in_head f x v e in rw i.whole (omega (arith, a i.inner i.is))

-- ---- what is laid down from n to the end where o stood: so many bytes, and w is their first fault

pub record Laid (n : ℕ) (o p : List ℕ) (end : ℕ) (w : Option Fault) (s : ℕ) (x : OrBytes) : Type 0 where
  pub size : end ≡ n + s
  pub told : w ≡ fault_in x
  pub long : Sized x s
  pub bytes : (v : List ℕ) → x ≡ fine v → end ≤ length o → take end p ≡ take n o ++ v

pub laid_then : {n : ℕ} {o p q : List ℕ} {end to s t : ℕ} {w v : Option Fault} (x y : OrBytes) → length p ≡ length o → Laid n o p end w s x → Laid end p q to v t y
    → Laid n o q to (option_or w v) (s + t) (both x y)
laid_then {n} {o} {p} {q} {end} {to} {s} {t} {w} {v} x y l a b =
    record {
      size = omega (arith, a.size, b.size);
      told = rw (a.told, b.told) (fault_both x y);
      long = sized_both x y a.long b.long;
      bytes = λ u e h.
          let i = in_two x y u e in
          b.bytes i.two i.two_is (omega arith)
          ∙ ap (λ (l : List ℕ). l ++ i.two) (a.bytes i.one i.one_is (omega (arith, b.size)))
          ∙ append_assoc (take n o) i.one i.two
          ∙ ap (λ (l : List ℕ). take n o ++ l) (sym i.whole);
    }

pub laid_head : (f : ℕ) {n : ℕ} {o p : List ℕ} {end s : ℕ} {w : Option Fault} (x : OrBytes) → length p ≡ length o → Laid n o p end w s x
    → Laid n o (as_application f n end p) (end + 4) w (4 + s) (headed f x)
laid_head f {n} {o} {p} {end} {s} {w} x l a =
    record {
      size = omega (arith, a.size);
      told = a.told ∙ fault_headed f x;
      long = sized_headed f x a.long;
      bytes = λ v e h.
          let i = in_head f x v e in
          let z : end ≡ n + length i.inner = rw (a.long i.inner i.is) a.size in
          rw i.whole
          (applied_taken n end f i.inner o p (a.bytes i.inner i.is (omega arith)) z (omega arith) (omega arith));
    }

-- a field of no parts
pub laid_leaf : (n : ℕ) (v o : List ℕ) → Laid n o (fitted o n v) (n + length v) None (length v) (fine v)
laid_leaf n v o =
    record {
      size = refl;
      told = refl;
      long = λ u e. ap length (sym (fine_same e));
      bytes = λ u e h. rw (← fine_same e) (fitted_taken o n v h);
    }

pub laid_fault : (n s : ℕ) (o : List ℕ) (k : Kind) (p : ℕ) → Laid n o o (n + s) (Some (fault_of k p)) s (fault k p)
laid_fault n s o k p =
    record { size = refl; told = refl; long = λ v e. absurd (fault≢fine e); bytes = λ v e h. absurd (fault≢fine e) }

-- ---- a formula's bytes, by those of its parts

abbrev pub encoded_of : (List ℕ → NameMeaning) → ℕ → Phrase → OrBytes
encoded_of find c e = and_then (term_of find c e) (λ t. fine (encode_expr t))

module _ (find : List ℕ → NameMeaning) (c : ℕ) where
  pub encoded_negation : (a : Phrase) → encoded_of find c (negation a) ≡ headed not_fn (encoded_of find c a)
  unfolding term_of encode_expr
  encoded_negation a = one (term_of find c a)
    where
      one : (x : OrFault Term) → and_then (and_then x (λ t. fine (apply1 not_fn t))) (λ t. fine (encode_expr t)) ≡ headed not_fn (and_then x (λ t. fine (encode_expr t)))
      one (fault k p) = refl
      one (fine t) = refl

  pub encoded_operation : (f : ℕ) (a b : Phrase) → encoded_of find c (operation f a b) ≡ headed f (both (encoded_of find c a) (encoded_of find c b))
  unfolding term_of encode_expr
  encoded_operation f a b = two (term_of find c a) (term_of find c b)
    where
      two : (x y : OrFault Term) → and_then (and_then x (λ t. and_then y (λ u. fine (apply2 f t u)))) (λ t. fine (encode_expr t))
          ≡ headed f (both (and_then x (λ t. fine (encode_expr t))) (and_then y (λ t. fine (encode_expr t))))
      two (fault k p) y = refl
      two (fine t) (fault k p) = refl
      two (fine t) (fine u) = refl

  pub encoded_choice : (a b d : Phrase) → encoded_of find c (choice a b d) ≡ headed if_fn (both (both (encoded_of find c a) (encoded_of find c b)) (encoded_of find c d))
  unfolding term_of encode_expr
  encoded_choice a b d = three (term_of find c a) (term_of find c b) (term_of find c d)
    where
      three : (x y z : OrFault Term) → and_then (and_then x (λ t. and_then y (λ u. and_then z (λ v. fine (apply3 if_fn t u v))))) (λ t. fine (encode_expr t))
          ≡ headed if_fn (both (both (and_then x (λ t. fine (encode_expr t))) (and_then y (λ t. fine (encode_expr t)))) (and_then z (λ t. fine (encode_expr t))))
      three (fault k p) y z = refl
      three (fine t) (fault k p) z = refl
      three (fine t) (fine u) (fault k p) = refl
      three (fine t) (fine u) (fine v) = rw (append_assoc (encode_expr t) (encode_expr u) (encode_expr v))

  -- a name's and a cell's field have four bytes, whatever they mean
  sized_name : (p : ℕ) (m : NameMeaning) → Sized (and_then (name_term p m) (λ t. fine (encode_expr t))) 4
  unfolding encode_expr
  sized_name p nothing v e = absurd (fault≢fine e)
  sized_name p (a_parameter i) v e = ap length (sym (fine_same e))
  sized_name p (a_behaviour i) v e = ap length (sym (fine_same e))
  sized_name p (a_row i n) v e = ap length (sym (fine_same e))

  sized_cell : (p q k : ℕ) (m : NameMeaning) → Sized (and_then (cell_term c p q k m) (λ t. fine (encode_expr t))) 4
  unfolding encode_expr
  sized_cell p q k nothing = λ v e. absurd (fault≢fine e)
  sized_cell p q k (a_parameter i) = λ v e. absurd (fault≢fine e)
  sized_cell p q k (a_behaviour i) = λ v e. absurd (fault≢fine e)
  sized_cell p q k (a_row i n) =
      by_test (λ (x : OrFault Term). Sized (and_then x (λ t. fine (encode_expr t))) 4) (ltb k n)
      (λ g. by_test (λ (x : OrFault Term). Sized (and_then x (λ t. fine (encode_expr t))) 4) (eqb k 0 && eqb n c)
      (λ h v e. absurd (fault≢fine e)) (λ h v e. ap length (sym (fine_same e))))
      (λ g v e. absurd (fault≢fine e))

  pub sized_encoded : (e : Phrase) → Sized (encoded_of find c e) (phrase_size e)
  unfolding term_of phrase_size encode_expr
  sized_encoded (constant x) v e = ap length (sym (fine_same e))
  sized_encoded (named p s) v e = sized_name p (find s) v e
  sized_encoded (cell p s q k) v e = sized_cell p q k (find s) v e
  sized_encoded (negation a) v e = sized_headed not_fn (encoded_of find c a) (sized_encoded a) v (sym (encoded_negation a) ∙ e)
  sized_encoded (operation f a b) v e =
      sized_headed f (both (encoded_of find c a) (encoded_of find c b)) (sized_both (encoded_of find c a) (encoded_of find c b) (sized_encoded a) (sized_encoded b)) v (sym (encoded_operation f a b) ∙ e)
  sized_encoded (choice a b d) v e =
      sized_headed if_fn (both (both (encoded_of find c a) (encoded_of find c b)) (encoded_of find c d))
      (sized_both (both (encoded_of find c a) (encoded_of find c b)) (encoded_of find c d)
      (sized_both (encoded_of find c a) (encoded_of find c b) (sized_encoded a) (sized_encoded b)) (sized_encoded d)) v (sym (encoded_choice a b d) ∙ e)
      ∙ omega arith
