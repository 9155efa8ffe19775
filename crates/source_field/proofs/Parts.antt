-- A formula is written by its parts: what `FormulaWritten` says of them, it says of `!`, an operator and `if` around
-- them, by `Laid`.
use Rattle.std.specs.Prelude.{Option, None}
use Rattle.source_coding.specs.declared.faults.Fault.{Fault}
use Rattle.lib_base.proofs.Prelude.{ℕ, ◌+◌, ◌≡◌, refl, ◌∙◌, sym, ap, List, ◌++◌, length, take, add-one, arith}
use Rattle.lib_signature.specs.Numbers.{not_fn, if_fn}
use Rattle.spec_language.specs.Sheet.{Term}
use Rattle.spec_language.specs.Grammar.{encode_expr}
use Rattle.text_formula.specs.Nesting.{deeper}
use Rattle.text_formula.proofs.Deeper.{deeper_none}
use Rattle.source_language.specs.Tokens.{SheetToken}
use Rattle.source_language.specs.Text.{Phrase, negation, operation, choice}
use Rattle.source_language.specs.Faults.{OrFault, fault, fine, and_then}
use Rattle.source_language.specs.Limits.{phrase_nesting}
use Rattle.source_language.specs.Meaning.{NameMeaning, term_of}
use Rattle.source_coding.specs.FaultWords.{fault_in}
use Rattle.std.specs.Option.{option_or}
use Rattle.source_coding.specs.Places.{tokens_from}
use Rattle.source_coding.specs.Sizes.{phrase_size}
use Rattle.source_field.specs.Formula.{FormulaWritten}
use Rattle.sheet_write.specs.Writes.{as_application}
use Rattle.source_field.proofs.Laid.{OrBytes, both, headed, Laid, laid_then, laid_head, encoded_of, encoded_negation, encoded_operation, encoded_choice, sized_encoded, fault≢fine, fine_same}

fault_encoded : (x : OrFault Term) → fault_in x ≡ fault_in (and_then x (λ t. fine (encode_expr t)))
fault_encoded (fault k p) = refl
fault_encoded (fine t) = refl

record Encoded (x : OrFault Term) (v : List ℕ) : Type 0 where
  pub term : Term
  pub is : x ≡ fine term
  pub whole : v ≡ encode_expr term

is_encoded : (x : OrFault Term) (v : List ℕ) → and_then x (λ t. fine (encode_expr t)) ≡ fine v → Encoded x v
is_encoded (fault k p) v e = absurd (fault≢fine e)
is_encoded (fine t) v e = record { term = t; is = refl; whole = sym (fine_same e) }

module _ {text : List ℕ} {find : List ℕ → NameMeaning} {c : ℕ} where
  pub written_laid : {n : ℕ} {o p : List ℕ} {to depth end : ℕ} {w : Option Fault} {e : Phrase} {us : List SheetToken} → FormulaWritten text find c n o p to depth end w e us
      → Laid n o p end w (phrase_size e) (encoded_of find c e)
  written_laid {n} {o} {p} {to} {depth} {end} {w} {e} {us} f =
      record {
        size = f.size;
        told = f.names ∙ fault_encoded (term_of find c e);
        long = sized_encoded find c e;
        bytes = λ v q h.
            let i = is_encoded (term_of find c e) v q in
            f.bytes i.term i.is h ∙ ap (λ (l : List ℕ). take n o ++ l) (sym i.whole);
      }

  pub laid_written : {n : ℕ} {o p : List ℕ} {to depth end s : ℕ} {w : Option Fault} {e : Phrase} {us : List SheetToken} (x : OrBytes) → us ≡ tokens_from text to → depth ≡ phrase_nesting e → s ≡ phrase_size e
      → encoded_of find c e ≡ x → Laid n o p end w s x → FormulaWritten text find c n o p to depth end w e us
  laid_written {n} {o} {p} {to} {depth} {end} {s} {w} {e} {us} x u d z q l =
      record {
        onward = u;
        nests = d;
        size = l.size ∙ rw z;
        names = l.told ∙ ap fault_in (sym q) ∙ sym (fault_encoded (term_of find c e));
        bytes = λ t g h. l.bytes (encode_expr t) (sym q ∙ ap (λ (y : OrFault Term). and_then y (λ a. fine (encode_expr a))) g) h;
      }

  pub negation_written : {n : ℕ} {o p : List ℕ} {to depth end : ℕ} {w : Option Fault} {a : Phrase} {us : List SheetToken} → length p ≡ length o
      → FormulaWritten text find c n o p to depth end w a us
      → FormulaWritten text find c n o (as_application not_fn n end p) to (deeper 0 depth + 1) (end + 4) (option_or None w) (negation a) us
  unfolding phrase_nesting phrase_size
  negation_written {n} {o} {p} {to} {depth} {end} {w} {a} {us} l f =
      laid_written (headed not_fn (encoded_of find c a)) f.onward (rw (add-one (deeper 0 depth), deeper_none depth, f.nests)) refl (encoded_negation find c a)
      (laid_head not_fn (encoded_of find c a) l (written_laid f))

  pub operation_written : (f : ℕ) {n : ℕ} {o p q : List ℕ} {to to₂ depth depth₂ end end₂ : ℕ} {w w₂ : Option Fault} {a b : Phrase} {us vs : List SheetToken} → length p ≡ length o → length q ≡ length p
      → FormulaWritten text find c n o p to depth end w a us → FormulaWritten text find c end p q to₂ depth₂ end₂ w₂ b vs
      → FormulaWritten text find c n o (as_application f n end₂ q) to₂ (deeper depth depth₂ + 1) (end₂ + 4) (option_or w w₂) (operation f a b) vs
  unfolding phrase_nesting phrase_size
  operation_written f {n} {o} {p} {q} {to} {to₂} {depth} {depth₂} {end} {end₂} {w} {w₂} {a} {b} {us} {vs} l m g h =
      let x : OrBytes = both (encoded_of find c a) (encoded_of find c b) in
      laid_written (headed f x) h.onward (rw (add-one (deeper depth depth₂), g.nests, h.nests)) refl (encoded_operation find c f a b)
      (laid_head f x (m ∙ l) (laid_then (encoded_of find c a) (encoded_of find c b) l (written_laid g) (written_laid h)))

  -- the third argument of `if` stands in r, after the others
  pub choice_written : {n : ℕ} {o p q r : List ℕ} {to to₂ to₃ to₄ depth depth₂ depth₃ end end₂ end₃ : ℕ} {w w₂ w₃ : Option Fault} {a b d : Phrase} {us vs ws xs : List SheetToken}
      → length p ≡ length o → length q ≡ length p → length r ≡ length q
      → FormulaWritten text find c n o p to depth end w a us → FormulaWritten text find c end p q to₂ depth₂ end₂ w₂ b vs → FormulaWritten text find c end₂ q r to₃ depth₃ end₃ w₃ d ws
      → xs ≡ tokens_from text to₄
      → FormulaWritten text find c n o (as_application if_fn n end₃ r) to₄ (deeper 0 (deeper (deeper (deeper 0 depth) depth₂) depth₃) + 1) (end₃ + 4)
      (option_or None (option_or (option_or (option_or None w) w₂) w₃)) (choice a b d) xs
  unfolding phrase_nesting phrase_size
  choice_written {n} {o} {p} {q} {r} {to} {to₂} {to₃} {to₄} {depth} {depth₂} {depth₃} {end} {end₂} {end₃} {w} {w₂} {w₃} {a} {b} {d} {us} {vs} {ws} {xs} l m k f g h u =
      let x : OrBytes = both (encoded_of find c a) (encoded_of find c b) in
      let two = laid_then (encoded_of find c a) (encoded_of find c b) l (written_laid f) (written_laid g) in
      laid_written (headed if_fn (both x (encoded_of find c d))) u
      (rw (add-one (deeper 0 (deeper (deeper (deeper 0 depth) depth₂) depth₃)), deeper_none depth, deeper_none (deeper (deeper depth depth₂) depth₃), f.nests, g.nests, h.nests))
      (omega arith) (encoded_choice find c a b d)
      (laid_head if_fn (both x (encoded_of find c d)) (k ∙ m ∙ l) (laid_then x (encoded_of find c d) (m ∙ l) two (written_laid h)))
