-- A handler's bytes: its event and phase before its expression, and the head in front of them make the handler's field.
use Rattle.std.specs.Prelude.{Option}
use Rattle.source_coding.specs.declared.faults.Fault.{Fault}
use Rattle.lib_base.proofs.Prelude.{ℕ, ◌≤◌, ◌+◌, ◌≡◌, refl, ◌∙◌, sym, ap, List, ◌∷◌, ◌++◌, append_assoc, append-nil, []}
use Rattle.lib_base.proofs.Prelude.{length, take, arith}
use Rattle.spec_language.specs.Syntax.{Phase}
use Rattle.spec_language.specs.Sheet.{Term, Clause, clause}
use Rattle.spec_language.specs.Grammar.{encode_expr, encode_phase, encode_handler, encode_handlers}
use Rattle.source_language.specs.Tokens.{SheetToken}
use Rattle.source_language.specs.Text.{Phrase, Reaction, on, TextEvent}
use Rattle.source_language.specs.Faults.{OrFault, fault, fine, and_then}
use Rattle.source_language.specs.Meaning.{NameMeaning, event_named, term_of, clauses_of}
use Rattle.source_coding.specs.Sizes.{reactions_size}
use Rattle.source_field.specs.Formula.{FormulaWritten}
use Rattle.sheet_write.specs.Writes.{fitted, as_field}
use Rattle.sheet_write.proofs.Laws.{fitted_taken, fitted_long, enclosed_taken}
use Rattle.source_handlers.specs.Parts.{PartWritten}
use Rattle.source_handlers.specs.Handlers.{clause_of, handler_coding, handlers_coding, reaction_size}
use Rattle.source_handlers.proofs.Faults.{last_behind}
use Rattle.source_handlers.proofs.Gather.{Grows}
use Rattle.source_handlers.proofs.Stages.{made_fault}
use Rattle.source_field.proofs.Laid.{fault≢fine}

-- a handler's event and phase, three bytes behind n
abbrev pub opened : List ℕ → ℕ → ℕ → ℕ → List ℕ
opened o n e φ = fitted o (n + 3) (e ∷ φ ∷ [])

opened_taken : (o : List ℕ) (n e φ : ℕ) → n + 5 ≤ length o → take (n + 5) (opened o n e φ) ≡ take (n + 3) o ++ (e ∷ φ ∷ [])
opened_taken o n e φ h = let b : n + 5 ≡ n + 3 + 2 = omega arith in rw b (fitted_taken o (n + 3) (e ∷ φ ∷ []) (omega arith))

module _ (es : List TextEvent) (find : List ℕ → NameMeaning) (c : ℕ) where
  handler_bytes : (s : List ℕ) (φ : Phase) (n end : ℕ) (o q : List ℕ) (a : OrFault Term)
      → ((t : Term) → a ≡ fine t → end ≤ length (opened o n (event_named es s) (encode_phase φ)) → take end q ≡ take (n + 5) (opened o n (event_named es s) (encode_phase φ)) ++ encode_expr t)
      → n + 5 ≤ end → length o ≤ 8192 → length q ≡ length o
      → (y : Clause) → and_then a (λ t. fine (clause (event_named es s) φ t)) ≡ fine y → end ≤ length o → take end (as_field 5 n end q) ≡ take n o ++ encode_handler y
  handler_bytes s φ n end o q (fault k i) f h b l y e g = absurd (fault≢fine e)
  handler_bytes s φ n end o q (fine t) f h b l y e g =
      let z : y ≡ clause (event_named es s) φ t = cc in
      let m : length (opened o n (event_named es s) (encode_phase φ)) ≡ length o = fitted_long o (n + 3) (event_named es s ∷ encode_phase φ ∷ []) in
      let i : take end q ≡ take (n + 3) o ++ (event_named es s ∷ encode_phase φ ∷ encode_expr t) =
      f t refl (omega arith)
      ∙ ap (λ l. l ++ encode_expr t) (opened_taken o n (event_named es s) (encode_phase φ) (omega arith))
      ∙ append_assoc (take (n + 3) o) (event_named es s ∷ encode_phase φ ∷ []) (encode_expr t) in
      rw z (enclosed_taken 5 n end o q (event_named es s ∷ encode_phase φ ∷ encode_expr t) (omega arith) g l i)

  pub handler_written : (text : List ℕ) (s : List ℕ) (φ : Phase) (n to depth end : ℕ) (w : Option Fault) (o q : List ℕ) (e : Phrase) (us : List SheetToken)
      → FormulaWritten text find c (n + 5) (opened o n (event_named es s) (encode_phase φ)) q to depth end w e us
      → n + 5 ≤ end → length o ≤ 8192 → length q ≡ length o
      → PartWritten (handler_coding es find c) text n o (as_field 5 n end q) to end w (on s φ e) us
  handler_written text s φ n to depth end w o q e us f h b l =
      record {
        onward = f.onward;
        size = omega (arith, f.size);
        names = f.names ∙ sym (made_fault (λ t. clause (event_named es s) φ t) (term_of find c e));
        bytes = handler_bytes s φ n end o q (term_of find c e) f.bytes h b l;
      }

  -- ---- handlers one after the other

  clauses_more : (hs : List Reaction) (h : Reaction)
      → clauses_of es find c (hs ++ (h ∷ [])) ≡ and_then (clauses_of es find c hs) (λ ys. and_then (clause_of es find c h) (λ y. fine (ys ++ (y ∷ []))))
  unfolding clauses_of
  clauses_more [] (on s φ e) = alone (term_of find c e)
    where
      alone : (a : OrFault Term)
          → and_then a (λ x. and_then (fine []) (λ cs. fine (clause (event_named es s) φ x ∷ cs)))
          ≡ and_then (and_then a (λ x. fine (clause (event_named es s) φ x))) (λ y. fine (y ∷ []))
      alone (fault k p) = refl
      alone (fine x) = refl
  clauses_more (on s φ e ∷ hs) h =
      let r : and_then (term_of find c e) (λ x. and_then (clauses_of es find c (hs ++ (h ∷ []))) (λ cs. fine (clause (event_named es s) φ x ∷ cs)))
      ≡ and_then (clause_of es find c (on s φ e)) (λ x. and_then (clauses_of es find c (hs ++ (h ∷ []))) (λ cs. fine (x ∷ cs))) = behind (term_of find c e) (clauses_of es find c (hs ++ (h ∷ []))) in
      r ∙ rw (clauses_more hs h) (last_behind (clause_of es find c (on s φ e)) (clauses_of es find c hs) (clause_of es find c h))
      ∙ ap (λ a. and_then a (λ ys. and_then (clause_of es find c h) (λ y. fine (ys ++ (y ∷ []))))) (sym (behind (term_of find c e) (clauses_of es find c hs)))
    where
      behind : (a : OrFault Term) (b : OrFault (List Clause))
          → and_then a (λ x. and_then b (λ cs. fine (clause (event_named es s) φ x ∷ cs))) ≡ and_then (and_then a (λ x. fine (clause (event_named es s) φ x))) (λ x. and_then b (λ cs. fine (x ∷ cs)))
      behind (fault k p) b = refl
      behind (fine x) b = refl

encoded_more : (ys : List Clause) (y : Clause) → encode_handlers (ys ++ (y ∷ [])) ≡ encode_handlers ys ++ encode_handler y
unfolding encode_handlers
encoded_more [] y = append-nil (encode_handler y)
encoded_more (x ∷ ys) y = ap (λ bs. encode_handler x ++ bs) (encoded_more ys y) ∙ sym (append_assoc (encode_handler x) (encode_handlers ys) (encode_handler y))

sized_more : (hs : List Reaction) (h : Reaction) → reactions_size (hs ++ (h ∷ [])) ≡ reactions_size hs + reaction_size h
unfolding reactions_size
sized_more [] (on s φ e) = omega arith
sized_more (on s φ e ∷ hs) h = omega (arith, sized_more hs h)

pub handlers_grow : (es : List TextEvent) (find : List ℕ → NameMeaning) (c : ℕ) → Grows (handler_coding es find c) (handlers_coding es find c)
unfolding clauses_of encode_handlers reactions_size
handlers_grow es find c =
    record {
      none_resolved = refl;
      none_encoded = refl;
      none_sized = refl;
      more_resolved = clauses_more es find c;
      more_encoded = encoded_more;
      more_sized = sized_more;
    }
