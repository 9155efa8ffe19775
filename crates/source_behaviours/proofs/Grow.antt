-- Behaviours one after the other: one more adds its own to what they mean, to their bytes and to their size.
use Rattle.lib_base.proofs.Prelude.{ℕ, ◌+◌, ◌≡◌, refl, ◌∙◌, sym, ap, Option, List, [], ◌∷◌, ◌++◌, append_assoc}
use Rattle.lib_base.proofs.Prelude.{append-nil, arith}
use Rattle.spec_language.specs.Sheet.{Item, Entry}
use Rattle.spec_language.specs.Reading.{entry}
use Rattle.spec_language.specs.Grammar.{encode_behaviour, encode_behaviours}
use Rattle.source_language.specs.Text.{TextEvent, TextBehaviour, behaviour}
use Rattle.source_language.specs.Faults.{OrFault, fault, fine, and_then}
use Rattle.source_language.specs.Meaning.{NameMeaning, rights_of, item_of, entries_of}
use Rattle.source_coding.specs.Sizes.{behaviours_size}
use Rattle.source_handlers.proofs.Faults.{last_behind}
use Rattle.source_handlers.proofs.Gather.{Grows}
use Rattle.source_body.specs.Body.{behaviour_size, entry_meant, behaviour_coding}
use Rattle.source_behaviours.specs.Behaviours.{behaviours_coding}

module _ (es : List TextEvent) (find : List ℕ → NameMeaning) where
  alone : (a : OrFault Item) (v : Option ℕ)
      → and_then a (λ x. and_then (fine []) (λ xs. fine (entry x v ∷ xs))) ≡ and_then (and_then a (λ x. fine (entry x v))) (λ y. fine (y ∷ []))
  alone (fault k p) v = refl
  alone (fine x) v = refl

  behind : (a : OrFault Item) (v : Option ℕ) (b : OrFault (List Entry))
      → and_then a (λ x. and_then b (λ xs. fine (entry x v ∷ xs))) ≡ and_then (and_then a (λ x. fine (entry x v))) (λ x. and_then b (λ xs. fine (x ∷ xs)))
  behind (fault k p) v b = refl
  behind (fine x) v b = refl

  entries_more : (bs : List TextBehaviour) (b : TextBehaviour)
      → entries_of es find (bs ++ (b ∷ [])) ≡ and_then (entries_of es find bs) (λ ys. and_then (entry_meant es find b) (λ y. fine (ys ++ (y ∷ []))))
  unfolding entries_of
  entries_more [] (behaviour s x m) = alone (item_of es find x) (rights_of m)
  entries_more (behaviour s x m ∷ bs) b =
      behind (item_of es find x) (rights_of m) (entries_of es find (bs ++ (b ∷ [])))
      ∙ rw (entries_more bs b) (last_behind (entry_meant es find (behaviour s x m)) (entries_of es find bs) (entry_meant es find b))
      ∙ ap (λ a. and_then a (λ ys. and_then (entry_meant es find b) (λ y. fine (ys ++ (y ∷ []))))) (sym (behind (item_of es find x) (rights_of m) (entries_of es find bs)))

encoded_more : (ys : List Entry) (y : Entry) → encode_behaviours (ys ++ (y ∷ [])) ≡ encode_behaviours ys ++ encode_behaviour y
unfolding encode_behaviours
encoded_more [] y = append-nil (encode_behaviour y)
encoded_more (x ∷ ys) y = ap (λ bs. encode_behaviour x ++ bs) (encoded_more ys y) ∙ sym (append_assoc (encode_behaviour x) (encode_behaviours ys) (encode_behaviour y))

sized_more : (bs : List TextBehaviour) (b : TextBehaviour) → behaviours_size (bs ++ (b ∷ [])) ≡ behaviours_size bs + behaviour_size b
unfolding behaviours_size
sized_more [] (behaviour s x m) = omega arith
sized_more (behaviour s x m ∷ bs) b = omega (arith, sized_more bs b)

pub behaviours_grow : (es : List TextEvent) (find : List ℕ → NameMeaning) → Grows (behaviour_coding es find) (behaviours_coding es find)
unfolding entries_of encode_behaviours behaviours_size
behaviours_grow es find =
    record {
      none_resolved = refl;
      none_encoded = refl;
      none_sized = refl;
      more_resolved = entries_more es find;
      more_encoded = encoded_more;
      more_sized = sized_more;
    }
